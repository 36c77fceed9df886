-- The code of plans, and of programs, does their process.
use Rattle.std.proofs.Common.{◌≡◌, ◌∙◌, ◌⊎◌, inl, inr, ◌<◌, ◌≤◌, ◌+◌, ◌^◌, ℕ, ℤ, Bool, true, false, List, [], ◌∷◌, ◌++◌, Option, Some, None, length, refl, sym, ap, subst, arith, length-append}
use Rattle.std.specs.Prelude.{max, slice_get, if◌then◌else◌}
use Rattle.std.proofs.Math.Nat.{le-max_left, le-max_right, max-eq_left, max-eq_right}
use Rattle.ast.specs.Exact.{is_true}
use Rattle.ast.specs.Tree.{DoHead, Kind, assign, print, read, stop, program, integer, dimension, parameters, do_loop, go_on, block_if, else_if, else_arm, end_if, logical_if, end}
use Rattle.ast.proofs.Numbers.{either_way}
use Rattle.dependence.specs.Plan.{PlanNode, awaits, advances, plain, loop, choose, PlanBlock, no_nodes, then_node, PlanArms, no_arms, made_else, then_arm}
use Rattle.machine.specs.Code.{Code, Part}
use Rattle.machine.specs.Frame.{Frame}
use Rattle.machine.specs.declared.code.Await.{Await}
use Rattle.machine.specs.declared.frame.Counter.{Counter}
use Rattle.machine.specs.declared.instr.Act.TheVariants as acts
use Rattle.machine.specs.declared.instr.Instr.{Instr}
use Rattle.expr_code.specs.Computes.{operands}
use Rattle.expr_code.specs.Emitted.{instr, short, term_code}
use Rattle.expr_code.specs.Places.{Places, dimensions_at}
use Rattle.expr_code.specs.Process.{term_into}
use Rattle.expr_code.proofs.Finding.{Reach, short_is}
use Rattle.expr_code.proofs.Running.{Reaches, term_runs}
use Rattle.expr_code.proofs.Standing.{HasAt, has_front, has_back, at}
use Rattle.codegen.specs.Emitted.{arms_awaits, arms_code, arms_records, block_awaits, block_code, block_records, chosen_code, if_serial, kind_records, loop_code, node_awaits, node_code, node_records, opened_code}
use Rattle.codegen.specs.Process.{Doing, arms_into, block_into, is_last_stop, loop_into, node_into, on, opened_into}
use Rattle.codegen.specs.Room.{arms_loops, arms_room, block_loops, block_room, head_room, node_loops, node_room, step_room}
use Rattle.codegen.proofs.Nesting.{HeadReaches, chosen_runs, reloop, serial_runs, with_loops}
use Rattle.codegen.proofs.Running.{Does, Fits, HasRecords, KindReaches, fits_on, kind_runs}
use Rattle.codegen.proofs.Standing.{Keeps, keeps_on, keeps_same}

-- The list has these from a number on, which 32 bits hold.
abbrev pub HasList : {X : Type 0} → List X → ℕ → List X → Type 0
HasList all n [] = Unit {0}
HasList all n (x ∷ xs) = (slice_get all n ≡ Some x) × (n < 2 ^ 32) × HasList all (n + 1) xs

list_front : {X : Type 0} (all : List X) (n : ℕ) (xs ys : List X) → HasList all n (xs ++ ys) → HasList all n xs
list_front all n [] ys h = tt
list_front all n (x ∷ xs) ys h = (h.0, h.1, list_front all (n + 1) xs ys h.2)

list_back : {X : Type 0} (all : List X) (n : ℕ) (xs ys : List X) → HasList all n (xs ++ ys) → HasList all (n + length xs) ys
list_back {X} all n [] ys h = let e : n ≡ n + 0 = omega arith in subst (λ (k : ℕ). HasList all k ys) e h
list_back {X} all n (x ∷ xs) ys h =
    let e : n + 1 + length xs ≡ n + length (x ∷ xs) = omega arith in
    subst (λ (k : ℕ). HasList all k ys) e (list_back all (n + 1) xs ys h.2)

kind_has : (code : Code) (n : ℕ) (k : Kind) → HasList code.records n (kind_records k) → HasRecords code n k
kind_has code n (print items) h = (h.0, h.1)
kind_has code n (assign x e) h = tt
kind_has code n (read xs) h = tt
kind_has code n stop h = tt
kind_has code n (program x) h = tt
kind_has code n (integer x) h = tt
kind_has code n (dimension x) h = tt
kind_has code n (parameters x) h = tt
kind_has code n (do_loop x) h = tt
kind_has code n go_on h = tt
kind_has code n (block_if e) h = tt
kind_has code n (else_if e) h = tt
kind_has code n else_arm h = tt
kind_has code n end_if h = tt
kind_has code n (logical_if e k) h = tt
kind_has code n end h = tt

module _ (code : Code) (p : Places) (opens : ℕ → Option ℕ) where
  abbrev pub LoopReaches : Option ℕ → DoHead → Type 0 → Type 0
  LoopReaches None h B = Reach code.variables h.variable (dimensions_at p.symbols h.variable.cell) × HeadReaches code p h × B
  LoopReaches (Some n) h B = Reaches code p h.first × Reaches code p h.last

  abbrev mutual
    pub NodeReaches : PlanNode → Type 0
    NodeReaches (awaits e d) = Unit {0}
    NodeReaches (advances e) = Unit {0}
    NodeReaches (plain s) = KindReaches code p s.kind
    NodeReaches (loop line h b) = LoopReaches (opens h.variable.id) h (BlockReaches b)
    NodeReaches (choose arms) = ArmsReach arms

    pub BlockReaches : PlanBlock → Type 0
    BlockReaches no_nodes = Unit {0}
    BlockReaches (then_node n b) = NodeReaches n × BlockReaches b

    pub ArmsReach : PlanArms → Type 0
    ArmsReach no_arms = Unit {0}
    ArmsReach (made_else b) = BlockReaches b
    ArmsReach (then_arm line None b more) = BlockReaches b
    ArmsReach (then_arm line (Some c) b more) = Reaches code p c × BlockReaches b × ArmsReach more

-- a frame with so much room, for operands above those that stand there, and for serial loops
pub record Roomy (f : Frame) (st : List ℤ) (m n : ℕ) : Type 0 where
  pub above : length st + m ≤ f.operands.room
  pub loops : length f.counters.items + n ≤ f.counters.room

roomy_on : (f g : Frame) (st : List ℤ) (m n : ℕ) → Keeps f g → Roomy f st m n → Roomy g st m n
roomy_on f g st m n k w = record { above = omega (arith, k.room, w.above); loops = subst (λ c. length c.items + n ≤ c.room) (sym k.counters) w.loops }

roomy_left : (f : Frame) (st : List ℤ) (a b c d : ℕ) → Roomy f st (max a b) (max c d) → Roomy f st a c
roomy_left f st a b c d w = let j = le-max_left a b in let k = le-max_left c d in record { above = omega (arith, w.above, j); loops = omega (arith, w.loops, k) }

roomy_right : (f : Frame) (st : List ℤ) (a b c d : ℕ) → Roomy f st (max a b) (max c d) → Roomy f st b d
roomy_right f st a b c d w = let j = le-max_right a b in let k = le-max_right c d in record { above = omega (arith, w.above, j); loops = omega (arith, w.loops, k) }

module _ (A : Type 0) (D : Doing A) (code : Code) (limit : ℕ) (index : ℤ) (St : A → Frame → Type 0) (R : Does A D code limit index St) (p : Places) (few_privates : length p.privates ≤ 2 ^ 32) (few : limit ≤ 2 ^ 32) (opens : ℕ → Option ℕ) where
  abbrev Has : ℕ → List Instr → Type 0
  Has pc is = HasAt code.instructions limit pc is

  -- where a frame goes on
  abbrev Goes : A → Frame → ℕ → List ℤ → Type 0
  Goes a f to st = (g : Frame) → Keeps f g → St a (at code g to st)

  nothing : (a : A) (f : Frame) (pc : ℕ) (st : List ℤ) → Goes a f (pc + 0) st → St a (at code f pc st)
  nothing a f pc st next = let z : pc + 0 ≡ pc = omega arith in subst (λ (k : ℕ). St a (at code f k st)) z (next f (keeps_same f))

  -- a STOP that END follows has no code
  unless_last : (b : Bool) (x a : A) (is : List Instr) (rs : List (List Part)) (ws : List Await) (r w : ℕ) (f : Frame) (pc : ℕ) (st : List ℤ) → Has pc (if b then [] else is) → HasList code.records r (if b then [] else rs) → HasList code.awaits w (if b then [] else ws)
      → Goes a f (pc + length (if b then [] else is)) st → (Has pc is → HasList code.records r rs → HasList code.awaits w ws → Goes a f (pc + length is) st → St x (at code f pc st)) → St (if b then a else x) (at code f pc st)
  unless_last true x a is rs ws r w f pc st has records waits next other = nothing a f pc st next
  unless_last false x a is rs ws r w f pc st has records waits next other = other has records waits next

  opened_runs : (line n : ℕ) (h : DoHead) (a : A) (f : Frame) (pc : ℕ) (st : List ℤ) → Reaches code p h.first → Reaches code p h.last → Fits p index f → Has pc (opened_code (on A D p line) h n) → length st + head_room h ≤ f.operands.room → Goes a f (pc + length (opened_code (on A D p line) h n)) st
      → St (opened_into A D p line h n a) (at code f pc st)
  opened_runs line n h a f pc st w1 w2 fits has room next =
      let q = on A D p line in
      let last = instr line (acts.Open (short n)) ∷ instr line acts.Join ∷ [] in
      let m = pc + length (term_code q h.first) in
      let k = m + length (term_code q h.last) in
      let r1 = has_back code.instructions limit pc (term_code q h.first) (term_code q h.last ++ last) has in
      let r2 = has_back code.instructions limit m (term_code q h.last) last r1 in
      let len : pc + length (opened_code q h n) ≡ k + 1 + 1 = omega (arith, length-append (term_code q h.first) (term_code q h.last ++ last), length-append (term_code q h.last) last) in
      let first = le-max_left (operands h.first) (max (operands h.last + 1) (step_room h.step + 2)) in
      let second = le-max_right (operands h.first) (max (operands h.last + 1) (step_room h.step + 2)) in
      let third = le-max_left (operands h.last + 1) (step_room h.step + 2) in
      term_runs A (D.evaluate line) code f line limit St (R.evaluates line f fits.indexed) q fits.privates few_privates refl h.first (λ m1. term_into A (D.evaluate line) q h.last (λ m2. D.opening line n m1 m2 a)) pc st w1 (has_front code.instructions limit pc (term_code q h.first) (term_code q h.last ++ last) has) (omega (arith, room, first)) (λ m1.
      term_runs A (D.evaluate line) code f line limit St (R.evaluates line f fits.indexed) q fits.privates few_privates refl h.last (λ m2. D.opening line n m1 m2 a) m (m1 ∷ st) w2 (has_front code.instructions limit m (term_code q h.last) last r1) (omega (arith, room, second, third)) (λ m2.
      R.opens n line m1 m2 a f k st fits.indexed r2.0 r2.2.0 (subst (λ (j : ℕ). St a (at code f j st)) len (next f (keeps_same f)))))

  -- what a block's law says of its range
  abbrev Runs : PlanBlock → Type 0
  Runs b = (r w : ℕ) (a : A) (f : Frame) (pc : ℕ) (st : List ℤ) → BlockReaches code p opens b → HasList code.records r (block_records p opens b) → HasList code.awaits w (block_awaits p opens b) → Fits p index f → Has pc (block_code p opens r w b) → Roomy f st (block_room b) (block_loops b)
      → Goes a f (pc + length (block_code p opens r w b)) st → St (block_into A D p opens b a) (at code f pc st)

  loop_runs : (o : Option ℕ) (line : ℕ) (h : DoHead) (b : PlanBlock) (r w : ℕ) (a : A) (f : Frame) (pc : ℕ) (st : List ℤ) → Runs b → LoopReaches code p opens o h (BlockReaches code p opens b) → HasList code.records r (if_serial o (block_records p opens b)) → HasList code.awaits w (if_serial o (block_awaits p opens b))
      → Fits p index f → Has pc (loop_code o (on A D p line) h (block_code p opens r w b)) → Roomy f st (max (head_room h) (max 2 (block_room b))) (block_loops b + 1) → Goes a f (pc + length (loop_code o (on A D p line) h (block_code p opens r w b))) st
      → St (loop_into A D p o line h (λ after. block_into A D p opens b after) a) (at code f pc st)
  loop_runs (Some n) line h b r w a f pc st runs reach records waits fits has room next =
      let k = le-max_left (head_room h) (max 2 (block_room b)) in
      opened_runs line n h a f pc st reach.0 reach.1 fits has (omega (arith, room.above, k)) next
  loop_runs None line h b r w a f pc st runs reach records waits fits has room next =
      let k1 = le-max_left (head_room h) (max 2 (block_room b)) in
      let k2 = le-max_right (head_room h) (max 2 (block_room b)) in
      let k3 = le-max_left 2 (block_room b) in
      let k4 = le-max_right 2 (block_room b) in
      serial_runs A D code limit index St R p few_privates few line h (dimensions_at p.symbols h.variable.cell) (λ after. block_into A D p opens b after) (block_code p opens r w b) a f pc st reach.0 reach.1 fits has (enough (head_room h) 2 (omega (arith, room.above, k1)) (omega (arith, room.above, k2, k3))) (omega (arith, room.loops))
      (λ x g c there inside range_has k trip.
      runs r w x (with_loops g (c ∷ f.counters.items)) there st reach.2 records waits (fits_on_loops g c k) range_has (room_in g c k (omega (arith, room.above, k2, k4))) (λ u m.
      let y = reloop f g u (c ∷ f.counters.items) k m in
      subst (λ (z : Frame). St x (at code z (there + length (block_code p opens r w b)) st)) (sym y.2) (trip y.0 y.1)))
      next
    where
      enough : (x y : ℕ) → length st + x ≤ f.operands.room → length st + y ≤ f.operands.room → length st + max x y ≤ f.operands.room
      enough x y a b = by (either_way x y)
        where
          by : (x ≤ y) ⊎ (y ≤ x) → length st + max x y ≤ f.operands.room
          by (inl l) = let e : max x y ≡ y = max-eq_right l in omega (arith, e, b)
          by (inr l) = let e : max x y ≡ x = max-eq_left l in omega (arith, e, a)

      fits_on_loops : (g : Frame) (c : Counter) → Keeps f g → Fits p index (with_loops g (c ∷ f.counters.items))
      fits_on_loops g c k = let z = fits_on p index f g k fits in record { indexed = z.indexed; privates = z.privates }

      room_in : (g : Frame) (c : Counter) → Keeps f g → length st + block_room b ≤ f.operands.room → Roomy (with_loops g (c ∷ f.counters.items)) st (block_room b) (block_loops b)
      room_in g c k z = record { above = omega (arith, z, k.room); loops = omega (arith, room.loops, ap (λ s. s.room) k.counters) }

  mutual
    pub node_runs : (n : PlanNode) (r w : ℕ) (a : A) (f : Frame) (pc : ℕ) (st : List ℤ) → NodeReaches code p opens n → HasList code.records r (node_records p opens n) → HasList code.awaits w (node_awaits p opens n) → Fits p index f → Has pc (node_code p opens r w n) → Roomy f st (node_room n) (node_loops n)
        → Goes a f (pc + length (node_code p opens r w n)) st → St (node_into A D p opens n a) (at code f pc st)
    node_runs (awaits e d) r w a f pc st reach records waits fits has room next = R.awaits e d w p.line a f pc st fits.indexed waits.0 (has.0 ∙ ap (λ (j : ℕ). Some (instr p.line (acts.Await j))) (short_is w waits.1)) (next f (keeps_same f))
    node_runs (advances e) r w a f pc st reach records waits fits has room next = R.advances e p.line a f pc st fits.indexed has.0 (next f (keeps_same f))
    node_runs (plain s) r w a f pc st reach records waits fits has room next = kind_runs A D code limit index St R p few_privates s.line r s.kind a f pc st reach (kind_has code r s.kind records) fits has room.above next
    node_runs (loop line h b) r w a f pc st reach records waits fits has room next = loop_runs (opens h.variable.id) line h b r w a f pc st (λ r' w' a' f' pc' st'. block_runs b r' w' a' f' pc' st') reach records waits fits has room next
    node_runs (choose arms) r w a f pc st reach records waits fits has room next = arms_run arms r w a f pc st reach records waits fits has room next

    pub block_runs : (b : PlanBlock) (r w : ℕ) (a : A) (f : Frame) (pc : ℕ) (st : List ℤ) → BlockReaches code p opens b → HasList code.records r (block_records p opens b) → HasList code.awaits w (block_awaits p opens b) → Fits p index f → Has pc (block_code p opens r w b) → Roomy f st (block_room b) (block_loops b)
        → Goes a f (pc + length (block_code p opens r w b)) st → St (block_into A D p opens b a) (at code f pc st)
    block_runs no_nodes r w a f pc st reach records waits fits has room next = nothing a f pc st next
    block_runs (then_node n b) r w a f pc st reach records waits fits has room next =
        let c1 = node_code p opens r w n in
        let r2 = r + length (node_records p opens n) in
        let w2 = w + length (node_awaits p opens n) in
        let c2 = block_code p opens r2 w2 b in
        unless_last (is_last_stop n b) (node_into A D p opens n (block_into A D p opens b a)) a (c1 ++ c2) (node_records p opens n ++ block_records p opens b) (node_awaits p opens n ++ block_awaits p opens b) r w f pc st has records waits next (λ has' records' waits' next'.
        node_runs n r w (block_into A D p opens b a) f pc st reach.0 (list_front code.records r (node_records p opens n) (block_records p opens b) records') (list_front code.awaits w (node_awaits p opens n) (block_awaits p opens b) waits') fits (has_front code.instructions limit pc c1 c2 has')
        (roomy_left f st (node_room n) (block_room b) (node_loops n) (block_loops b) room) (λ g k.
        block_runs b r2 w2 a g (pc + length c1) st reach.1 (list_back code.records r (node_records p opens n) (block_records p opens b) records') (list_back code.awaits w (node_awaits p opens n) (block_awaits p opens b) waits') (fits_on p index f g k fits) (has_back code.instructions limit pc c1 c2 has')
        (roomy_on f g st (block_room b) (block_loops b) k (roomy_right f st (node_room n) (block_room b) (node_loops n) (block_loops b) room)) (λ h l.
        let len : pc + length c1 + length c2 ≡ pc + length (c1 ++ c2) = omega (arith, length-append c1 c2) in
        subst (λ (j : ℕ). St a (at code h j st)) (sym len) (next' h (keeps_on f g h k l)))))

    pub arms_run : (arms : PlanArms) (r w : ℕ) (a : A) (f : Frame) (pc : ℕ) (st : List ℤ) → ArmsReach code p opens arms → HasList code.records r (arms_records p opens arms) → HasList code.awaits w (arms_awaits p opens arms) → Fits p index f → Has pc (arms_code p opens r w arms) → Roomy f st (arms_room arms) (arms_loops arms)
        → Goes a f (pc + length (arms_code p opens r w arms)) st → St (arms_into A D p opens arms a) (at code f pc st)
    arms_run no_arms r w a f pc st reach records waits fits has room next = nothing a f pc st next
    arms_run (made_else b) r w a f pc st reach records waits fits has room next = block_runs b r w a f pc st reach records waits fits has room next
    arms_run (then_arm line None b more) r w a f pc st reach records waits fits has room next =
        block_runs b r w a f pc st reach records waits fits has (roomy_left f st (block_room b) (arms_room more) (block_loops b) (arms_loops more) room) next
    arms_run (then_arm line (Some c) b more) r w a f pc st reach records waits fits has room next =
        let q = on A D p line in
        let cc1 = term_code q c in
        let r2 = r + length (block_records p opens b) in
        let w2 = w + length (block_awaits p opens b) in
        let body = block_code p opens r w b in
        let others = arms_code p opens r2 w2 more in
        let n = pc + length cc1 in
        let rest = has_back code.instructions limit pc cc1 (chosen_code q body others) has in
        let k1 = le-max_left (operands c) (max (block_room b) (arms_room more)) in
        let k2 = le-max_right (operands c) (max (block_room b) (arms_room more)) in
        let k3 = le-max_left (block_room b) (arms_room more) in
        let k4 = le-max_right (block_room b) (arms_room more) in
        let l1 = le-max_left (block_loops b) (arms_loops more) in
        let l2 = le-max_right (block_loops b) (arms_loops more) in
        let len : n + length (chosen_code q body others) ≡ pc + length (cc1 ++ chosen_code q body others) = omega (arith, length-append cc1 (chosen_code q body others)) in
        term_runs A (D.evaluate line) code f line limit St (R.evaluates line f fits.indexed) q fits.privates few_privates refl c (λ v. D.local (if is_true v then block_into A D p opens b (D.local a) else arms_into A D p opens more a)) pc st reach.0 (has_front code.instructions limit pc cc1 (chosen_code q body others) has) (omega (arith, room.above, k1)) (λ v.
        chosen_runs A D code limit index St R p few_privates few line v body others (block_into A D p opens b (D.local a)) (arms_into A D p opens more a) a f n st fits rest (λ g k. subst (λ (j : ℕ). St a (at code g j st)) (sym len) (next g k))
        (λ end here. block_runs b r w (D.local a) f (n + 1) st reach.1 (list_front code.records r (block_records p opens b) (arms_records p opens more) records) (list_front code.awaits w (block_awaits p opens b) (arms_awaits p opens more) waits) fits here (record { above = omega (arith, room.above, k2, k3); loops = omega (arith, room.loops, l1) }) end)
        (λ end here. arms_run more r2 w2 a f (n + 1 + length body + 1) st reach.2 (list_back code.records r (block_records p opens b) (arms_records p opens more) records) (list_back code.awaits w (block_awaits p opens b) (arms_awaits p opens more) waits) fits here (record { above = omega (arith, room.above, k2, k4); loops = omega (arith, room.loops, l2) }) end))
