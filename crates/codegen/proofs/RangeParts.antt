-- What holds of a program holds of the range of each of its loops; a plan's body wants no more room
-- than the loop's range.
use Rattle.std.proofs.Common.{◌≡◌, ◌+◌, ◌≤◌, ◌⊎◌, inl, inr, ℕ, Bool, true, false, List, [], ◌∷◌, ◌++◌, Option, Some, None, length, sym, subst, ⊎_elim, arith, length-append}
use Rattle.std.specs.Prelude.{max, if◌then◌else◌}
use Rattle.std.proofs.lemmas.Bool.{and_parts}
use Rattle.std.proofs.Math.Nat.{le-max_left, le-max_right, max-eq_left, max-eq_right}
use Rattle.ast.specs.Tree as tree
use Rattle.ast.specs.Tree.{Term, DoHead, Node, Block, Arms}
use Rattle.ast.proofs.Numbers.{either_way}
use Rattle.dependence.specs.Plan.{PlanNode, awaits, advances, plain, loop, choose, PlanBlock, no_nodes, then_node, PlanArms, no_arms, made_else, then_arm}
use Rattle.loop_tree.specs.Loops.{Loop, arms_loops as loops_in_arms, block_loops as loops_in_block, node_loops as loops_in_node}
use Rattle.loop_tree.specs.Occurrences.{node_lines, block_lines}
use Rattle.machine.specs.declared.instr.Act.TheVariants as acts
use Rattle.expr_code.specs.Computes.{operands}
use Rattle.expr_code.specs.Emitted.{instr, short, term_code}
use Rattle.expr_code.specs.Places.{Places}
use Rattle.codegen.specs.Emitted.{arms_awaits, arms_code, block_awaits, block_code, block_records, chosen_code, node_awaits, node_code, node_records}
use Rattle.codegen.specs.Plain.{plain_arms, plain_block}
use Rattle.codegen.specs.Process.{is_last_stop}
use Rattle.codegen.specs.Program.{none_open}
use Rattle.codegen.specs.Room.{arms_loops, arms_room, block_loops, block_room, head_room, node_room}
use Rattle.codegen.proofs.IterationLaws.{in_which}
use Rattle.codegen.proofs.IterationSteps.{In}
use Rattle.codegen.proofs.MainCompiled.{serial_holds}
use Rattle.plan_check.specs.GoodPlan.{made_bare, made_bare_arms, stripped, stripped_arms, only_events}

-- ---- ranges of loops

module _ (PB : Block → Type 0) (PN : Node → Type 0) (PA : Arms → Type 0)
    (first : (n : Node) (b : Block) → PB (tree.then_node n b) → PN n × PB b)
    (inner : (line : ℕ) (h : DoHead) (b : Block) → PN (tree.loop line h b) → PB b)
    (chosen : (a : Arms) → PN (tree.choose a) → PA a)
    (arm : (line : ℕ) (c : Option Term) (b : Block) (more : Arms) → PA (tree.then_arm line c b more) → PB b × PA more) where
  mutual
    of_node : (n : Node) (around : Option ℕ) (k m : ℕ) (l : Loop) → In l (loops_in_node around k m n) → PN n → PB l.body
    of_node (tree.plain s) around k m l i p = absurd i
    of_node (tree.loop line h b) around k m l (inl e) p = subst (λ (x : Loop). PB x.body) (sym e) (inner line h b p)
    of_node (tree.loop line h b) around k m l (inr i) p = of_block b (Some (k + 1)) (k + 1) (m + 1) l i (inner line h b p)
    of_node (tree.choose a) around k m l i p = of_arms a around k (m + 1) l i (chosen a p)

    pub of_block : (b : Block) (around : Option ℕ) (k m : ℕ) (l : Loop) → In l (loops_in_block around k m b) → PB b → PB l.body
    of_block tree.no_nodes around k m l i p = absurd i
    of_block (tree.then_node n b) around k m l i p =
        let q = first n b p in
        let xs = loops_in_node around k m n in
        let ys = loops_in_block around (k + length xs) (m + length (node_lines n)) b in
        ⊎_elim (λ x. of_node n around k m l x q.0) (λ y. of_block b around (k + length xs) (m + length (node_lines n)) l y q.1) (in_which l xs ys i)

    of_arms : (a : Arms) (around : Option ℕ) (k m : ℕ) (l : Loop) → In l (loops_in_arms around k m a) → PA a → PB l.body
    of_arms tree.no_arms around k m l i p = absurd i
    of_arms (tree.then_arm line c b more) around k m l i p =
        let q = arm line c b more p in
        let xs = loops_in_block around k m b in
        let ys = loops_in_arms around (k + length xs) (m + length (block_lines b)) more in
        ⊎_elim (λ x. of_block b around k m l x q.0) (λ y. of_arms more around (k + length xs) (m + length (block_lines b)) l y q.1) (in_which l xs ys i)

-- ---- room

most : (a b c : ℕ) → a ≤ c → b ≤ c → max a b ≤ c
most a b c h k = by (either_way a b)
  where
    by : (a ≤ b) ⊎ (b ≤ a) → max a b ≤ c
    by (inl l) = let e : max a b ≡ b = max-eq_right l in omega (arith, e, k)
    by (inr l) = let e : max a b ≡ a = max-eq_left l in omega (arith, e, h)

each : (a b c d : ℕ) → a ≤ c → b ≤ d → max a b ≤ max c d
each a b c d h k = let i = le-max_left c d in let j = le-max_right c d in most a b (max c d) (omega (arith, h, i)) (omega (arith, k, j))

-- made ELSEs hold awaits and advances alone
abbrev mutual
  pub Made : PlanBlock → Type 0
  Made no_nodes = Unit {0}
  Made (then_node (loop l h c) b) = Made c × Made b
  Made (then_node (choose a) b) = ArmsMade a × Made b
  Made (then_node n b) = Made b

  pub ArmsMade : PlanArms → Type 0
  ArmsMade no_arms = Unit {0}
  ArmsMade (made_else b) = only_events b ≡ true
  ArmsMade (then_arm l c b more) = Made b × ArmsMade more

mutual
  pub made : (b : PlanBlock) → made_bare b ≡ true → Made b
  made no_nodes h = tt
  made (then_node (awaits e d) b) h = made b h
  made (then_node (advances e) b) h = made b h
  made (then_node (plain s) b) h = made b h
  made (then_node (loop l d c) b) h = let z = and_parts (made_bare c) (made_bare b) h in (made c z.0, made b z.1)
  made (then_node (choose a) b) h = let z = and_parts (made_bare_arms a) (made_bare b) h in (arms_made a z.0, made b z.1)

  arms_made : (a : PlanArms) → made_bare_arms a ≡ true → ArmsMade a
  arms_made no_arms h = tt
  arms_made (made_else b) h = h
  arms_made (then_arm l c b more) h = let z = and_parts (made_bare b) (made_bare_arms more) h in (made b z.0, arms_made more z.1)

events_room : (b : PlanBlock) → only_events b ≡ true → block_room b ≤ 0
events_room no_nodes e = omega arith
events_room (then_node (awaits x d) b) e = most 0 (block_room b) 0 (omega arith) (events_room b e)
events_room (then_node (advances x) b) e = most 0 (block_room b) 0 (omega arith) (events_room b e)
events_room (then_node (plain s) b) e = cc
events_room (then_node (loop l h c) b) e = cc
events_room (then_node (choose a) b) e = cc

events_loops : (b : PlanBlock) → only_events b ≡ true → block_loops b ≤ 0
events_loops no_nodes e = omega arith
events_loops (then_node (awaits x d) b) e = most 0 (block_loops b) 0 (omega arith) (events_loops b e)
events_loops (then_node (advances x) b) e = most 0 (block_loops b) 0 (omega arith) (events_loops b e)
events_loops (then_node (plain s) b) e = cc
events_loops (then_node (loop l h c) b) e = cc
events_loops (then_node (choose a) b) e = cc

mutual
  pub room_of : (b : PlanBlock) → Made b → block_room b ≤ block_room (plain_block (stripped b))
  room_of no_nodes w = omega arith
  room_of (then_node (awaits e d) b) w = most 0 (block_room b) (block_room (plain_block (stripped b))) (omega arith) (room_of b w)
  room_of (then_node (advances e) b) w = most 0 (block_room b) (block_room (plain_block (stripped b))) (omega arith) (room_of b w)
  room_of (then_node (plain s) b) w = each (node_room (plain s)) (block_room b) (node_room (plain s)) (block_room (plain_block (stripped b))) (omega arith) (room_of b w)
  room_of (then_node (loop l h c) b) w =
      let r = room_of c w.0 in
      each (max (head_room h) (max 2 (block_room c))) (block_room b) (max (head_room h) (max 2 (block_room (plain_block (stripped c))))) (block_room (plain_block (stripped b)))
      (each (head_room h) (max 2 (block_room c)) (head_room h) (max 2 (block_room (plain_block (stripped c)))) (omega arith) (each 2 (block_room c) 2 (block_room (plain_block (stripped c))) (omega arith) r)) (room_of b w.1)
  room_of (then_node (choose a) b) w = each (arms_room a) (block_room b) (arms_room (plain_arms (stripped_arms a))) (block_room (plain_block (stripped b))) (arms_room_of a w.0) (room_of b w.1)

  arms_room_of : (a : PlanArms) → ArmsMade a → arms_room a ≤ arms_room (plain_arms (stripped_arms a))
  arms_room_of no_arms w = omega arith
  arms_room_of (made_else b) w = events_room b w
  arms_room_of (then_arm l None b more) w = each (block_room b) (arms_room more) (block_room (plain_block (stripped b))) (arms_room (plain_arms (stripped_arms more))) (room_of b w.0) (arms_room_of more w.1)
  arms_room_of (then_arm l (Some c) b more) w =
      each (operands c) (max (block_room b) (arms_room more)) (operands c) (max (block_room (plain_block (stripped b))) (arms_room (plain_arms (stripped_arms more)))) (omega arith)
      (each (block_room b) (arms_room more) (block_room (plain_block (stripped b))) (arms_room (plain_arms (stripped_arms more))) (room_of b w.0) (arms_room_of more w.1))

mutual
  pub loops_of : (b : PlanBlock) → Made b → block_loops b ≤ block_loops (plain_block (stripped b))
  loops_of no_nodes w = omega arith
  loops_of (then_node (awaits e d) b) w = most 0 (block_loops b) (block_loops (plain_block (stripped b))) (omega arith) (loops_of b w)
  loops_of (then_node (advances e) b) w = most 0 (block_loops b) (block_loops (plain_block (stripped b))) (omega arith) (loops_of b w)
  loops_of (then_node (plain s) b) w = each 0 (block_loops b) 0 (block_loops (plain_block (stripped b))) (omega arith) (loops_of b w)
  loops_of (then_node (loop l h c) b) w =
      let r = loops_of c w.0 in
      each (block_loops c + 1) (block_loops b) (block_loops (plain_block (stripped c)) + 1) (block_loops (plain_block (stripped b))) (omega (arith, r)) (loops_of b w.1)
  loops_of (then_node (choose a) b) w = each (arms_loops a) (block_loops b) (arms_loops (plain_arms (stripped_arms a))) (block_loops (plain_block (stripped b))) (arms_loops_of a w.0) (loops_of b w.1)

  arms_loops_of : (a : PlanArms) → ArmsMade a → arms_loops a ≤ arms_loops (plain_arms (stripped_arms a))
  arms_loops_of no_arms w = omega arith
  arms_loops_of (made_else b) w = events_loops b w
  arms_loops_of (then_arm l None b more) w = each (block_loops b) (arms_loops more) (block_loops (plain_block (stripped b))) (arms_loops (plain_arms (stripped_arms more))) (loops_of b w.0) (arms_loops_of more w.1)
  arms_loops_of (then_arm l (Some c) b more) w = each (block_loops b) (arms_loops more) (block_loops (plain_block (stripped b))) (arms_loops (plain_arms (stripped_arms more))) (loops_of b w.0) (arms_loops_of more w.1)

-- ---- awaits are fewer than instructions

both_few : {X Y : Type 0} (xs us : List X) (ys vs : List Y) → length xs ≤ length ys → length us ≤ length vs → length (xs ++ us) ≤ length (ys ++ vs)
both_few xs us ys vs h k = let a = length-append xs us in let b = length-append ys vs in omega (arith, h, k, a, b)

unless_last : {X Y : Type 0} (b : Bool) (xs : List X) (ys : List Y) → length xs ≤ length ys → length (if b then [] else xs) ≤ length (if b then [] else ys)
unless_last true xs ys h = omega arith
unless_last false xs ys h = h

module _ (p : Places) where
  mutual
    node_few : (n : PlanNode) (r w : ℕ) → length (node_awaits p none_open n) ≤ length (node_code p none_open r w n)
    node_few (awaits e d) r w = omega arith
    node_few (advances e) r w = omega arith
    node_few (plain s) r w = omega arith
    node_few (loop line h b) r w = let k = block_few b r w in let q = record p { line = line } in let m = serial_holds q h (block_code p none_open r w b) in omega (arith, k, m)
    node_few (choose a) r w = arms_few a r w

    pub block_few : (b : PlanBlock) (r w : ℕ) → length (block_awaits p none_open b) ≤ length (block_code p none_open r w b)
    block_few no_nodes r w = omega arith
    block_few (then_node n b) r w =
        let r2 = r + length (node_records p none_open n) in
        let w2 = w + length (node_awaits p none_open n) in
        unless_last (is_last_stop n b) (node_awaits p none_open n ++ block_awaits p none_open b) (node_code p none_open r w n ++ block_code p none_open r2 w2 b)
        (both_few (node_awaits p none_open n) (block_awaits p none_open b) (node_code p none_open r w n) (block_code p none_open r2 w2 b) (node_few n r w) (block_few b r2 w2))

    arms_few : (a : PlanArms) (r w : ℕ) → length (arms_awaits p none_open a) ≤ length (arms_code p none_open r w a)
    arms_few no_arms r w = omega arith
    arms_few (made_else b) r w = block_few b r w
    arms_few (then_arm line None b more) r w = block_few b r w
    arms_few (then_arm line (Some c) b more) r w =
        let q = record p { line = line } in
        let body = block_code p none_open r w b in
        let r2 = r + length (block_records p none_open b) in
        let w2 = w + length (block_awaits p none_open b) in
        let others = arms_code p none_open r2 w2 more in
        let h = block_few b r w in
        let k = arms_few more r2 w2 in
        let k1 = length-append (block_awaits p none_open b) (arms_awaits p none_open more) in
        let k2 = length-append (term_code q c) (chosen_code q body others) in
        let k3 = length-append body (instr line (acts.Skip (short (length others))) ∷ others) in
        omega (arith, h, k, k1, k2, k3)
