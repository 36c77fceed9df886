-- Where the code of a program that opens loops stands.
use Rattle.std.proofs.Common.{◌≡◌, ◌∙◌, ◌+◌, ◌≤◌, ◌<◌, ◌^◌, ℕ, zero, suc, Bool, true, false, List, [], ◌∷◌, ◌++◌, Some, None, length, map, get_or, refl, sym, ap, subst, arith, length-append, append_assoc}
use Rattle.std.specs.Prelude.{slice_get, if◌then◌else◌}
use Rattle.std.specs.List.{list_all}
use Rattle.ast.specs.Program.{is_placed}
use Rattle.ast.specs.References.{arms_expressions, block_expressions, expressions_references, head_expressions, kind_expressions}
use Rattle.ast.specs.Symbols.{Symbol, is_sized}
use Rattle.ast.specs.Tree.{Term}
use Rattle.dependence.specs.Plan.{PlanNode, awaits, advances, plain, loop, choose, PlanBlock, no_nodes, then_node, PlanArms, no_arms, made_else, then_arm}
use Rattle.machine.specs.Code as machine
use Rattle.machine.specs.Code.{Code, Part, loop_at, no_loop}
use Rattle.machine.specs.declared.code.Await.{Await}
use Rattle.machine.specs.declared.instr.Act.TheVariants as acts
use Rattle.machine.specs.declared.instr.Instr.{Instr}
use Rattle.expr_code.specs.Computes.{HasVariables}
use Rattle.expr_code.specs.Emitted.{instr, short, term_code}
use Rattle.expr_code.specs.Places.{Places}
use Rattle.expr_code.proofs.Finding.{short_is}
use Rattle.expr_code.proofs.Standing.{HasAt, has_here}
use Rattle.codegen.specs.Emitted.{arms_code, block_awaits, block_code, block_records, chosen_code, node_awaits, node_code, node_records}
use Rattle.codegen.specs.Process.{is_last_stop}
use Rattle.codegen.specs.Program.{none_open}
use Rattle.codegen.specs.Room.{block_loops, block_room}
use Rattle.codegen.proofs.Blocks.{ArmsReach, BlockReaches, HasList}
use Rattle.codegen.proofs.IterationCode.{IsRange}
use Rattle.codegen.proofs.MainCompiled.{apart, kind_reaches, loop_reaches, one, term_reaches}
use Rattle.codegen.proofs.MainReaching.{back_few, front_few}
use Rattle.codegen.specs.Program.{Planned, place_of_name, loop_entry, range_awaits, range_code, range_places, range_records, ranges_awaits, ranges_code, ranges_loops, ranges_records}
use Rattle.plan_check.specs.GoodPlan.{stripped, stripped_arms, only_events}

-- ---- references of a plan's body reach their cells

module _ (p : Places) (sized : list_all is_sized p.symbols ≡ true) (code : Code) (variables : HasVariables code p.symbols) (few : length p.symbols ≤ 2 ^ 32) where
  abbrev Every : List Term → Type 0
  Every es = list_all (λ r. is_placed p.symbols r) (expressions_references es) ≡ true

  abbrev Short : List Instr → Type 0
  Short is = length is ≤ 2 ^ 32

  -- no STOP that END follows stands in the body, and made ELSEs hold awaits and advances alone
  abbrev mutual
    pub Bare : PlanBlock → Type 0
    Bare no_nodes = Unit {0}
    Bare (then_node (loop l h c) b) = Bare c × Bare b
    Bare (then_node (choose a) b) = ArmsBare a × Bare b
    Bare (then_node (plain s) b) = (is_last_stop (plain s) b ≡ false) × Bare b
    Bare (then_node n b) = Bare b

    pub ArmsBare : PlanArms → Type 0
    ArmsBare no_arms = Unit {0}
    ArmsBare (made_else b) = only_events b ≡ true
    ArmsBare (then_arm l c b more) = Bare b × ArmsBare more

  events_reach : (b : PlanBlock) → only_events b ≡ true → BlockReaches code p none_open b
  events_reach no_nodes e = tt
  events_reach (then_node (awaits x d) b) e = (tt, events_reach b e)
  events_reach (then_node (advances x) b) e = (tt, events_reach b e)
  events_reach (then_node (plain s) b) e = cc
  events_reach (then_node (loop l h c) b) e = cc
  events_reach (then_node (choose a) b) e = cc

  -- the code of a node and of the nodes behind it
  parts : (n : PlanNode) (b : PlanBlock) (r w : ℕ) → is_last_stop n b ≡ false → Short (block_code p none_open r w (then_node n b)) → Short (node_code p none_open r w n) × Short (block_code p none_open (r + length (node_records p none_open n)) (w + length (node_awaits p none_open n)) b)
  parts n b r w e s =
      let c1 = node_code p none_open r w n in
      let c2 = block_code p none_open (r + length (node_records p none_open n)) (w + length (node_awaits p none_open n)) b in
      let t : Short (c1 ++ c2) = subst (λ (z : Bool). Short (if z then [] else c1 ++ c2)) e s in
      (front_few c1 c2 (2 ^ 32) t, back_few c1 c2 (2 ^ 32) t)

  mutual
    pub plan_reaches : (b : PlanBlock) (r w : ℕ) → Bare b → Every (block_expressions (stripped b)) → Short (block_code p none_open r w b) → BlockReaches code p none_open b
    plan_reaches no_nodes r w a h s = tt
    plan_reaches (then_node (awaits x d) b) r w a h s = let t = parts (awaits x d) b r w refl s in (tt, plan_reaches b (r + length (node_records p none_open (awaits x d))) (w + length (node_awaits p none_open (awaits x d))) a h t.1)
    plan_reaches (then_node (advances x) b) r w a h s = let t = parts (advances x) b r w refl s in (tt, plan_reaches b (r + length (node_records p none_open (advances x))) (w + length (node_awaits p none_open (advances x))) a h t.1)
    plan_reaches (then_node (plain x) b) r w a h s =
        let t = parts (plain x) b r w a.0 s in
        let k = apart p sized code variables few (kind_expressions x.kind) (block_expressions (stripped b)) h in
        (kind_reaches p sized code variables few x.line r x.kind k.0 t.0, plan_reaches b (r + length (node_records p none_open (plain x))) (w + length (node_awaits p none_open (plain x))) a.1 k.1 t.1)
    plan_reaches (then_node (loop line d c) b) r w a h s =
        let t = parts (loop line d c) b r w refl s in
        let k = apart p sized code variables few (head_expressions d ++ block_expressions (stripped c)) (block_expressions (stripped b)) h in
        let inner = (apart p sized code variables few (head_expressions d) (block_expressions (stripped c)) k.0).1 in (
          loop_reaches p sized code variables few line None none_open d (block_code p none_open r w c) (BlockReaches code p none_open c) (block_expressions (stripped c)) k.0 t.0 (λ u. plan_reaches c r w a.0 inner u),
          plan_reaches b (r + length (node_records p none_open (loop line d c))) (w + length (node_awaits p none_open (loop line d c))) a.1 k.1 t.1,
        )
    plan_reaches (then_node (choose q) b) r w a h s =
        let t = parts (choose q) b r w refl s in
        let k = apart p sized code variables few (arms_expressions (stripped_arms q)) (block_expressions (stripped b)) h in
        (arms_reach q r w a.0 k.0 t.0, plan_reaches b (r + length (node_records p none_open (choose q))) (w + length (node_awaits p none_open (choose q))) a.1 k.1 t.1)

    arms_reach : (q : PlanArms) (r w : ℕ) → ArmsBare q → Every (arms_expressions (stripped_arms q)) → Short (arms_code p none_open r w q) → ArmsReach code p none_open q
    arms_reach no_arms r w a h s = tt
    arms_reach (made_else b) r w a h s = events_reach b a
    arms_reach (then_arm line None b more) r w a h s = plan_reaches b r w a.0 (apart p sized code variables few (block_expressions (stripped b)) (arms_expressions (stripped_arms more)) h).0 s
    arms_reach (then_arm line (Some c) b more) r w a h s =
        let k = one p sized code variables few c (block_expressions (stripped b) ++ arms_expressions (stripped_arms more)) h in
        let l = apart p sized code variables few (block_expressions (stripped b)) (arms_expressions (stripped_arms more)) k.1 in
        let q = record p { line = line } in
        let body = block_code p none_open r w b in
        let r2 = r + length (block_records p none_open b) in
        let w2 = w + length (block_awaits p none_open b) in
        let others = arms_code p none_open r2 w2 more in
        let s1 = back_few (term_code q c) (chosen_code q body others) (2 ^ 32) s in
        let skip = instr line (acts.Skip (short (length others))) in
        let s2 : Short (body ++ (skip ∷ others)) = omega (arith, s1) in
        let s3 = back_few body (skip ∷ others) (2 ^ 32) s2 in (
          term_reaches p sized code variables few line c k.0 (front_few (term_code q c) (chosen_code q body others) (2 ^ 32) s),
          plan_reaches b r w a.0 l.0 (front_few body (skip ∷ others) (2 ^ 32) s2),
          arms_reach more r2 w2 a.1 l.1 (omega (arith, s3)),
        )

-- ---- where the code of a loop's iterations stands

-- lists in which others stand behind some
pub has_some : {X : Type 0} (before xs after all : List X) → all ≡ before ++ (xs ++ after) → length all ≤ 2 ^ 32 → HasList all (length before) xs
has_some before [] after all e few = tt
has_some {X} before (x ∷ xs) after all e few =
    let near : length before < 2 ^ 32 = let k = length-append before (x ∷ (xs ++ after)) in let l = ap length e in omega (arith, few, k, l) in
    let next : all ≡ (before ++ (x ∷ [])) ++ (xs ++ after) = e ∙ sym (append_assoc before (x ∷ []) (xs ++ after)) in
    let count : length (before ++ (x ∷ [])) ≡ length before + 1 = length-append before (x ∷ []) in (
      ap (λ (ys : List X). slice_get ys (length before)) e ∙ seam before (xs ++ after) x,
      near,
      subst (λ (n : ℕ). HasList all n xs) count (has_some (before ++ (x ∷ [])) xs after all next few),
    )
  where
    seam : (ys zs : List X) (y : X) → slice_get (ys ++ (y ∷ zs)) (length ys) ≡ Some y
    seam [] zs y = refl
    seam (w ∷ ys) zs y = seam ys zs y

pub record Segment (symbols : List Symbol) (n : ℕ) (x : Planned) (C : List Instr) (R : List (List Part)) (W : List Await) : Type 0 where
  pub cb : List Instr
  pub ca : List Instr
  pub rb : List (List Part)
  pub ra : List (List Part)
  pub wb : List Await
  pub wa : List Await
  pub code_is : C ≡ cb ++ (range_code symbols n (length rb) (length wb) x ++ ca)
  pub records_is : R ≡ rb ++ (range_records symbols x ++ ra)
  pub awaits_is : W ≡ wb ++ (range_awaits symbols x ++ wa)

module _ (symbols : List Symbol) (C : List Instr) (R : List (List Part)) (W : List Await) where
  -- the i-th of these loops
  pub find : (xs : List Planned) (i m n : ℕ) (x : Planned) (cb : List Instr) (rb : List (List Part)) (wb : List Await) → slice_get xs i ≡ Some x → m ≡ n + i → C ≡ cb ++ ranges_code symbols n (length rb) (length wb) xs → R ≡ rb ++ ranges_records symbols xs → W ≡ wb ++ ranges_awaits symbols xs
      → (s : Segment symbols m x C R W) × (slice_get (ranges_loops symbols (length cb) n (length rb) (length wb) xs) i ≡ Some (loop_entry symbols (length s.cb) x))
  find [] i m n x cb rb wb g e c r w = cc
  find (y ∷ ys) zero m n x cb rb wb g e c r w =
      let same : y ≡ x = cc in
      let number : n ≡ m = omega (arith, e) in
      subst (λ (k : ℕ). (s : Segment symbols k x C R W) × (Some (loop_entry symbols (length cb) y) ≡ Some (loop_entry symbols (length s.cb) x))) number
      (subst (λ (z : Planned). (s : Segment symbols n z C R W) × (Some (loop_entry symbols (length cb) y) ≡ Some (loop_entry symbols (length s.cb) z))) same (
        record {
          cb = cb;
          ca = ranges_code symbols (n + 1) (length rb + length (range_records symbols y)) (length wb + length (range_awaits symbols y)) ys;
          rb = rb;
          ra = ranges_records symbols ys;
          wb = wb;
          wa = ranges_awaits symbols ys;
          code_is = c;
          records_is = r;
          awaits_is = w;
        },
        refl,
      ))
  find (y ∷ ys) (suc i) m n x cb rb wb g e c r w =
      let k1 : length rb + length (range_records symbols y) ≡ length (rb ++ range_records symbols y) = sym (length-append rb (range_records symbols y)) in
      let k2 : length wb + length (range_awaits symbols y) ≡ length (wb ++ range_awaits symbols y) = sym (length-append wb (range_awaits symbols y)) in
      let k0 : length cb + length (range_code symbols n (length rb) (length wb) y) ≡ length (cb ++ range_code symbols n (length rb) (length wb) y) = sym (length-append cb (range_code symbols n (length rb) (length wb) y)) in
      let h = find ys i m (n + 1) x (cb ++ range_code symbols n (length rb) (length wb) y) (rb ++ range_records symbols y) (wb ++ range_awaits symbols y) g (omega (arith, e))
      (c ∙ sym (append_assoc cb (range_code symbols n (length rb) (length wb) y) (ranges_code symbols (n + 1) (length rb + length (range_records symbols y)) (length wb + length (range_awaits symbols y)) ys))
      ∙ ap (λ (k : ℕ). (cb ++ range_code symbols n (length rb) (length wb) y) ++ ranges_code symbols (n + 1) k (length wb + length (range_awaits symbols y)) ys) k1
      ∙ ap (λ (k : ℕ). (cb ++ range_code symbols n (length rb) (length wb) y) ++ ranges_code symbols (n + 1) (length (rb ++ range_records symbols y)) k ys) k2)
      (r ∙ sym (append_assoc rb (range_records symbols y) (ranges_records symbols ys)))
      (w ∙ sym (append_assoc wb (range_awaits symbols y) (ranges_awaits symbols ys))) in (
        h.0,
        ap (λ (k : ℕ). slice_get (ranges_loops symbols k (n + 1) (length rb + length (range_records symbols y)) (length wb + length (range_awaits symbols y)) ys) i) k0
            ∙ ap (λ (k : ℕ). slice_get (ranges_loops symbols (length (cb ++ range_code symbols n (length rb) (length wb) y)) (n + 1) k (length wb + length (range_awaits symbols y)) ys) i) k1
            ∙ ap (λ (k : ℕ). slice_get (ranges_loops symbols (length (cb ++ range_code symbols n (length rb) (length wb) y)) (n + 1) (length (rb ++ range_records symbols y)) k ys) i) k2
            ∙ h.1,
      )

at_number : {X : Type 0} (ys : List X) (i : ℕ) (y z : X) → slice_get ys i ≡ Some y → get_or ys i z ≡ y
at_number [] i y z h = cc
at_number (x ∷ ys) zero y z h = cc
at_number (x ∷ ys) (suc i) y z h = at_number ys i y z h

mapped : {X Y : Type 0} (f : X → Y) (xs : List X) → length (map f xs) ≡ length xs
mapped f [] = refl
mapped f (x ∷ xs) = ap suc (mapped f xs)

module _ (symbols : List Symbol) (code : Code) (n : ℕ) (x : Planned) (s : Segment symbols n x code.instructions code.records code.awaits) (entry : slice_get code.loops n ≡ Some (loop_entry symbols (length s.cb) x)) (few : length code.instructions ≤ 2 ^ 32) (few_records : length code.records ≤ 2 ^ 32) (few_awaits : length code.awaits ≤ 2 ^ 32) (few_loops : n < 2 ^ 32)
    (few_privates : length x.plan.privates ≤ 2 ^ 32) (sized : list_all is_sized symbols ≡ true) (variables : HasVariables code symbols) (few_symbols : length symbols ≤ 2 ^ 32) (bare : Bare (range_places symbols x) sized code variables few_symbols x.plan.body)
    (placed : list_all (λ r. is_placed symbols r) (expressions_references (block_expressions (stripped x.plan.body))) ≡ true) (operands : block_room x.plan.body ≤ code.operands) (counters : block_loops x.plan.body ≤ code.counters) where
  pub loop_is : loop_at code n ≡ loop_entry symbols (length s.cb) x
  loop_is = at_number code.loops n (loop_entry symbols (length s.cb) x) (no_loop code) entry

  code_is : code.instructions ≡ s.cb ++ (block_code (range_places symbols x) none_open (length s.rb) (length s.wb) x.plan.body ++ (instr x.loop.line (acts.Retire (short n)) ∷ s.ca))
  code_is = s.code_is ∙ ap (λ (is : List Instr). s.cb ++ is) (append_assoc (block_code (range_places symbols x) none_open (length s.rb) (length s.wb) x.plan.body) (instr x.loop.line (acts.Retire (short n)) ∷ []) s.ca)

  fits : length s.cb + length (block_code (range_places symbols x) none_open (length s.rb) (length s.wb) x.plan.body) ≤ 2 ^ 32
  fits =
      let k = ap length code_is in
      let a = length-append s.cb (block_code (range_places symbols x) none_open (length s.rb) (length s.wb) x.plan.body ++ (instr x.loop.line (acts.Retire (short n)) ∷ s.ca)) in
      let b = length-append (block_code (range_places symbols x) none_open (length s.rb) (length s.wb) x.plan.body) (instr x.loop.line (acts.Retire (short n)) ∷ s.ca) in
      omega (arith, few, k, a, b)

  behind : (is js : List Instr) (i : Instr) (k : ℕ) → k ≡ length is + length js → slice_get (is ++ (js ++ (i ∷ s.ca))) k ≡ Some i
  behind [] [] i zero e = refl
  behind [] [] i (suc k) e = absurd (omega (arith, e))
  behind [] (j ∷ js) i zero e = absurd (omega (arith, e))
  behind [] (j ∷ js) i (suc k) e = behind [] js i k (omega (arith, e))
  behind (j ∷ is) js i zero e = absurd (omega (arith, e))
  behind (j ∷ is) js i (suc k) e = behind is js i k (omega (arith, e))

  -- the loop's iterations have their code there
  pub range : IsRange code n (range_places symbols x) x.plan.body
  range = record {
    loop = entry ∙ sym (ap (λ (l : machine.Loop). Some l) loop_is);
    privates = sym (ap (λ (l : machine.Loop). length l.privates) loop_is ∙ mapped (λ name. short (place_of_name 0 symbols name)) x.plan.privates);
    few_privates = few_privates;
    reaches = plan_reaches (range_places symbols x) sized code variables few_symbols x.plan.body (length s.rb) (length s.wb) bare placed (let k = fits in omega (arith, k));
    limit = length s.cb + length (block_code (range_places symbols x) none_open (length s.rb) (length s.wb) x.plan.body);
    few = fits;
    records_before = length s.rb;
    awaits_before = length s.wb;
    stands = subst (λ (k : ℕ). HasAt code.instructions (length s.cb + length (block_code (range_places symbols x) none_open (length s.rb) (length s.wb) x.plan.body)) k (block_code (range_places symbols x) none_open (length s.rb) (length s.wb) x.plan.body)) (sym (ap (λ (l : machine.Loop). l.body) loop_is))
        (subst (λ (is : List Instr). HasAt is (length s.cb + length (block_code (range_places symbols x) none_open (length s.rb) (length s.wb) x.plan.body)) (length s.cb) (block_code (range_places symbols x) none_open (length s.rb) (length s.wb) x.plan.body)) (sym code_is)
        (has_here s.cb (block_code (range_places symbols x) none_open (length s.rb) (length s.wb) x.plan.body) (instr x.loop.line (acts.Retire (short n)) ∷ s.ca) (length s.cb + length (block_code (range_places symbols x) none_open (length s.rb) (length s.wb) x.plan.body)) (omega arith)));
    records = has_some s.rb (range_records symbols x) s.ra code.records s.records_is few_records;
    awaits = has_some s.wb (range_awaits symbols x) s.wa code.awaits s.awaits_is few_awaits;
    operands = operands;
    counters = counters;
    line = x.loop.line;
    retires =
        ap (λ (l : machine.Loop). slice_get code.instructions (l.body + length (block_code (range_places symbols x) none_open (length s.rb) (length s.wb) x.plan.body))) loop_is
        ∙ ap (λ (is : List Instr). slice_get is (length s.cb + length (block_code (range_places symbols x) none_open (length s.rb) (length s.wb) x.plan.body))) code_is
        ∙ behind s.cb (block_code (range_places symbols x) none_open (length s.rb) (length s.wb) x.plan.body) (instr x.loop.line (acts.Retire (short n))) (length s.cb + length (block_code (range_places symbols x) none_open (length s.rb) (length s.wb) x.plan.body)) refl
        ∙ ap (λ (k : ℕ). Some (instr x.loop.line (acts.Retire k))) (short_is n few_loops);
  }
