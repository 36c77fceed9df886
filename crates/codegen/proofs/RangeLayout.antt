-- In the code of a program each opened loop's range stands, with its records, awaits and entry.
use Rattle.std.proofs.Common.{◌≡◌, ◌∙◌, ◌+◌, ◌≤◌, ◌<◌, ◌^◌, ℕ, zero, suc, true, List, [], ◌∷◌, Some, length, get_or, refl, ap, arith, length-append}
use Rattle.std.specs.Prelude.{slice_get}
use Rattle.std.specs.List.{list_all}
use Rattle.ast.specs.Program.{ProgramTree, is_placed}
use Rattle.ast.specs.References.{block_expressions, expressions_references}
use Rattle.ast.specs.Symbols.{Symbol, is_sized}
use Rattle.machine.specs.Code as machine
use Rattle.machine.specs.Code.{Code, loop_at, no_loop}
use Rattle.machine.specs.declared.instr.Act.TheVariants as acts
use Rattle.expr_code.specs.Emitted.{instr, short}
use Rattle.codegen.specs.Emitted.{block_code}
use Rattle.codegen.specs.Plain.{plain_block}
use Rattle.codegen.specs.Program.{main_places, none_open}
use Rattle.codegen.specs.Room.{block_loops, block_room}
use Rattle.codegen.proofs.IterationCode.{IsRange}
use Rattle.codegen.proofs.MainCompiled.{block_prints}
use Rattle.codegen.proofs.RangeParts.{block_few}
use Rattle.codegen.proofs.RangeSegments.{Bare, Segment, find, range}
use Rattle.codegen.specs.Program.{IsCodeOf, Planned, loop_entry, main_block, main_code, main_records, opened_by, range_awaits, range_code, range_places, range_records, ranges_awaits, ranges_code, ranges_loops, ranges_records}
use Rattle.plan_check.specs.GoodPlan.{stripped}

module _ (symbols : List Symbol) where
  -- records, awaits and loops are fewer than instructions
  records_few : (xs : List Planned) (n r w : ℕ) → length (ranges_records symbols xs) ≤ length (ranges_code symbols n r w xs)
  records_few [] n r w = omega arith
  records_few (x ∷ xs) n r w =
      let p = range_places symbols x in
      let b = block_code p none_open r w x.plan.body in
      let k = block_prints p none_open x.plan.body r w in
      let h = records_few xs (n + 1) (r + length (range_records symbols x)) (w + length (range_awaits symbols x)) in
      let a1 = length-append (range_records symbols x) (ranges_records symbols xs) in
      let a2 = length-append (range_code symbols n r w x) (ranges_code symbols (n + 1) (r + length (range_records symbols x)) (w + length (range_awaits symbols x)) xs) in
      let a3 = length-append b (instr x.loop.line (acts.Retire (short n)) ∷ []) in
      omega (arith, k, h, a1, a2, a3)

  awaits_few : (xs : List Planned) (n r w : ℕ) → length (ranges_awaits symbols xs) ≤ length (ranges_code symbols n r w xs)
  awaits_few [] n r w = omega arith
  awaits_few (x ∷ xs) n r w =
      let p = range_places symbols x in
      let b = block_code p none_open r w x.plan.body in
      let k = block_few p x.plan.body r w in
      let h = awaits_few xs (n + 1) (r + length (range_records symbols x)) (w + length (range_awaits symbols x)) in
      let a1 = length-append (range_awaits symbols x) (ranges_awaits symbols xs) in
      let a2 = length-append (range_code symbols n r w x) (ranges_code symbols (n + 1) (r + length (range_records symbols x)) (w + length (range_awaits symbols x)) xs) in
      let a3 = length-append b (instr x.loop.line (acts.Retire (short n)) ∷ []) in
      omega (arith, k, h, a1, a2, a3)

  loops_few : (xs : List Planned) (n r w : ℕ) → length xs ≤ length (ranges_code symbols n r w xs)
  loops_few [] n r w = omega arith
  loops_few (x ∷ xs) n r w =
      let p = range_places symbols x in
      let b = block_code p none_open r w x.plan.body in
      let h = loops_few xs (n + 1) (r + length (range_records symbols x)) (w + length (range_awaits symbols x)) in
      let a2 = length-append (range_code symbols n r w x) (ranges_code symbols (n + 1) (r + length (range_records symbols x)) (w + length (range_awaits symbols x)) xs) in
      let a3 = length-append b (instr x.loop.line (acts.Retire (short n)) ∷ []) in
      omega (arith, h, a2, a3)

module _ (t : ProgramTree) (xs : List Planned) (some : Planned) (code : Code) (w : IsCodeOf t xs code) where
  size : length code.instructions ≤ 1048576
  size = let k = ap length w.instructions in let f = w.few in omega (arith, k, f)

  parts : length code.instructions ≡ length (main_block t xs) + 1 + length (ranges_code t.symbols 0 (length (main_records t xs)) 0 xs)
  parts =
      let k = ap length w.instructions in
      let a = length-append (main_code t xs) (ranges_code t.symbols 0 (length (main_records t xs)) 0 xs) in
      let b = length-append (main_block t xs) (instr 0 acts.Halt ∷ []) in
      omega (arith, k, a, b)

  pub few_records : length code.records ≤ 2 ^ 32
  few_records =
      let k = ap length w.records in
      let a = length-append (main_records t xs) (ranges_records t.symbols xs) in
      let m = block_prints (main_places t.symbols) (opened_by xs) (plain_block t.block) 0 0 in
      let r = records_few t.symbols xs 0 (length (main_records t xs)) 0 in
      let q = parts in
      let z = size in
      omega (arith, k, a, m, r, q, z)

  few_awaits : length code.awaits ≤ 2 ^ 32
  few_awaits =
      let k = ap length w.awaits in
      let r = awaits_few t.symbols xs 0 (length (main_records t xs)) 0 in
      let q = parts in
      let z = size in
      omega (arith, k, r, q, z)

  pub few_loops : length xs ≤ 2 ^ 32
  few_loops = let r = loops_few t.symbols xs 0 (length (main_records t xs)) 0 in let q = parts in let z = size in omega (arith, r, q, z)

  there : (ys : List Planned) (n : ℕ) → n < length ys → slice_get ys n ≡ Some (get_or ys n some)
  there [] n h = absurd (omega (arith, h))
  there (y ∷ ys) zero h = refl
  there (y ∷ ys) (suc n) h = there ys n (omega (arith, h))

  -- where loop n's range stands
  segment : (n : ℕ) → n < length xs → (s : Segment t.symbols n (get_or xs n some) code.instructions code.records code.awaits) × (slice_get (ranges_loops t.symbols (length (main_code t xs)) 0 (length (main_records t xs)) 0 xs) n ≡ Some (loop_entry t.symbols (length s.cb) (get_or xs n some)))
  segment n h = find t.symbols code.instructions code.records code.awaits xs n n 0 (get_or xs n some) (main_code t xs) (main_records t xs) [] (there xs n h) (omega arith) w.instructions w.records w.awaits

  pub entry : (n : ℕ) → n < length xs → (place : ℕ) × (slice_get code.loops n ≡ Some (loop_entry t.symbols place (get_or xs n some))) × (loop_at code n ≡ loop_entry t.symbols place (get_or xs n some))
  entry n h =
      let s = segment n h in
      let e : slice_get code.loops n ≡ Some (loop_entry t.symbols (length (s.0).cb) (get_or xs n some)) = ap (λ (ls : List machine.Loop). slice_get ls n) w.loops ∙ s.1 in
      (length (s.0).cb, e, found code.loops n (loop_entry t.symbols (length (s.0).cb) (get_or xs n some)) e)
    where
      found : (ls : List machine.Loop) (i : ℕ) (l : machine.Loop) → slice_get ls i ≡ Some l → get_or ls i (no_loop code) ≡ l
      found [] i l e = cc
      found (k ∷ ls) zero l e = cc
      found (k ∷ ls) (suc i) l e = found ls i l e

  pub ranges : (sized : list_all is_sized t.symbols ≡ true) (n : ℕ) (h : n < length xs) → length (get_or xs n some).plan.privates ≤ 2 ^ 32 → Bare (range_places t.symbols (get_or xs n some)) sized code w.variables w.few_symbols (get_or xs n some).plan.body
      → list_all (λ r. is_placed t.symbols r) (expressions_references (block_expressions (stripped (get_or xs n some).plan.body))) ≡ true → block_room (get_or xs n some).plan.body ≤ code.operands → block_loops (get_or xs n some).plan.body ≤ code.counters
      → IsRange code n (range_places t.symbols (get_or xs n some)) (get_or xs n some).plan.body
  ranges sized n h few_privates bare placed operands counters =
      let s = segment n h in
      let f = few_loops in
      let z = size in
      let number : n < 2 ^ 32 = omega (arith, h, f) in
      range t.symbols code n (get_or xs n some) s.0 (ap (λ (ls : List machine.Loop). slice_get ls n) w.loops ∙ s.1) (omega (arith, z)) few_records few_awaits number few_privates sized w.variables w.few_symbols bare placed operands counters
