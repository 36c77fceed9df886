-- Programs to code: their variables, and that what is made is code that the headline holds of.
use Rattle.std.proofs.Common.{◌≡◌, ◌∙◌, ◌⊎◌, inl, inr, ◌+◌, ◌*◌, ◌≤◌, ◌<◌, ◌^◌, ℕ, zero, suc, Bool, true, false, List, [], ◌∷◌, ◌++◌, map, take, length, get_or, refl, sym, ap, subst, arith}
use Rattle.std.specs.Prelude.{◌-◌, None, not, nat_lt, nat_le, int_lt, pos, ◌&&◌, ◌||◌, ◌==◌, if◌then◌else◌}
use Rattle.std.specs.List.{AllByRecursion, IsDistinct, list_all}
use Rattle.std.proofs.Math.Nat.{le-max_left, le-max_right}
use Rattle.std.proofs.lemmas.Bool.{and_parts, cases_eq, leb-true, lt-ltb, ltb-false, ltb-true}
use Rattle.std.proofs.lemmas.Bool.Decides.{Decides-eqb}
use Rattle.std.proofs.lemmas.Cmp.{nat_list_eq_equiv}
use Rattle.ast.specs.Program.{ProgramTree}
use Rattle.ast.specs.ProgramView.{program as program_of}
use Rattle.ast.specs.Store.{same_name}
use Rattle.ast.specs.Symbols.{Symbol, is_sized, dimensions_of, most_elements, names_of, size}
use Rattle.ast.specs.declared.program.Program.{Program}
use Rattle.ast.specs.declared.refusal.Refusal.{Refusal}
use Rattle.ast.specs.declared.refusal.Refusal.TheVariants.{Memory, Refused}
use Rattle.ast.specs.declared.program.Symbol.{Symbol as Named}
use Rattle.ast.specs.View.{symbol}
use Rattle.ast.specs.Tree.{constant, no_nodes}
use Rattle.dependence.specs.Plan as plan
use Rattle.loop_tree.specs.Loops.{Loop, loop_at, loops_of}
use Rattle.loop_tree.specs.Occurrences.{block_lines}
use Rattle.machine.specs.Code.{Code}
use Rattle.machine.specs.Laid.{are_distinct, are_laid, count_of, is_among, names_in}
use Rattle.machine.specs.declared.code.Variable.{Variable}
use Rattle.expr_code.specs.Computes.{variables_for, variables_in}
use Rattle.expr_code.specs.Emitted.{short}
use Rattle.expr_code.proofs.Finding.{short_is}
use Rattle.codegen.specs.Headline.{Bounded, Carried, Ends, Headline}
use Rattle.codegen.specs.Plain.{plain_block}
use Rattle.codegen.specs.Program.{AreOpened, IsCodeOf, Planned, Refuses, RefusesWith, most_room, room_of}
use Rattle.codegen.specs.Awaited.{AreAwaitsKept}
use Rattle.codegen.specs.Reports.{AreReports, Reports, opened_of, planned_in}
use Rattle.codegen.specs.Room.{block_loops, block_room}
use Rattle.codegen.specs.OnTheWay.{AreOnTheWay}
use Rattle.codegen.specs.States.{AreAsAlone}
use Rattle.codegen.specs.declared.reports.LoopReport.{LoopReport}
use Rattle.codegen.proofs.AcceptedLoops.{accepted}
use Rattle.codegen.proofs.Awaited.{awaits_kept}
use Rattle.codegen.proofs.OpenedReports.{Known, are_opened, known_at}
use Rattle.codegen.proofs.Theorem.{Opens, bounded, carried, ends, headline, states, way}

-- ---- variables

-- one variable more, behind those before it
laid_after : (n : ℕ) (xs : List Variable) (x : Variable) → are_laid n xs ≡ true → x.start ≡ n + count_of xs → n + count_of xs + x.size < 2 ^ 62 → are_laid n (xs ++ x ∷ []) ≡ true
laid_after n [] x h e l =
    let z : n ≡ n + 0 = omega arith in
    let here : (x.start == n) ≡ true = (Decides-eqb x.start n).1 (e ∙ sym z) in
    let room : nat_lt (n + x.size) (2 ^ 62) ≡ true = lt-ltb (n + x.size) (2 ^ 62) (omega (arith, l)) in
    ap (λ (b : Bool). b && (nat_lt (n + x.size) (2 ^ 62) && true)) here ∙ ap (λ (b : Bool). b && true) room
laid_after n (y ∷ ys) x h e l =
    let k = and_parts (y.start == n) (nat_lt (n + y.size) (2 ^ 62) && are_laid (n + y.size) ys) h in
    let m = and_parts (nat_lt (n + y.size) (2 ^ 62)) (are_laid (n + y.size) ys) k.1 in
    let on = laid_after (n + y.size) ys x m.1 (omega (arith, e)) (omega (arith, l)) in
    ap (λ (b : Bool). b && (nat_lt (n + y.size) (2 ^ 62) && are_laid (n + y.size) (ys ++ x ∷ []))) k.0 ∙ ap (λ (b : Bool). b && are_laid (n + y.size) (ys ++ x ∷ [])) m.0 ∙ on

counted_after : (xs : List Variable) (x : Variable) → count_of (xs ++ x ∷ []) ≡ count_of xs + x.size
counted_after [] x = omega arith
counted_after (y ∷ ys) x = let k = counted_after ys x in omega (arith, k)

-- so many variables, none larger than the most elements of an array
pub laid_next : (xs : List Variable) (i : ℕ) (x : Variable) → i ≤ 2 ^ 32 → x.size ≤ most_elements → are_laid 0 xs ≡ true → x.start ≡ count_of xs → x.start ≤ i * most_elements → are_laid 0 (xs ++ x ∷ []) ≡ true
laid_next xs i x few small h e l = laid_after 0 xs x h (omega (arith, e)) (omega (arith, few, small, e, l))

pub counted_next : (xs : List Variable) (x : Variable) → x.start ≡ count_of xs → x.start + x.size ≡ count_of (xs ++ x ∷ [])
counted_next xs x e = let k = counted_after xs x in omega (arith, e, k)

-- the names of variables are those of the symbols
names_same : (xs : List Variable) (ss : List Symbol) → variables_in xs ≡ variables_for ss → names_in xs ≡ names_of ss
names_same [] [] h = refl
names_same [] (s ∷ ss) h = cc
names_same (x ∷ xs) [] h = cc
names_same (x ∷ xs) (s ∷ ss) h =
    let first : ◌≡◌ {A = List ℕ × ℕ} (x.name.letters, x.size) (s.name, size s.sort) = cc in
    let rest : variables_in xs ≡ variables_for ss = cc in
    ap (λ (n : List ℕ). n ∷ names_in xs) (ap (λ (p : List ℕ × ℕ). p.0) first) ∙ ap (λ (ns : List (List ℕ)). s.name ∷ ns) (names_same xs ss rest)

unlike : (x y : List ℕ) → same_name x y ≡ false → same_name y x ≡ false
unlike x y h = nat_list_eq_equiv.symm y x ∙ h

not_among : (x : List ℕ) (ns : List (List ℕ)) → AllByRecursion (λ n. same_name x n ≡ false) ns → is_among x ns ≡ false
not_among x [] h = refl
not_among x (n ∷ ns) h = ap (λ (b : Bool). b || is_among x ns) (unlike x n h.0) ∙ not_among x ns h.1

distinct_names : (ns : List (List ℕ)) → IsDistinct same_name ns → are_distinct ns ≡ true
unfolding IsDistinct
distinct_names [] h = refl
distinct_names (n ∷ ns) h = ap (λ (b : Bool). not b && are_distinct ns) (not_among n ns h.0) ∙ distinct_names ns h.1

pub distinct_law : (xs : List Variable) (ss : List Symbol) → IsDistinct same_name (names_of ss) → variables_in xs ≡ variables_for ss → are_distinct (names_in xs) ≡ true
distinct_law xs ss d h = ap are_distinct (names_same xs ss h) ∙ distinct_names (names_of ss) d

-- ---- room

short_below : (n : ℕ) → short n < 2 ^ 32 - 1 → n < 2 ^ 32
short_below n h = by (nat_lt n (2 ^ 32)) refl h
  where
    by : (b : Bool) → nat_lt n (2 ^ 32) ≡ b → (if b then n else 2 ^ 32 - 1) < 2 ^ 32 - 1 → n < 2 ^ 32
    by true e k = ltb-true n (2 ^ 32) e
    by false e k = absurd (omega (arith, k))

-- where 32 bits hold the room they tell it
pub room_law : (t : ProgramTree) (m n r : ℕ) → m ≡ short (block_room (plain_block t.block)) → n ≡ short (block_loops (plain_block t.block)) → r ≡ short (room_of t) → r < 2 ^ 32 - 1 → (m ≡ block_room (plain_block t.block)) × (n ≡ block_loops (plain_block t.block))
room_law t m n r e f g h =
    let k = short_below (room_of t) (omega (arith, g, h)) in
    let i = le-max_left (block_room (plain_block t.block)) (block_loops (plain_block t.block)) in
    let j = le-max_right (block_room (plain_block t.block)) (block_loops (plain_block t.block)) in
    (e ∙ short_is (block_room (plain_block t.block)) (omega (arith, i, k)), f ∙ short_is (block_loops (plain_block t.block)) (omega (arith, j, k)))

-- which is then less than the greatest of them
pub little_room : (t : ProgramTree) (r : ℕ) → r ≡ short (room_of t) → r < 2 ^ 32 - 1 → room_of t < most_room
little_room t r e h = let k = short_below (room_of t) (omega (arith, e, h)) in let s = short_is (room_of t) k in omega (arith, e, h, s)

-- and where they don't, there is more
pub much_room : (t : ProgramTree) (r : ℕ) → r ≡ short (room_of t) → r ≡ 2 ^ 32 - 1 → most_room ≤ room_of t
much_room t r e f = by (nat_lt (room_of t) (2 ^ 32)) refl (sym f ∙ e)
  where
    by : (b : Bool) → nat_lt (room_of t) (2 ^ 32) ≡ b → 2 ^ 32 - 1 ≡ (if b then room_of t else 2 ^ 32 - 1) → most_room ≤ room_of t
    by true q k = omega (arith, k)
    by false q k = by_size (ltb-false (room_of t) (2 ^ 32) q)
      where
        by_size : 2 ^ 32 ≤ room_of t → most_room ≤ room_of t
        by_size l = omega (arith, l)

-- ---- the headline

-- any loop, for numbers past the last
none_such : Planned
none_such = record { loop = loop_at None 0 0 (record { variable = record { name = []; id = 0; cell = 0 }; first = constant (pos 0); last = constant (pos 0); step = None; terminal = 0 }) no_nodes; plan = record { body = plan.no_nodes; privates = []; relations = [] } }

-- the code is that of the program with the loops opened that these reports open
pub record IsMade (p : Program) (reports : List LoopReport) (code : Code) : Type 0 where
  pub code_is : IsCodeOf (program_of p) (opened_of (program_of p) reports) code
  pub told : Reports (program_of p) reports

pub are_told : (p : Program) (ls : List Loop) (lines : List ℕ) (reports : List LoopReport) → ls ≡ loops_of (program_of p).block → lines ≡ block_lines (program_of p).block → AreReports ls lines ls reports → Reports (program_of p) reports
are_told p ls lines reports all lined told = subst (λ ms. AreReports ms (block_lines (program_of p).block) ms reports) all (subst (λ ns. AreReports ls ns ls reports) lined told)

pub made : (p : Program) (ls : List Loop) (lines : List ℕ) (reports seen : List LoopReport) (code : Code) → ls ≡ loops_of (program_of p).block → lines ≡ block_lines (program_of p).block → AreReports ls lines ls reports → seen ≡ reports
    → IsCodeOf (program_of p) (planned_in ls seen) code → IsMade p reports code
made p ls lines reports seen code all lined told same is =
    let planned : planned_in ls seen ≡ opened_of (program_of p) reports = ap (λ ms. planned_in ms seen) all ∙ ap (λ rs. planned_in (loops_of (program_of p).block) rs) same in
    record { code_is = subst (λ xs. IsCodeOf (program_of p) xs code) planned is; told = are_told p ls lines reports all lined told }

module _ (p : Program) (reports : List LoopReport) (code : Code) (is : IsMade p reports code) where
  abbrev t : ProgramTree
  t = program_of p

  abbrev xs : List Planned
  xs = opened_of (program_of p) reports

  abbrev w : IsCodeOf (program_of p) (opened_of (program_of p) reports) code
  w = is.code_is

  known : (n : ℕ) → n < length (opened_of (program_of p) reports) → Known (loops_of (program_of p).block) (loops_of (program_of p).block) (get_or (opened_of (program_of p) reports) n none_such)
  known n h = known_at (loops_of (program_of p).block) (block_lines (program_of p).block) none_such (loops_of (program_of p).block) reports is.told n h

  opens : (n : ℕ) → n < length (opened_of (program_of p) reports) → Opens (program_of p).symbols (get_or (opened_of (program_of p) reports) n none_such)
  opens n h =
      let k = known n h in
      accepted (program_of p) p.distinct p.placed p.numbered p.regular w.few_symbols (get_or (opened_of (program_of p) reports) n none_such) k.among k.good k.same k.once

  pub opened_law : AreOpened (program_of p) (opened_of (program_of p) reports)
  opened_law = are_opened (loops_of (program_of p).block) (block_lines (program_of p).block) (loops_of (program_of p).block) reports is.told

  pub headline_law : Headline code (program_of p)
  headline_law = headline (program_of p) (opened_of (program_of p) reports) none_such code w p.distinct p.sized p.placed p.numbered p.fitting (λ n h. (known n h).among) opens

  pub ends_law : Ends code
  ends_law = ends (program_of p) (opened_of (program_of p) reports) none_such code w p.distinct p.sized p.placed p.numbered p.fitting (λ n h. (known n h).among) opens

  pub bounded_law : Bounded code (program_of p)
  bounded_law = bounded (program_of p) (opened_of (program_of p) reports) none_such code w p.distinct p.sized p.placed p.numbered p.fitting (λ n h. (known n h).among) opens

  pub carried_law : Carried code (program_of p)
  carried_law = carried (program_of p) (opened_of (program_of p) reports) none_such code w p.distinct p.sized p.placed p.numbered p.fitting (λ n h. (known n h).among) opens

  pub states_law : AreAsAlone (program_of p) code (opened_of (program_of p) reports)
  states_law = states (program_of p) (opened_of (program_of p) reports) none_such code w p.distinct p.sized p.placed p.numbered p.fitting (λ n h. (known n h).among) opens

  pub way_law : AreOnTheWay (program_of p) code (opened_of (program_of p) reports)
  way_law = way (program_of p) (opened_of (program_of p) reports) none_such code w p.distinct p.sized p.placed p.numbered p.fitting (λ n h. (known n h).among) opens

  pub awaits_law : AreAwaitsKept (opened_of (program_of p) reports)
  awaits_law = awaits_kept (program_of p).block (opened_of (program_of p) reports) none_such known

-- ---- one symbol more

pub names_next : (xs : List Variable) (ss : List Symbol) (x : Variable) (s : Symbol) → variables_in xs ≡ variables_for ss → x.name.letters ≡ s.name → x.size ≡ size s.sort → variables_in (xs ++ x ∷ []) ≡ variables_for (ss ++ s ∷ [])
names_next [] [] x s h e f = ap (λ (n : List ℕ). (n, x.size) ∷ []) e ∙ ap (λ (m : ℕ). (s.name, m) ∷ []) f
names_next [] (t ∷ ss) x s h e f = cc
names_next (y ∷ xs) [] x s h e f = cc
names_next (y ∷ xs) (t ∷ ss) x s h e f =
    let first : ◌≡◌ {A = List ℕ × ℕ} (y.name.letters, y.size) (t.name, size t.sort) = cc in
    let rest : variables_in xs ≡ variables_for ss = cc in
    ap (λ (p : List ℕ × ℕ). p ∷ variables_in (xs ++ x ∷ [])) first ∙ ap (λ (ps : List (List ℕ × ℕ)). (t.name, size t.sort) ∷ ps) (names_next xs ss x s rest e f)

pub sized_at : (ss : List Named) (i : ℕ) (s : Named) → list_all is_sized (map symbol ss) ≡ true → i < length ss → s ≡ get_or ss i s → is_sized (symbol s) ≡ true
sized_at [] i s h l e = absurd (omega (arith, l))
sized_at (t ∷ ss) zero s h l e = ap (λ (z : Named). is_sized (symbol z)) e ∙ (and_parts (is_sized (symbol t)) (list_all is_sized (map symbol ss)) h).0
sized_at (t ∷ ss) (suc i) s h l e = sized_at ss i s (and_parts (is_sized (symbol t)) (list_all is_sized (map symbol ss)) h).1 (omega (arith, l)) e

pub small_symbol : (s : Symbol) → is_sized s ≡ true → size s.sort ≤ most_elements
small_symbol s h = leb-true (size s.sort) most_elements (and_parts (list_all (λ d. not (int_lt d.upper d.lower)) (dimensions_of s.sort)) (nat_le (size s.sort) most_elements) h).1

pub symbols_next : (ss : List Named) (i : ℕ) (s : Named) → i < length ss → s ≡ get_or ss i s → map symbol (take i ss) ++ symbol s ∷ [] ≡ map symbol (take (i + 1) ss)
symbols_next [] i s l e = absurd (omega (arith, l))
symbols_next (t ∷ ss) zero s l e = ap (λ (z : Named). symbol z ∷ []) e
symbols_next (t ∷ ss) (suc i) s l e =
    let on : suc (i + 1) ≡ suc i + 1 = omega arith in
    ap (λ (zs : List Symbol). symbol t ∷ zs) (symbols_next ss i s (omega (arith, l)) e) ∙ ap (λ (n : ℕ). map symbol (take n (t ∷ ss))) on

pub none_refused : (a b : Bool) → false ≡ (a && b) → a ≡ true → b ≡ true → ⊥
none_refused true true h e f = cc
none_refused true false h e f = cc
none_refused false b h e f = cc

-- ---- refusals

pub refused_law : (t : ProgramTree) (xs : List Planned) → AreOpened t xs → (r : Refusal) → RefusesWith t xs r → Refuses t r
refused_law t ys opened Memory w = tt
refused_law t ys opened (Refused rule line) w = (w.0, w.1, (ys, opened, w.2))

short_at_most : (n : ℕ) → short n ≤ 2 ^ 32 - 1
short_at_most n = by (nat_lt n (2 ^ 32)) refl
  where
    by : (b : Bool) → nat_lt n (2 ^ 32) ≡ b → (if b then n else 2 ^ 32 - 1) ≤ 2 ^ 32 - 1
    by true e = let k = ltb-true n (2 ^ 32) e in omega (arith, k)
    by false e = omega arith

pub not_full : (r n : ℕ) → r ≡ short n → (r ≡ 2 ^ 32 - 1 → ⊥) → r < 2 ^ 32 - 1
not_full r n e apart = by (cases_eq r (2 ^ 32 - 1)) (short_at_most n)
  where
    by : (r ≡ 2 ^ 32 - 1) ⊎ (r ≡ 2 ^ 32 - 1 → ⊥) → short n ≤ 2 ^ 32 - 1 → r < 2 ^ 32 - 1
    by (inl z) m = absurd (apart z)
    by (inr z) m = omega (arith, e, m, z)
