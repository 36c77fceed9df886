-- How many steps a run has, where the program doesn't break off, or one iteration is open at a
-- time, or no loop is opened: those that neither park nor pick up what was parked are the same
-- number in every run, and no run has more than three times as many.
use Rattle.std.proofs.Common.{◌≡◌, ◌∙◌, ℕ, zero, suc, ◌+◌, ◌*◌, ◌-◌, ◌<◌, ◌≤◌, ℤ, List, [], ◌∷◌, ◌++◌, length, Option, Some, None, ◌⊎◌, inl, inr, refl, sym, ap, subst, ⊎_elim, arith, length-append}
use Rattle.std.proofs.lemmas.Bool.{cases_eq, cases_lt}
use Rattle.std.proofs.lemmas.Option.{same_Some}
use Rattle.ast.specs.Input.{records_of}
use Rattle.ast.specs.Store.{StoreOf, zeros}
use Rattle.ast.specs.declared.fault.End.{End}
use Rattle.machine.specs.Code.{Cell}
use Rattle.machine.specs.Solo.{Still, Weighs, Weight}
use Rattle.machine.specs.State.{State, Wait, until_count, until_retired, the_main, iteration, Reached, park, Step, Run, initial, put_at, put_cells, end_of}
use Rattle.machine.specs.View.{Cause, failure, stop_at, Input, View}
use Rattle.machine.proofs.Puts.{put_same}
use Rattle.codegen.proofs.IterationLaws.{put_other}
use Rattle.codegen.proofs.IterationSteps.{Process, load, await, fault, leave, gone, after, run, Whole, went, stopped, add, going, joined, finish, sequential}
use Rattle.codegen.proofs.LoopRuns.{pasts, finished, faulted}
use Rattle.codegen.proofs.OneStep.{IsNarrow}
use Rattle.codegen.proofs.ProgramGoes.{goes_on, good_init}
use Rattle.codegen.proofs.ProgramMoves.{Change, acted, parks, picks, begins, works, opens_up, joins, main_parks, main_picked, ends_main, breaks_off, step_out}
use Rattle.codegen.proofs.ProgramStanding.{WaitsFor, MainStands, Loops, Ghost, between, within, inner, Between, Within, Good, Final}
use Rattle.codegen.proofs.Outcomes.{Outcome, done, failed, then_do}
use Rattle.codegen.proofs.ProgramSteps.{Main, take, keep, say, get, work, crash, halt, open_loop, astray, seen, whole, Here, meaning, alone_is, solo, sizes, alone_steps}

abbrev pub sum : ℕ → ℕ → (ℕ → ℕ) → ℕ
sum zero k f = 0
sum (suc n) k f = f k + sum n (suc k) f

sum_more : (n k j : ℕ) (f g : ℕ → ℕ) → k ≤ j → j < k + n → ((i : ℕ) → (i ≡ j → ⊥) → f i ≤ g i) → f j + 1 ≤ g j → sum n k f + 1 ≤ sum n k g
sum_more zero k j f g le lt h at = absurd (omega arith)
sum_more (suc n) k j f g le lt h at = ⊎_elim
    (λ e.
    let a = subst (λ x. f x + 1 ≤ g x) (sym e) at in
    let b = sum_le_above n (suc k) f g (λ i l. h i (λ q. absurd (omega arith))) in
    omega arith)
    (λ ne. let a = h k ne in let b = sum_more n (suc k) j f g (omega arith) (omega arith) h at in omega arith)
    (cases_eq k j)
  where
    sum_le_above : (n k : ℕ) (f g : ℕ → ℕ) → ((i : ℕ) → k ≤ i → f i ≤ g i) → sum n k f ≤ sum n k g
    sum_le_above zero k f g h = omega arith
    sum_le_above (suc n) k f g h = let a = h k (omega arith) in let b = sum_le_above n (suc k) f g (λ i l. h i (omega arith)) in omega arith

sum_exact : (n k j : ℕ) (f g : ℕ → ℕ) → k ≤ j → j < k + n → ((i : ℕ) → (i ≡ j → ⊥) → f i ≡ g i) → f j + 1 ≡ g j → sum n k f + 1 ≡ sum n k g
sum_exact zero k j f g le lt h at = absurd (omega arith)
sum_exact (suc n) k j f g le lt h at = ⊎_elim
    (λ e.
    let a = subst (λ x. f x + 1 ≡ g x) (sym e) at in
    let b = same n (suc k) (λ i l. h i (λ q. absurd (omega arith))) in
    omega arith)
    (λ ne. let a = h k ne in let b = sum_exact n (suc k) j f g (omega arith) (omega arith) h at in omega arith)
    (cases_eq k j)
  where
    same : (n k : ℕ) → ((i : ℕ) → k ≤ i → f i ≡ g i) → sum n k f ≡ sum n k g
    same zero k h = refl
    same (suc n) k h = let a = h k (omega arith) in let b = same n (suc k) (λ i l. h i (omega arith)) in omega arith

sum_pasts : (past : ℕ → List ℤ) (n k : ℕ) → sizes (pasts past n k) ≡ sum n k (λ i. length (past i))
sum_pasts past zero k = refl
sum_pasts past (suc n) k = let h = sum_pasts past n (suc k) in omega arith

sum_none : (n k : ℕ) → sum n k (λ i. 0) ≡ 0
sum_none zero k = refl
sum_none (suc n) k = let h = sum_none n (suc k) in omega arith

-- who stands at a wait has something left, or breaks off
something : (P : Process) (k : ℕ) (w : Wait) → WaitsFor P k w → (τ : StoreOf) → (1 ≤ length (run P τ).values) ⊎ ((f : Cause) × ((run P τ).bad ≡ Some f))
something (await e d P) k w h τ = inl (omega arith)
something (leave xs) k w h τ = inl (omega arith)
something (fault f) k w h τ = inr (f, refl)
something (load r c κ) k w h τ = absurd h
something _ k w h τ = absurd h

one_wait : (P : Process) (k : ℕ) (w x : Wait) → WaitsFor P k w → WaitsFor P k x → w ≡ x
one_wait (await e d P) k w x a b = a ∙ sym b
one_wait (leave xs) k w x a b = a ∙ sym b
one_wait (fault f) k w x a b = a ∙ sym b
one_wait (load r c κ) k w x a b = absurd a
one_wait _ k w x a b = absurd a

abbrev AtMost : ℕ → Whole → Type 0
AtMost x (went ls τ) = x ≤ 3 * sizes ls
AtMost x (stopped ls f) = Unit {0}

most_add : (x y : ℕ) (vs : List ℤ) (w : Whole) → y ≤ 3 * length vs → AtMost x w → AtMost (y + x) (add vs w)
most_add x y vs (went ls τ) a b = omega arith
most_add x y vs (stopped ls f) a b = tt

most_going : (x y : ℕ) (bad : Option Cause) (vs : List ℤ) (τ : StoreOf) (next : StoreOf → Whole) → (bad ≡ None → y ≤ 3 * length vs) → AtMost x (next τ) → AtMost (y + x) (going bad vs τ next)
most_going x y None vs τ next a b = most_add x y vs (next τ) (a refl) b
most_going x y (Some f) vs τ next a b = tt

sized : (start : ℕ → Process) (past : ℕ → List ℤ) (phase : ℕ → ℕ) → ((i : ℕ) → phase i ≤ 2) → ((i : ℕ) → 0 < phase i → (w : Wait) × WaitsFor (after (start i) (past i)) i w)
    → (n k : ℕ) (τ : StoreOf) → AtMost (sum n k (λ i. 3 * length (past i) + phase i)) (finish start past n k τ)
sized start past phase small waits zero k τ = omega arith
sized start past phase small waits (suc n) k τ =
    let r = run (after (start k) (past k)) τ in
    most_going (sum n (suc k) (λ i. 3 * length (past i) + phase i)) (3 * length (past k) + phase k) r.bad (past k ++ r.values) r.end (finish start past n (suc k))
    (λ none.
    let len = length-append (past k) r.values in
    let s = small k in
    ⊎_elim
    (λ pos. ⊎_elim (λ some. omega arith) (λ f. let bad : None ≡ Some f.0 = sym none ∙ f.1 in absurd cc) (something (after (start k) (past k)) k (waits k pos).0 (waits k pos).1 τ))
    (λ z. omega arith)
    (cases_lt 0 (phase k)))
    (sized start past phase small waits n (suc k) r.end)

-- a loop in a program that does not break off does not break off
loop_fine : (start : ℕ → Process) (o : List ℕ) (w : Whole) (go : StoreOf → List ℕ → Outcome) (τ : StoreOf) (t : List ℕ) → then_do (seen start o w) go ≡ done τ t → (ls : List (List ℤ)) × (υ : StoreOf) × (w ≡ went ls υ)
loop_fine start o (went ls υ) go τ t e = (ls, υ, refl)
loop_fine start o (stopped ls f) go τ t e = cc

still_reached : {F L : Type 0} (m n : State F L) (w : Wait) → ((e : ℕ) → m.counts e ≤ n.counts e) → m.retired ≤ n.retired → Reached m w → Reached n w
still_reached m n (until_count e v) g r h = let a = g e in omega arith
still_reached m n (until_retired v) g r h = omega arith

pasts_length : (past : ℕ → List ℤ) (n k : ℕ) → length (pasts past n k) ≡ n
pasts_length past zero k = refl
pasts_length past (suc n) k = let h = pasts_length past n (suc k) in omega arith

sizes-append : (ls ms : List (List ℤ)) → sizes (ls ++ ms) ≡ sizes ls + sizes ms
sizes-append [] ms = omega arith
sizes-append (vs ∷ ls) ms = let h = sizes-append ls ms in omega arith

sum_zero : (n k : ℕ) (f : ℕ → ℕ) → ((i : ℕ) → k ≤ i → f i ≡ 0) → sum n k f ≡ 0
sum_zero zero k f h = refl
sum_zero (suc n) k f h = let a = h k (omega arith) in let b = sum_zero n (suc k) f (λ i l. h i (omega arith)) in omega arith

-- a sum of which nothing is past the top
sum_above : (n k top : ℕ) (f : ℕ → ℕ) → k ≤ top → top < k + n → ((i : ℕ) → top < i → f i ≡ 0) → sum n k f ≡ sum (top - k) k f + f top
sum_above zero k top f le lt h = absurd (omega arith)
sum_above (suc n) k top f le lt h = ⊎_elim
    (λ e.
    let z : top - k ≡ 0 = omega arith in
    let a = sum_zero n (suc k) f (λ i l. h i (omega arith)) in
    let b = ap f e in
    let d = ap (λ x. sum x k f) z in omega arith)
    (λ ne.
    let z : top - k ≡ suc (top - suc k) = omega arith in
    let a = sum_above n (suc k) top f (omega arith) (omega arith) h in
    let d = ap (λ x. sum x k f) z in omega arith)
    (cases_eq k top)

-- where only the lowest, low, is open: y iterations have begun from here on
abbrev NarrowMost : ℕ → ℕ → Whole → Type 0
NarrowMost x y (went ls τ) = Unit {0}
NarrowMost x y (stopped ls f) = (x ≤ 3 * sizes ls + 2) × (y ≤ length ls)

narrow_add : (x y z : ℕ) (vs : List ℤ) (w : Whole) → z ≤ 3 * length vs → NarrowMost x y w → NarrowMost (z + x) (y + 1) (add vs w)
narrow_add x y z vs (went ls τ) a b = tt
narrow_add x y z vs (stopped ls f) a b = let c = b.0 in let d = b.1 in (omega arith, omega arith)

narrow_top : (x z : ℕ) (bad : Option Cause) (vs : List ℤ) (τ : StoreOf) (next : StoreOf → Whole) → x ≡ 0 → z ≤ 3 * length vs + 2 → NarrowMost (z + x) 1 (going bad vs τ next)
narrow_top x z None vs τ next e h = by (next τ)
  where
    by : (w : Whole) → NarrowMost (z + x) 1 (add vs w)
    by (went ls υ) = tt
    by (stopped ls f) = (omega arith, omega arith)
narrow_top x z (Some f) vs τ next e h = (omega arith, omega arith)

narrow_sized : (start : ℕ → Process) (past : ℕ → List ℤ) (phase : ℕ → ℕ) → ((i : ℕ) → phase i ≤ 2) → (low : ℕ) → ((i : ℕ) → i < low → (after (start i) (past i) ≡ gone) × (phase i ≡ 0)) → ((i : ℕ) → low < i → (past i ≡ []) × (phase i ≡ 0))
    → (n k y : ℕ) → k ≤ low → low < k + n → y ≡ low + 1 - k → (τ : StoreOf) → NarrowMost (sum n k (λ i. 3 * length (past i) + phase i)) y (finish start past n k τ)
narrow_sized start past phase small low below above zero k y le lt is τ = absurd (omega arith)
narrow_sized start past phase small low below above (suc n) k y le lt is τ = ⊎_elim
    (λ e.
    let r = run (after (start k) (past k)) τ in
    let s = small k in
    let len = length-append (past k) r.values in
    let zero_rest = sum_zero n (suc k) (λ i. 3 * length (past i) + phase i) (λ i l. let a = above i (omega arith) in let b = a.1 in let d = ap length a.0 in omega arith) in
    let one : 1 ≡ y = omega arith in
    subst (λ y. NarrowMost (sum (suc n) k (λ i. 3 * length (past i) + phase i)) y (finish start past (suc n) k τ)) one
    (narrow_top (sum n (suc k) (λ i. 3 * length (past i) + phase i)) (3 * length (past k) + phase k) r.bad (past k ++ r.values) r.end (finish start past n (suc k)) zero_rest (omega arith)))
    (λ ne.
    let g = below k (omega arith) in
    let none = g.1 in
    let len = length-append (past k) [] in
    let one : (low - k) + 1 ≡ y = omega arith in
    let h = narrow_sized start past phase small low below above n (suc k) (low - k) (omega arith) (omega arith) (omega arith) τ in
    subst (λ y. NarrowMost (sum (suc n) k (λ i. 3 * length (past i) + phase i)) y (finish start past (suc n) k τ)) one
    (subst (λ P. NarrowMost ((3 * length (past k) + phase k) + sum n (suc k) (λ i. 3 * length (past i) + phase i)) ((low - k) + 1) (joined (past k) (run P τ) (finish start past n (suc k)))) (sym g.0)
    (narrow_add (sum n (suc k) (λ i. 3 * length (past i) + phase i)) (low - k) (3 * length (past k) + phase k) (past k ++ []) (finish start past n (suc k) τ) (omega arith) h)))
    (cases_eq k low)

final_broke : {F L : Type 0} (c : Cause) (n : State F L) {answer : Outcome} → Final (end_of c) n answer → answer ≡ failed c n.output
final_broke (failure e line) n h = h
final_broke (stop_at line) n h = h

module _ (F L : Type 0) (view : F → View F L) (trips : L → ℕ) (begin : L → ℕ → F) (slots : ℕ) (Hidden Fixed : L → Cell → Type 0) (Named : L → ℕ → Type 0) (start : L → StoreOf → ℕ → Process) (Valid : L → Type 0) (p : ℕ) (origin : Here L) (answer : Outcome) (means : (x : Outcome) → meaning L trips start x origin ≡ answer)
    (loops : Loops F L view trips begin Hidden Fixed Named start Valid) where
  abbrev G : Ghost L → State F L → Type 0
  G g m = Good F L view trips begin Hidden Fixed start Valid p origin answer g m

  abbrev all : ℕ
  all = solo L trips start origin.main origin.store origin.input

  -- the program doesn't break off, or one iteration is open at a time, or no loop is opened
  abbrev pub Mode : Type 0
  Mode = ((τ : StoreOf) × (t : List ℕ) × (answer ≡ done τ t)) ⊎ ((slots ≡ 1) ⊎ ((l : L) → Valid l → ⊥))

  pub record CountBetween (M : Main L) (m : State F L) (steps acting : ℕ) : Type 0 where
    pub extra : ℕ  -- 1 from main's first pick on
    pub small : extra ≤ 1
    pub parked : (w : Wait) → m.waiting ≡ Some w → extra ≡ 0
    pub bound : steps + 3 * solo L trips start M m.store m.input ≤ 3 * all + extra
    pub exact : acting + solo L trips start M m.store m.input ≡ all

  -- what the loop and all after it take
  abbrev pub cost : L → StoreOf → List (Cell × ℤ) → Main L → Input → ℕ
  cost l ι xs M i = alone_steps (sequential (start l ι) (trips l) ι) (trips l) (λ τ. solo L trips start M (put_cells τ xs) i)

  -- phase: 1 while parked, 2 from the pick to the next action; main_phase: main's, at the join
  pub record CountWithin (l : L) (ι : StoreOf) (past : ℕ → List ℤ) (xs : List (Cell × ℤ)) (M : Main L) (m : State F L) (steps acting : ℕ) : Type 0 where
    pub narrow : m.ticket ≤ m.retired + slots
    pub phase : ℕ → ℕ
    pub small : (k : ℕ) → phase k ≤ 2
    pub parked : (k : ℕ) (w : Wait) → m.parked k ≡ Some w → phase k ≡ 1
    pub one : (k : ℕ) → phase k ≡ 1 → (w : Wait) × (m.parked k ≡ Some w)
    pub ready : (k : ℕ) → phase k ≡ 2 → (w : Wait) × WaitsFor (after (start l ι k) (past k)) k w × Reached m w
    pub begun : (k : ℕ) → phase k ≡ 2 → k < m.ticket
    pub main_phase : ℕ
    pub main_small : main_phase ≤ 2
    pub main_parked : (w : Wait) → m.waiting ≡ Some w → main_phase ≡ 1
    pub main_one : main_phase ≡ 1 → (w : Wait) × (m.waiting ≡ Some w)
    pub main_ready : main_phase ≡ 2 → trips l ≤ m.retired
    pub bound : steps + 3 * cost l ι xs M m.input ≤ 3 * all + 2 + (sum (trips l) 0 (λ k. 3 * length (past k) + phase k) + m.ticket + main_phase)
    pub exact : acting + cost l ι xs M m.input ≡ all + 1 + sum (trips l) 0 (λ k. length (past k)) + m.ticket

  abbrev pub Counted : Ghost L → State F L → ℕ → ℕ → Type 0
  Counted (between M) m steps acting = CountBetween M m steps acting
  Counted (within l ι past before xs M) m steps acting = CountWithin l ι past xs M m steps acting

  acting_is : (m n : State F L) (b : ℕ) → Still m n → Weighs m n b → b ≡ 1
  acting_is m n b s w = ⊎_elim (λ a. a.0) (λ a. absurd (a.1 s)) w

  waiting_is : (m n : State F L) (b : ℕ) → (Still m n → ⊥) → Weighs m n b → b ≡ 0
  waiting_is m n b s w = ⊎_elim (λ a. absurd (s a.1)) (λ a. a.0) w

  module _ (l : L) (ι : StoreOf) (past : ℕ → List ℤ) (before : List ℕ) (xs : List (Cell × ℤ)) (M : Main L) (m n : State F L) (q : ℕ) (good : G (within l ι past before xs M) m) (steps acting b : ℕ) (c : CountWithin l ι past xs M m steps acting) where
    abbrev W : Within F L view trips begin Hidden Fixed start Valid p origin answer l ι past before xs M m
    W = good.kept

    count_acted : (k : ℕ) (v : ℤ) → m.held q ≡ Some (iteration k) → n.parked ≡ m.parked → n.waiting ≡ m.waiting → n.ticket ≡ m.ticket → ((e : ℕ) → m.counts e ≤ n.counts e) → m.retired ≤ n.retired → n.input ≡ m.input → b ≡ 1
        → CountWithin l ι (put_at past k (past k ++ v ∷ [])) xs M n (steps + 1) (acting + b)
    count_acted k v hold ep ew et grew rose ei one_more =
        let same_cost : cost l ι xs M n.input ≡ cost l ι xs M m.input = ap (cost l ι xs M) ei in
        let here = (good.places).holds q k hold in
        let tk = W.ticket in
        let past' = put_at past k (past k ++ v ∷ []) in
        let phase' = put_at c.phase k 0 in
        let at = put_same c.phase k 0 in
        let off : (i : ℕ) → (i ≡ k → ⊥) → past' i ≡ past i = λ i ne. put_other past k (past k ++ v ∷ []) i ne in
        let len : length (past' k) ≡ length (past k) + 1 = ap length (put_same past k (past k ++ v ∷ [])) ∙ length-append (past k) (v ∷ []) in
        record {
          narrow = let z = c.narrow in omega arith;
          phase = phase';
          small = λ i. ⊎_elim (λ x. subst (λ y. phase' y ≤ 2) (sym x) (omega arith)) (λ ne. let a = put_other c.phase k 0 i ne in let z = c.small i in omega arith) (cases_eq i k);
          parked = λ i w h.
              let h' : m.parked i ≡ Some w = ap (λ f. f i) (sym ep) ∙ h in
              let ne : i ≡ k → ⊥ = λ x. (good.places).apart q k w hold (subst (λ y. m.parked y ≡ Some w) x h') in
              put_other c.phase k 0 i ne ∙ c.parked i w h';
          one = λ i h. ⊎_elim
              (λ x. let z = subst (λ y. phase' y ≡ 1) x h in absurd (omega arith))
              (λ ne. let o = c.one i (sym (put_other c.phase k 0 i ne) ∙ h) in (o.0, ap (λ f. f i) ep ∙ o.1))
              (cases_eq i k);
          ready = λ i h. ⊎_elim
              (λ x. let z = subst (λ y. phase' y ≡ 2) x h in absurd (omega arith))
              (λ ne. let o = c.ready i (sym (put_other c.phase k 0 i ne) ∙ h) in (o.0, subst (λ vs. WaitsFor (after (start l ι i) vs) i o.0) (sym (off i ne)) o.1, still_reached m n o.0 grew rose o.2))
              (cases_eq i k);
          begun = λ i h. ⊎_elim
              (λ x. let z = subst (λ y. phase' y ≡ 2) x h in absurd (omega arith))
              (λ ne. let o = c.begun i (sym (put_other c.phase k 0 i ne) ∙ h) in omega arith)
              (cases_eq i k);
          main_phase = c.main_phase;
          main_small = c.main_small;
          main_parked = λ w h. c.main_parked w (sym ew ∙ h);
          main_one = λ h. let o = c.main_one h in (o.0, ew ∙ o.1);
          main_ready = λ h. let o = c.main_ready h in omega arith;
          bound =
              let s = c.small k in
              let more = sum_more (trips l) 0 k (λ i. 3 * length (past i) + c.phase i) (λ i. 3 * length (past' i) + phase' i) (omega arith) (omega arith)
              (λ i ne. let a = put_other c.phase k 0 i ne in let z = ap length (off i ne) in omega arith) (omega arith) in
              let z = c.bound in omega arith;
          exact =
              let more = sum_exact (trips l) 0 k (λ i. length (past i)) (λ i. length (past' i)) (omega arith) (omega arith) (λ i ne. sym (ap length (off i ne))) (sym len) in
              let z = c.exact in omega arith;
        }

    -- the phase of k goes one up
    phase_up : (k x : ℕ) → k < trips l → x ≡ c.phase k + 1
        → steps + 1 + 3 * cost l ι xs M m.input ≤ 3 * all + 2 + (sum (trips l) 0 (λ i. 3 * length (past i) + put_at c.phase k x i) + m.ticket + c.main_phase)
    phase_up k x lt is =
        let at = put_same c.phase k x in
        let more = sum_more (trips l) 0 k (λ i. 3 * length (past i) + c.phase i) (λ i. 3 * length (past i) + put_at c.phase k x i) (omega arith) (omega arith)
        (λ i ne. let a = put_other c.phase k x i ne in omega arith) (omega arith) in
        let z = c.bound in omega arith

    count_parks : (k : ℕ) (w : Wait) → m.held q ≡ Some (iteration k) → (Reached m w → ⊥) → WaitsFor (after (start l ι k) (past k)) k w → b ≡ 0
        → CountWithin l ι past xs M (park m q k w) (steps + 1) (acting + b)
    count_parks k w hold no_w wf none_more =
        let here = (good.places).holds q k hold in
        let tk = W.ticket in
        let s = c.small k in
        let not_one : c.phase k ≡ 1 → ⊥ = λ h. let o = c.one k h in (good.places).apart q k o.0 hold o.1 in
        let not_two : c.phase k ≡ 2 → ⊥ = λ h. let o = c.ready k h in no_w (subst (Reached m) (one_wait (after (start l ι k) (past k)) k o.0 w o.1 wf) o.2) in
        let none : c.phase k ≡ 0 = ⊎_elim (λ z. z) (λ nz. ⊎_elim (λ x. absurd (not_one x)) (λ nx. absurd (not_two (omega arith))) (cases_eq (c.phase k) 1)) (cases_eq (c.phase k) 0) in
        record {
          narrow = c.narrow;
          begun = λ i h. ⊎_elim
              (λ z. let a = put_same c.phase k 1 in let y = subst (λ y. put_at c.phase k 1 y ≡ 2) z h in absurd (omega arith))
              (λ ne. c.begun i (sym (put_other c.phase k 1 i ne) ∙ h))
              (cases_eq i k);
          phase = put_at c.phase k 1;
          small = λ i. ⊎_elim (λ x. let a = put_same c.phase k 1 in subst (λ y. put_at c.phase k 1 y ≤ 2) (sym x) (omega arith)) (λ ne. let a = put_other c.phase k 1 i ne in let z = c.small i in omega arith) (cases_eq i k);
          parked = λ i x h. ⊎_elim
              (λ z. subst (λ y. put_at c.phase k 1 y ≡ 1) (sym z) (put_same c.phase k 1))
              (λ ne. put_other c.phase k 1 i ne ∙ c.parked i x (sym (put_other m.parked k (Some w) i ne) ∙ h))
              (cases_eq i k);
          one = λ i h. ⊎_elim
              (λ z. (w, subst (λ y. put_at m.parked k (Some w) y ≡ Some w) (sym z) (put_same m.parked k (Some w))))
              (λ ne. let o = c.one i (sym (put_other c.phase k 1 i ne) ∙ h) in (o.0, put_other m.parked k (Some w) i ne ∙ o.1))
              (cases_eq i k);
          ready = λ i h. ⊎_elim
              (λ z. let a = put_same c.phase k 1 in let y = subst (λ y. put_at c.phase k 1 y ≡ 2) z h in absurd (omega arith))
              (λ ne. let o = c.ready i (sym (put_other c.phase k 1 i ne) ∙ h) in (o.0, o.1, still_reached m (park m q k w) o.0 (λ e. omega arith) (omega arith) o.2))
              (cases_eq i k);
          main_phase = c.main_phase;
          main_small = c.main_small;
          main_parked = c.main_parked;
          main_one = c.main_one;
          main_ready = c.main_ready;
          bound = phase_up k 1 (omega arith) (omega arith);
          exact = let z = c.exact in omega arith;
        }

    count_picks : (k : ℕ) (w : Wait) → m.parked k ≡ Some w → Reached m w → b ≡ 0 → CountWithin l ι past xs M (record m { parked = put_at m.parked k None; held = put_at m.held q (Some (iteration k)) }) (steps + 1) (acting + b)
    count_picks k w at re none_more =
        let o = (good.places).waits k w at in
        let wf = W.waits k w at in
        let tk = W.ticket in
        let was = c.parked k w at in
        record {
          narrow = c.narrow;
          begun = λ i h. ⊎_elim
              (λ z. subst (λ y. y < m.ticket) (sym z) o.1)
              (λ ne. c.begun i (sym (put_other c.phase k 2 i ne) ∙ h))
              (cases_eq i k);
          phase = put_at c.phase k 2;
          small = λ i. ⊎_elim (λ x. let a = put_same c.phase k 2 in subst (λ y. put_at c.phase k 2 y ≤ 2) (sym x) (omega arith)) (λ ne. let a = put_other c.phase k 2 i ne in let z = c.small i in omega arith) (cases_eq i k);
          parked = λ i x h. ⊎_elim
              (λ z. let a = put_same m.parked k None in let d = subst (λ y. put_at m.parked k None y ≡ Some x) z h in let bad : None ≡ Some x = sym a ∙ d in cc)
              (λ ne. put_other c.phase k 2 i ne ∙ c.parked i x (sym (put_other m.parked k None i ne) ∙ h))
              (cases_eq i k);
          one = λ i h. ⊎_elim
              (λ z. let a = put_same c.phase k 2 in let y = subst (λ y. put_at c.phase k 2 y ≡ 1) z h in absurd (omega arith))
              (λ ne. let u = c.one i (sym (put_other c.phase k 2 i ne) ∙ h) in (u.0, put_other m.parked k None i ne ∙ u.1))
              (cases_eq i k);
          ready = λ i h. ⊎_elim
              (λ z. (w, subst (λ y. WaitsFor (after (start l ι y) (past y)) y w) (sym z) wf, still_reached m (record m { parked = put_at m.parked k None; held = put_at m.held q (Some (iteration k)) }) w (λ e. omega arith) (omega arith) re))
              (λ ne. let u = c.ready i (sym (put_other c.phase k 2 i ne) ∙ h) in (u.0, u.1, still_reached m (record m { parked = put_at m.parked k None; held = put_at m.held q (Some (iteration k)) }) u.0 (λ e. omega arith) (omega arith) u.2))
              (cases_eq i k);
          main_phase = c.main_phase;
          main_small = c.main_small;
          main_parked = c.main_parked;
          main_one = c.main_one;
          main_ready = c.main_ready;
          bound = phase_up k 2 (omega (arith, o.1)) (omega arith);
          exact = let z = c.exact in omega arith;
        }

    count_begins : n.parked ≡ m.parked → n.waiting ≡ m.waiting → n.ticket ≡ m.ticket + 1 → n.counts ≡ m.counts → n.retired ≡ m.retired → m.ticket < m.retired + slots → n.input ≡ m.input → b ≡ 1 → CountWithin l ι past xs M n (steps + 1) (acting + b)
    count_begins ep ew et ec el room ei one_more = let same_cost : cost l ι xs M n.input ≡ cost l ι xs M m.input = ap (cost l ι xs M) ei in record {
      narrow = omega arith;
      begun = λ i h. let o = c.begun i h in omega arith;
      phase = c.phase;
      small = c.small;
      parked = λ i w h. c.parked i w (ap (λ f. f i) (sym ep) ∙ h);
      one = λ i h. let o = c.one i h in (o.0, ap (λ f. f i) ep ∙ o.1);
      ready = λ i h. let o = c.ready i h in (o.0, o.1, still_reached m n o.0 (λ e. let z = ap (λ f. f e) ec in omega arith) (omega arith) o.2);
      main_phase = c.main_phase;
      main_small = c.main_small;
      main_parked = λ w h. c.main_parked w (sym ew ∙ h);
      main_one = λ h. let o = c.main_one h in (o.0, ew ∙ o.1);
      main_ready = λ h. let o = c.main_ready h in omega arith;
      bound = let z = c.bound in omega arith;
      exact = let z = c.exact in omega arith;
    }

    count_main_parks : m.held q ≡ Some the_main → m.retired < trips l → b ≡ 0 → CountWithin l ι past xs M (record m { waiting = Some (until_retired (trips l)); held = put_at m.held q None }) (steps + 1) (acting + b)
    count_main_parks hold lt none_more =
        let s = c.main_small in
        let not_one : c.main_phase ≡ 1 → ⊥ = λ h. let o = c.main_one h in (good.places).main_apart q o.0 hold o.1 in
        let not_two : c.main_phase ≡ 2 → ⊥ = λ h. let o = c.main_ready h in absurd (omega arith) in
        let none : c.main_phase ≡ 0 = ⊎_elim (λ z. z) (λ nz. ⊎_elim (λ x. absurd (not_one x)) (λ nx. absurd (not_two (omega arith))) (cases_eq c.main_phase 1)) (cases_eq c.main_phase 0) in
        record {
          narrow = c.narrow;
          begun = c.begun;
          phase = c.phase;
          small = c.small;
          parked = c.parked;
          one = c.one;
          ready = λ i h. let o = c.ready i h in (o.0, o.1, still_reached m (record m { waiting = Some (until_retired (trips l)); held = put_at m.held q None }) o.0 (λ e. omega arith) (omega arith) o.2);
          main_phase = 1;
          main_small = omega arith;
          main_parked = λ w h. refl;
          main_one = λ h. (until_retired (trips l), refl);
          main_ready = λ h. absurd (omega arith);
          bound = let z = c.bound in omega arith;
          exact = let z = c.exact in omega arith;
        }

    count_main_picked : (w : Wait) → m.waiting ≡ Some w → Reached m w → b ≡ 0 → CountWithin l ι past xs M (record m { waiting = None; held = put_at m.held q (Some the_main) }) (steps + 1) (acting + b)
    count_main_picked w at re none_more =
        let was = c.main_parked w at in
        let is = W.waits_main w at in
        let full : trips l ≤ m.retired = subst (Reached m) is re in
        record {
          narrow = c.narrow;
          begun = c.begun;
          phase = c.phase;
          small = c.small;
          parked = c.parked;
          one = c.one;
          ready = λ i h. let o = c.ready i h in (o.0, o.1, still_reached m (record m { waiting = None; held = put_at m.held q (Some the_main) }) o.0 (λ e. omega arith) (omega arith) o.2);
          main_phase = 2;
          main_small = omega arith;
          main_parked = λ w h. cc;
          main_one = λ h. absurd (omega arith);
          main_ready = λ h. full;
          bound = let z = c.bound in omega arith;
          exact = let z = c.exact in omega arith;
        }

    waits_so : (i : ℕ) → 0 < c.phase i → (w : Wait) × WaitsFor (after (start l ι i) (past i)) i w
    waits_so i pos = ⊎_elim
        (λ one. let o = c.one i one in (o.0, W.waits i o.0 o.1))
        (λ ne. let s = c.small i in let o = c.ready i (omega arith) in (o.0, o.1))
        (cases_eq (c.phase i) 1)

    -- what the loop's steps come to, so far
    loop_most : AtMost (sum (trips l) 0 (λ k. 3 * length (past k) + c.phase k)) (sequential (start l ι) (trips l) ι)
    loop_most = subst (AtMost (sum (trips l) 0 (λ k. 3 * length (past k) + c.phase k))) (W.inv).same (sized (start l ι) past c.phase c.small waits_so (trips l) 0 m.store)

    count_joins : m.held q ≡ Some the_main → trips l ≤ m.retired → n.waiting ≡ m.waiting → n.store ≡ put_cells m.store xs → n.input ≡ m.input → b ≡ 1 → CountBetween M n (steps + 1) (acting + b)
    count_joins hold le ew ec ei one_more =
        let inside = (W.inv).within in
        let tk = W.ticket in
        let bh = (good.places).behind in
        let is : m.retired ≡ trips l = omega arith in
        let fin = finished (start l ι) (trips l) (Named l) (loops.plan l W.valid ι) ι (inner m past) W.inv is in
        let size = sum_pasts past (trips l) 0 in
        let is_cost : cost l ι xs M m.input ≡ 2 + trips l + sizes (pasts past (trips l) 0) + solo L trips start M (put_cells m.store xs) m.input = ap (λ w. alone_steps w (trips l) (λ τ. solo L trips start M (put_cells τ xs) m.input)) fin in
        let left : solo L trips start M n.store n.input ≡ solo L trips start M (put_cells m.store xs) m.input = ap (λ (σ : StoreOf). solo L trips start M σ n.input) ec ∙ ap (solo L trips start M (put_cells m.store xs)) ei in
        let most : sum (trips l) 0 (λ k. 3 * length (past k) + c.phase k) ≤ 3 * sizes (pasts past (trips l) 0) = subst (AtMost (sum (trips l) 0 (λ k. 3 * length (past k) + c.phase k))) fin loop_most in
        let s = c.main_small in
        record {
          extra = 0;
          small = omega arith;
          parked = λ w h. refl;
          bound = let z = c.bound in omega arith;
          exact = let z = c.exact in omega arith;
        }

    -- where one iteration is open at a time, what is past the lowest has not begun
    no_phase : (i : ℕ) → (c.phase i ≡ 1 → ⊥) → (c.phase i ≡ 2 → ⊥) → c.phase i ≡ 0
    no_phase i a b = let s = c.small i in ⊎_elim (λ z. z) (λ nz. ⊎_elim (λ x. absurd (a x)) (λ nx. absurd (b (omega arith))) (cases_eq (c.phase i) 1)) (cases_eq (c.phase i) 0)

    above : slots ≡ 1 → (i : ℕ) → m.retired < i → (past i ≡ []) × (c.phase i ≡ 0)
    above one_slot i lt =
        let z = c.narrow in
        (W.fresh i (omega arith), no_phase i (λ h. let o = c.one i h in let y = (good.places).waits i o.0 o.1 in absurd (omega arith)) (λ h. let o = c.begun i h in absurd (omega arith)))

    below_low : (i : ℕ) → i < m.retired → (after (start l ι i) (past i) ≡ gone) × (c.phase i ≡ 0)
    below_low i lt =
        let g = (W.inv).retired i lt in (
          g,
          no_phase i (λ h. let o = c.one i h in let y = (good.places).waits i o.0 o.1 in absurd (omega arith))
              (λ h. let o = c.ready i h in absurd (subst (λ P. WaitsFor P i o.0) g o.1)),
        )

    narrow_most : slots ≡ 1 → (x : Whole) → sequential (start l ι) (trips l) ι ≡ x → sum (trips l) 0 (λ k. 3 * length (past k) + c.phase k) + m.ticket + 4 ≤ 3 * alone_steps x (trips l) (λ τ. solo L trips start M (put_cells τ xs) m.input)
    narrow_most one_slot (went ls τ) e =
        let most : sum (trips l) 0 (λ k. 3 * length (past k) + c.phase k) ≤ 3 * sizes ls = subst (AtMost (sum (trips l) 0 (λ k. 3 * length (past k) + c.phase k))) e loop_most in
        let tk = W.ticket in omega arith
    narrow_most one_slot (stopped ls f) e =
        let inside = (W.inv).within in
        let nr = c.narrow in
        ⊎_elim
        (λ lt.
        let x : NarrowMost (sum (trips l) 0 (λ k. 3 * length (past k) + c.phase k)) (m.retired + 1) (stopped ls f)
        = subst (NarrowMost (sum (trips l) 0 (λ k. 3 * length (past k) + c.phase k)) (m.retired + 1)) ((W.inv).same ∙ e)
        (narrow_sized (start l ι) past c.phase c.small m.retired below_low (above one_slot) (trips l) 0 (m.retired + 1) (omega arith) (omega arith) (omega arith) m.store) in
        let a = x.0 in let b = x.1 in omega arith)
        (λ ge.
        let is : m.retired ≡ trips l = omega arith in
        let fin = finished (start l ι) (trips l) (Named l) (loops.plan l W.valid ι) ι (inner m past) W.inv is in
        let z : stopped ls f ≡ went (pasts past (trips l) 0) m.store = sym e ∙ fin in absurd cc)
        (cases_lt m.retired (trips l))

    -- in a loop there are not yet too many
    within_most : Mode → steps ≤ 3 * all
    within_most (inl fine) =
        let so = W.sofar in
        let is : then_do (seen (start l ι) before (sequential (start l ι) (trips l) ι)) (λ τ t. whole L trips start answer M (put_cells τ xs) m.input t) ≡ done fine.0 fine.1 = ap (meaning L trips start answer) (sym so.1) ∙ alone_is L trips start answer so.0 origin ∙ means answer ∙ fine.2 in
        let f = loop_fine (start l ι) before (sequential (start l ι) (trips l) ι) (λ τ t. whole L trips start answer M (put_cells τ xs) m.input t) fine.0 fine.1 is in
        let is_cost : cost l ι xs M m.input ≡ 2 + trips l + sizes f.0 + solo L trips start M (put_cells f.1 xs) m.input = ap (λ w. alone_steps w (trips l) (λ τ. solo L trips start M (put_cells τ xs) m.input)) f.2 in
        let most : sum (trips l) 0 (λ k. 3 * length (past k) + c.phase k) ≤ 3 * sizes f.0 = subst (AtMost (sum (trips l) 0 (λ k. 3 * length (past k) + c.phase k))) f.2 loop_most in
        let z = c.bound in let s = c.main_small in let tk = W.ticket in omega arith
    within_most (inr (inr none)) = absurd (none l W.valid)
    within_most (inr (inl one_slot)) = let most = narrow_most one_slot (sequential (start l ι) (trips l) ι) refl in let z = c.bound in let s = c.main_small in omega arith

    -- the step by which the lowest breaks off is the last of those that count
    breaks_exact : slots ≡ 1 → (f : Cause) → m.held q ≡ Some (iteration m.retired) → m.retired < trips l → after (start l ι m.retired) (past m.retired) ≡ fault f → acting + 1 ≡ all
    breaks_exact one_slot f hold lt eq =
        let here = (good.places).holds q m.retired hold in
        let nr = c.narrow in
        let is = faulted (start l ι) (trips l) (Named l) (loops.plan l W.valid ι) ι (inner m past) W.inv f lt eq in
        let is_cost : cost l ι xs M m.input ≡ 2 + length (pasts past m.retired 0 ++ past m.retired ∷ []) + sizes (pasts past m.retired 0 ++ past m.retired ∷ []) = ap (λ w. alone_steps w (trips l) (λ τ. solo L trips start M (put_cells τ xs) m.input)) is in
        let len = length-append (pasts past m.retired 0) (past m.retired ∷ []) in
        let count = pasts_length past m.retired 0 in
        let size = sizes-append (pasts past m.retired 0) (past m.retired ∷ []) in
        let sums = sum_pasts past m.retired 0 in
        let rest = sum_above (trips l) 0 m.retired (λ i. length (past i)) (omega arith) (omega arith) (λ i gt. ap length (above one_slot i gt).0) in
        let e : m.retired - 0 ≡ m.retired = omega arith in
        let d = ap (λ x. sum x 0 (λ i. length (past i))) e in
        let z = c.exact in omega arith

  module _ (M : Main L) (m n : State F L) (q : ℕ) (good : G (between M) m) (steps acting b : ℕ) (c : CountBetween M m steps acting) where
    count_works : (M' : Main L) → n.waiting ≡ m.waiting → solo L trips start M m.store m.input ≡ 1 + solo L trips start M' n.store n.input → b ≡ 1 → CountBetween M' n (steps + 1) (acting + b)
    count_works M' ew less one_more = record {
      extra = c.extra;
      small = c.small;
      parked = λ w h. c.parked w (sym ew ∙ h);
      bound = let z = c.bound in omega arith;
      exact = let z = c.exact in omega arith;
    }

    count_main_first : (w : Wait) → m.waiting ≡ Some w → b ≡ 0 → CountBetween M (record m { waiting = None; held = put_at m.held q (Some the_main) }) (steps + 1) (acting + b)
    count_main_first w at none_more =
        let was = c.parked w at in
        record {
          extra = 1;
          small = omega arith;
          parked = λ x h. cc;
          bound = let z = c.bound in omega arith;
          exact = let z = c.exact in omega arith;
        }

  solo_some : (M : Main L) (σ : StoreOf) (i : Input) → 1 ≤ solo L trips start M σ i
  solo_some (open_loop l xs M) σ i = by (sequential (start l σ) (trips l) σ)
    where
      by : (w : Whole) → 1 ≤ alone_steps w (trips l) (λ τ. solo L trips start M (put_cells τ xs) i)
      by (went ls τ) = omega arith
      by (stopped ls f) = omega arith
  solo_some (take c κ) σ i = omega arith
  solo_some (keep c v M) σ i = omega arith
  solo_some (say v M) σ i = omega arith
  solo_some (get ρ κ) σ i = omega arith
  solo_some (work M) σ i = omega arith
  solo_some (crash f) σ i = omega arith
  solo_some halt σ i = omega arith
  solo_some astray σ i = omega arith

  -- at the opening
  count_opens : (l : L) (xs : List (Cell × ℤ)) (M : Main L) (m n : State F L) (q : ℕ) → G (between (open_loop l xs M)) m → (steps acting b : ℕ) → CountBetween (open_loop l xs M) m steps acting
      → m.held q ≡ Some the_main → ((i : ℕ) (w : Wait) → n.parked i ≡ Some w → ⊥) → n.waiting ≡ m.waiting → n.ticket ≡ 0 → n.input ≡ m.input → b ≡ 1 → CountWithin l m.store (λ k. []) xs M n (steps + 1) (acting + b)
  count_opens l xs M m n q good steps acting b c hold none ew et ei one_more =
      let same_cost : cost l m.store xs M n.input ≡ cost l m.store xs M m.input = ap (cost l m.store xs M) ei in
      let s = c.small in
      let zero_sum = sum_none (trips l) 0 in
      record {
        narrow = omega arith;
        begun = λ k h. absurd (omega arith);
        phase = λ k. 0;
        small = λ k. omega arith;
        parked = λ k w h. absurd (none k w h);
        one = λ k h. absurd (omega arith);
        ready = λ k h. absurd (omega arith);
        main_phase = 0;
        main_small = omega arith;
        main_parked = λ w h. absurd ((good.places).main_apart q w hold (sym ew ∙ h));
        main_one = λ h. absurd (omega arith);
        main_ready = λ h. absurd (omega arith);
        bound = let z = c.bound in omega arith;
        exact = let z = c.exact in omega arith;
      }

  module _ (mode : Mode) where
    -- what is counted in a state: while it goes on, and where it has ended
    pub record Tally (g : Ghost L) (m : State F L) (steps acting : ℕ) : Type 0 where
      pub going : m.ended ≡ None → Counted g m steps acting
      pub most : steps ≤ 3 * all
      pub last : (e : End) → m.ended ≡ Some e → acting ≡ all

    between_tally : (M : Main L) (m : State F L) (steps acting : ℕ) → m.ended ≡ None → CountBetween M m steps acting → Tally (between M) m steps acting
    between_tally M m steps acting going c = record {
      going = λ e. c;
      most = let some = solo_some M m.store m.input in let z = c.bound in let s = c.small in omega arith;
      last = λ e h. cc;
    }

    within_tally : (l : L) (ι : StoreOf) (past : ℕ → List ℤ) (before : List ℕ) (xs : List (Cell × ℤ)) (M : Main L) (n : State F L) (steps acting : ℕ) → n.ended ≡ None → G (within l ι past before xs M) n → CountWithin l ι past xs M n steps acting → Tally (within l ι past before xs M) n steps acting
    within_tally l ι past before xs M n steps acting going good c = record {
      going = λ e. c;
      most = within_most l ι past before xs M n n 0 good steps acting 0 c mode;
      last = λ e h. cc;
    }

    -- one step
    tally_by : (g g' : Ghost L) (m n : State F L) (q : ℕ) → m.ended ≡ None → G g m → G g' n → Change F L trips slots start m n q g g' → (steps acting b : ℕ) → Counted g m steps acting → Weighs m n b → Tally g' n (steps + 1) (acting + b)
    tally_by g g' m n q on good good' (acted l ι past before xs M k v eg eg' hold ep ew et grew rose going ei) steps acting b c w =
        subst (λ x. Tally x n (steps + 1) (acting + b)) (sym eg')
        (within_tally l ι (put_at past k (past k ++ v ∷ [])) before xs M n (steps + 1) (acting + b) going (subst (λ x. G x n) eg' good')
        (count_acted l ι past before xs M m n q (subst (λ x. G x m) eg good) steps acting b (subst (λ x. Counted x m steps acting) eg c) k v hold ep ew et grew rose ei (acting_is m n b (ep, ew) w)))
    tally_by g g' m n q on good good' (parks l ι past before xs M k x eg eg' hold unreached wf is) steps acting b c w =
        let P = good.places in
        let moved : Still m n → ⊥ = λ s. P.apart q k x hold (ap (λ f. f k) (sym s.0) ∙ ap (λ y. y.parked k) is ∙ put_same m.parked k (Some x)) in
        subst (λ x. Tally x n (steps + 1) (acting + b)) (sym (eg' ∙ eg))
        (within_tally l ι past before xs M n (steps + 1) (acting + b) (ap (λ y. y.ended) is ∙ on) (subst (λ x. G x n) (eg' ∙ eg) good')
        (subst (λ y. CountWithin l ι past xs M y (steps + 1) (acting + b)) (sym is)
        (count_parks l ι past before xs M m n q (subst (λ x. G x m) eg good) steps acting b (subst (λ x. Counted x m steps acting) eg c) k x hold unreached wf (waiting_is m n b moved w))))
    tally_by g g' m n q on good good' (picks l ι past before xs M k x eg eg' at re is) steps acting b c w =
        let moved : Still m n → ⊥ = λ s. let z : None ≡ Some x = sym (put_same m.parked k None) ∙ ap (λ y. y.parked k) (sym is) ∙ ap (λ f. f k) s.0 ∙ at in cc in
        subst (λ x. Tally x n (steps + 1) (acting + b)) (sym (eg' ∙ eg))
        (within_tally l ι past before xs M n (steps + 1) (acting + b) (ap (λ y. y.ended) is ∙ on) (subst (λ x. G x n) (eg' ∙ eg) good')
        (subst (λ y. CountWithin l ι past xs M y (steps + 1) (acting + b)) (sym is)
        (count_picks l ι past before xs M m n q (subst (λ x. G x m) eg good) steps acting b (subst (λ x. Counted x m steps acting) eg c) k x at re (waiting_is m n b moved w))))
    tally_by g g' m n q on good good' (begins l ι past before xs M eg eg' ep ew et ec el room going ei) steps acting b c w =
        subst (λ x. Tally x n (steps + 1) (acting + b)) (sym (eg' ∙ eg))
        (within_tally l ι past before xs M n (steps + 1) (acting + b) going (subst (λ x. G x n) (eg' ∙ eg) good')
        (count_begins l ι past before xs M m n q (subst (λ x. G x m) eg good) steps acting b (subst (λ x. Counted x m steps acting) eg c) ep ew et ec el room ei (acting_is m n b (ep, ew) w)))
    tally_by g g' m n q on good good' (works M M' eg eg' hold ep ew going less is_next) steps acting b c w =
        subst (λ x. Tally x n (steps + 1) (acting + b)) (sym eg')
        (between_tally M' n (steps + 1) (acting + b) going
        (count_works M m n q (subst (λ x. G x m) eg good) steps acting b (subst (λ x. Counted x m steps acting) eg c) M' ew less (acting_is m n b (ep, ew) w)))
    tally_by g g' m n q on good good' (opens_up l xs M eg eg' hold ep ew et going ei) steps acting b c w =
        let P = good.places in
        let B : Between F L view trips begin Hidden Fixed start Valid p origin answer (open_loop l xs M) m = (subst (λ x. G x m) eg good).kept in
        subst (λ x. Tally x n (steps + 1) (acting + b)) (sym eg')
        (within_tally l m.store (λ k. []) m.output xs M n (steps + 1) (acting + b) going (subst (λ x. G x n) eg' good')
        (count_opens l xs M m n q (subst (λ x. G x m) eg good) steps acting b (subst (λ x. Counted x m steps acting) eg c) hold
        (λ i x h. let o = P.waits i x (ap (λ f. f i) (sym ep) ∙ h) in let e = B.none in absurd (omega arith)) ew et ei (acting_is m n b (ep, ew) w)))
    tally_by g g' m n q on good good' (joins l ι past before xs M eg eg' hold le ep ew going ec ei is_next) steps acting b c w =
        subst (λ x. Tally x n (steps + 1) (acting + b)) (sym eg')
        (between_tally M n (steps + 1) (acting + b) going
        (count_joins l ι past before xs M m n q (subst (λ x. G x m) eg good) steps acting b (subst (λ x. Counted x m steps acting) eg c) hold le ew ec ei (acting_is m n b (ep, ew) w)))
    tally_by g g' m n q on good good' (main_parks l ι past before xs M eg eg' hold lt is) steps acting b c w =
        let P = good.places in
        let moved : Still m n → ⊥ = λ s. P.main_apart q (until_retired (trips l)) hold (sym s.1 ∙ ap (λ y. y.waiting) is) in
        subst (λ x. Tally x n (steps + 1) (acting + b)) (sym (eg' ∙ eg))
        (within_tally l ι past before xs M n (steps + 1) (acting + b) (ap (λ y. y.ended) is ∙ on) (subst (λ x. G x n) (eg' ∙ eg) good')
        (subst (λ y. CountWithin l ι past xs M y (steps + 1) (acting + b)) (sym is)
        (count_main_parks l ι past before xs M m n q (subst (λ x. G x m) eg good) steps acting b (subst (λ x. Counted x m steps acting) eg c) hold lt (waiting_is m n b moved w))))
    tally_by g g' m n q on good good' (main_picked x eg' at re is) steps acting b c w =
        let moved : Still m n → ⊥ = λ s. let z : None ≡ Some x = ap (λ y. y.waiting) (sym is) ∙ s.1 ∙ at in cc in
        subst (λ x. Tally x n (steps + 1) (acting + b)) (sym eg')
        (picked g good (subst (λ x. G x n) eg' good') c (waiting_is m n b moved w))
      where
        picked : (g : Ghost L) → G g m → G g n → Counted g m steps acting → b ≡ 0 → Tally g n (steps + 1) (acting + b)
        picked (between M) good good' c z =
            between_tally M n (steps + 1) (acting + b) (ap (λ y. y.ended) is ∙ on)
            (subst (λ y. CountBetween M y (steps + 1) (acting + b)) (sym is) (count_main_first M m n q good steps acting b c x at z))
        picked (within l ι past before xs M) good good' c z =
            within_tally l ι past before xs M n (steps + 1) (acting + b) (ap (λ y. y.ended) is ∙ on) good'
            (subst (λ y. CountWithin l ι past xs M y (steps + 1) (acting + b)) (sym is) (count_main_picked l ι past before xs M m n q good steps acting b c x at re z))
    tally_by g g' m n q on good good' (ends_main M e eg eg' is last ep ew stays) steps acting b c w =
        let C : CountBetween M m steps acting = subst (λ x. Counted x m steps acting) eg c in
        let one_more = acting_is m n b (ep, ew) w in
        record {
          going = λ h. let z : None ≡ Some e = sym h ∙ is in absurd cc;
          most = let z = C.bound in let s = C.small in omega arith;
          last = λ x h. let z = C.exact in omega arith;
        }
    tally_by g g' m n q on good good' (breaks_off l ι past before xs M f eg eg' hold lt eq is ep ew et) steps acting b c w =
        let C : CountWithin l ι past xs M m steps acting = subst (λ x. Counted x m steps acting) eg c in
        let one_more = acting_is m n b (ep, ew) w in
        ⊎_elim
        (λ fine. let z : done fine.0 fine.1 ≡ failed f n.output = sym fine.2 ∙ final_broke f n (good'.final (end_of f) is) in absurd cc)
        (λ other. ⊎_elim
        (λ one_slot. record {
          going = λ h. let z : None ≡ Some (end_of f) = sym h ∙ is in absurd cc;
          most =
              let most = narrow_most l ι past before xs M m n q (subst (λ x. G x m) eg good) steps acting b C one_slot (sequential (start l ι) (trips l) ι) refl in
              let s = C.main_small in
              let not_ready : C.main_phase ≡ 2 → ⊥ = λ h. let o = C.main_ready h in absurd (omega arith) in
              let z = C.bound in ⊎_elim (λ h. absurd (not_ready h)) (λ ne. omega arith) (cases_eq C.main_phase 2);
          last = λ x h. let z = breaks_exact l ι past before xs M m n q (subst (λ x. G x m) eg good) steps acting b C one_slot f hold lt eq in omega arith;
        })
        (λ none. let K : Within F L view trips begin Hidden Fixed start Valid p origin answer l ι past before xs M m = (subst (λ x. G x m) eg good).kept in absurd (none l K.valid))
        other)
        mode

    tally_run : (qs : List ℕ) (g : Ghost L) (m n : State F L) → G g m → (steps acting : ℕ) → Tally g m steps acting → (r : Run F L view trips begin slots p m qs n) → (w : ℕ) → Weight F L view trips begin slots p m qs n r w
        → (h : Ghost L) × G h n × Tally h n (steps + length qs) (acting + w)
    tally_run [] g m n good steps acting c r w wt =
        let e : steps ≡ steps + 0 = omega arith in
        let f : acting ≡ acting + w = omega arith in
        subst (λ x. (h : Ghost L) × G h x × Tally h x (steps + 0) (acting + w)) r (g, good, subst (λ x. Tally g m x (acting + w)) e (subst (λ x. Tally g m steps x) f c))
    tally_run (q ∷ qs) g m n good steps acting c r w wt =
        let o = step_out F L view trips begin slots Hidden Fixed Named start Valid p origin answer means loops g m r.0 q r.1 good r.2 in
        let on = (r.2).going in
        let d = tally_by g o.ghost m r.0 q on good o.good o.how steps acting wt.0 (c.going on) wt.2 in
        let rest = tally_run qs o.ghost r.0 n o.good (steps + 1) (acting + wt.0) d r.3 wt.1 wt.3 in
        let e : steps + 1 + length qs ≡ steps + length (q ∷ qs) = omega arith in
        let f : acting + wt.0 + wt.1 ≡ acting + w = let z = wt.4 in omega arith in
        (rest.0, rest.1, subst (λ x. Tally rest.0 n x (acting + w)) e (subst (λ x. Tally rest.0 n (steps + 1 + length qs) x) f rest.2))

    -- each step counts or does not
    weigh : (g g' : Ghost L) (m n : State F L) (q : ℕ) → G g m → Change F L trips slots start m n q g g' → (b : ℕ) × Weighs m n b
    weigh g g' m n q good (acted l ι past before xs M k v eg eg' hold ep ew et grew rose on ei) = (1, inl (refl, (ep, ew)))
    weigh g g' m n q good (parks l ι past before xs M k x eg eg' hold unreached wf is) =
        let P = good.places in
        (0, inr (refl, λ s. P.apart q k x hold (ap (λ f. f k) (sym s.0) ∙ ap (λ y. y.parked k) is ∙ put_same m.parked k (Some x))))
    weigh g g' m n q good (picks l ι past before xs M k x eg eg' at re is) =
        (0, inr (refl, λ s. let z : None ≡ Some x = sym (put_same m.parked k None) ∙ ap (λ y. y.parked k) (sym is) ∙ ap (λ f. f k) s.0 ∙ at in cc))
    weigh g g' m n q good (begins l ι past before xs M eg eg' ep ew et ec el room on ei) = (1, inl (refl, (ep, ew)))
    weigh g g' m n q good (works M M' eg eg' hold ep ew on less is_next) = (1, inl (refl, (ep, ew)))
    weigh g g' m n q good (opens_up l xs M eg eg' hold ep ew et on ei) = (1, inl (refl, (ep, ew)))
    weigh g g' m n q good (joins l ι past before xs M eg eg' hold le ep ew on ec ei is_next) = (1, inl (refl, (ep, ew)))
    weigh g g' m n q good (main_parks l ι past before xs M eg eg' hold lt is) =
        let P = good.places in
        (0, inr (refl, λ s. P.main_apart q (until_retired (trips l)) hold (sym s.1 ∙ ap (λ y. y.waiting) is)))
    weigh g g' m n q good (main_picked x eg' at re is) = (0, inr (refl, λ s. let z : None ≡ Some x = ap (λ y. y.waiting) (sym is) ∙ s.1 ∙ at in cc))
    weigh g g' m n q good (ends_main M e eg eg' is last ep ew stays) = (1, inl (refl, (ep, ew)))
    weigh g g' m n q good (breaks_off l ι past before xs M f eg eg' hold lt eq is ep ew et) = (1, inl (refl, (ep, ew)))

    weight_of : (qs : List ℕ) (g : Ghost L) (m n : State F L) → G g m → (r : Run F L view trips begin slots p m qs n) → (w : ℕ) × Weight F L view trips begin slots p m qs n r w
    weight_of [] g m n good r = (0, refl)
    weight_of (q ∷ qs) g m n good r =
        let o = step_out F L view trips begin slots Hidden Fixed Named start Valid p origin answer means loops g m r.0 q r.1 good r.2 in
        let b = weigh g o.ghost m r.0 q good o.how in
        let v = weight_of qs o.ghost r.0 n o.good r.3 in
        (b.0 + v.0, (b.0, v.0, b.1, v.1, refl))

    -- with one open iteration no two things may be taken up
    narrow_of : slots ≡ 1 → (g : Ghost L) (m : State F L) → G g m → (steps acting : ℕ) → Counted g m steps acting → IsNarrow F L trips m
    narrow_of e (between M) m good steps acting c =
        let B : Between F L view trips begin Hidden Fixed start Valid p origin answer M m = good.kept in
        record {
          narrow = let z = B.none in omega arith;
          behind = (good.places).behind;
          below = λ l h. let z : None ≡ Some l = sym B.loop ∙ h in cc;
          parked = (good.places).waits;
          within = λ k w h. let o = (good.places).waits k w h in let z = B.none in absurd (omega arith);
          joined = λ w l h i r. let z : None ≡ Some l = sym B.loop ∙ i in cc;
        }
    narrow_of e (within l ι past before xs M) m good steps acting c =
        let W : Within F L view trips begin Hidden Fixed start Valid p origin answer l ι past before xs M m = good.kept in
        record {
          narrow = let z = c.narrow in omega arith;
          behind = (good.places).behind;
          below = λ j h. subst (λ (i : L). m.ticket ≤ trips i) (same_Some l j (sym W.loop ∙ h)) W.ticket;
          parked = (good.places).waits;
          within = λ k w h. (l, W.loop);
          joined = λ w j h i r. subst (λ (x : L). trips x ≤ m.retired) (same_Some l j (sym W.loop ∙ i)) (subst (Reached m) (W.waits_main w h) r);
        }

    abbrev ToEnd : State F L → Type 0
    ToEnd m = (qs : List ℕ) × (n : State F L) × Run F L view trips begin slots p m qs n × (e : End) × (n.ended ≡ Some e)

    -- any run can be carried to its end
    to_end : 0 < p → 0 < slots → (fuel : ℕ) (g : Ghost L) (m : State F L) → G g m → (steps acting : ℕ) → Tally g m steps acting → 3 * all < steps + fuel → ToEnd m
    to_end some_p some_s zero g m good steps acting c room = let z = c.most in absurd (omega arith)
    to_end some_p some_s (suc fuel) g m good steps acting c room =
        by m.ended refl (λ q n below st.
        let o = step_out F L view trips begin slots Hidden Fixed Named start Valid p origin answer means loops g m n q below good st in
        let b = weigh g o.ghost m n q good o.how in
        to_end some_p some_s fuel o.ghost n o.good (steps + 1) (acting + b.0) (tally_by g o.ghost m n q st.going good o.good o.how steps acting b.0 (c.going st.going) b.1) (omega arith))
      where
        by : (o : Option End) → m.ended ≡ o → ((q : ℕ) (n : State F L) → q < p → Step F L view trips begin slots m q n → ToEnd n) → ToEnd m
        by (Some x) e on = ([], m, refl, x, e)
        by None e on =
            let a = goes_on F L view trips begin slots Hidden Fixed Named start Valid p origin answer means loops g m good e some_p some_s in
            let r = on a.0 a.2 a.1 a.3 in
            (a.0 ∷ r.0, r.1, (a.2, a.1, a.3, r.2), r.3, r.4)

-- for a program that doesn't break off, and for every program where one iteration is open at a
-- time, or no loop is opened
module _ (F L : Type 0) (view : F → View F L) (trips : L → ℕ) (begin : L → ℕ → F) (slots : ℕ) (Hidden Fixed : L → Cell → Type 0) (Named : L → ℕ → Type 0) (start : L → StoreOf → ℕ → Process) (Valid : L → Type 0) (p : ℕ)
    (loops : Loops F L view trips begin Hidden Fixed Named start Valid) (M : Main L) (f : F) (input : List ℕ) (answer : Outcome) (means : (x : Outcome) → whole L trips start x M zeros (record { left = []; records = records_of input }) [] ≡ answer) (st : MainStands F L view Valid M f)
    (mode : ((τ : StoreOf) × (t : List ℕ) × (answer ≡ done τ t)) ⊎ ((slots ≡ 1) ⊎ ((l : L) → Valid l → ⊥))) where
  abbrev origin : Here L
  origin = record { main = M; store = zeros; input = record { left = []; records = records_of input }; output = [] }

  -- how many steps the program makes alone
  abbrev pub alone_takes : ℕ
  alone_takes = solo L trips start M zeros (record { left = []; records = records_of input })

  good_first : Good F L view trips begin Hidden Fixed start Valid p origin answer (between M) (initial f input)
  good_first = good_init F L view trips begin Hidden Fixed start Valid p answer M f input st

  first_tally : Tally F L view trips begin slots Hidden Fixed Named start Valid p origin answer means loops mode (between M) (initial f input) 0 0
  first_tally = record {
    going = λ e. record { extra = 0; small = omega arith; parked = λ w h. refl; bound = omega arith; exact = omega arith };
    most = omega arith;
    last = λ e h. cc;
  }

  -- the steps that count are the same number in every run that has ended
  pub exactly : (qs : List ℕ) (m : State F L) (r : Run F L view trips begin slots p (initial f input) qs m) (e : End) → m.ended ≡ Some e → (w : ℕ) → Weight F L view trips begin slots p (initial f input) qs m r w → w ≡ alone_takes
  exactly qs m r e h w wt =
      let x = tally_run F L view trips begin slots Hidden Fixed Named start Valid p origin answer means loops mode qs (between M) (initial f input) m good_first 0 0 first_tally r w wt in
      let c = x.2 in
      let z = c.last e h in omega arith

  pub narrow : slots ≡ 1 → (qs : List ℕ) (m : State F L) → Run F L view trips begin slots p (initial f input) qs m → m.ended ≡ None → IsNarrow F L trips m
  narrow e qs m r going =
      let w = weight_of F L view trips begin slots Hidden Fixed Named start Valid p origin answer means loops mode qs (between M) (initial f input) m good_first r in
      let x = tally_run F L view trips begin slots Hidden Fixed Named start Valid p origin answer means loops mode qs (between M) (initial f input) m good_first 0 0 first_tally r w.0 w.1 in
      narrow_of F L view trips begin slots Hidden Fixed Named start Valid p origin answer means loops mode e x.0 m x.1 (0 + length qs) (0 + w.0) ((x.2).going going)

  -- each run has a weight
  pub weighed : (qs : List ℕ) (m : State F L) (r : Run F L view trips begin slots p (initial f input) qs m) → (w : ℕ) × Weight F L view trips begin slots p (initial f input) qs m r w
  weighed qs m r = weight_of F L view trips begin slots Hidden Fixed Named start Valid p origin answer means loops mode qs (between M) (initial f input) m good_first r

  -- and no run, ended or not, has more than three times as many
  pub bounded : (qs : List ℕ) (m : State F L) → Run F L view trips begin slots p (initial f input) qs m → length qs ≤ 3 * alone_takes
  bounded qs m r =
      let w = weighed qs m r in
      let x = tally_run F L view trips begin slots Hidden Fixed Named start Valid p origin answer means loops mode qs (between M) (initial f input) m good_first 0 0 first_tally r w.0 w.1 in
      let c = x.2 in
      let z = c.most in omega arith

  -- every run can be carried to its end
  pub carried : 0 < p → 0 < slots → (qs : List ℕ) (m : State F L) → Run F L view trips begin slots p (initial f input) qs m → (rs : List ℕ) × (n : State F L) × Run F L view trips begin slots p m rs n × (e : End) × (n.ended ≡ Some e)
  carried some_p some_s qs m r =
      let w = weighed qs m r in
      let x = tally_run F L view trips begin slots Hidden Fixed Named start Valid p origin answer means loops mode qs (between M) (initial f input) m good_first 0 0 first_tally r w.0 w.1 in
      to_end F L view trips begin slots Hidden Fixed Named start Valid p origin answer means loops mode some_p some_s (3 * alone_takes + 1) x.0 m x.1 (0 + length qs) (0 + w.0) x.2 (omega arith)
