-- What holds of a loop's iterations, however they move.
use Rattle.std.proofs.Common.{◌≡◌, ◌∙◌, ℕ, zero, suc, ◌+◌, ◌-◌, ◌<◌, ◌≤◌, ℤ, List, [], ◌∷◌, ◌++◌, length, get_or, Option, Some, None, refl, sym, ap, subst, ⊎_elim, arith, append_assoc, length-append}
use Rattle.std.proofs.Math.Seq.{get_or-append_seam}
use Rattle.std.proofs.lemmas.List.{append-nil}
use Rattle.std.proofs.lemmas.Bool.{cases_lt}
use Rattle.ast.specs.Store.{StoreOf}
use Rattle.machine.specs.Code.{Cell}
use Rattle.machine.specs.View.{Cause}
use Rattle.codegen.proofs.IterationLaws.{Unwritten, run_keeps}
use Rattle.codegen.proofs.IterationSteps.{Process, load, store, fault, gone, Act, loaded, stored, printed, awaited, advanced, ticked, left, nothing, follow, after, acts, cell_value, run, Whole, went, stopped, add, going, joined, finish, sequential}
use Rattle.codegen.proofs.LoopMachine.{Inside, opening, rest, Moves, Advances, Loads, Plan, Inv}
use Rattle.codegen.proofs.LoopKeeps.{keeps_all, nobody_writes}

abbrev prepend : List (List ℤ) → Whole → Whole
prepend ls (went ms τ) = went (ls ++ ms) τ
prepend ls (stopped ms f) = stopped (ls ++ ms) f

-- goes on from where a part went
abbrev go_on : Whole → (StoreOf → Whole) → Whole
go_on (went ls σ) next = prepend ls (next σ)
go_on (stopped ls f) next = stopped ls f

abbrev pub list_of : Whole → List (List ℤ)
list_of (went ls σ) = ls
list_of (stopped ls f) = ls

prepend_nil : (w : Whole) → prepend [] w ≡ w
prepend_nil (went ls σ) = refl
prepend_nil (stopped ls f) = refl

prepend_add : (vs : List ℤ) (ls : List (List ℤ)) (w : Whole) → prepend (vs ∷ ls) w ≡ add vs (prepend ls w)
prepend_add vs ls (went ms σ) = refl
prepend_add vs ls (stopped ms f) = refl

add_go : (vs : List ℤ) (w : Whole) (next : StoreOf → Whole) → add vs (go_on w next) ≡ go_on (add vs w) next
add_go vs (went ls σ) next = sym (prepend_add vs ls (next σ))
add_go vs (stopped ls f) next = refl

list-prepend : (ls : List (List ℤ)) (w : Whole) → list_of (prepend ls w) ≡ ls ++ list_of w
list-prepend ls (went ms σ) = refl
list-prepend ls (stopped ms f) = refl

list-add : (vs : List ℤ) (w : Whole) → list_of (add vs w) ≡ vs ∷ list_of w
list-add vs (went ls σ) = refl
list-add vs (stopped ls f) = refl

going_split : (bad : Option Cause) (ds : List ℤ) (σ : StoreOf) (next next' tail : StoreOf → Whole) → next' σ ≡ go_on (next σ) tail → going bad ds σ next' ≡ go_on (going bad ds σ next) tail
going_split None ds σ next next' tail e = ap (add ds) e ∙ add_go ds (next σ) tail
going_split (Some f) ds σ next next' tail e = refl

going_head : (bad : Option Cause) (ds : List ℤ) (σ : StoreOf) (next : StoreOf → Whole) → (ls : List (List ℤ)) × (list_of (going bad ds σ next) ≡ ds ∷ ls)
going_head None ds σ next = (list_of (next σ), list-add ds (next σ))
going_head (Some f) ds σ next = ([], refl)

abbrev Fits : ℕ → Whole → Type 0
Fits n (went ls σ) = length ls ≡ n
Fits n (stopped ls f) = length ls ≤ n

add_fits : (n : ℕ) (vs : List ℤ) (w : Whole) → Fits n w → Fits (suc n) (add vs w)
add_fits n vs (went ls σ) h = omega arith
add_fits n vs (stopped ls f) h = omega arith

going_fits : (n : ℕ) (bad : Option Cause) (ds : List ℤ) (σ : StoreOf) (next : StoreOf → Whole) → Fits n (next σ) → Fits (suc n) (going bad ds σ next)
going_fits n None ds σ next h = add_fits n ds (next σ) h
going_fits n (Some f) ds σ next h = omega arith

abbrev Keeps : Cell → ℤ → Whole → Type 0
Keeps c v (went ls τ) = cell_value τ c ≡ v
Keeps c v (stopped ls f) = Unit {0}

add_keeps : (c : Cell) (v : ℤ) (vs : List ℤ) (w : Whole) → Keeps c v w → Keeps c v (add vs w)
add_keeps c v vs (went ls σ) h = h
add_keeps c v vs (stopped ls f) h = tt

going_keeps : (c : Cell) (v : ℤ) (bad : Option Cause) (ds : List ℤ) (σ : StoreOf) (next : StoreOf → Whole) → Keeps c v (next σ) → Keeps c v (going bad ds σ next)
going_keeps c v None ds σ next h = add_keeps c v ds (next σ) h
going_keeps c v (Some f) ds σ next h = tt

seam : (xs ys : List (List ℤ)) (x y : List ℤ) (us vs : List (List ℤ)) → length xs ≡ length ys → xs ++ x ∷ us ≡ ys ++ y ∷ vs → x ≡ y
seam xs ys x y us vs n e =
    sym (get_or-append_seam xs x us []) ∙ ap (λ l. get_or l (length xs) []) e ∙ ap (λ i. get_or (ys ++ y ∷ vs) i []) n ∙ get_or-append_seam ys y vs []

abbrev pub pasts : (ℕ → List ℤ) → ℕ → ℕ → List (List ℤ)
pasts past zero k = []
pasts past (suc n) k = past k ∷ pasts past n (suc k)

pasts_count : (past : ℕ → List ℤ) (n k : ℕ) → length (pasts past n k) ≡ n
pasts_count past zero k = refl
pasts_count past (suc n) k = ap suc (pasts_count past n (suc k))

-- lists that begin with as many
same_front : (xs ys us vs : List (List ℤ)) → length xs ≡ length ys → xs ++ us ≡ ys ++ vs → xs ≡ ys
same_front [] [] us vs n e = refl
same_front [] (y ∷ ys) us vs n e = absurd (omega (arith, n))
same_front (x ∷ xs) [] us vs n e = absurd (omega (arith, n))
same_front (x ∷ xs) (y ∷ ys) us vs n e =
    let a : x ≡ y = cc in
    let b : xs ++ us ≡ ys ++ vs = cc in
    ap (λ z. z ∷ xs) a ∙ ap (λ zs. y ∷ zs) (same_front xs ys us vs (omega (arith, n)) b)

-- what these iterations printed
abbrev pub prints : List Act → List ℕ
prints [] = []
prints (printed v ∷ ds) = v ++ prints ds
prints (_ ∷ ds) = prints ds

module _ (start : ℕ → Process) where
  abbrev pub shown : ℕ → List (List ℤ) → List ℕ
  shown k [] = []
  shown k (vs ∷ ls) = prints (acts (start k) vs) ++ shown (suc k) ls

  pub shown-append : (k : ℕ) (ls ms : List (List ℤ)) → (more : List ℕ) × (shown k (ls ++ ms) ≡ shown k ls ++ more)
  shown-append k [] ms = (shown k ms, refl)
  shown-append k (vs ∷ ls) ms =
      let h = shown-append (suc k) ls ms in
      (h.0, ap (λ x. prints (acts (start k) vs) ++ x) h.1 ∙ sym (append_assoc (prints (acts (start k) vs)) (shown (suc k) ls) h.0))

  fits : (past : ℕ → List ℤ) (n k : ℕ) (σ : StoreOf) → Fits n (finish start past n k σ)
  fits past zero k σ = refl
  fits past (suc n) k σ =
      let r = run (after (start k) (past k)) σ in
      going_fits n r.bad _ r.end (finish start past n (suc k)) (fits past n (suc k) r.end)

  finish_split : (past : ℕ → List ℤ) (n m k t k' : ℕ) → t ≡ n + m → k' ≡ k + n → (σ : StoreOf) → finish start past t k σ ≡ go_on (finish start past n k σ) (finish start past m k')
  finish_split past zero m k t k' e e' σ =
      let a : t ≡ m = omega arith in
      let b : k ≡ k' = omega arith in
      ap (λ x. finish start past x k σ) a ∙ ap (λ x. finish start past m x σ) b ∙ sym (prepend_nil (finish start past m k' σ))
  finish_split past (suc n) m k t k' e e' σ =
      let a : t ≡ suc (n + m) = omega arith in
      let r = run (after (start k) (past k)) σ in
      ap (λ x. finish start past x k σ) a
      ∙ going_split r.bad _ r.end (finish start past n (suc k)) (finish start past (n + m) (suc k)) (finish start past m k') (finish_split past n m (suc k) (n + m) k' refl (omega arith) r.end)

  finish_gone : (past : ℕ → List ℤ) (n k : ℕ) → ((i : ℕ) → k ≤ i → i < k + n → after (start i) (past i) ≡ gone) → (σ : StoreOf) → finish start past n k σ ≡ went (pasts past n k) σ
  finish_gone past zero k h σ = refl
  finish_gone past (suc n) k h σ =
      ap (λ p. joined (past k) (run p σ) (finish start past n (suc k))) (h k (omega arith) (omega arith))
      ∙ ap (add (past k ++ [])) (finish_gone past n (suc k) (λ i a b. h i (omega arith) (omega arith)) σ)
      ∙ ap (λ l. went (l ∷ pasts past n (suc k)) σ) (append-nil (past k))

  -- a cell that none of them writes keeps its value
  finish_keeps : (past : ℕ → List ℤ) (c : Cell) (n k : ℕ) → ((i : ℕ) → i < k + n → Unwritten c (after (start i) (past i))) → (σ : StoreOf) → Keeps c (cell_value σ c) (finish start past n k σ)
  finish_keeps past c zero k h σ = refl
  finish_keeps past c (suc n) k h σ =
      let r = run (after (start k) (past k)) σ in
      going_keeps c (cell_value σ c) r.bad (past k ++ r.values) r.end (finish start past n (suc k))
      (subst (λ x. Keeps c x (finish start past n (suc k) r.end)) (run_keeps (after (start k) (past k)) c (h k (omega arith)) σ) (finish_keeps past c n (suc k) (λ i l. h i (omega arith)) r.end))

-- two wholes that agree up to place k
same_heads : (k : ℕ) (w : Whole) → Fits k w → (F G : StoreOf → Whole) (ls : List (List ℤ)) (τ : StoreOf) → length ls ≡ k
    → ((σ : StoreOf) → (x : List ℤ) × (xs : List (List ℤ)) × (list_of (F σ) ≡ x ∷ xs)) → (y : List ℤ) (ys : List (List ℤ)) → list_of (G τ) ≡ y ∷ ys
    → go_on w F ≡ prepend ls (G τ) → (ms : List (List ℤ)) × (υ : StoreOf) × (w ≡ went ms υ) × ((x : List ℤ) (xs : List (List ℤ)) → list_of (F υ) ≡ x ∷ xs → x ≡ y)
same_heads k (went ms υ) fit F G ls τ len hF y ys hy e = (
  ms,
  υ,
  refl,
  λ x xs hx. seam ms ls x y xs ys (omega arith)
      (ap (λ l. ms ++ l) (sym hx) ∙ sym (list-prepend ms (F υ)) ∙ ap list_of e ∙ list-prepend ls (G τ) ∙ ap (λ l. ls ++ l) hy),
)
same_heads k (stopped ms f) fit F G ls τ len hF y ys hy e =
    let q : ms ≡ ls ++ y ∷ ys = ap list_of e ∙ list-prepend ls (G τ) ∙ ap (λ l. ls ++ l) hy in
    let n = ap length q in
    absurd (omega (arith, length-append ls (y ∷ ys)))

-- iteration k stands where its own run, from the store that those before it leave, stands
pub record Stands (start : ℕ → Process) (s : Inside) (k : ℕ) (τ : StoreOf) : Type 0 where
  pub more : List ℤ
  pub is : (run (start k) τ).values ≡ s.past k ++ more
  pub loads : (c : Cell) → Loads (rest start s k) c → (ms : List ℤ) × (more ≡ cell_value s.cells c ∷ ms)

loads_first : (P : Process) (c : Cell) → Loads P c → (υ : StoreOf) → (run P υ).values ≡ cell_value υ c ∷ (run (follow P (cell_value υ c)) υ).values
loads_first (load r d κ) c e υ = subst (λ x. cell_value υ d ∷ (run (κ (cell_value υ d)) υ).values ≡ cell_value υ x ∷ (run (κ (cell_value υ x)) υ).values) e refl
loads_first (store r d v P) c e υ = absurd e
loads_first _ c e υ = absurd e

module _ (start : ℕ → Process) (total : ℕ) (Named : ℕ → Type 0) (plan : Plan start total Named) (σ : StoreOf) where
  pub opens : ((k : ℕ) → start k ≡ gone → ⊥) → Inv start total σ (opening σ)
  opens h = record {
    advanced_in = λ k e i. absurd i;
    advanced_by = λ k e i. absurd (omega arith);
    passed = λ k e d i. absurd i;
    retired = λ k i. absurd (omega arith);
    has_left = λ k i. absurd i;
    within = omega arith;
    same = refl;
  }

  pub step_keeps : (s t : Inside) (k : ℕ) → Inv start total σ s → Moves start total s k t → Inv start total σ t
  step_keeps s t k inv st = subst (Inv start total σ) (sym st.is) (keeps_all start total Named plan σ s inv k st.below (rest start s k) refl st.may)

  module _ (s : Inside) (inv : Inv start total σ s) where
    -- each open iteration up to the first that faults stands where its own sequential run stands
    pub stands : (k : ℕ) → k < total → (ls : List (List ℤ)) (τ : StoreOf) → sequential start k σ ≡ went ls τ → Stands start s k τ
    stands k lt ls τ e = record {
      more = (run P υ).values;
      is = sym (at.3 (s.past k ++ (run P υ).values) (F-head υ).0 (F-head υ).1);
      loads = λ c l.
          let keep = finish_keeps start s.past c k 0 (λ i b. nobody_writes start total Named plan σ s inv i k c (omega arith) lt l) s.cells in
          let v : cell_value υ c ≡ cell_value s.cells c = subst (Keeps c (cell_value s.cells c)) at.2 keep in
          ((run (follow P (cell_value s.cells c)) υ).values, subst (λ x. (run P υ).values ≡ x ∷ (run (follow P x) υ).values) v (loads_first P c l υ));
    }
      where
        P : Process
        P = rest start s k

        m : ℕ
        m = total - suc k

        F : StoreOf → Whole
        F = finish start s.past (suc m) k

        G : StoreOf → Whole
        G = finish start (λ i. []) (suc m) k

        F-head : (x : StoreOf) → (ys : List (List ℤ)) × (list_of (F x) ≡ (s.past k ++ (run (rest start s k) x).values) ∷ ys)
        F-head x = let r = run (rest start s k) x in going_head r.bad (s.past k ++ r.values) r.end (finish start s.past m (suc k))

        G-head : (x : StoreOf) → (ys : List (List ℤ)) × (list_of (G x) ≡ (run (start k) x).values ∷ ys)
        G-head x = let r = run (start k) x in going_head r.bad r.values r.end (finish start (λ i. []) m (suc k))

        n : total ≡ k + suc m
        n = omega arith

        whole : go_on (finish start s.past k 0 s.cells) F ≡ prepend ls (G τ)
        whole = sym (finish_split start s.past k (suc m) 0 total k n (omega arith) s.cells) ∙ inv.same ∙ finish_split start (λ i. []) k (suc m) 0 total k n (omega arith) σ ∙ ap (λ w. go_on w G) e

        at : (ms : List (List ℤ)) × (υ : StoreOf) × (finish start s.past k 0 s.cells ≡ went ms υ) × ((x : List ℤ) (xs : List (List ℤ)) → list_of (F υ) ≡ x ∷ xs → x ≡ (run (start k) τ).values)
        at = same_heads k (finish start s.past k 0 s.cells) (fits start s.past k 0 s.cells) F G ls τ (subst (Fits k) e (fits start (λ i. []) k 0 σ)) (λ x. (s.past k ++ (run (rest start s k) x).values, (F-head x).0, (F-head x).1)) (run (start k) τ).values (G-head τ).0 (G-head τ).1 whole

        υ : StoreOf
        υ = at.1

    -- where all have retired, the store and what each did are the sequential ones
    pub finished : s.low ≡ total → sequential start total σ ≡ went (pasts s.past total 0) s.cells
    finished e = sym inv.same ∙ finish_gone start s.past total 0 (λ i a b. inv.retired i (omega arith)) s.cells

    -- and where the lowest stands at a fault, that is the first sequential one
    pub faulted : (f : Cause) → s.low < total → rest start s s.low ≡ fault f → sequential start total σ ≡ stopped (pasts s.past s.low 0 ++ s.past s.low ∷ []) f
    faulted f lt e =
        let m = total - suc s.low in
        let n : total ≡ s.low + suc m = omega arith in
        sym inv.same ∙ finish_split start s.past s.low (suc m) 0 total s.low n (omega arith) s.cells
        ∙ ap (λ w. go_on w (finish start s.past (suc m) s.low)) (finish_gone start s.past s.low 0 (λ i a b. inv.retired i (omega arith)) s.cells)
        ∙ ap (λ p. prepend (pasts s.past s.low 0) (joined (s.past s.low) (run p s.cells) (finish start s.past m (suc s.low)))) e
        ∙ ap (λ l. stopped (pasts s.past s.low 0 ++ l ∷ []) f) (append-nil (s.past s.low))

    -- what the retired ones did is a beginning of what all do
    pub begins : (ls : List (List ℤ)) × (list_of (sequential start total σ) ≡ pasts s.past s.low 0 ++ ls)
    begins =
        let m = total - s.low in
        let w = inv.within in
        let n : total ≡ s.low + m = omega arith in
        let x = finish start s.past m s.low s.cells in (
          list_of x,
          ap list_of (sym inv.same ∙ finish_split start s.past s.low m 0 total s.low n (omega arith) s.cells
              ∙ ap (λ w. go_on w (finish start s.past m s.low)) (finish_gone start s.past s.low 0 (λ i a b. inv.retired i (omega arith)) s.cells))
              ∙ list-prepend (pasts s.past s.low 0) x,
        )

    -- those that have retired do so one after another, too
    pub retired_go : (ls : List (List ℤ)) × (τ : StoreOf) × (sequential start s.low σ ≡ went ls τ)
    retired_go = ⊎_elim some all (cases_lt s.low total)
      where
        m : ℕ
        m = total - suc s.low

        F : StoreOf → Whole
        F = finish start (λ i. []) (suc m) s.low

        G : StoreOf → Whole
        G = finish start s.past (suc m) s.low

        F-head : (x : StoreOf) → (ys : List (List ℤ)) × (list_of (F x) ≡ (run (start s.low) x).values ∷ ys)
        F-head x = let r = run (start s.low) x in going_head r.bad r.values r.end (finish start (λ i. []) m (suc s.low))

        G-head : (x : StoreOf) → (ys : List (List ℤ)) × (list_of (G x) ≡ (s.past s.low ++ (run (rest start s s.low) x).values) ∷ ys)
        G-head x = let r = run (rest start s s.low) x in going_head r.bad (s.past s.low ++ r.values) r.end (finish start s.past m (suc s.low))

        some : s.low < total → (ls : List (List ℤ)) × (τ : StoreOf) × (sequential start s.low σ ≡ went ls τ)
        some lt =
            let n : total ≡ s.low + suc m = omega (arith, lt) in
            let whole : go_on (sequential start s.low σ) F ≡ prepend (pasts s.past s.low 0) (G s.cells) =
            sym (finish_split start (λ i. []) s.low (suc m) 0 total s.low n (omega arith) σ) ∙ sym inv.same ∙ finish_split start s.past s.low (suc m) 0 total s.low n (omega arith) s.cells
            ∙ ap (λ w. go_on w G) (finish_gone start s.past s.low 0 (λ i a b. inv.retired i (omega arith)) s.cells) in
            let h = same_heads s.low (sequential start s.low σ) (fits start (λ i. []) s.low 0 σ) F G (pasts s.past s.low 0) s.cells (pasts_count s.past s.low 0) (λ x. ((run (start s.low) x).values, (F-head x).0, (F-head x).1))
            (s.past s.low ++ (run (rest start s s.low) s.cells).values) (G-head s.cells).0 (G-head s.cells).1 whole in
            (h.0, h.1, h.2)

        all : total ≤ s.low → (ls : List (List ℤ)) × (τ : StoreOf) × (sequential start s.low σ ≡ went ls τ)
        all le =
            let w = inv.within in
            let e : total ≡ s.low = omega (arith, le, w) in
            (pasts s.past total 0, s.cells, subst (λ (n : ℕ). sequential start n σ ≡ went (pasts s.past total 0) s.cells) e (finished (sym e)))

    -- so many one after another do what those that have retired did
    pub retired_are : (ls : List (List ℤ)) (τ : StoreOf) → sequential start s.low σ ≡ went ls τ → ls ≡ pasts s.past s.low 0
    retired_are ls τ e =
        let m = total - s.low in
        let w = inv.within in
        let n : total ≡ s.low + m = omega arith in
        let all = finish_split start (λ i. []) s.low m 0 total s.low n (omega arith) σ ∙ ap (λ w. go_on w (finish start (λ i. []) m s.low)) e in
        same_front ls (pasts s.past s.low 0) (list_of (finish start (λ i. []) m s.low τ)) begins.0
        (subst (Fits s.low) e (fits start (λ i. []) s.low 0 σ) ∙ sym (pasts_count s.past s.low 0))
        (sym (list-prepend ls (finish start (λ i. []) m s.low τ)) ∙ sym (ap list_of all) ∙ begins.1)

    pub output : (more : List ℕ) × (shown start 0 (list_of (sequential start total σ)) ≡ shown start 0 (pasts s.past s.low 0) ++ more)
    output = let b = begins in let h = shown-append start 0 (pasts s.past s.low 0) b.0 in (h.0, ap (shown start 0) b.1 ∙ h.1)

    -- who stands at an advance may make it, and the lowest never waits
    pub may_advance : (k e : ℕ) → k < total → Advances (rest start s k) e → s.counts e ≡ k
    may_advance k e lt a =
        let p = inv.passed k e 1 (plan.before k (s.past k) e a) in
        ⊎_elim (λ l. absurd (plan.once k (s.past k) e a (inv.advanced_by k e l))) (λ le. omega arith) (cases_lt k (s.counts e))

    -- every event that the body names has reached the lowest
    pub reached : (e : ℕ) → Named e → s.low ≤ s.counts e
    reached e named = ⊎_elim
        (λ l. let j = s.low - 1 in
        let q = inv.advanced_in j e (plan.each j (s.past j) e named (inv.retired j (omega arith))) in omega arith)
        (λ z. omega arith)
        (cases_lt 0 s.low)

-- ---- what iterations were given, and printed

pub prints-append : (xs ys : List Act) → prints (xs ++ ys) ≡ prints xs ++ prints ys
prints-append [] ys = refl
prints-append (printed v ∷ xs) ys = ap (λ (l : List ℕ). v ++ l) (prints-append xs ys) ∙ sym (append_assoc v (prints xs) (prints ys))
prints-append (loaded r c v ∷ xs) ys = prints-append xs ys
prints-append (stored r c v ∷ xs) ys = prints-append xs ys
prints-append (awaited e d ∷ xs) ys = prints-append xs ys
prints-append (advanced e ∷ xs) ys = prints-append xs ys
prints-append (ticked ∷ xs) ys = prints-append xs ys
prints-append (left ps ∷ xs) ys = prints-append xs ys
prints-append (nothing ∷ xs) ys = prints-append xs ys

pub pasts_same : (past past' : ℕ → List ℤ) (n k : ℕ) → ((i : ℕ) → i < k + n → past' i ≡ past i) → pasts past' n k ≡ pasts past n k
pasts_same past past' zero k h = refl
pasts_same past past' (suc n) k h =
    ap (λ x. x ∷ pasts past' n (suc k)) (h k (omega arith)) ∙ ap (λ l. past k ∷ l) (pasts_same past past' n (suc k) (λ i lt. h i (omega arith)))

pub pasts-snoc : (past : ℕ → List ℤ) (n k : ℕ) → pasts past (n + 1) k ≡ pasts past n k ++ past (k + n) ∷ []
pasts-snoc past zero k = let e : k ≡ k + 0 = omega arith in ap (λ x. past x ∷ []) e
pasts-snoc past (suc n) k =
    let a : suc n + 1 ≡ suc (n + 1) = omega arith in
    let b : suc k + n ≡ k + suc n = omega arith in
    ap (λ x. pasts past x k) a ∙ ap (λ l. past k ∷ l) (pasts-snoc past n (suc k)) ∙ ap (λ x. past k ∷ (pasts past n (suc k) ++ past x ∷ [])) b

pub shown-snoc : (start : ℕ → Process) (past : ℕ → List ℤ) (n k : ℕ) → shown start k (pasts past n k ++ past (k + n) ∷ []) ≡ shown start k (pasts past n k) ++ prints (acts (start (k + n)) (past (k + n)))
shown-snoc start past zero k =
    let e : k ≡ k + 0 = omega arith in
    append-nil (prints (acts (start k) (past (k + 0)))) ∙ ap (λ x. prints (acts (start x) (past (k + 0)))) e
shown-snoc start past (suc n) k =
    let b : suc k + n ≡ k + suc n = omega arith in
    let h = subst (λ x. shown start (suc k) (pasts past n (suc k) ++ past x ∷ []) ≡ shown start (suc k) (pasts past n (suc k)) ++ prints (acts (start x) (past x))) b (shown-snoc start past n (suc k)) in
    ap (λ l. prints (acts (start k) (past k)) ++ l) h ∙ sym (append_assoc (prints (acts (start k) (past k))) (shown start (suc k) (pasts past n (suc k))) (prints (acts (start (k + suc n)) (past (k + suc n)))))
