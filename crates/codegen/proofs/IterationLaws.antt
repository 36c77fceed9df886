-- Laws of what iterations do, of stores and of maps.
use Rattle.std.proofs.Common.{◌≡◌, ◌∙◌, ℕ, ℤ, pos, Bool, true, false, List, [], ◌∷◌, ◌++◌, None, ◌⊎◌, inl, inr, refl, sym, ap, subst, ⊎_elim}
use Rattle.std.specs.Prelude.{◌&&◌, ◌==◌, cond, if◌then◌else◌}
use Rattle.std.proofs.lemmas.Bool.{eq-eqb, eqb-true, ne_eqb, cases_eq}
use Rattle.ast.specs.Store.{StoreOf, put, same_name}
use Rattle.ast.proofs.SameNames.{same_itself, same_is}
use Rattle.machine.specs.Code.{Cell}
use Rattle.machine.specs.State.{put_at, put_cell, put_cells}
use Rattle.machine.proofs.Puts.{put_same}
pub use Rattle.plan_check.proofs.Members.{in_left, in_right, in_which}
use Rattle.codegen.proofs.IterationSteps.{Process, load, store, print, await, advance, tick, fault, leave, gone, IsKey, Ran, act, acts, after, cell_value, first, follow, run}

-- ---- maps

pub put_other : {A : Type 0} (f : ℕ → A) (k : ℕ) (v : A) (i : ℕ) → (i ≡ k → ⊥) → put_at f k v i ≡ f i
unfolding put_at
put_other f k v i h = ap (λ (b : Bool). cond b v (f i)) (ne_eqb i k h)

pub put_cases : {A : Type 0} (f : ℕ → A) (k : ℕ) (v : A) (i : ℕ) (x : A) → put_at f k v i ≡ x → ((i ≡ k) × (v ≡ x)) ⊎ ((i ≡ k → ⊥) × (f i ≡ x))
put_cases {A} f k v i x h = ⊎_elim
    (λ e. inl (e, sym (put_same f k v) ∙ sym (ap (put_at f k v) e) ∙ h))
    (λ ne. inr (ne, sym (put_other f k v i ne) ∙ h))
    (cases_eq i k)

-- ---- stores

pub cases_cell : (c d : Cell) → (c ≡ d) ⊎ (c ≡ d → ⊥)
cases_cell c d = by (same_name c.name d.name) (c.place == d.place) refl refl
  where
    by : (a b : Bool) → same_name c.name d.name ≡ a → (c.place == d.place) ≡ b → (c ≡ d) ⊎ (c ≡ d → ⊥)
    by true true h k =
        let name : c.name ≡ d.name = same_is c.name d.name h in
        let place : c.place ≡ d.place = eqb-true c.place d.place k in
        inl (ap (λ (x : List ℕ). record { name = x; place = c.place }) name ∙ ap (λ (x : ℕ). record { name = d.name; place = x }) place)
    by false b h k = inr (λ e. let z : true ≡ false = sym (same_itself c.name) ∙ ap (λ (x : Cell). same_name c.name x.name) e ∙ h in cc)
    by true false h k = inr (λ e. let z : true ≡ false = sym (eq-eqb c.place d.place (ap (λ (x : Cell). x.place) e)) ∙ k in cc)

pub cell_same : (σ : StoreOf) (c : Cell) (v : ℤ) → cell_value (put_cell σ c v) c ≡ v
unfolding put
cell_same σ c v =
    ap (λ (b : Bool). if b && (c.place == c.place) then v else cell_value σ c) (same_itself c.name)
    ∙ ap (λ (b : Bool). if b then v else cell_value σ c) (eq-eqb c.place c.place refl)

pub cell_other : (σ : StoreOf) (c : Cell) (v : ℤ) (d : Cell) → (d ≡ c → ⊥) → cell_value (put_cell σ c v) d ≡ cell_value σ d
unfolding put
cell_other σ c v d h = by (same_name c.name d.name) (c.place == d.place) refl refl
  where
    by : (a b : Bool) → same_name c.name d.name ≡ a → (c.place == d.place) ≡ b → (if a && b then v else cell_value σ d) ≡ cell_value σ d
    by true true e f =
        let name : d.name ≡ c.name = sym (same_is c.name d.name e) in
        let place : d.place ≡ c.place = sym (eqb-true c.place d.place f) in
        absurd (h (ap (λ (x : List ℕ). record { name = x; place = d.place }) name ∙ ap (λ (x : ℕ). record { name = c.name; place = x }) place))
    by false b e f = refl
    by true false e f = refl

-- two stores that agree everywhere
pub same_stores : {σ τ : StoreOf} → ((c : Cell) → cell_value σ c ≡ cell_value τ c) → σ ≡ τ
same_stores h = λ i name place. h (record { name = name; place = place }) i

pub cell_swap : (σ : StoreOf) (c : Cell) (v : ℤ) (d : Cell) (w : ℤ) → (c ≡ d → ⊥) → put_cell (put_cell σ c v) d w ≡ put_cell (put_cell σ d w) c v
cell_swap σ c v d w h = same_stores (λ x. ⊎_elim
    (λ e. subst (λ (y : Cell). cell_value (put_cell (put_cell σ c v) d w) y ≡ cell_value (put_cell (put_cell σ d w) c v) y) (sym e) (cell_other (put_cell σ c v) d w c h ∙ cell_same σ c v ∙ sym (cell_same (put_cell σ d w) c v)))
    (λ ne. ⊎_elim
    (λ e. subst (λ (y : Cell). cell_value (put_cell (put_cell σ c v) d w) y ≡ cell_value (put_cell (put_cell σ d w) c v) y) (sym e) (cell_same (put_cell σ c v) d w ∙ sym (cell_same σ d w) ∙ sym (cell_other (put_cell σ d w) c v d (λ q. h (sym q)))))
    (λ nd. cell_other (put_cell σ c v) d w x nd ∙ cell_other σ c v x ne ∙ sym (cell_other σ d w x nd) ∙ sym (cell_other (put_cell σ d w) c v x ne))
    (cases_cell x d))
    (cases_cell x c))

pub cells_swap : (xs : List (Cell × ℤ)) (σ : StoreOf) (c : Cell) (v : ℤ) → (IsKey c xs → ⊥) → put_cells (put_cell σ c v) xs ≡ put_cell (put_cells σ xs) c v
cells_swap [] σ c v h = refl
cells_swap (x ∷ xs) σ c v h =
    ap (λ (s : StoreOf). put_cell s x.0 x.1) (cells_swap xs σ c v (λ i. h (inr i))) ∙ cell_swap (put_cells σ xs) c v x.0 x.1 (λ e. h (inl (sym e)))

pub cells_other : (xs : List (Cell × ℤ)) (σ : StoreOf) (c : Cell) → (IsKey c xs → ⊥) → cell_value (put_cells σ xs) c ≡ cell_value σ c
cells_other [] σ c h = refl
cells_other (x ∷ xs) σ c h = cell_other (put_cells σ xs) x.0 x.1 c (λ e. h (inl (sym e))) ∙ cells_other xs σ c (λ i. h (inr i))

-- ---- steps

pub after-snoc : (P : Process) (vs : List ℤ) (v : ℤ) → after P (vs ++ v ∷ []) ≡ follow (after P vs) v
after-snoc P [] v = refl
after-snoc P (w ∷ vs) v = after-snoc (follow P w) vs v

pub after-append : (P : Process) (vs ws : List ℤ) → after P (vs ++ ws) ≡ after (after P vs) ws
after-append P [] ws = refl
after-append P (w ∷ vs) ws = after-append (follow P w) vs ws

pub acts-snoc : (P : Process) (vs : List ℤ) (v : ℤ) → acts P (vs ++ v ∷ []) ≡ acts P vs ++ act (after P vs) v ∷ []
acts-snoc P [] v = refl
acts-snoc P (w ∷ vs) v = ap (λ (ds : List _). act P w ∷ ds) (acts-snoc (follow P w) vs v)

pub acts-append : (P : Process) (vs ws : List ℤ) → acts P (vs ++ ws) ≡ acts P vs ++ acts (after P vs) ws
acts-append P [] ws = refl
acts-append P (w ∷ vs) ws = ap (λ (ds : List _). act P w ∷ ds) (acts-append (follow P w) vs ws)

-- what may be done next at a cell
abbrev pub Touches : Process → Cell → Type 0
Touches (load r d κ) c = d ≡ c
Touches (store r d v P) c = d ≡ c
Touches (leave xs) c = IsKey c xs
Touches _ c = ⊥

abbrev pub Writes : Process → Cell → Type 0
Writes (store r d v P) c = d ≡ c
Writes (leave xs) c = IsKey c xs
Writes _ c = ⊥

-- never, on any values
abbrev pub Untouched : Cell → Process → Type 0
Untouched c P = (vs : List ℤ) → Touches (after P vs) c → ⊥

abbrev pub Unwritten : Cell → Process → Type 0
Unwritten c P = (vs : List ℤ) → Writes (after P vs) c → ⊥

-- a run with a change at the end
abbrev pub with_end : (StoreOf → StoreOf) → Ran → Ran
with_end ρ r = record { values = r.values; end = ρ r.end; bad = r.bad }

-- a store of a cell that is never touched may as well be made afterwards
pub run_put : (P : Process) (c : Cell) (v : ℤ) → Untouched c P → (σ : StoreOf) → run P (put_cell σ c v) ≡ with_end (λ s. put_cell s c v) (run P σ)
run_put (load r d κ) c v h σ =
    let same = cell_other σ c v d (λ e. h [] e) in
    ap (λ (x : ℤ). first x (run (κ x) (put_cell σ c v))) same ∙ ap (first (cell_value σ d)) (run_put (κ (cell_value σ d)) c v (λ vs. h (cell_value σ d ∷ vs)) σ)
run_put (store r d w P) c v h σ =
    ap (λ (s : StoreOf). first (pos 0) (run P s)) (cell_swap σ c v d w (λ e. h [] (sym e))) ∙ ap (first (pos 0)) (run_put P c v (λ vs. h (pos 0 ∷ vs)) (put_cell σ d w))
run_put (print w P) c v h σ = ap (first (pos 0)) (run_put P c v (λ vs. h (pos 0 ∷ vs)) σ)
run_put (await e d P) c v h σ = ap (first (pos 0)) (run_put P c v (λ vs. h (pos 0 ∷ vs)) σ)
run_put (advance e P) c v h σ = ap (first (pos 0)) (run_put P c v (λ vs. h (pos 0 ∷ vs)) σ)
run_put (tick P) c v h σ = ap (first (pos 0)) (run_put P c v (λ vs. h (pos 0 ∷ vs)) σ)
run_put (fault f) c v h σ = refl
run_put (leave xs) c v h σ = ap (λ (s : StoreOf). record { values = pos 0 ∷ []; end = s; bad = None }) (cells_swap xs σ c v (h []))
run_put gone c v h σ = refl

-- a cell that is never written keeps its value
pub run_keeps : (P : Process) (c : Cell) → Unwritten c P → (σ : StoreOf) → cell_value (run P σ).end c ≡ cell_value σ c
run_keeps (load r d κ) c h σ = run_keeps (κ (cell_value σ d)) c (λ vs. h (cell_value σ d ∷ vs)) σ
run_keeps (store r d w P) c h σ = run_keeps P c (λ vs. h (pos 0 ∷ vs)) (put_cell σ d w) ∙ cell_other σ d w c (λ e. h [] (sym e))
run_keeps (print w P) c h σ = run_keeps P c (λ vs. h (pos 0 ∷ vs)) σ
run_keeps (await e d P) c h σ = run_keeps P c (λ vs. h (pos 0 ∷ vs)) σ
run_keeps (advance e P) c h σ = run_keeps P c (λ vs. h (pos 0 ∷ vs)) σ
run_keeps (tick P) c h σ = run_keeps P c (λ vs. h (pos 0 ∷ vs)) σ
run_keeps (fault f) c h σ = refl
run_keeps (leave xs) c h σ = cells_other xs σ c (h [])
run_keeps gone c h σ = refl
