-- Cells that stand for a store, after a write.
use Rattle.std.proofs.Common.{◌≡◌, ◌∙◌, ℕ, ◌<◌, Bool, true, false, List, length, get_or, Option, Some, None, refl, sym, ap, subst}
use Rattle.std.specs.Prelude.{ℤ, pos, ◌==◌, ◌&&◌, if◌then◌else◌}
use Rattle.std.proofs.Math.ListN.{set}
use Rattle.std.proofs.lemmas.Bool.{eqb-true, eq-eqb}
use Rattle.std.proofs.lemmas.List.{get_or-set_same, get_or-set_other}
use Rattle.ast.specs.Store.{put, same_name}
use Rattle.ast.proofs.SameNames.{same_itself, same_is}
use Rattle.machine.specs.Code.{Cell}
use Rattle.machine.specs.Laid.{are_laid, number_at}
use Rattle.machine.specs.State.{put_cell}
use Rattle.machine.specs.StoreView.{store_of, value_in}
use Rattle.machine.specs.declared.code.Variable.{Variable}
use Rattle.machine.proofs.Naming.{cells_apart}

decides : (a b : List ℕ) (p q : ℕ) (P : Bool → Type 0) → (a ≡ b → p ≡ q → P true) → ((a ≡ b → p ≡ q → ⊥) → P false) → P (same_name a b && (p == q))
decides a b p q P at off = by (same_name a b) (p == q) refl refl
  where
    by : (c d : Bool) → same_name a b ≡ c → (p == q) ≡ d → P (c && d)
    by true true e f = at (same_is a b e) (eqb-true p q f)
    by true false e f = off (λ h k. let z : true ≡ false = sym (eq-eqb p q k) ∙ f in cc)
    by false d e f = off (λ h k. let z : true ≡ false = sym (subst (λ (x : List ℕ). same_name a x ≡ true) h (same_itself a)) ∙ e in cc)

value_put : (cells : List ℤ) (n : ℕ) (v : ℤ) (o : Option ℕ) → (o ≡ Some n → ⊥) → value_in (set cells n v) o ≡ value_in cells o
value_put cells n v None d = refl
value_put cells n v (Some m) d = get_or-set_other cells n m v (pos 0) (λ e. d (ap (λ (i : ℕ). Some i) e))

store_at : (xs : List Variable) (cells : List ℤ) (a : List ℕ) (p n : ℕ) (v : ℤ) → are_laid 0 xs ≡ true → number_at xs a p ≡ Some n → n < length cells → (b : List ℕ) (q : ℕ) → value_in (set cells n v) (number_at xs b q) ≡ (if same_name a b && (p == q) then v else value_in cells (number_at xs b q))
store_at xs cells a p n v h e l b q =
    decides a b p q (λ c. value_in (set cells n v) (number_at xs b q) ≡ (if c then v else value_in cells (number_at xs b q)))
    (λ f g. let k : number_at xs b q ≡ Some n = ap (λ (i : ℕ). number_at xs b i) (sym g) ∙ subst (λ (y : List ℕ). number_at xs y p ≡ Some n) f e in
    ap (value_in (set cells n v)) k ∙ get_or-set_same cells n v (pos 0) l)
    (λ d. value_put cells n v (number_at xs b q) (λ f. let k = cells_apart 0 xs a b p q n h e f in d k.0 k.1))

-- a cell has another value
pub store_put : (xs : List Variable) (cells : List ℤ) (c : Cell) (n : ℕ) (v : ℤ) → are_laid 0 xs ≡ true → number_at xs c.name c.place ≡ Some n → n < length cells → store_of xs (set cells n v) ≡ put_cell (store_of xs cells) c v
unfolding store_of put
store_put xs cells c n v h e l = λ i b q. store_at xs cells c.name c.place n v h e l b q i

pub store_is : (xs : List Variable) (cells : List ℤ) (c : Cell) (n : ℕ) → number_at xs c.name c.place ≡ Some n → store_of xs cells c.name c.place ≡ get_or cells n (pos 0)
unfolding store_of
store_is xs cells c n e = ap (value_in cells) e
