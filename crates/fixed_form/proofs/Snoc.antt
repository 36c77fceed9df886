-- A list by its last element.
use Rattle.std.proofs.Common.{◌≡◌, List, [], ◌∷◌, ◌++◌, refl, ap}

-- a list with a last element
pub record Snoc {X : Type 0} (xs : List X) : Type 0 where
  pub front : List X
  pub last : X
  pub cut : xs ≡ front ++ last ∷ []

pub snoc : {X : Type 0} (x : X) (xs : List X) → Snoc (x ∷ xs)
snoc x [] = record { front = []; last = x; cut = refl }
snoc {X} x (y ∷ ys) = let s = snoc y ys in record { front = x ∷ s.front; last = s.last; cut = ap (λ (l : List X). x ∷ l) s.cut }
