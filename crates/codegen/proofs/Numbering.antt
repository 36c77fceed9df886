-- The numbers of loops that are opened.
use Rattle.std.proofs.Common.{◌≡◌, ◌∙◌, ◌==◌, ◌+◌, ◌<◌, ◌≤◌, ℕ, zero, suc, List, [], ◌∷◌, Option, Some, length, map, drop, get_or, ap, arith, refl}
use Rattle.std.specs.Prelude.{◌-◌, if◌then◌else◌}
use Rattle.codegen.specs.OpenedView.{number_of}

number_more : {X : Type 0} (view : X → ℕ) (xs : List X) (n m : ℕ) (d : X) → n < length xs → (id : ℕ)
    → (if view (get_or xs n d) == id then Some m else number_of (m + 1) (map view (drop (suc n) xs)) id) ≡ number_of m (map view (drop n xs)) id
number_more view [] n m d l id = absurd (omega (arith, l))
number_more view (y ∷ xs) zero m d l id = refl
number_more view (y ∷ xs) (suc n) m d l id = number_more view xs n m d (omega (arith, l)) id

-- one loop more in front
pub numbers_more : {X : Type 0} (view : X → ℕ) (xs : List X) (left : ℕ) (d : X) (new old : ℕ → Option ℕ) → 0 < left → left ≤ length xs
    → ((id : ℕ) → new id ≡ (if view (get_or xs (left - 1) d) == id then Some (left - 1) else old id)) → ((id : ℕ) → old id ≡ number_of left (map view (drop left xs)) id)
    → (id : ℕ) → new id ≡ number_of (left - 1) (map view (drop (left - 1) xs)) id
numbers_more view xs left d new old some most is before id =
    let next : left ≡ suc (left - 1) = omega (arith, some) in
    let more : left ≡ (left - 1) + 1 = omega (arith, some) in
    is id
    ∙ ap (λ (o : Option ℕ). if view (get_or xs (left - 1) d) == id then Some (left - 1) else o) (before id ∙ ap (λ (n : ℕ). number_of n (map view (drop left xs)) id) more ∙ ap (λ (n : ℕ). number_of ((left - 1) + 1) (map view (drop n xs)) id) next)
    ∙ number_more view xs (left - 1) (left - 1) d (omega (arith, some, most)) id
