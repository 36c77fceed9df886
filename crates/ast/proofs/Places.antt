-- Laws of the places of elements.
use Rattle.std.proofs.Common.{◌≡◌, true, List, false, ◌∷◌, ◌<◌, arith, ℕ, ◌*◌, ◌≤◌, ◌+◌, Bool, [], Result, Ok, Err, refl, subst}
use Rattle.std.proofs.Math.Nat.{mul-le-mul_left}
use Rattle.std.proofs.lemmas.Bool.{and_parts, not-true}
use Rattle.std.proofs.lemmas.Int.{ints}
use Rattle.std.specs.List.{list_all}
use Rattle.std.specs.Prelude.{int_lt, not, ℤ, unsigned_abs, ◌-ℤ◌, if◌then◌else◌}
use Rattle.ast.proofs.Sizes.{some_elements}
use Rattle.ast.specs.Results.{◌>>=◌}
use Rattle.ast.specs.Symbols.{Extent, is_within, width, most_elements, elements, place_of}
use Rattle.ast.specs.declared.fault.Fault.{Fault}
use Rattle.ast.specs.declared.fault.Fault.TheVariants.{Index as BadIndex}

-- no dimension ends before it begins
abbrev pub Open : List Extent → Type 0
Open ds = list_all (λ d. not (int_lt d.upper d.lower)) ds ≡ true

pub first_open : (d : Extent) (ds : List Extent) → Open (d ∷ ds) → int_lt d.upper d.lower ≡ false
first_open d ds o = not-true (int_lt d.upper d.lower) (and_parts (not (int_lt d.upper d.lower)) (list_all (λ d. not (int_lt d.upper d.lower)) ds) o).0

pub rest_open : (d : Extent) (ds : List Extent) → Open (d ∷ ds) → Open ds
rest_open d ds o = (and_parts (not (int_lt d.upper d.lower)) (list_all (λ d. not (int_lt d.upper d.lower)) ds) o).1

pub below : (d : Extent) (x : ℤ) → is_within d x ≡ true → int_lt d.upper d.lower ≡ false → unsigned_abs (x -ℤ d.lower) < width d
below d x h k =
    let p = and_parts (not (int_lt x d.lower)) (not (int_lt d.upper x)) h in
    let above : int_lt x d.lower ≡ false = not-true (int_lt x d.lower) p.0 in
    let under : int_lt d.upper x ≡ false = not-true (int_lt d.upper x) p.1 in
    omega (arith, ints, above, under, k)

pub narrow : (s w : ℕ) → 1 ≤ s → s * w ≤ most_elements → w ≤ most_elements
narrow s w l h = Prim.grind (arith)

pub first_few : (s : ℕ) (d : Extent) (ds : List Extent) → s * elements (d ∷ ds) ≤ most_elements → s * width d ≤ most_elements
first_few s d ds h = enough s (width d) (elements ds) (some_elements ds) h
  where
    enough : (s w e : ℕ) → 1 ≤ e → s * (w * e) ≤ most_elements → s * w ≤ most_elements
    enough s w e k h = let more : s * (w * 1) ≤ s * (w * e) = mul-le-mul_left s (mul-le-mul_left w k) in omega (arith, h, more)

pub others_few : (s : ℕ) (d : Extent) (ds : List Extent) → s * elements (d ∷ ds) ≤ most_elements → (s * width d) * elements ds ≤ most_elements
others_few s d ds h = Prim.grind (arith)

pub longer_positive : (s : ℕ) (d : Extent) → 1 ≤ s → 1 ≤ s * width d
longer_positive s d h = some s (unsigned_abs (d.upper -ℤ d.lower)) h
  where
    some : (s n : ℕ) → 1 ≤ s → 1 ≤ s * (n + 1)
    some s n h = Prim.grind (arith)

pub place_below : (ds : List Extent) (xs : List ℤ) (q : ℕ) → Open ds → place_of ds xs ≡ Ok q → q < elements ds
place_below [] xs q o e = let z : 0 ≡ q = cc e in omega (arith, z)
place_below (d ∷ ds) [] q o e = absurd (let bad : ⊥ = cc e in bad)
place_below (d ∷ ds) (x ∷ xs) q o e = by (is_within d x) (place_of ds xs) refl (λ r i. place_below ds xs r (rest_open d ds o) i) e
  where
    together : (p s o w : ℕ) → p < s → o < w → p + s * o < s * w
    together p s o w h k = Prim.grind (arith)

    by : (t : Bool) (v : Result ℕ Fault) → is_within d x ≡ t → ((r : ℕ) → v ≡ Ok r → r < elements ds) → (if t then (v >>= λ n. Ok (unsigned_abs (x -ℤ d.lower) + width d * n)) else Err BadIndex) ≡ Ok q → q < elements (d ∷ ds)
    by false v t ih h = absurd (let bad : ⊥ = cc h in bad)
    by true (Err f) t ih h = absurd (let bad : ⊥ = cc h in bad)
    by true (Ok r) t ih h =
        let is : unsigned_abs (x -ℤ d.lower) + width d * r ≡ q = cc h in
        subst (λ (z : ℕ). z < elements (d ∷ ds)) is (together (unsigned_abs (x -ℤ d.lower)) (width d) r (elements ds) (below d x t (first_open d ds o)) (ih r refl))
