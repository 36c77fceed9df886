-- References that are numbered one after another.
use Rattle.std.proofs.Common.{◌≡◌, ◌∙◌, ap, sym, refl, ℕ, zero, suc, List, [], ◌∷◌, length, take, drop, subst, arith}
use Rattle.std.proofs.lemmas.Bool.{and_parts, eqb-true, leb-true}
use Rattle.std.proofs.lemmas.List.{take-map, drop-map}
use Rattle.std.specs.Prelude.{◌+◌, ◌-◌, Bool, true, false, ◌&&◌, ◌==◌, nat_le, if◌then◌else◌, Some, None, slice_get}
use Rattle.ast.specs.References.{are_numbered}
use Rattle.ast.specs.Tree.{Ref}
use Rattle.loop_tree.specs.Collecting.{part}
use Rattle.loop_tree.specs.Occurrences.{Occurrence, numbered}
use Rattle.loop_tree.specs.Told.{references, are_in_turn}

in_turn : (n : ℕ) (rs : List Ref) → are_numbered n rs ≡ true → are_in_turn rs ≡ true
in_turn n [] h = refl
in_turn n (r ∷ rs) h =
    let e = eqb-true r.id n (and_parts (r.id == n) (are_numbered (n + 1) rs) h).0 in
    subst (λ m. are_numbered m (r ∷ rs) ≡ true) (sym e) h

dropped : (n k : ℕ) (rs : List Ref) → are_numbered n rs ≡ true → are_numbered (n + k) (drop k rs) ≡ true
dropped n zero rs h = let e : n ≡ n + 0 = omega arith in subst (λ m. are_numbered m rs ≡ true) e h
dropped n (suc k) [] h = refl
dropped n (suc k) (r ∷ rs) h =
    let e : (n + 1) + k ≡ n + suc k = omega arith in
    subst (λ m. are_numbered m (drop k rs) ≡ true) e (dropped (n + 1) k rs (and_parts (r.id == n) (are_numbered (n + 1) rs) h).1)

taken : (n k : ℕ) (rs : List Ref) → are_numbered n rs ≡ true → are_numbered n (take k rs) ≡ true
taken n zero rs h = refl
taken n (suc k) [] h = refl
taken n (suc k) (r ∷ rs) h =
    let p = and_parts (r.id == n) (are_numbered (n + 1) rs) h in
    ap (λ (b : Bool). b && are_numbered (n + 1) (take k rs)) p.0 ∙ taken (n + 1) k rs p.1

pub part_in_turn : (os : List Occurrence) (f l : ℕ) → are_numbered 0 (references os) ≡ true → are_in_turn (references (part os f l)) ≡ true
part_in_turn os f l h = by (nat_le f l && nat_le l (length os))
  where
    moved : references (take (l - f) (drop f os)) ≡ take (l - f) (drop f (references os))
    moved = sym (take-map (λ (o : Occurrence). o.ref) (l - f) (drop f os)) ∙ ap (λ rs. take (l - f) rs) (sym (drop-map (λ (o : Occurrence). o.ref) f os))

    by : (b : Bool) → are_in_turn (references (if b then take (l - f) (drop f os) else [])) ≡ true
    by true = ap are_in_turn moved ∙ in_turn (0 + f) (take (l - f) (drop f (references os))) (taken (0 + f) (l - f) (drop f (references os)) (dropped 0 f (references os) h))
    by false = refl

-- ---- the reference of a number

number_at : (n i : ℕ) (os : List Occurrence) (o : Occurrence) → are_numbered n (references os) ≡ true → slice_get os i ≡ Some o → o.ref.id ≡ n + i
number_at n i [] o h e = cc
number_at n zero (p ∷ os) o h e =
    let d : p ≡ o = cc in
    let k = eqb-true p.ref.id n (and_parts (p.ref.id == n) (are_numbered (n + 1) (references os)) h).0 in
    let z : n ≡ n + 0 = omega arith in
    ap (λ (x : Occurrence). x.ref.id) (sym d) ∙ k ∙ z
number_at n (suc i) (p ∷ os) o h e =
    let k = number_at (n + 1) i os o (and_parts (p.ref.id == n) (are_numbered (n + 1) (references os)) h).1 e in
    omega (arith, k)

pub right_number : (os : List Occurrence) (n : ℕ) (o : Occurrence) → are_in_turn (references os) ≡ true → numbered os n ≡ Some o → o.ref.id ≡ n
right_number [] n o h e = cc
right_number (p ∷ os) n o h e = by (nat_le p.ref.id n) refl e
  where
    by : (b : Bool) → nat_le p.ref.id n ≡ b → (if b then slice_get (p ∷ os) (n - p.ref.id) else None) ≡ Some o → o.ref.id ≡ n
    by true l f =
        let k = number_at p.ref.id (n - p.ref.id) (p ∷ os) o h f in
        let m = leb-true p.ref.id n l in
        omega (arith, k, m)
    by false l f = cc
