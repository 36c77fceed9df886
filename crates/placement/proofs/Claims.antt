-- The relation of each pair that is looked at is the first that is given for it.
use Rattle.std.proofs.Common.{◌≡◌, ◌∙◌, ◌+◌, inl, inr, ℕ, Bool, true, false, ◌&&◌, List, [], ◌∷◌, ◌++◌, refl, ap, subst, Some, None, arith}
use Rattle.std.specs.Prelude.{◌==◌, if◌then◌else◌}
use Rattle.std.proofs.lemmas.Bool.{and_from, and_parts, eq-eqb, eqb-true, ne_eqb, and_left, and_right}
use Rattle.ast.specs.References.{are_numbered}
use Rattle.dependence.specs.Tests.{relation}
use Rattle.dependence.specs.declared.relation.Relation.{Relation}
use Rattle.loop_tree.specs.Loops.{Loop}
use Rattle.loop_tree.specs.Occurrences.{Occurrence}
use Rattle.loop_tree.specs.Told.{are_in_turn, references}
use Rattle.placement.specs.Placement.{is_looked_at, relations_of, relations_with}
use Rattle.plan_check.proofs.Members.{In}
use Rattle.plan_check.proofs.Sound.{least}
use Rattle.plan_check.specs.Checking.{claimed}

claimed_later : (xs ys : List (ℕ × ℕ × Relation)) (i j : ℕ) → claimed xs i j ≡ None → claimed (xs ++ ys) i j ≡ claimed ys i j
claimed_later [] ys i j h = refl
claimed_later (x ∷ xs) ys i j h = by ((x.0 == i) && (x.1 == j)) h (λ g. claimed_later xs ys i j g)
  where
    by : (b : Bool) → (if b then Some x.2 else claimed xs i j) ≡ None → (claimed xs i j ≡ None → claimed (xs ++ ys) i j ≡ claimed ys i j) → (if b then Some x.2 else claimed (xs ++ ys) i j) ≡ claimed ys i j
    by true e more = cc
    by false e more = more e

claimed_first : (xs ys : List (ℕ × ℕ × Relation)) (i j : ℕ) (r : Relation) → claimed xs i j ≡ Some r → claimed (xs ++ ys) i j ≡ Some r
claimed_first [] ys i j r h = cc
claimed_first (x ∷ xs) ys i j r h = by ((x.0 == i) && (x.1 == j)) h (λ g. claimed_first xs ys i j r g)
  where
    by : (b : Bool) → (if b then Some x.2 else claimed xs i j) ≡ Some r → (claimed xs i j ≡ Some r → claimed (xs ++ ys) i j ≡ Some r) → (if b then Some x.2 else claimed (xs ++ ys) i j) ≡ Some r
    by true e more = e
    by false e more = more e

one_other : (x : ℕ × ℕ × Relation) (i j : ℕ) → ((x.0 == i) && (x.1 == j)) ≡ false → claimed (x ∷ []) i j ≡ None
one_other x i j e = ap (λ (b : Bool). if b then Some x.2 else None) e

one_here : (x : ℕ × ℕ × Relation) (i j : ℕ) → ((x.0 == i) && (x.1 == j)) ≡ true → claimed (x ∷ []) i j ≡ Some x.2
one_here x i j e = ap (λ (b : Bool). if b then Some x.2 else None) e

part_other : (x : ℕ × ℕ × Relation) (i j : ℕ) (b : Bool) → ((x.0 == i) && (x.1 == j)) ≡ false → claimed (if b then x ∷ [] else []) i j ≡ None
part_other x i j true e = one_other x i j e
part_other x i j false e = refl

module _ (l : Loop) (ps : List (List ℕ)) where
  with_other : (a : Occurrence) (bs : List Occurrence) (i j : ℕ) → (a.ref.id ≡ i → ⊥) → claimed (relations_with l ps a bs) i j ≡ None
  with_other a [] i j n = refl
  with_other a (b ∷ bs) i j n =
      claimed_later (if is_looked_at l ps a b then (a.ref.id, b.ref.id, relation l a b) ∷ [] else []) (relations_with l ps a bs) i j
      (part_other (a.ref.id, b.ref.id, relation l a b) i j (is_looked_at l ps a b) (and_left (a.ref.id == i) (b.ref.id == j) (ne_eqb a.ref.id i n)))
      ∙ with_other a bs i j n

  with_here : (n : ℕ) (a b : Occurrence) (bs : List Occurrence) → are_numbered n (references bs) ≡ true → In b bs → is_looked_at l ps a b ≡ true → claimed (relations_with l ps a bs) a.ref.id b.ref.id ≡ Some (relation l a b)
  with_here n a b [] h i look = absurd i
  with_here n a b (x ∷ bs) h (inl e) look =
      subst (λ (y : Occurrence). claimed (relations_with l ps a (y ∷ bs)) a.ref.id b.ref.id ≡ Some (relation l a b)) e
      (claimed_first (if is_looked_at l ps a b then (a.ref.id, b.ref.id, relation l a b) ∷ [] else []) (relations_with l ps a bs) a.ref.id b.ref.id (relation l a b)
      (ap (λ (c : Bool). claimed (if c then (a.ref.id, b.ref.id, relation l a b) ∷ [] else []) a.ref.id b.ref.id) look
      ∙ one_here (a.ref.id, b.ref.id, relation l a b) a.ref.id b.ref.id (and_from (a.ref.id == a.ref.id) (b.ref.id == b.ref.id) (eq-eqb a.ref.id a.ref.id refl) (eq-eqb b.ref.id b.ref.id refl))))
  with_here n a b (x ∷ bs) h (inr i) look =
      let g = and_parts (x.ref.id == n) (are_numbered (n + 1) (references bs)) h in
      let here = eqb-true x.ref.id n g.0 in
      let low = least (n + 1) bs b g.1 i in
      let apart : x.ref.id ≡ b.ref.id → ⊥ = λ q. omega (arith, here, low, q) in
      claimed_later (if is_looked_at l ps a x then (a.ref.id, x.ref.id, relation l a x) ∷ [] else []) (relations_with l ps a bs) a.ref.id b.ref.id
      (part_other (a.ref.id, x.ref.id, relation l a x) a.ref.id b.ref.id (is_looked_at l ps a x) (and_right (a.ref.id == a.ref.id) (x.ref.id == b.ref.id) (ne_eqb x.ref.id b.ref.id apart)))
      ∙ with_here (n + 1) a b bs g.1 i look

  of_here : (n m : ℕ) (a b : Occurrence) (os bs : List Occurrence) → are_numbered n (references os) ≡ true → are_numbered m (references bs) ≡ true → In a os → In b bs → is_looked_at l ps a b ≡ true
      → claimed (relations_of l ps os bs) a.ref.id b.ref.id ≡ Some (relation l a b)
  of_here n m a b [] bs h k i j look = absurd i
  of_here n m a b (x ∷ os) bs h k (inl e) j look =
      subst (λ (y : Occurrence). claimed (relations_of l ps (y ∷ os) bs) a.ref.id b.ref.id ≡ Some (relation l a b)) e
      (claimed_first (relations_with l ps a bs) (relations_of l ps os bs) a.ref.id b.ref.id (relation l a b) (with_here m a b bs k j look))
  of_here n m a b (x ∷ os) bs h k (inr i) j look =
      let g = and_parts (x.ref.id == n) (are_numbered (n + 1) (references os)) h in
      let here = eqb-true x.ref.id n g.0 in
      let low = least (n + 1) os a g.1 i in
      let apart : x.ref.id ≡ a.ref.id → ⊥ = λ q. omega (arith, here, low, q) in
      claimed_later (relations_with l ps x bs) (relations_of l ps os bs) a.ref.id b.ref.id (with_other x bs a.ref.id b.ref.id apart) ∙ of_here (n + 1) m a b os bs g.1 k i j look

  pub are_claimed : (a b : Occurrence) (os : List Occurrence) → are_in_turn (references os) ≡ true → In a os → In b os → is_looked_at l ps a b ≡ true → claimed (relations_of l ps os os) a.ref.id b.ref.id ≡ Some (relation l a b)
  are_claimed a b [] h i j look = absurd i
  are_claimed a b (o ∷ os) h i j look = of_here o.ref.id o.ref.id a b (o ∷ os) (o ∷ os) h h i j look
