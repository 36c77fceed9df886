-- A loop has one plan at most.
use Rattle.std.proofs.Common.{◌≡◌, ◌∙◌, ◌+◌, ◌<◌, ◌⊎◌, inl, inr, ℕ, Bool, true, false, List, [], ◌∷◌, map, refl, ap, sym, subst, ⊎_elim, arith}
use mathlib.Core.Path.{fun_ext}
use Rattle.std.specs.Prelude.{◌==◌, nat_lt, ◌||◌, ◌&&◌}
use Rattle.std.specs.List.{Contains}
use Rattle.std.proofs.lemmas.Bool.{and_parts, ltb-true, eqb-true}
use Rattle.ast.specs.Tree.{Ref}
use Rattle.dependence.specs.Plan.{PlanBlock, PlanTree}
use Rattle.dependence.specs.declared.relation.Relation.{Relation}
use Rattle.loop_tree.specs.Loops.{Loop}
use Rattle.loop_tree.specs.Private.{Private}
use Rattle.placement.specs.Placement.{AreAwaits, AreSources, IsEvent, IsPlacedBody, are_in_order, comes_first, is_ascending, relations_of}
use Rattle.placement.specs.Placing.{placed_block}
use Rattle.placement.proofs.Few.{above, tail_ascending}
use Rattle.plan_check.proofs.Members.{In, among, contained}
use Rattle.privatise.specs.Privates.{ArePrivate, Picked}

-- ---- private names

picked_one : (P : Ref → Type 0) (rs ps qs : List Ref) → Picked P rs ps → Picked P rs qs → ps ≡ qs
picked_one P [] ps qs a b = a ∙ sym b
picked_one P (r ∷ rs) ps qs (inl a) (inl b) = a.2 ∙ ap (λ (z : List Ref). r ∷ z) (picked_one P rs a.1 b.1 a.3 b.3) ∙ sym b.2
picked_one P (r ∷ rs) ps qs (inl a) (inr b) = absurd (b.0 a.0)
picked_one P (r ∷ rs) ps qs (inr a) (inl b) = absurd (a.0 b.0)
picked_one P (r ∷ rs) ps qs (inr a) (inr b) = picked_one P rs ps qs a.1 b.1

private_one : (l : Loop) (m n : List (List ℕ)) → ArePrivate l m → ArePrivate l n → m ≡ n
private_one l m n a b =
    a.named ∙ ap (λ (z : List Ref). map (λ (r : Ref). r.name) z) (picked_one (λ r. Private l r.cell) l.assigned a.scalars b.scalars a.picked b.picked) ∙ sym b.named

-- ---- lists in order with the same elements

abbrev Sorted : {X : Type 0} → (X → X → Type 0) → List X → Type 0
Sorted R [] = Unit {0}
Sorted {X} R (x ∷ xs) = ((y : X) → In y xs → R x y) × Sorted R xs

module _ {X : Type 0} (R : X → X → Type 0) (asym : (x y : X) → R x y → R y x → ⊥) where
  heads : (x y : X) (xs ys : List X) → ((z : X) → In z xs → R x z) → ((z : X) → In z ys → R y z) → In x (y ∷ ys) → In y (x ∷ xs) → x ≡ y
  heads x y xs ys a b (inl e) j = e
  heads x y xs ys a b (inr i) (inl e) = sym e
  heads x y xs ys a b (inr i) (inr j) = absurd (asym x y (a y j) (b x i))

  within : (x y : X) (xs ys : List X) → x ≡ y → ((z : X) → In z xs → R x z) → ((z : X) → In z (x ∷ xs) → In z (y ∷ ys)) → (z : X) → In z xs → In z ys
  within x y xs ys e a f z i =
      ⊎_elim
      (λ (h : z ≡ y). absurd (asym x z (a z i) (subst (λ (w : X). R z w) (h ∙ sym e) (subst (λ (w : X). R w z) (sym (h ∙ sym e)) (a z i)))))
      (λ (j : In z ys). j)
      (f z (inr i))

  sorted_one : (xs ys : List X) → Sorted R xs → Sorted R ys → ((z : X) → In z xs → In z ys) → ((z : X) → In z ys → In z xs) → xs ≡ ys
  sorted_one [] [] a b f g = refl
  sorted_one [] (y ∷ ys) a b f g = absurd (g y (inl refl))
  sorted_one (x ∷ xs) [] a b f g = absurd (f x (inl refl))
  sorted_one (x ∷ xs) (y ∷ ys) a b f g =
      let e : x ≡ y = heads x y xs ys a.0 b.0 (f x (inl refl)) (g y (inl refl)) in
      let t : xs ≡ ys = sorted_one xs ys a.1 b.1 (within x y xs ys e a.0 f) (within y x ys xs (sym e) b.0 g) in
      ap (λ (w : X). w ∷ xs) e ∙ ap (λ (w : List X). y ∷ w) t

-- ---- sources

abbrev Less : ℕ → ℕ → Type 0
Less x y = x < y

less_asym : (x y : ℕ) → Less x y → Less y x → ⊥
less_asym x y a b = absurd (omega (arith, a, b))

ascending_sorted : (xs : List ℕ) → is_ascending xs ≡ true → Sorted Less xs
ascending_sorted [] h = tt
ascending_sorted (x ∷ xs) h = (λ y i. above x xs h y i, ascending_sorted xs (tail_ascending x xs h))

sources_in : (l : Loop) (ss ts : List ℕ) → AreSources l ss → AreSources l ts → (s : ℕ) → In s ss → In s ts
sources_in l ss ts a b s i =
    let k = a.kept s (contained s ss i) in
    among s ts (b.all s k.0 k.1 k.2)

sources_one : (l : Loop) (ss ts : List ℕ) → AreSources l ss → AreSources l ts → ss ≡ ts
sources_one l ss ts a b =
    sorted_one Less less_asym ss ts (ascending_sorted ss a.ascending) (ascending_sorted ts b.ascending) (sources_in l ss ts a b) (sources_in l ts ss b a)

-- ---- awaits

event_in : (k : ℕ) (xs : List ℕ) (e s : ℕ) → IsEvent k xs e s → In s xs
event_in k [] e s h = h
event_in k (x ∷ xs) e s (inl h) = inl h.1
event_in k (x ∷ xs) e s (inr h) = inr (event_in (k + 1) xs e s h)

event_one : (k : ℕ) (xs : List ℕ) (d e s : ℕ) → is_ascending xs ≡ true → IsEvent k xs d s → IsEvent k xs e s → d ≡ e
event_one k [] d e s a h j = absurd h
event_one k (x ∷ xs) d e s a (inl h) (inl j) = h.0 ∙ sym j.0
event_one k (x ∷ xs) d e s a (inl h) (inr j) = let u = above x xs a s (event_in (k + 1) xs e s j) in let v = h.1 in absurd (omega (arith, u, v))
event_one k (x ∷ xs) d e s a (inr h) (inl j) = let u = above x xs a s (event_in (k + 1) xs d s h) in let v = j.1 in absurd (omega (arith, u, v))
event_one k (x ∷ xs) d e s a (inr h) (inr j) = event_one (k + 1) xs d e s (tail_ascending x xs a) h j

abbrev Before : ℕ × ℕ → ℕ × ℕ → Type 0
Before a b = (a.0 < b.0) ⊎ ((a.0 ≡ b.0) × (a.1 < b.1))

before_of : (a b : ℕ × ℕ) → comes_first a b ≡ true → Before a b
before_of a b h = by (nat_lt a.0 b.0) refl h
  where
    by : (c : Bool) → nat_lt a.0 b.0 ≡ c → (c || ((a.0 == b.0) && nat_lt a.1 b.1)) ≡ true → Before a b
    by true e k = inl (ltb-true a.0 b.0 e)
    by false e k = let g = and_parts (a.0 == b.0) (nat_lt a.1 b.1) k in inr (eqb-true a.0 b.0 g.0, ltb-true a.1 b.1 g.1)

before_asym : (a b : ℕ × ℕ) → Before a b → Before b a → ⊥
before_asym a b (inl x) (inl y) = absurd (omega (arith, x, y))
before_asym a b (inl x) (inr y) = let z = y.0 in absurd (omega (arith, x, z))
before_asym a b (inr x) (inl y) = let z = x.0 in absurd (omega (arith, y, z))
before_asym a b (inr x) (inr y) = let u = x.1 in let v = y.1 in absurd (omega (arith, u, v))

before_trans : (a b c : ℕ × ℕ) → Before a b → Before b c → Before a c
before_trans a b c (inl x) (inl y) = inl (omega (arith, x, y))
before_trans a b c (inl x) (inr y) = let z = y.0 in inl (omega (arith, x, z))
before_trans a b c (inr x) (inl y) = let z = x.0 in inl (omega (arith, y, z))
before_trans a b c (inr x) (inr y) = let u = x.1 in let v = y.1 in inr (x.0 ∙ y.0, omega (arith, u, v))

first_before : (x : ℕ × ℕ) (xs : List (ℕ × ℕ)) → are_in_order (x ∷ xs) ≡ true → (y : ℕ × ℕ) → In y xs → Before x y
first_before x [] h y i = absurd i
first_before x (z ∷ xs) h y (inl e) = subst (λ (w : ℕ × ℕ). Before x w) (sym e) (before_of x z (and_parts (comes_first x z) (are_in_order (z ∷ xs)) h).0)
first_before x (z ∷ xs) h y (inr i) =
    let g = and_parts (comes_first x z) (are_in_order (z ∷ xs)) h in
    before_trans x z y (before_of x z g.0) (first_before z xs g.1 y i)

tail_order : (x : ℕ × ℕ) (xs : List (ℕ × ℕ)) → are_in_order (x ∷ xs) ≡ true → are_in_order xs ≡ true
tail_order x [] h = refl
tail_order x (z ∷ xs) h = (and_parts (comes_first x z) (are_in_order (z ∷ xs)) h).1

order_sorted : (xs : List (ℕ × ℕ)) → are_in_order xs ≡ true → Sorted Before xs
order_sorted [] h = tt
order_sorted (x ∷ xs) h = (λ y i. first_before x xs h y i, order_sorted xs (tail_order x xs h))

awaits_in : (l : Loop) (ss : List ℕ) (t : ℕ) (xs ys : List (ℕ × ℕ)) → is_ascending ss ≡ true → AreAwaits l ss t xs → AreAwaits l ss t ys → (z : ℕ × ℕ) → In z xs → In z ys
awaits_in l ss t xs ys h a b z i =
    let k = a.kept z.0 z.1 (contained z xs i) in
    let m = b.all k.0 z.1 k.2 in
    let e : m.0 ≡ z.0 = event_one 1 ss m.0 z.0 k.0 h m.1 k.1 in
    among z ys (subst (λ (w : ℕ). Contains ys (w, z.1)) e m.2)

awaits_one : (l : Loop) (ss : List ℕ) (t : ℕ) (xs ys : List (ℕ × ℕ)) → is_ascending ss ≡ true → AreAwaits l ss t xs → AreAwaits l ss t ys → xs ≡ ys
awaits_one l ss t xs ys h a b =
    sorted_one Before before_asym xs ys (order_sorted xs a.order) (order_sorted ys b.order) (awaits_in l ss t xs ys h a b) (awaits_in l ss t ys xs h b a)

-- ---- plans

tree_one : (a b : PlanBlock) (m n : List (List ℕ)) (r s : List (ℕ × ℕ × Relation)) → a ≡ b → m ≡ n → r ≡ s
    → let p : PlanTree = record { body = a; privates = m; relations = r } in let q : PlanTree = record { body = b; privates = n; relations = s } in p ≡ q
tree_one a b m n r s e f g =
    let one : PlanBlock → PlanTree = λ z. record { body = z; privates = m; relations = r } in
    let two : List (List ℕ) → PlanTree = λ z. record { body = b; privates = z; relations = r } in
    let three : List (ℕ × ℕ × Relation) → PlanTree = λ z. record { body = b; privates = n; relations = z } in
    ap one e ∙ ap two f ∙ ap three g

pub one_plan : (l : Loop) (p q : PlanTree) → IsPlacedBody l p → IsPlacedBody l q → p ≡ q
one_plan l p q a b =
    let names : p.privates ≡ q.privates = private_one l p.privates q.privates a.privates b.privates in
    let ss : a.sources ≡ b.sources = sources_one l a.sources b.sources a.are_sources b.are_sources in
    let ts : a.before ≡ b.before = fun_ext (λ t. awaits_one l b.sources t (a.before t) (b.before t) b.are_sources.ascending (subst (λ (z : List ℕ). AreAwaits l z t (a.before t)) ss (a.awaits t)) (b.awaits t)) in
    let body : p.body ≡ q.body =
    a.body
    ∙ ap (λ (z : List ℕ). placed_block z a.before (l.statement + 1) l.body) ss
    ∙ ap (λ (z : ℕ → List (ℕ × ℕ)). placed_block b.sources z (l.statement + 1) l.body) ts
    ∙ sym b.body in
    let rs : p.relations ≡ q.relations = a.relations ∙ ap (λ (z : List (List ℕ)). relations_of l z l.references l.references) names ∙ sym b.relations in
    tree_one p.body q.body p.privates q.privates p.relations q.relations body names rs
