-- Lists: what all their elements pass, what is left behind one of them, and what stands at a place.
use Rattle.std.proofs.Common.{◌≡◌, ◌∙◌, ◌+◌, ◌<◌, ℕ, List, ◌∷◌, length, drop, sym, ap, get_or, ◌≤◌, None, arith, [], ◌++◌, refl, false, ◌-◌, take}
use Rattle.std.proofs.lemmas.Bool.{and_from, and_parts, or_parts}
use Rattle.std.proofs.lemmas.List.{drop_more, length-map, length-append, length-drop, take_all}
use Rattle.std.proofs.lemmas.List.Folds.{list_all-append, list_any-append}
use Rattle.std.proofs.lemmas.Option.{slice_get_past}
use Rattle.std.specs.List.{list_all, list_any}
use Rattle.std.specs.Prelude.{slice_get, map, Bool, true, if◌then◌else◌}

pub item_here : {X : Type 0} (xs : List X) (i : ℕ) (x : X) → i < length xs → x ≡ get_or xs i x → drop i xs ≡ x ∷ drop (i + 1) xs
item_here xs i x l e = drop_more xs i x l ∙ ap (λ y. y ∷ drop (i + 1) xs) (sym e)

pub mapped_none : {X Y : Type 0} (f : X → Y) (xs : List X) (i : ℕ) → length xs ≤ i → slice_get (map f xs) i ≡ None
mapped_none f xs i h = slice_get_past (map f xs) i (omega (arith, h, length-map xs f))

-- a list with an element is not the empty one
pub not_empty : {X : Type 0} (front : List X) (y : X) (back : List X) → [] ≡ front ++ y ∷ back → ⊥
not_empty [] y back h = cc
not_empty (f ∷ front) y back h = cc

-- what all elements pass
pub all_joined : {X : Type 0} (p : X → Bool) (xs ys : List X) → list_all p xs ≡ true → list_all p ys ≡ true → list_all p (xs ++ ys) ≡ true
all_joined p xs ys h k = list_all-append p xs ys ∙ and_from (list_all p xs) (list_all p ys) h k

pub all_parts : {X : Type 0} (p : X → Bool) (xs ys : List X) → list_all p (xs ++ ys) ≡ true → (list_all p xs ≡ true) × (list_all p ys ≡ true)
all_parts p xs ys h = and_parts (list_all p xs) (list_all p ys) (sym (list_all-append p xs ys) ∙ h)

pub all_right : {X : Type 0} (p : X → Bool) (xs ys : List X) → list_all p (xs ++ ys) ≡ true → list_all p ys ≡ true
all_right p xs ys h = (and_parts (list_all p xs) (list_all p ys) (sym (list_all-append p xs ys) ∙ h)).1

pub all_weaker : {X : Type 0} (a b : X → Bool) (xs : List X) → ((x : X) → a x ≡ true → b x ≡ true) → list_all a xs ≡ true → list_all b xs ≡ true
all_weaker a b [] f h = refl
all_weaker a b (x ∷ xs) f h = let p = and_parts (a x) (list_all a xs) h in and_from (b x) (list_all b xs) (f x p.0) (all_weaker a b xs f p.1)

-- what none passes
pub any_parts : {X : Type 0} (p : X → Bool) (xs ys : List X) → list_any p (xs ++ ys) ≡ false → (list_any p xs ≡ false) × (list_any p ys ≡ false)
any_parts p xs ys h = or_parts (list_any p xs) (list_any p ys) (sym (list_any-append p xs ys) ∙ h)

-- lists without elements
pub none_else : {X : Type 0} (b : Bool) (xs : List X) → xs ≡ [] → (if b then [] else xs) ≡ []
none_else true xs h = refl
none_else false xs h = h

pub both_none : {X : Type 0} (xs ys : List X) → xs ≡ [] → ys ≡ [] → (xs ++ ys) ≡ []
both_none xs ys h k = ap (λ zs. zs ++ ys) h ∙ k

pub one_longer : {X : Type 0} (xs : List X) (x : X) → length (xs ++ x ∷ []) ≡ length xs + 1
one_longer xs x = length-append xs (x ∷ [])

pub part_left : {X : Type 0} (xs : List X) (i : ℕ) → take (length xs - i) (drop i xs) ≡ drop i xs
part_left xs i = take_all (length xs - i) (drop i xs) (let k = length-drop i xs in omega (arith, k))
