-- Equal lists, item by item.
use Rattle.std.proofs.Common.{◌≡◌, ◌∙◌, ◌+◌, ◌<◌, ◌≤◌, ℕ, zero, suc, Bool, true, false, List, [], ◌∷◌, length, map, take, get_or, add-one, ap, sym, arith, refl}
use Rattle.std.proofs.lemmas.List.{take_all}
use Rattle.std.specs.Bool.{Decides}
use Rattle.ast.specs.Tree.{Term, terms}

-- what is made of the items at an index differs, so the lists made of all items do
pub item_differs : {X Y Z : Type 0} (f : X → Z) (g : Y → Z) (xs : List X) (ys : List Y) (i : ℕ) (x : X) (y : Y) (s : Bool)
    → i < length xs → i < length ys → x ≡ get_or xs i x → y ≡ get_or ys i y → s ≡ false → Decides s (f x ≡ g y) → Decides false (map f xs ≡ map g ys)
item_differs f g xs ys i x y s l m e k w d = ((λ h. cc), (λ h. sym w ∙ d.1 (same_at f g x y xs ys i l m e k h)))
  where
    same_at : {X Y Z : Type 0} (f : X → Z) (g : Y → Z) (x : X) (y : Y) (xs : List X) (ys : List Y) (i : ℕ) → i < length xs → i < length ys → x ≡ get_or xs i x → y ≡ get_or ys i y → map f xs ≡ map g ys → f x ≡ g y
    same_at f g x y [] ys i l m e k h = absurd (omega (arith, l))
    same_at f g x y (a ∷ xs) [] i l m e k h = absurd (omega (arith, m))
    same_at f g x y (a ∷ xs) (b ∷ ys) zero l m e k h = let q : f a ≡ g b = cc in ap f e ∙ q ∙ ap g (sym k)
    same_at f g x y (a ∷ xs) (b ∷ ys) (suc i) l m e k h = let q : map f xs ≡ map g ys = cc in same_at f g x y xs ys i (omega (arith, l)) (omega (arith, m)) e k q

-- ---- lists of expressions

one_list : (xs ys : List Term) → terms xs ≡ terms ys → xs ≡ ys
one_list [] [] h = refl
one_list [] (y ∷ ys) h = cc
one_list (x ∷ xs) [] h = cc
one_list (x ∷ xs) (y ∷ ys) h =
    let first : x ≡ y = cc in
    let more : terms xs ≡ terms ys = cc in
    ap (λ (z : Term). z ∷ xs) first ∙ ap (λ (zs : List Term). y ∷ zs) (one_list xs ys more)

pub expressions_law : (xs ys : List Term) (b : Bool) → Decides b (xs ≡ ys) → Decides b (terms xs ≡ terms ys)
expressions_law xs ys b d = ((λ h. ap terms (d.0 h)), (λ h. d.1 (one_list xs ys h)))

-- ---- lists that are compared item by item

pub lengths_differ : {X Y Z : Type 0} (f : X → Z) (g : Y → Z) (xs : List X) (ys : List Y) → (length xs ≡ length ys → ⊥) → Decides false (map f xs ≡ map g ys)
lengths_differ f g xs ys other = ((λ h. cc), (λ h. absurd (other (as_long f g xs ys h))))
  where
    as_long : {X Y Z : Type 0} (f : X → Z) (g : Y → Z) (xs : List X) (ys : List Y) → map f xs ≡ map g ys → length xs ≡ length ys
    as_long f g [] [] h = refl
    as_long f g [] (y ∷ ys) h = cc
    as_long f g (x ∷ xs) [] h = cc
    as_long f g (x ∷ xs) (y ∷ ys) h = let q : map f xs ≡ map g ys = cc in ap suc (as_long f g xs ys q)

-- the items at an index are the same too
pub item_same : {X Y Z : Type 0} (f : X → Z) (g : Y → Z) (xs : List X) (ys : List Y) (i : ℕ) (x : X) (y : Y) (s : Bool) → i < length xs → i < length ys → x ≡ get_or xs i x → y ≡ get_or ys i y → s ≡ true → Decides s (f x ≡ g y)
    → map f (take i xs) ≡ map g (take i ys) → map f (take (i + 1) xs) ≡ map g (take (i + 1) ys)
item_same {X = X} {Y = Y} f g xs ys i x y s l m e k w d so_far =
    ap (λ (n : ℕ). map f (take n xs)) (add-one i) ∙ step f g xs ys i x y l m e k (d.0 w) so_far ∙ ap (λ (n : ℕ). map g (take n ys)) (sym (add-one i))
  where
    step : {X Y Z : Type 0} (f : X → Z) (g : Y → Z) (xs : List X) (ys : List Y) (i : ℕ) (x : X) (y : Y) → i < length xs → i < length ys → x ≡ get_or xs i x → y ≡ get_or ys i y → f x ≡ g y → map f (take i xs) ≡ map g (take i ys) → map f (take (suc i) xs) ≡ map g (take (suc i) ys)
    step f g [] ys i x y l m e k same h = absurd (omega (arith, l))
    step f g (a ∷ xs) [] i x y l m e k same h = absurd (omega (arith, m))
    step {Z = Z} f g (a ∷ xs) (b ∷ ys) zero x y l m e k same h = ap (λ (z : Z). z ∷ []) (ap f (sym e) ∙ same ∙ ap g k)
    step {Z = Z} f g (a ∷ xs) (b ∷ ys) (suc i) x y l m e k same h =
        let first : f a ≡ g b = cc in
        let more : map f (take i xs) ≡ map g (take i ys) = cc in
        let q = step f g xs ys i x y (omega (arith, l)) (omega (arith, m)) e k same more in
        ap (λ (z : Z). z ∷ map f (take (suc i) xs)) first ∙ ap (λ (zs : List Z). g b ∷ zs) q

pub all_same : {X Y Z : Type 0} (f : X → Z) (g : Y → Z) (xs : List X) (ys : List Y) (i : ℕ) → length xs ≤ i → length xs ≡ length ys → map f (take i xs) ≡ map g (take i ys) → Decides true (map f xs ≡ map g ys)
all_same {X = X} {Y = Y} f g xs ys i h as_long so_far = (
  (λ t. sym (ap (λ (l : List X). map f l) (take_all i xs h)) ∙ so_far ∙ ap (λ (l : List Y). map g l) (take_all i ys (omega (arith, h, as_long)))),
  (λ t. refl),
)

-- ---- what is the same in each part

pub part_differs : {P Q : Type 0} (v s : Bool) → v ≡ s → v ≡ false → Decides s P → (Q → P) → Decides v Q
part_differs v s is w d part = ((λ h. let q : true ≡ false = sym h ∙ w in cc), (λ h. is ∙ d.1 (part h)))

pub last_part : {P Q R : Type 0} (s r : Bool) → s ≡ true → Decides s P → Decides r Q → (P → Q → R) → (R → Q) → Decides r R
last_part s r w d e whole part = ((λ h. whole (d.0 w) (e.0 h)), (λ h. e.1 (part h)))
