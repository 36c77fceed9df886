-- The accounts of expressions are the meaning's values.
use Rattle.std.proofs.Common.{◌≡◌, ◌∙◌, ℕ, List, [], ◌∷◌, Result, Ok, Err, Option, Some, None, Bool, true, false, map, length, refl, sym, ap, arith}
use Rattle.std.specs.Prelude.{ℤ, pos, ◌+◌, ◌*◌, unsigned_abs, ◌-ℤ◌, if◌then◌else◌}
use Rattle.ast.specs.Exact.{greatest, least, greater, less, intrinsic_value}
use Rattle.ast.specs.Meaning.{LookUp, value, values, looked_up, place_in, target}
use Rattle.ast.specs.Store.{StoreOf}
use Rattle.ast.specs.View.{term}
use Rattle.ast.specs.declared.expression.Expr.{Expr}
use Rattle.ast.specs.Results.{◌>>=◌}
use Rattle.ast.specs.Symbols.{Extent, Symbol, is_within, width, place_of}
use Rattle.ast.specs.Tree.{Terms, terms, no_terms, then_term, Access, accessed}
use Rattle.ast.specs.declared.expression.Intrinsic.{Intrinsic}
use Rattle.ast.specs.declared.expression.Intrinsic.TheVariants.{Abs, Iabs, Max, Max0, Min, Min0, Mod}
use Rattle.ast.specs.declared.fault.Fault.{Fault}
use Rattle.ast.specs.declared.fault.Fault.TheVariants.{Index}
use Rattle.tree_run.specs.Steps.{Way, arrived, arrived_at, call_at, evaluated, further_from, greatest_at, least_at, opening, place_at, remainder_at, stepped}

-- the first of a list and the others, and then what is made of them
first_on : {Y : Type 0} (r : Result ℤ Fault) (s : Result (List ℤ) Fault) (next : List ℤ → Result Y Fault) → ((r >>= λ x. s >>= λ xs. Ok (x ∷ xs)) >>= next) ≡ (r >>= λ x. s >>= λ xs. next (x ∷ xs))
first_on (Ok x) (Ok xs) next = refl
first_on (Ok x) (Err f) next = refl
first_on (Err f) s next = refl

under : {Y : Type 0} (r : Result ℤ Fault) (f g : ℤ → Result Y Fault) → ((x : ℤ) → f x ≡ g x) → (r >>= f) ≡ (r >>= g)
under (Ok x) f g h = h x
under (Err e) f g h = refl

pub greatest_law : (look : LookUp) (best : ℤ) (es : Terms) → greatest_at look best es ≡ (values look es >>= λ xs. Ok (greatest best xs))
greatest_law look best no_terms = refl
greatest_law look best (then_term e es) =
    under (value look e) (λ x. greatest_at look (greater best x) es) (λ x. values look es >>= λ xs. Ok (greatest (greater best x) xs)) (λ x. greatest_law look (greater best x) es)
    ∙ sym (first_on (value look e) (values look es) (λ xs. Ok (greatest best xs)))

pub least_law : (look : LookUp) (best : ℤ) (es : Terms) → least_at look best es ≡ (values look es >>= λ xs. Ok (least best xs))
least_law look best no_terms = refl
least_law look best (then_term e es) =
    under (value look e) (λ x. least_at look (less best x) es) (λ x. values look es >>= λ xs. Ok (least (less best x) xs)) (λ x. least_law look (less best x) es)
    ∙ sym (first_on (value look e) (values look es) (λ xs. Ok (least best xs)))

pub evaluated_law : {Y : Type 0} (look : LookUp) (es : Terms) (r : Result Y Fault) → (evaluated look es >>= λ done. r) ≡ (values look es >>= λ xs. r)
evaluated_law look no_terms r = refl
evaluated_law look (then_term e es) r = by (value look e) (evaluated look es) (values look es) (evaluated_law look es r)
  where
    by : (x : Result ℤ Fault) (u : Result (Unit {0}) Fault) (xs : Result (List ℤ) Fault) → (u >>= λ done. r) ≡ (xs >>= λ ys. r) → ((x >>= λ y. u) >>= λ done. r) ≡ ((x >>= λ y. xs >>= λ ys. Ok (y ∷ ys)) >>= λ zs. r)
    by (Ok x) u (Ok xs) h = h
    by (Ok x) u (Err f) h = h
    by (Err f) u xs h = refl

-- the place where subscripts lead
walked : Way → List ℤ → Way
walked w [] = w
walked w (x ∷ xs) = walked (stepped w x) xs

-- a place by the subscripts that are left, from a place so far
from_place : ℕ → Option ℕ → Result ℕ Fault → Result ℕ Fault
from_place stride None r = Err Index
from_place stride (Some p) r = r >>= λ q. Ok (p + stride * q)

stays : (s : ℕ) (o : Option ℕ) (xs : List ℤ) → arrived (walked (record { rest = []; stride = s; place = o }) xs) ≡ arrived_at [] o
unfolding walked
stays s o [] = refl
stays s o (x ∷ xs) = stays s o xs

no_more : (s : ℕ) (o : Option ℕ) → arrived_at [] o ≡ from_place s o (Ok 0)
unfolding from_place
no_more s None = refl
no_more s (Some p) = ap Ok (omega arith)

too_few : (s : ℕ) (o : Option ℕ) → Err Index ≡ from_place s o (Err Index)
unfolding from_place
too_few s None = refl
too_few s (Some p) = refl

sums : (p s o w q : ℕ) → (p + s * o) + (s * w) * q ≡ p + s * (o + w * q)
sums p s o w q = Prim.grind (arith)

one_part : (b : Bool) (p s o w : ℕ) (r : Result ℕ Fault) → from_place (s * w) (if b then Some (p + s * o) else None) r ≡ ((if b then (r >>= (λ q. Ok (o + w * q))) else Err Index) >>= λ q. Ok (p + s * q))
unfolding from_place
one_part true p s o w (Ok q) = ap Ok (sums p s o w q)
one_part true p s o w (Err f) = refl
one_part false p s o w r = refl

one_on : (d : Extent) (x : ℤ) (s : ℕ) (o : Option ℕ) (r : Result ℕ Fault) → from_place (s * width d) (further_from s d x o) r ≡ from_place s o (if is_within d x then (r >>= (λ p. Ok (unsigned_abs (x -ℤ d.lower) + width d * p))) else Err Index)
unfolding from_place
one_on d x s None r = refl
one_on d x s (Some p) r = one_part (is_within d x) p s (unsigned_abs (x -ℤ d.lower)) (width d) r

leads : (ds : List Extent) (xs : List ℤ) (s : ℕ) (o : Option ℕ) → arrived (walked (record { rest = ds; stride = s; place = o }) xs) ≡ from_place s o (place_of ds xs)
unfolding walked
leads [] xs s o = stays s o xs ∙ no_more s o
leads (d ∷ ds) [] s o = too_few s o
leads (d ∷ ds) (x ∷ xs) s o = leads ds xs (s * width d) (further_from s d x o) ∙ one_on d x s o (place_of ds xs)

all_walked : (look : LookUp) (w : Way) (es : Terms) → place_at look w es ≡ (values look es >>= λ xs. arrived (walked w xs))
unfolding walked
all_walked look w no_terms = refl
all_walked look w (then_term e es) =
    under (value look e) (λ x. place_at look (stepped w x) es) (λ x. values look es >>= λ xs. arrived (walked w (x ∷ xs))) (λ x. all_walked look (stepped w x) es)
    ∙ sym (first_on (value look e) (values look es) (λ xs. arrived (walked w xs)))

after : (r : Result (List ℤ) Fault) (f g : List ℤ → Result ℕ Fault) → ((xs : List ℤ) → f xs ≡ g xs) → (r >>= f) ≡ (r >>= g)
after (Ok x) f g h = h x
after (Err e) f g h = refl

from_start : (r : Result ℕ Fault) → from_place 1 (Some 0) r ≡ r
unfolding from_place
from_start (Ok q) = ap Ok (omega arith)
from_start (Err f) = refl

pub place_law : (look : LookUp) (ds : List Extent) (es : Terms) → place_at look (opening ds) es ≡ (values look es >>= λ xs. place_of ds xs)
place_law look ds es =
    all_walked look (opening ds) es
    ∙ after (values look es) (λ xs. arrived (walked (opening ds) xs)) (λ xs. place_of ds xs) (λ xs. leads ds xs 1 (Some 0) ∙ from_start (place_of ds xs))

-- an argument, and then what is made of its value
alone : (r : Result ℤ Fault) (next : ℤ → Result ℤ Fault) (f : List ℤ → Result ℤ Fault) → ((x : ℤ) → f (x ∷ []) ≡ next x) → (r >>= next) ≡ ((r >>= λ x. Ok (x ∷ [])) >>= f)
alone (Ok x) next f h = sym (h x)
alone (Err e) next f h = refl

both : (r s : Result ℤ Fault) (next : ℤ → ℤ → Result ℤ Fault) (f : List ℤ → Result ℤ Fault) → ((x y : ℤ) → f (x ∷ y ∷ []) ≡ next x y) → (r >>= λ x. s >>= λ y. next x y) ≡ ((r >>= λ x. (s >>= λ y. Ok (y ∷ [])) >>= λ ys. Ok (x ∷ ys)) >>= f)
both (Ok x) (Ok y) next f h = sym (h x y)
both (Ok x) (Err e) next f h = refl
both (Err e) s next f h = refl

first_of : (r : Result ℤ Fault) (s : Result (List ℤ) Fault) (next : ℤ → Result ℤ Fault) (f : List ℤ → Result ℤ Fault) → ((x : ℤ) → next x ≡ (s >>= λ xs. f (x ∷ xs))) → (r >>= next) ≡ ((r >>= λ x. s >>= λ xs. Ok (x ∷ xs)) >>= f)
first_of (Ok x) (Ok xs) next f h = h x
first_of (Ok x) (Err e) next f h = h x
first_of (Err e) s next f h = refl

zero_on : (r : Result ℤ Fault) (s : Result (List ℤ) Fault) (f : List ℤ → Result ℤ Fault) → ((x : ℤ) → (s >>= λ xs. Ok (pos 0)) ≡ (s >>= λ xs. f (x ∷ xs))) → ((r >>= λ x. s >>= λ xs. Ok (x ∷ xs)) >>= λ zs. Ok (pos 0)) ≡ ((r >>= λ x. s >>= λ xs. Ok (x ∷ xs)) >>= f)
zero_on (Ok x) (Ok xs) f h = h x
zero_on (Ok x) (Err e) f h = refl
zero_on (Err e) s f h = refl

zero_of : (r : Result ℤ Fault) (f : List ℤ → Result ℤ Fault) → ((x : ℤ) → f (x ∷ []) ≡ Ok (pos 0)) → (r >>= λ x. Ok (pos 0)) ≡ ((r >>= λ x. Ok (x ∷ [])) >>= f)
zero_of (Ok x) f h = sym (h x)
zero_of (Err e) f h = refl

-- a number of arguments that no program in the profile has
odd : (look : LookUp) (f : Intrinsic) (es : Terms) → (values look es >>= λ xs. Ok (pos 0)) ≡ (values look es >>= λ xs. intrinsic_value f xs) → (evaluated look es >>= λ done. Ok (pos 0)) ≡ (values look es >>= λ xs. intrinsic_value f xs)
odd look f es h = evaluated_law look es (Ok (pos 0)) ∙ h

pub call_law : (look : LookUp) (f : Intrinsic) (es : Terms) → call_at look f es ≡ (values look es >>= λ xs. intrinsic_value f xs)
call_law look Mod no_terms = refl
call_law look Mod (then_term a no_terms) = zero_of (value look a) (λ xs. intrinsic_value Mod xs) (λ x. refl)
call_law look Mod (then_term a (then_term b no_terms)) = both (value look a) (value look b) _ (λ xs. intrinsic_value Mod xs) (λ x y. refl)
call_law look Mod (then_term a (then_term b (then_term c es))) =
    under (value look a) (λ x. remainder_at look x (then_term b (then_term c es))) (λ x. values look (then_term b (then_term c es)) >>= λ xs. Ok (pos 0)) (λ x. evaluated_law look (then_term b (then_term c es)) (Ok (pos 0)))
    ∙ sym (first_on (value look a) (values look (then_term b (then_term c es))) (λ xs. Ok (pos 0)))
    ∙ zero_on (value look a) (values look (then_term b (then_term c es))) (λ xs. intrinsic_value Mod xs) (λ x.
    zero_on (value look b) (values look (then_term c es)) (λ xs. intrinsic_value Mod (x ∷ xs)) (λ y.
    zero_on (value look c) (values look es) (λ xs. intrinsic_value Mod (x ∷ y ∷ xs)) (λ z. refl)))
call_law look Abs no_terms = refl
call_law look Abs (then_term a no_terms) = alone (value look a) _ (λ xs. intrinsic_value Abs xs) (λ x. refl)
call_law look Abs (then_term a (then_term b es)) =
    odd look Abs (then_term a (then_term b es))
    (zero_on (value look a) (values look (then_term b es)) (λ xs. intrinsic_value Abs xs) (λ x.
    zero_on (value look b) (values look es) (λ xs. intrinsic_value Abs (x ∷ xs)) (λ y. refl)))
call_law look Iabs no_terms = refl
call_law look Iabs (then_term a no_terms) = alone (value look a) _ (λ xs. intrinsic_value Iabs xs) (λ x. refl)
call_law look Iabs (then_term a (then_term b es)) =
    odd look Iabs (then_term a (then_term b es))
    (zero_on (value look a) (values look (then_term b es)) (λ xs. intrinsic_value Iabs xs) (λ x.
    zero_on (value look b) (values look es) (λ xs. intrinsic_value Iabs (x ∷ xs)) (λ y. refl)))
call_law look Max no_terms = refl
call_law look Max (then_term a es) = first_of (value look a) (values look es) (λ x. greatest_at look x es) (λ xs. intrinsic_value Max xs) (λ x. greatest_law look x es)
call_law look Max0 no_terms = refl
call_law look Max0 (then_term a es) = first_of (value look a) (values look es) (λ x. greatest_at look x es) (λ xs. intrinsic_value Max0 xs) (λ x. greatest_law look x es)
call_law look Min no_terms = refl
call_law look Min (then_term a es) = first_of (value look a) (values look es) (λ x. least_at look x es) (λ xs. intrinsic_value Min xs) (λ x. least_law look x es)
call_law look Min0 no_terms = refl
call_law look Min0 (then_term a es) = first_of (value look a) (values look es) (λ x. least_at look x es) (λ xs. intrinsic_value Min0 xs) (λ x. least_law look x es)

-- an intrinsic function of another number of arguments
pub mod_other : (look : LookUp) (x : ℤ) (es : List Expr) → (length es ≡ 1 → ⊥) → remainder_at look x (terms (map term es)) ≡ (evaluated look (terms (map term es)) >>= λ done. Ok (pos 0))
mod_other look x [] h = refl
mod_other look x (a ∷ []) h = absurd (h refl)
mod_other look x (a ∷ b ∷ es) h = refl

pub mod_zero : (look : LookUp) (x : ℤ) (es : List Expr) (done : Unit {0}) → (length es ≡ 1 → ⊥) → Ok done ≡ evaluated look (terms (map term es)) → ◌≡◌ {A = Result ℤ Fault} (Ok (pos 0)) (remainder_at look x (terms (map term es)))
mod_zero look x es done h k = sym (mod_other look x es h ∙ ap (λ (r : Result (Unit {0}) Fault). r >>= λ u. Ok (pos 0)) (sym k))

pub abs_other : (look : LookUp) (es : List Expr) → (length es ≡ 1 → ⊥) → call_at look Abs (terms (map term es)) ≡ (evaluated look (terms (map term es)) >>= λ done. Ok (pos 0))
abs_other look [] h = refl
abs_other look (a ∷ []) h = absurd (h refl)
abs_other look (a ∷ b ∷ es) h = refl

-- an element is what the store holds at its place
pub element_law : (ss : List Symbol) (store : StoreOf) (a : Access) → value (looked_up ss store) (accessed a) ≡ (target ss store a >>= λ p. Ok (store a.ref.name p))
element_law ss store a = sym (held (values (looked_up ss store) a.subscripts) (λ xs. place_in ss a.ref.name xs) (λ p. Ok (store a.ref.name p)))
  where
    held : (r : Result (List ℤ) Fault) (f : List ℤ → Result ℕ Fault) (g : ℕ → Result ℤ Fault) → ((r >>= f) >>= g) ≡ (r >>= λ xs. f xs >>= g)
    held (Ok x) f g = refl
    held (Err e) f g = refl
