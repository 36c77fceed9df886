-- The four tests of two subscripts of one dimension: of a reference in an earlier iteration, with
-- the form f, and of one in a later iteration, with the form g.
use Rattle.std.specs.Prelude.{ℕ, ℤ, zero, suc, pos, ◌+◌, ◌-ℤ◌, ◌*ℤ◌, ◌%◌, int_div, int_rem}
use Rattle.std.specs.Prelude.{int_lt, nat_le, unsigned_abs, Bool, true, false, not, ◌&&◌, ◌==◌}
use Rattle.std.specs.Prelude.{if◌then◌else◌, List, [], ◌∷◌, ◌++◌, map, filter, Option, Some, None}
use Rattle.std.specs.List.{list_any, list_all}
use Rattle.std.specs.Ordering.{int_eq}
use Rattle.ast.specs.Tree.{Term, Terms, no_terms, then_term}
use Rattle.dependence.specs.declared.relation.Reason.{Reason}
use Rattle.dependence.specs.declared.relation.Reason.TheVariants.{Constant, Divisor}
use Rattle.dependence.specs.declared.relation.Reason.TheVariants.{Distance as NoDistance, Range}
use Rattle.dependence.specs.declared.relation.Relation.{Relation}
use Rattle.dependence.specs.declared.relation.Relation.TheVariants.{Apart, Distance, Any}
use Rattle.dependence.specs.declared.relation.Found.{Found}
use Rattle.dependence.specs.declared.relation.Found.TheVariants.{Nothing, Nowhere, Only}
use Rattle.loop_tree.specs.Loops.{Loop}
use Rattle.loop_tree.specs.Occurrences.{Occurrence, numbered}
use Rattle.loop_tree.specs.Constants.{if_some}
use Rattle.subscripts.specs.Forms.{Form, Share, factor_in, form_of, others, varies}

-- The greatest common divisor, by Euclid; n bounds the steps. Divisors.antt has it without steps.
abbrev pub gcd_within : ℕ → ℕ → ℕ → ℕ
gcd_within zero a b = a
gcd_within (suc n) a b = if b == 0 then a else gcd_within n b (a % b)

-- the greatest common divisor of two numbers, 0 where both are 0
abbrev pub gcd : ℕ → ℕ → ℕ
gcd a b = gcd_within (suc b) a b

-- the greatest common divisor of a number and others
abbrev pub gcd_with : ℕ → List ℕ → ℕ
gcd_with g [] = g
gcd_with g (n ∷ ns) = gcd_with (gcd g n) ns

-- the greatest common divisor of numbers, 0 where all are 0
abbrev pub gcd_of : List ℕ → ℕ
gcd_of ns = gcd_with 0 ns

-- the shares of scalars that the range gives values
abbrev pub varying : Loop → List Share → List Share
varying l ss = filter (λ (s : Share). varies l s.cell) ss

-- the shares of the others
abbrev pub steady : Loop → List Share → List Share
steady l ss = filter (λ (s : Share). not (varies l s.cell)) ss

-- the factors of shares, without their signs
abbrev pub sizes : List Share → List ℕ
sizes ss = map (λ (s : Share). unsigned_abs s.factor) ss

-- by how much two numbers differ
abbrev pub gap : ℤ → ℤ → ℕ
gap a b = unsigned_abs (a -ℤ b)

-- by how much f and g differ in how often they take the scalars that the range doesn't assign:
-- those of f, and the others of g
abbrev pub gaps : List Share → List Share → List ℕ
gaps fs gs = map (λ (s : Share). gap s.factor (factor_in gs s.cell)) fs

-- the differences of two forms in all scalars that the range doesn't assign
abbrev pub differences : Loop → Form → Form → List ℕ
differences l f g = gaps (steady l f.shares) g.shares ++ sizes (others f.shares (steady l g.shares))

-- a number is 0
abbrev pub is_zero : ℤ → Bool
is_zero n = int_eq n (pos 0)

-- a difference is 0
abbrev pub is_nothing : ℕ → Bool
is_nothing n = n == 0

-- one of the scalars varies
abbrev pub vary : Loop → List Share → Bool
vary l ss = list_any (λ (s : Share). varies l s.cell) ss

-- f takes each of its scalars that the range doesn't assign as often as g
abbrev pub no_gaps : Loop → List Share → List Share → Bool
no_gaps l fs gs = list_all is_nothing (gaps (steady l fs) gs)

-- and g takes no others
abbrev pub no_others : Loop → List Share → List Share → Bool
no_others l fs gs = list_all is_nothing (sizes (others fs (steady l gs)))

-- no varying scalars, and equal shares of all others
abbrev pub are_alike : Loop → Form → Form → Bool
are_alike l f g =
    not (vary l f.shares)
    && (not (vary l g.shares) && (no_gaps l f.shares g.shares && no_others l f.shares g.shares))

-- by how much the constant of f is above that of g
abbrev pub difference : Form → Form → ℤ
difference f g = f.constant -ℤ g.constant

-- without the loop's variable, and the constants differ
abbrev pub are_constants : Form → Form → Bool
are_constants f g =
    is_zero f.coefficient && (is_zero g.coefficient && not (int_eq f.constant g.constant))

-- alike but for that
abbrev pub by_constant : Loop → Form → Form → Bool
by_constant l f g = are_alike l f g && are_constants f g

-- the numbers that the divisor test takes: all but the constants of two forms
abbrev pub divided : Loop → Form → Form → List ℕ
divided l f g =
    unsigned_abs f.coefficient ∷ unsigned_abs g.coefficient
    ∷ (sizes (varying l f.shares) ++ (sizes (varying l g.shares) ++ differences l f g))

-- whether a number other than 0 doesn't divide another
abbrev pub leaves_rest : ℕ → ℕ → Bool
leaves_rest d n = not (d == 0) && not (n % d == 0)

-- the greatest common divisor of all else isn't 0 and doesn't divide the difference of the
-- constants
abbrev pub by_divisor : Loop → Form → Form → Bool
by_divisor l f g = leaves_rest (gcd_of (divided l f g)) (gap f.constant g.constant)

-- What the distance test gives: nothing, no distance, or the only one.

-- one distance, where it is positive; otherwise no distance
abbrev pub only_positive : ℤ → Found
only_positive q = if int_lt (pos 0) q then Only (unsigned_abs q) else Nowhere

-- the positive whole d with stride * d = n, where the stride isn't 0
abbrev pub by_stride : ℤ → ℤ → Found
by_stride n stride =
    if is_zero stride then Nothing
    else if is_zero (int_rem n stride) then only_positive (int_div n stride) else Nowhere

-- the same by the loop's step, where it is constant, and the coefficient
abbrev pub at_step : Option ℤ → ℤ → ℤ → Found
at_step None c n = Nothing
at_step (Some s) c n = by_stride n (c *ℤ s)

-- Alike, equal coefficients, and a constant step; the product of these isn't 0, so neither is 0.
abbrev pub by_distance : Loop → Form → Form → Found
by_distance l f g =
    if are_alike l f g && int_eq f.coefficient g.coefficient
    then at_step l.step f.coefficient (difference f g)
    else Nothing

-- whether so many iterations apart are never two of the loop's, as far as its trips are known
abbrev pub is_beyond : Option ℕ → ℕ → Bool
is_beyond None d = false
is_beyond (Some trips) d = nat_le trips d

-- the one distance that was found is so
abbrev pub found_beyond : Option ℕ → Found → Bool
found_beyond trips (Only d) = is_beyond trips d
found_beyond trips _ = false

-- The distance test gives one distance, and no two iterations of the loop are so far apart.
abbrev pub by_range : Loop → Form → Form → Bool
by_range l f g = found_beyond l.trips (by_distance l f g)

-- what a dimension, numbered n, gives
abbrev pub by_found : ℕ → Option ℕ → Found → Relation
by_found n trips Nothing = Any
by_found n trips Nowhere = Apart n NoDistance
by_found n trips (Only d) = if is_beyond trips d then Apart n Range else Distance n d

-- what the tests give for a dimension, numbered n: by constants, by divisors, and by the distance
abbrev pub tested : Loop → ℕ → Form → Form → Relation
tested l n f g =
    if by_constant l f g then Apart n Constant
    else if by_divisor l f g then Apart n Divisor
    else by_found n l.trips (by_distance l f g)

-- a subscript without a form gives nothing
abbrev pub dimension : Loop → ℕ → Option Form → Option Form → Relation
dimension l n (Some f) (Some g) = tested l n f g
dimension l n _ _ = Any

-- a dimension, and then those behind it: the first that gives Apart decides, otherwise the first
-- that gives a distance
abbrev pub or_apart : Relation → Relation → Relation
or_apart r (Apart n reason) = Apart n reason
or_apart r _ = r

abbrev pub before : Relation → Relation → Relation
before (Apart n reason) rest = Apart n reason
before (Distance n d) rest = or_apart (Distance n d) rest
before Any rest = rest

-- the relation by the dimensions from the nth on
abbrev pub dimensions : Loop → ℕ → Terms → Terms → Relation
dimensions l n (then_term e es) (then_term f fs) =
    before (dimension l n (form_of l e) (form_of l f)) (dimensions l (n + 1) es fs)
dimensions l n _ _ = Any

-- The relation of a reference to one in a later iteration.
abbrev pub relation : Loop → Occurrence → Occurrence → Relation
relation l a b = dimensions l 1 a.subscripts b.subscripts

-- the same of references that may not be there
abbrev pub relation_if : Loop → Option Occurrence → Option Occurrence → Relation
relation_if l (Some a) (Some b) = relation l a b
relation_if l _ _ = Any

-- the relation of two references of a loop's range by their numbers; Any of what isn't there
abbrev pub related : Loop → ℕ → ℕ → Relation
related l a b = relation_if l (numbered l.references a) (numbered l.references b)

-- ---- the check of a relation that is claimed

-- the distance test gives this distance
abbrev pub is_only : Found → ℕ → Bool
is_only (Only e) d = e == d
is_only _ d = false

-- the distance test gives no distance
abbrev pub is_nowhere : Found → Bool
is_nowhere Nowhere = true
is_nowhere _ = false

-- whether the test that a reason names says so
abbrev pub says_apart : Loop → Reason → Form → Form → Bool
says_apart l Constant f g = by_constant l f g
says_apart l Divisor f g = by_divisor l f g
says_apart l NoDistance f g = is_nowhere (by_distance l f g)
says_apart l Range f g = by_range l f g

-- the nth of subscripts, counted from 1
abbrev pub nth_term : Terms → ℕ → Option Term
nth_term no_terms n = None
nth_term (then_term e es) zero = None
nth_term (then_term e es) (suc zero) = Some e
nth_term (then_term e es) (suc (suc n)) = nth_term es (suc n)

-- the form of the nth
abbrev pub form_at : Loop → Terms → ℕ → Option Form
form_at l es n = if_some (nth_term es n) (λ e. form_of l e)

-- a test holds of two forms, and both are there
abbrev pub on_forms : Option Form → Option Form → (Form → Form → Bool) → Bool
on_forms (Some f) (Some g) test = test f g
on_forms _ _ test = false

-- whether a test holds of the nth subscripts
abbrev pub in_dimension : Loop → ℕ → Terms → Terms → (Form → Form → Bool) → Bool
in_dimension l n es fs test = on_forms (form_at l es n) (form_at l fs n) test

-- Whether the test that a relation names gives it; always where nothing is claimed.
abbrev pub is_verified : Loop → Occurrence → Occurrence → Relation → Bool
is_verified l a b (Apart n reason) =
    in_dimension l n a.subscripts b.subscripts (λ f g. says_apart l reason f g)
is_verified l a b (Distance n d) =
    in_dimension l n a.subscripts b.subscripts (λ f g. is_only (by_distance l f g) d)
is_verified l a b Any = true

-- nothing is claimed
abbrev pub is_any : Relation → Bool
is_any Any = true
is_any _ = false

-- the same of references that may not be there
abbrev pub is_verified_if : Loop → Option Occurrence → Option Occurrence → Relation → Bool
is_verified_if l (Some a) (Some b) r = is_verified l a b r
is_verified_if l _ _ r = is_any r

-- the same of two references by their numbers; of one that isn't there only nothing may be claimed
abbrev pub verified : Loop → ℕ → ℕ → Relation → Bool
verified l a b r = is_verified_if l (numbered l.references a) (numbered l.references b) r
