-- A distance that the tests give is one iteration at least.
use Rattle.std.proofs.Common.{◌≡◌, ◌+◌, ◌≤◌, ℕ, ℤ, pos, negsuc, Bool, true, false, refl, Option, Some, None, arith}
use Rattle.std.specs.Prelude.{nat_lt, if◌then◌else◌, int_div, int_rem, ◌*ℤ◌, ◌&&◌}
use Rattle.std.specs.Ordering.{int_eq}
use Rattle.std.proofs.lemmas.Bool.{ltb-true}
use Rattle.ast.specs.Tree.{Terms, no_terms, then_term}
use Rattle.loop_tree.specs.Loops.{Loop}
use Rattle.loop_tree.specs.Occurrences.{Occurrence}
use Rattle.subscripts.specs.Forms.{Form, form_of}
use Rattle.dependence.specs.Kept.{KeptAt}
use Rattle.dependence.specs.Tests.{are_alike, at_step, before, by_constant, by_distance, by_divisor, by_found, by_stride, difference, dimension, dimensions, is_beyond, is_zero, only_positive, relation, tested}
use Rattle.dependence.specs.declared.relation.Found.{Found}
use Rattle.dependence.specs.declared.relation.Found.TheVariants.{Nothing, Nowhere, Only}
use Rattle.dependence.specs.declared.relation.Reason.TheVariants.{Constant, Divisor, Range}
use Rattle.dependence.specs.declared.relation.Relation.{Relation}
use Rattle.dependence.specs.declared.relation.Relation.TheVariants.{Apart, Distance, Any}

abbrev Ahead : Found → Type 0
Ahead (Only d) = 1 ≤ d
Ahead _ = Unit {0}

abbrev pub Positive : Relation → Type 0
Positive (Distance n d) = 1 ≤ d
Positive _ = Unit {0}

ahead_positive : (q : ℤ) → Ahead (only_positive q)
ahead_positive (pos n) = by (nat_lt 0 n) refl
  where
    by : (b : Bool) → nat_lt 0 n ≡ b → Ahead (if b then Only n else Nowhere)
    by true e = let l = ltb-true 0 n e in omega (arith, l)
    by false e = tt
ahead_positive (negsuc n) = tt

ahead_stride : (n stride : ℤ) → Ahead (by_stride n stride)
ahead_stride n stride = by (is_zero stride) (is_zero (int_rem n stride))
  where
    by : (a b : Bool) → Ahead (if a then Nothing else if b then only_positive (int_div n stride) else Nowhere)
    by true b = tt
    by false true = ahead_positive (int_div n stride)
    by false false = tt

ahead_step : (s : Option ℤ) (c n : ℤ) → Ahead (at_step s c n)
ahead_step None c n = tt
ahead_step (Some s) c n = ahead_stride n (c *ℤ s)

ahead_distance : (l : Loop) (f g : Form) → Ahead (by_distance l f g)
ahead_distance l f g = by (are_alike l f g && int_eq f.coefficient g.coefficient)
  where
    by : (b : Bool) → Ahead (if b then at_step l.step f.coefficient (difference f g) else Nothing)
    by true = ahead_step l.step f.coefficient (difference f g)
    by false = tt

positive_found : (n : ℕ) (trips : Option ℕ) (x : Found) → Ahead x → Positive (by_found n trips x)
positive_found n trips Nothing h = tt
positive_found n trips Nowhere h = tt
positive_found n trips (Only d) h = by (is_beyond trips d)
  where
    by : (b : Bool) → Positive (if b then Apart n Range else Distance n d)
    by true = tt
    by false = h

positive_tested : (l : Loop) (n : ℕ) (f g : Form) → Positive (tested l n f g)
positive_tested l n f g = by (by_constant l f g) (by_divisor l f g)
  where
    by : (a b : Bool) → Positive (if a then Apart n Constant else if b then Apart n Divisor else by_found n l.trips (by_distance l f g))
    by true b = tt
    by false true = tt
    by false false = positive_found n l.trips (by_distance l f g) (ahead_distance l f g)

positive_dimension : (l : Loop) (n : ℕ) (f g : Option Form) → Positive (dimension l n f g)
positive_dimension l n (Some f) (Some g) = positive_tested l n f g
positive_dimension l n (Some f) None = tt
positive_dimension l n None g = tt

positive_before : (r q : Relation) → Positive r → Positive q → Positive (before r q)
positive_before (Apart m reason) q h k = tt
positive_before (Distance m d) (Apart o reason) h k = tt
positive_before (Distance m d) (Distance o e) h k = h
positive_before (Distance m d) Any h k = h
positive_before Any q h k = k

positive_dimensions : (l : Loop) (n : ℕ) (es fs : Terms) → Positive (dimensions l n es fs)
positive_dimensions l n no_terms fs = tt
positive_dimensions l n (then_term e es) no_terms = tt
positive_dimensions l n (then_term e es) (then_term f fs) = positive_before (dimension l n (form_of l e) (form_of l f)) (dimensions l (n + 1) es fs) (positive_dimension l n (form_of l e) (form_of l f)) (positive_dimensions l (n + 1) es fs)

pub kept_positive : (l : Loop) (a b : Occurrence) (d : ℕ) → KeptAt (relation l a b) d → 1 ≤ d
kept_positive l a b d h = by (relation l a b) (positive_dimensions l 1 a.subscripts b.subscripts) h
  where
    by : (r : Relation) → Positive r → KeptAt r d → 1 ≤ d
    by (Apart n reason) p k = absurd k
    by (Distance n e) p k = omega (arith, p, k)
    by Any p k = omega (arith, k)
