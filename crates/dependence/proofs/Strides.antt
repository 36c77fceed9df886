-- What a stride makes of a number, by the tests and the quotient of machine numbers.
use Rattle.std.proofs.Common.{◌≡◌, ◌∙◌, ◌<◌, ◌≤◌, ◌^◌, ◌/◌, ℕ, ℤ, zero, suc, pos, negsuc, Bool, false, unsigned_abs, FitsSigned, to_z, of_z, to_z-of_z, refl, sym, ap, subst, arith, rules}
use Rattle.std.specs.Int.{w128}
use Rattle.std.specs.Prelude.{if◌then◌else◌, int_div, int_rem, neg_ℤ}
use Rattle.std.proofs.Math.Nat.{div-le_self}
use Rattle.std.proofs.lemmas.Int.{fits_signed_from_abs, quot_is, rem_is}
use Rattle.dependence.specs.Tests.{by_stride, is_zero, only_positive}
use Rattle.dependence.specs.declared.relation.Found.{Found}
use Rattle.dependence.specs.declared.relation.Found.TheVariants.{Nothing, Nowhere}

abs_neg : (n : ℕ) → unsigned_abs (neg_ℤ (pos n)) ≡ n
abs_neg zero = refl
abs_neg (suc n) = refl

-- a quotient is no larger than what is divided
quotient_small : (a d : ℤ) → unsigned_abs (int_div a d) ≤ unsigned_abs a
quotient_small (pos a) (pos b) = div-le_self a b
quotient_small (pos a) (negsuc b) = omega (arith, abs_neg (a / suc b), div-le_self a (suc b))
quotient_small (negsuc a) (pos b) = omega (arith, abs_neg (suc a / b), div-le_self (suc a) b)
quotient_small (negsuc a) (negsuc b) = div-le_self (suc a) (suc b)

quotient_fits : (a d : ℤ) → unsigned_abs a < 2 ^ 100 → FitsSigned w128 (int_div a d)
quotient_fits a d h = fits_signed_from_abs w128 (int_div a d) (omega (arith, quotient_small a d))

nonzero : (s : ℤ) → (s ≡ pos 0 → ⊥) → is_zero s ≡ false
nonzero (pos zero) h = absurd (h refl)
nonzero (pos (suc n)) h = search rules
nonzero (negsuc n) h = search rules

module _ (n s : ℤ) (f : FitsSigned w128 n) (g : FitsSigned w128 s) where
  pub may_divide : unsigned_abs n < 2 ^ 100 → (of_z w128 s ≡ 0 → ⊥) → (0 < of_z w128 s) × FitsSigned w128 (int_div (to_z w128 (of_z w128 n)) (to_z w128 (of_z w128 s)))
  may_divide few h = (omega (arith, h), subst (λ (a : ℤ). FitsSigned w128 (int_div a (to_z w128 (of_z w128 s)))) (sym (to_z-of_z f)) (quotient_fits n (to_z w128 (of_z w128 s)) few))

  pub no_stride : of_z w128 s ≡ 0 → Nothing ≡ by_stride n s
  no_stride h = sym (ap (λ (d : ℤ). by_stride n d) (sym (to_z-of_z g) ∙ ap (to_z w128) h))

  strided : (of_z w128 s ≡ 0 → ⊥) → (if is_zero (int_rem n s) then only_positive (int_div n s) else Nowhere) ≡ by_stride n s
  strided h = sym (ap (λ (b : Bool). if b then Nothing else (if is_zero (int_rem n s) then only_positive (int_div n s) else Nowhere)) (nonzero s (λ e. h (ap (of_z w128) e))))

  pub strides : (found : Found) → unsigned_abs n < 2 ^ 100 → (of_z w128 s ≡ 0 → ⊥) → of_z w128 (int_rem (to_z w128 (of_z w128 n)) (to_z w128 (of_z w128 s))) ≡ 0
      → found ≡ only_positive (to_z w128 (of_z w128 (int_div (to_z w128 (of_z w128 n)) (to_z w128 (of_z w128 s))))) → found ≡ by_stride n s
  strides found few h none is =
      is
      ∙ ap only_positive (quot_is w128 n s f g (quotient_fits n s few))
      ∙ sym (ap (λ (r : ℤ). if is_zero r then only_positive (int_div n s) else Nowhere) (sym (rem_is w128 n s f g) ∙ ap (to_z w128) none))
      ∙ strided h

  pub misses : (of_z w128 s ≡ 0 → ⊥) → (of_z w128 (int_rem (to_z w128 (of_z w128 n)) (to_z w128 (of_z w128 s))) ≡ 0 → ⊥) → Nowhere ≡ by_stride n s
  misses h some =
      let same : int_rem (to_z w128 (of_z w128 n)) (to_z w128 (of_z w128 s)) ≡ int_rem n s = ap (λ (a : ℤ). int_rem a (to_z w128 (of_z w128 s))) (to_z-of_z f) ∙ ap (λ (d : ℤ). int_rem n d) (to_z-of_z g) in
      sym (ap (λ (b : Bool). if b then only_positive (int_div n s) else Nowhere) (nonzero (int_rem n s) (λ e. some (ap (of_z w128) (same ∙ e)))))
      ∙ strided h
