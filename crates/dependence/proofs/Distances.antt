-- Whole quotients, and what two numbers that are 0 apart are.
use Rattle.std.proofs.Common.{◌≡◌, ◌∙◌, ap, sym, refl, ℕ, arith, true≢false, ◌<◌, ◌≤◌}
use Rattle.std.proofs.lemmas.Int.{ints, quot-rem, unsigned_abs-mul, rem_below}
use Rattle.std.proofs.lemmas.Bool.{le-leb}
use Rattle.std.proofs.lemmas.Bool.Decides.{Decides-eqb}
use Rattle.std.proofs.Math.Nat.{mul-le-mul_right}
use Rattle.std.specs.Prelude.{ℤ, pos, negsuc, zero, suc, ◌*◌, ◌-ℤ◌, ◌*ℤ◌, int_div, int_rem, unsigned_abs, Bool, true, false, ◌==◌, if◌then◌else◌}
use Rattle.dependence.specs.Tests.{by_stride, is_zero, only_positive}
use Rattle.dependence.specs.declared.relation.Found.TheVariants.{Nothing, Nowhere, Only}
use Rattle.subscripts.proofs.Products.{times_difference}

pub none_abs : (z : ℤ) → unsigned_abs z ≡ 0 → z ≡ pos 0
none_abs (pos n) e = ap pos e
none_abs (negsuc n) e = absurd (omega (arith, e))

some_abs : (z : ℤ) → is_zero z ≡ false → 0 < unsigned_abs z
some_abs (pos zero) e = absurd (true≢false e)
some_abs (pos (suc n)) e = omega arith
some_abs (negsuc n) e = omega arith

pub no_gap : (a b : ℤ) → (unsigned_abs (a -ℤ b) == 0) ≡ true → a ≡ b
no_gap a b e = let z = none_abs (a -ℤ b) ((Decides-eqb (unsigned_abs (a -ℤ b)) 0).0 e) in omega (arith, ints, z)

small : (a b : ℕ) → a * b < b → a ≡ 0
small zero b h = refl
small (suc a) b h = let k = mul-le-mul_right b (let one : 1 ≤ suc a = omega arith in one) in absurd (omega (arith, h, k))

-- a number that is a multiple leaves nothing, and its quotient is the multiplier
record Exact (n q d : ℤ) : Type 0 where
  quotient : int_div n q ≡ d
  rest : int_rem n q ≡ pos 0

exact : (n q d : ℤ) → is_zero q ≡ false → n ≡ d *ℤ q → Exact n q d
exact n q d h e =
    let r = int_rem n q in
    let k = int_div n q in
    let whole = quot-rem n q in
    let gap : (d -ℤ k) *ℤ q ≡ r = let t = times_difference d k q in omega (arith, ints, t, whole, e) in
    let size : unsigned_abs (d -ℤ k) * unsigned_abs q ≡ unsigned_abs r = sym (unsigned_abs-mul (d -ℤ k) q) ∙ ap unsigned_abs gap in
    let less = rem_below n q (some_abs q h) in
    let none : unsigned_abs (d -ℤ k) ≡ 0 = small (unsigned_abs (d -ℤ k)) (unsigned_abs q) (omega (arith, size, less)) in
    let same : k ≡ d = let z = none_abs (d -ℤ k) none in omega (arith, ints, z) in
    record {
      quotient = same;
      rest = none_abs r (sym size ∙ ap (λ m. m * unsigned_abs q) none ∙ (let w : 0 * unsigned_abs q ≡ 0 = omega arith in w));
    }

-- at so many strides the test finds them alone
pub found_only : (n q : ℤ) (d : ℕ) → 0 < d → is_zero q ≡ false → n ≡ pos d *ℤ q → by_stride n q ≡ Only d
found_only n q zero p h e = absurd (omega (arith, p))
found_only n q (suc d) p h e =
    let x = exact n q (pos (suc d)) h e in
    ap (λ (b : Bool). if b then Nothing else if is_zero (int_rem n q) then only_positive (int_div n q) else Nowhere) h
    ∙ ap (λ r. if is_zero r then only_positive (int_div n q) else Nowhere) x.rest
    ∙ ap (λ k. only_positive k) x.quotient
    ∙ ap (λ (b : Bool). if b then Only (suc d) else Nowhere) (le-leb 1 (suc d) (omega arith))

pub zero_stride : (n q : ℤ) → is_zero q ≡ true → by_stride n q ≡ Nothing
zero_stride n q e = ap (λ (b : Bool). if b then Nothing else if is_zero (int_rem n q) then only_positive (int_div n q) else Nowhere) e
