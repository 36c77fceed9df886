-- The values of a DO variable in its trips lie between the first two parameters, so they are 64-bit
-- integers.
use Rattle.std.proofs.Common.{◌≡◌, ◌∙◌, ◌+◌, ◌*◌, ◌/◌, ◌^◌, ◌<◌, ◌≤◌, ◌≤ℤ◌, ◌<ℤ◌, ℕ, zero, suc, ℤ, pos, negsuc, true, false, neg_ℤ, refl, sym, ap, subst, arith}
use Rattle.std.specs.Prelude.{◌+ℤ◌, ◌-ℤ◌, ◌*ℤ◌, int_div}
use Rattle.std.specs.Ordering.{int_eq}
use Rattle.std.proofs.Math.IntN.{pos-*ℤ-pos}
use Rattle.std.proofs.Math.Nat.{div-add-mod, mul-le-mul_right}
use Rattle.std.proofs.lemmas.Bool.{ltb-true, lt-ltb}
use Rattle.std.proofs.lemmas.Int.{ints}
use Rattle.ast.specs.Exact.{fits, positive_part, trips}

pub fits_above : (z : ℤ) → fits z ≡ true → neg_ℤ (pos (2 ^ 63)) ≤ℤ z
fits_above (pos n) h = omega (arith, ints)
fits_above (negsuc n) h = let k = ltb-true n (2 ^ 63) h in omega (arith, ints, k)

pub fits_below : (z : ℤ) → fits z ≡ true → z <ℤ pos (2 ^ 63)
fits_below (pos n) h = let k = ltb-true n (2 ^ 63) h in omega (arith, ints, k)
fits_below (negsuc n) h = omega (arith, ints)

pub fits_between : (z : ℤ) → neg_ℤ (pos (2 ^ 63)) ≤ℤ z → z <ℤ pos (2 ^ 63) → fits z ≡ true
fits_between (pos n) a b = lt-ltb n (2 ^ 63) (omega (arith, ints, b))
fits_between (negsuc n) a b = lt-ltb n (2 ^ 63) (omega (arith, ints, a))

-- whole numbers below a quotient
below_quotient : (k x y : ℕ) → k < x / y → (k + 1) * y ≤ x
below_quotient k x y h =
    let a : (k + 1) * y ≤ x / y * y = mul-le-mul_right y (omega (arith, h)) in
    let b = div-add-mod x y in
    let c = Rattle.std.proofs.Math.Nat.mul_comm (x / y) y in
    omega (arith, a, b, c)

no_trips : (z k : ℕ) → k < positive_part (neg_ℤ (pos z)) → ⊥
no_trips zero k h = omega (arith, h)
no_trips (suc z) k h = omega (arith, h)

-- I after k trips, of which there are more, lies between the first two parameters
up_by : (m1 m2 : ℤ) (d k : ℕ) → k < trips m1 m2 (pos (suc d)) → (m1 +ℤ pos (k * suc d)) ≤ℤ m2
up_by m1 m2 d k h = by ((m2 -ℤ m1) +ℤ pos (suc d)) refl h
  where
    by : (a : ℤ) → (m2 -ℤ m1) +ℤ pos (suc d) ≡ a → k < positive_part (int_div a (pos (suc d))) → (m1 +ℤ pos (k * suc d)) ≤ℤ m2
    by (pos x) e h = let b = below_quotient k x (suc d) h in let c : (k + 1) * suc d ≡ k * suc d + suc d = omega arith in omega (arith, ints, e, b, c)
    by (negsuc x) e h = absurd (no_trips (suc x / suc d) k h)

down_by : (m1 m2 : ℤ) (d k : ℕ) → k < trips m1 m2 (negsuc d) → m2 ≤ℤ (m1 -ℤ pos (k * suc d))
down_by m1 m2 d k h = by ((m2 -ℤ m1) +ℤ negsuc d) refl h
  where
    by : (a : ℤ) → (m2 -ℤ m1) +ℤ negsuc d ≡ a → k < positive_part (int_div a (negsuc d)) → m2 ≤ℤ (m1 -ℤ pos (k * suc d))
    by (pos x) e h = absurd (no_trips (x / suc d) k h)
    by (negsuc x) e h = let b = below_quotient k (suc x) (suc d) h in let c : (k + 1) * suc d ≡ k * suc d + suc d = omega arith in omega (arith, ints, e, b, c)

pub in_trips : (m1 m2 m3 : ℤ) (k : ℕ) → fits m1 ≡ true → fits m2 ≡ true → k < trips m1 m2 m3 → int_eq m3 (pos 0) ≡ false → fits (m1 +ℤ (pos k *ℤ m3)) ≡ true
in_trips m1 m2 (pos zero) k f g h z = cc
in_trips m1 m2 (pos (suc d)) k f g h z =
    let u = up_by m1 m2 d k h in
    let a = fits_above m1 f in
    let b = fits_below m2 g in
    let e : pos k *ℤ pos (suc d) ≡ pos (k * suc d) = pos-*ℤ-pos k (suc d) in
    subst (λ (y : ℤ). fits (m1 +ℤ y) ≡ true) (sym e) (fits_between (m1 +ℤ pos (k * suc d)) (omega (arith, ints, a)) (omega (arith, ints, u, b)))
in_trips m1 m2 (negsuc d) k f g h z =
    let u = down_by m1 m2 d k h in
    let a = fits_below m1 f in
    let b = fits_above m2 g in
    let e : pos k *ℤ negsuc d ≡ neg_ℤ (pos (k * suc d)) = times_negative k d in
    subst (λ (y : ℤ). fits (m1 +ℤ y) ≡ true) (sym e) (fits_between (m1 +ℤ neg_ℤ (pos (k * suc d))) (omega (arith, ints, u, b)) (omega (arith, ints, a)))
  where
    times_negative : (k d : ℕ) → pos k *ℤ negsuc d ≡ neg_ℤ (pos (k * suc d))
    times_negative zero d = refl
    times_negative (suc k) d = refl

-- one trip more
pub next_value : (m1 m3 : ℤ) (k : ℕ) → (m1 +ℤ (pos k *ℤ m3)) +ℤ m3 ≡ m1 +ℤ (pos (suc k) *ℤ m3)
next_value m1 m3 k = let e = one_more m3 k in omega (arith, ints, e)
  where
    one_more : (m3 : ℤ) (k : ℕ) → pos (suc k) *ℤ m3 ≡ (pos k *ℤ m3) +ℤ m3
    one_more (pos n) k = pos-*ℤ-pos (suc k) n ∙ omega (arith, ints) ∙ ap (λ (y : ℤ). y +ℤ pos n) (sym (pos-*ℤ-pos k n))
    one_more (negsuc n) k = omega (arith, ints)

pub no_trip : (m1 m3 : ℤ) → m1 +ℤ (pos 0 *ℤ m3) ≡ m1
no_trip m1 m3 = omega (arith, ints)
