-- Values of a DO variable that leave the 64-bit integers.
use Rattle.std.proofs.Common.{◌≡◌, ◌∙◌, ℕ, zero, suc, ◌<◌, ◌≤◌, ◌^◌, Bool, Ok, Err, refl, ap, arith, w64, of_z, FitsSigned}
use Rattle.std.specs.Prelude.{ℤ, pos, negsuc, ◌+ℤ◌, ◌*ℤ◌, unsigned_abs, if◌then◌else◌}
use Rattle.std.proofs.Math.Nat.{mul-le-mul_left}
use Rattle.std.proofs.lemmas.Bool.{le-ltb, lt-ltb}
use Rattle.std.proofs.lemmas.Int.{ints, unsigned_abs-mul}
use Rattle.ast.specs.Exact.{in_range}
use Rattle.ast.specs.declared.fault.Fault.TheVariants.{Overflow}

pub outside : (z : ℤ) → 2 ^ 63 < unsigned_abs z → in_range z ≡ Err Overflow
outside (pos n) h = ap (λ (b : Bool). if b then Ok (pos n) else Err Overflow) (le-ltb n (2 ^ 63) (omega (arith, h)))
outside (negsuc n) h = ap (λ (b : Bool). if b then Ok (negsuc n) else Err Overflow) (le-ltb n (2 ^ 63) (omega (arith, h)))

pub far : (a p : ℤ) → unsigned_abs a ≤ 2 ^ 63 → 2 ^ 64 < unsigned_abs p → in_range (a +ℤ p) ≡ Err Overflow
far a p h k = outside (a +ℤ p) (omega (arith, ints))

nonzero : (m : ℤ) → (of_z w64 m ≡ 0 → ⊥) → 1 ≤ unsigned_abs m
nonzero (pos zero) h = absurd (h refl)
nonzero (pos (suc n)) h = omega arith
nonzero (negsuc n) h = omega arith

pub far_off : (a m : ℤ) (k : ℕ) → unsigned_abs a ≤ 2 ^ 63 → (of_z w64 m ≡ 0 → ⊥) → 2 ^ 64 < k → in_range (a +ℤ (pos k *ℤ m)) ≡ Err Overflow
far_off a m k h z l = far a (pos k *ℤ m) h (omega (arith, unsigned_abs-mul (pos k) m, mul-le-mul_left k (nonzero m z)))

pub inside : (z : ℤ) → FitsSigned w64 z → in_range z ≡ Ok z
inside (pos n) h = ap (λ (b : Bool). if b then Ok (pos n) else Err Overflow) (lt-ltb n (2 ^ 63) (omega (arith, ints, h)))
inside (negsuc n) h = ap (λ (b : Bool). if b then Ok (negsuc n) else Err Overflow) (lt-ltb n (2 ^ 63) (omega (arith, ints, h)))

still : (a : ℤ) (k : ℕ) → a +ℤ (pos k *ℤ pos 0) ≡ a
still a k = omega (arith, ints)

pub standing_still : (a m : ℤ) (k : ℕ) → FitsSigned w64 a → m ≡ pos 0 → in_range (a +ℤ (pos k *ℤ m)) ≡ Ok a
standing_still a m k h e = ap (λ (z : ℤ). in_range (a +ℤ (pos k *ℤ z))) e ∙ ap in_range (still a k) ∙ inside a h
