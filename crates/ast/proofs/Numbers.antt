-- Natural numbers: order, and one more or less.
use Rattle.std.proofs.Common.{◌≡◌, ◌⊎◌, inl, inr, ◌≤◌, ℕ, Bool, true, false, refl, arith, ◌==◌, suc, ◌+◌, leb, ◌^◌, ◌<◌, Ok, Err, ap}
use Rattle.std.proofs.lemmas.Bool.{ltb-true, ltb-false, lt-ltb}
use Rattle.std.proofs.lemmas.Bool.Decides.{nat_tests}
use Rattle.std.proofs.lemmas.Grind.{common_steps}
use Rattle.std.specs.Prelude.{nat_lt, ◌-◌, max, pos, if◌then◌else◌}
use Rattle.ast.specs.Exact.{in_range}
use Rattle.ast.specs.declared.fault.Fault.TheVariants.{Overflow}

pub either_way : (m n : ℕ) → (m ≤ n) ⊎ (n ≤ m)
either_way m n = by (nat_lt m n) refl
  where
    by : (b : Bool) → nat_lt m n ≡ b → (m ≤ n) ⊎ (n ≤ m)
    by true e = let k = ltb-true m n e in inl (omega (arith, k))
    by false e = inr (ltb-false m n e)

pub equal_itself : (a : ℕ) → (a == a) ≡ true
equal_itself a = grind (arith, nat_tests)

pub one_more : (n : ℕ) → n + 1 ≡ suc n
one_more n = omega arith

pub one_less : (n : ℕ) → suc n - 1 ≡ n
one_less n = omega arith

pub depth_within : (d rest room : ℕ) → leb d room ≡ true → leb rest room ≡ leb (max d rest) room
depth_within d rest room h = grind (arith, common_steps)

pub depth_beyond : (d rest room : ℕ) → leb d room ≡ false → false ≡ leb (max d rest) room
depth_beyond d rest room h = grind (arith, common_steps)

-- a number below 2 ^ 63 is within the range of exact numbers
pub in_reach : (p : ℕ) → p < 2 ^ 63 → in_range (pos p) ≡ Ok (pos p)
in_reach p n = ap (λ (b : Bool). if b then Ok (pos p) else Err Overflow) (lt-ltb p (2 ^ 63) n)
