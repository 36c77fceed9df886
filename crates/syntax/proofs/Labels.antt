-- How great a number of few digits may be.
use Rattle.std.proofs.Common.{◌≡◌, ℕ, zero, suc, ◌+◌, ◌*◌, ◌≤◌, refl, arith}

-- 0, 1, 11, 111 ..
pub ones : ℕ → ℕ
ones zero = 0
ones (suc n) = 10 * ones n + 1

pub ones_suc : (n : ℕ) → ones (suc n) ≡ 10 * ones n + 1
unfolding ones
ones_suc n = refl

pub ones_next : (n : ℕ) → ones (n + 1) ≡ 10 * ones n + 1
ones_next n = let is : n + 1 ≡ suc n = omega arith in rw is (ones_suc n)

pub ones_zero : ones 0 ≡ 0
unfolding ones
ones_zero = refl

pub ones_few : (n : ℕ) → n ≤ 5 → ones n ≤ 11111
unfolding ones
ones_few zero h = omega arith
ones_few (suc zero) h = omega arith
ones_few (suc (suc zero)) h = omega arith
ones_few (suc (suc (suc zero))) h = omega arith
ones_few (suc (suc (suc (suc zero)))) h = omega arith
ones_few (suc (suc (suc (suc (suc zero))))) h = omega arith
ones_few (suc (suc (suc (suc (suc (suc n)))))) h = absurd (omega arith)
