-- Digits and their values.
use Rattle.std.proofs.Common.{◌≡◌, ℕ, ◌-◌, true, arith}
use Rattle.std.proofs.lemmas.Bool.Decides.{nat_tests}
use Rattle.std.specs.Char.{digit_value, is_ascii_digit}

pub digit_is : (c : ℕ) → is_ascii_digit c ≡ true → digit_value c ≡ c - 48
digit_is c h = grind (arith, nat_tests)
