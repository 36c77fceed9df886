-- Greatest common divisors, and the divisor test in terms of divisors.
use Rattle.std.specs.Prelude.{◌≡◌, ◌↔◌, ℕ, List, [], ◌∷◌, true, false, ⊤}
use Rattle.std.specs.Int.{◌∣◌}
use Rattle.std.specs.List.{list_all}
use Rattle.loop_tree.specs.Loops.{Loop}
use Rattle.subscripts.specs.Forms.{Form}
use Rattle.dependence.specs.Tests.{by_divisor, divided, gap, gcd_of, is_nothing}

-- d divides each of the numbers
abbrev pub DividesEach : ℕ → List ℕ → Type 0
DividesEach d [] = ⊤
DividesEach d (n ∷ ns) = (d ∣ n) × DividesEach d ns

-- g divides each of the numbers, and whatever does so divides g. Of zeros it is 0.
pub record IsGreatestDivisor (g : ℕ) (ns : List ℕ) : Type 0 where
  pub divides : DividesEach g ns
  pub greatest : (d : ℕ) → DividesEach d ns → d ∣ g

-- The number that the divisor test takes is the greatest common divisor.
abbrev pub IsGreatest : Type 0
IsGreatest = (ns : List ℕ) → IsGreatestDivisor (gcd_of ns) ns

-- The numbers are not all 0, and some number divides each of them but not n.
pub record HasDivisor (ns : List ℕ) (n : ℕ) : Type 0 where
  pub some : list_all is_nothing ns ≡ false
  pub divisor : ℕ
  pub divides : DividesEach divisor ns
  pub not_n : divisor ∣ n → ⊥

-- The divisor test says so exactly where all but the constants are not all 0, and some number
-- divides each of them, but not the constants' difference.
abbrev pub IsByDivisor : Type 0
IsByDivisor =
    (l : Loop) (f g : Form)
    → (by_divisor l f g ≡ true) ↔ HasDivisor (divided l f g) (gap f.constant g.constant)
