-- All cells have numbers below 2^62.
use Rattle.std.proofs.Common.{◌≡◌, ℕ, zero, suc, ◌+◌, ◌<◌, ◌^◌, true, List, [], ◌∷◌, get_or, length, arith}
use Rattle.std.specs.Prelude.{nat_lt, ◌&&◌, ◌==◌}
use Rattle.std.proofs.lemmas.Bool.{and_parts, eqb-true, ltb-true}
use Rattle.machine.specs.Laid.{are_laid}
use Rattle.machine.specs.declared.code.Variable.{Variable}

laid_at : (n : ℕ) (xs : List Variable) (i : ℕ) (d : Variable) → are_laid n xs ≡ true → i < length xs → (get_or xs i d).start + (get_or xs i d).size < 2 ^ 62
laid_at n [] i d h l = absurd (omega (arith, l))
laid_at n (x ∷ xs) zero d h l =
    let k = and_parts (x.start == n) (nat_lt (n + x.size) (2 ^ 62) && are_laid (n + x.size) xs) h in
    let m = and_parts (nat_lt (n + x.size) (2 ^ 62)) (are_laid (n + x.size) xs) k.1 in
    omega (arith, eqb-true x.start n k.0, ltb-true (n + x.size) (2 ^ 62) m.0)
laid_at n (x ∷ xs) (suc i) d h l =
    let k = and_parts (x.start == n) (nat_lt (n + x.size) (2 ^ 62) && are_laid (n + x.size) xs) h in
    let m = and_parts (nat_lt (n + x.size) (2 ^ 62)) (are_laid (n + x.size) xs) k.1 in
    laid_at (n + x.size) xs i d m.1 (omega (arith, l))

pub few_cells : (xs : List Variable) (i : ℕ) (d : Variable) → are_laid 0 xs ≡ true → i < length xs → (get_or xs i d).start + (get_or xs i d).size < 2 ^ 62
few_cells xs i d h l = laid_at 0 xs i d h l
