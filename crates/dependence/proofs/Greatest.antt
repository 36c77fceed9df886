-- Euclid's number is the greatest common divisor, and the divisor test asks for any divisor.
use Rattle.std.proofs.Common.{◌≡◌, ◌∙◌, sym, refl, ℕ, List, [], ◌∷◌, subst, arith, true≢false, ◌<◌}
use Rattle.std.proofs.lemmas.Bool.Decides.{Decides-eqb}
use Rattle.std.proofs.lemmas.Nat.Gcd.{IsGcd-from_mod, IsGcd-from_zero, dvd_refl, dvd-zero, dvd_trans, dvd_of_mod-eq-zero, mod-eq-zero_of_dvd}
use Rattle.std.proofs.Math.Nat.{eq-zero_of_zero-dvd, mod-lt}
use Rattle.std.specs.Int.{IsGcd, ◌∣◌}
use Rattle.std.specs.List.{list_all}
use Rattle.std.specs.Prelude.{zero, suc, ◌%◌, ◌==◌, Bool, true, false, not, if◌then◌else◌}
use Rattle.std.proofs.lemmas.Bool.{not-true, and_from, false_from_ne_true}
use Rattle.ast.proofs.Bools.{not_from_never}
use Rattle.dependence.specs.Divisors.{DividesEach, HasDivisor, IsByDivisor, IsGreatest, IsGreatestDivisor}
use Rattle.dependence.specs.Tests.{divided, gap, gcd, gcd_of, gcd_with, gcd_within, is_nothing, leaves_rest}
use Rattle.dependence.proofs.Alike.{first_of_both, second_of_both}
use Rattle.dependence.proofs.Divisors.{positive}

euclid : (n a b : ℕ) → b < n → IsGcd a b (gcd_within n a b)
euclid zero a b h = absurd (omega (arith, h))
euclid (suc n) a b h = by (b == 0) refl (λ k. euclid n b (a % b) k)
  where
    by : (c : Bool) → (b == 0) ≡ c → (a % b < n → IsGcd b (a % b) (gcd_within n b (a % b)))
        → IsGcd a b (if c then a else gcd_within n b (a % b))
    by true e more = IsGcd-from_zero a b ((Decides-eqb b 0).0 e)
    by false e more =
        let less = mod-lt a (positive b e) in
        IsGcd-from_mod a b (gcd_within n b (a % b)) (more (omega (arith, less, h)))

of_both : (a b : ℕ) → IsGcd a b (gcd a b)
of_both a b = euclid (suc b) a b (omega arith)

of_all : (g : ℕ) (ns : List ℕ) → IsGreatestDivisor (gcd_with g ns) (g ∷ ns)
of_all g [] = record { divides = (dvd_refl g, tt); greatest = λ d each. each.0 }
of_all g (n ∷ ns) =
    let both = of_both g n in
    let rest = of_all (gcd g n) ns in
    let d = gcd_with (gcd g n) ns in
    record {
      divides = (dvd_trans d rest.divides.0 both.0, (dvd_trans d rest.divides.0 both.1, rest.divides.1));
      greatest = λ c each. rest.greatest c (both.2 c each.0 each.1.0, each.1.1);
    }

-- 0 and the numbers have the same divisors
pub greatest : IsGreatest
greatest ns =
    let all = of_all 0 ns in
    record { divides = all.divides.1; greatest = λ d each. all.greatest d (dvd-zero d, each) }

-- ---- the test

never : (b : Bool) → not b ≡ true → b ≡ true → ⊥
never b e f = true≢false (sym f ∙ not-true b e)

zeros_divided : (ns : List ℕ) → list_all is_nothing ns ≡ true → DividesEach 0 ns
zeros_divided [] e = tt
zeros_divided (n ∷ ns) e =
    let zero_n = (Decides-eqb n 0).0 (first_of_both (is_nothing n) (list_all is_nothing ns) e) in
    let rest = second_of_both (is_nothing n) (list_all is_nothing ns) e in
    (subst (λ m. 0 ∣ m) (sym zero_n) (dvd-zero 0), zeros_divided ns rest)

are_zeros : (ns : List ℕ) → DividesEach 0 ns → list_all is_nothing ns ≡ true
are_zeros [] h = refl
are_zeros (n ∷ ns) h =
    let zero_n = (Decides-eqb n 0).1 (eq-zero_of_zero-dvd h.0) in
    and_from (is_nothing n) (list_all is_nothing ns) zero_n (are_zeros ns h.1)

has_divisor : (ns : List ℕ) (n : ℕ) → leaves_rest (gcd_of ns) n ≡ true → HasDivisor ns n
has_divisor ns n e =
    let g = gcd_of ns in
    let is = greatest ns in
    let some = first_of_both (not (g == 0)) (not (n % g == 0)) e in
    let rest = second_of_both (not (g == 0)) (not (n % g == 0)) e in
    let no_zero = λ (divides : 0 ∣ g). never (g == 0) some ((Decides-eqb g 0).1 (eq-zero_of_zero-dvd divides)) in
    record {
      some = false_from_ne_true (list_all is_nothing ns) (λ zeros. no_zero (is.greatest 0 (zeros_divided ns zeros)));
      divisor = g;
      divides = is.divides;
      not_n = λ divides. never (n % g == 0) rest ((Decides-eqb (n % g) 0).1 (mod-eq-zero_of_dvd g divides));
    }

leaves : (ns : List ℕ) (n : ℕ) → HasDivisor ns n → leaves_rest (gcd_of ns) n ≡ true
leaves ns n h =
    let g = gcd_of ns in
    let is = greatest ns in
    let zeros = λ (e : (g == 0) ≡ true). are_zeros ns (subst (λ m. DividesEach m ns) ((Decides-eqb g 0).0 e) is.divides) in
    let divides = λ (e : (n % g == 0) ≡ true). dvd_of_mod-eq-zero g ((Decides-eqb (n % g) 0).0 e) in
    let smaller = is.greatest h.divisor h.divides in
    and_from (not (g == 0)) (not (n % g == 0))
    (not_from_never (g == 0) (λ e. true≢false (sym (zeros e) ∙ h.some)))
    (not_from_never (n % g == 0) (λ e. h.not_n (dvd_trans h.divisor smaller (divides e))))

pub is_by_divisor : IsByDivisor
is_by_divisor l f g =
    let ns = divided l f g in
    let n = gap f.constant g.constant in
    (λ e. has_divisor ns n e, λ h. leaves ns n h)
