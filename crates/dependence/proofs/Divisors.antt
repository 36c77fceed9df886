-- Euclid's steps, and greatest common divisors of lists.
use Rattle.std.proofs.Common.{◌≡◌, ◌∙◌, ap, sym, refl, ℕ, List, [], ◌∷◌, arith}
use Rattle.std.proofs.lemmas.Bool.Decides.{Decides-eqb}
use Rattle.std.proofs.Math.Nat.{mod-lt}
use Rattle.std.specs.Prelude.{zero, suc, ◌<◌, ◌≢◌, ◌%◌, ◌==◌, ◌++◌, Bool, true, false, if◌then◌else◌}
use Rattle.dependence.specs.Tests.{gcd, gcd_within, gcd_with}

pub positive : (b : ℕ) → (b == 0) ≡ false → 0 < b
positive zero e = cc
positive (suc b) e = omega arith

not_zero : (b : ℕ) → b ≢ 0 → (b == 0) ≡ false
not_zero b h = by (b == 0) refl
  where
    by : (c : Bool) → (b == 0) ≡ c → c ≡ false
    by true e = absurd (h ((Decides-eqb b 0).0 e))
    by false e = refl

-- more steps than are needed change nothing
enough : (n m a b : ℕ) → b < n → b < m → gcd_within n a b ≡ gcd_within m a b
enough zero m a b h k = absurd (omega (arith, h))
enough (suc n) zero a b h k = absurd (omega (arith, k))
enough (suc n) (suc m) a b h k = by (b == 0) refl (λ p q. enough n m b (a % b) p q)
  where
    by : (c : Bool) → (b == 0) ≡ c → (a % b < n → a % b < m → gcd_within n b (a % b) ≡ gcd_within m b (a % b)) → (if c then a else gcd_within n b (a % b)) ≡ (if c then a else gcd_within m b (a % b))
    by true e f = refl
    by false e f =
        let less = mod-lt a (positive b e) in
        f (omega (arith, less, h)) (omega (arith, less, k))

pub gcd_zero : (a b : ℕ) → b ≡ 0 → a ≡ gcd a b
gcd_zero a b e = ap (λ x. gcd a x) (sym e)

pub gcd_step : (a b : ℕ) → b ≢ 0 → gcd b (a % b) ≡ gcd a b
gcd_step a b h =
    let e = not_zero b h in
    let less = mod-lt a (positive b e) in
    enough (suc (a % b)) b b (a % b) (omega arith) less ∙ sym (ap (λ (c : Bool). if c then a else gcd_within b b (a % b)) e)

-- the numbers of one list, then those of another
pub then_others : (g : ℕ) (xs ys : List ℕ) → gcd_with g (xs ++ ys) ≡ gcd_with (gcd_with g xs) ys
then_others g [] ys = refl
then_others g (x ∷ xs) ys = then_others (gcd g x) xs ys

pub pieces : (g : ℕ) (ws xs ys zs : List ℕ) → gcd_with (gcd_with (gcd_with (gcd_with g ws) xs) ys) zs ≡ gcd_with g (ws ++ (xs ++ (ys ++ zs)))
pieces g ws xs ys zs = sym (then_others g ws (xs ++ (ys ++ zs)) ∙ then_others (gcd_with g ws) xs (ys ++ zs) ∙ then_others (gcd_with (gcd_with g ws) xs) ys zs)
