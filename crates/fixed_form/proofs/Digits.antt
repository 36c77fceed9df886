-- Reading a label digit by digit.
use Rattle.std.proofs.Common.{◌≡◌, ℕ, zero, suc, ◌+◌, ◌-◌, ◌*◌, ◌^◌, ◌<◌, ◌≤◌, Bool, true, false, List, [], ◌∷◌, refl, ap, ◌∙◌, arith, add-one, lit≤}
use Rattle.std.specs.Prelude.{if◌then◌else◌, ◌&&◌, nat_lt}
use Rattle.std.specs.List.{list_all}
use Rattle.std.specs.Char.{is_ascii_digit, digit_value}
use Rattle.std.specs.Str.Parse.{digits_value_after}
use Rattle.std.proofs.Math.Nat.{pow-suc}
use Rattle.ast.proofs.Digits.{digit_is}
use Rattle.fixed_form.specs.declared.label.LabelField.{LabelField}
use Rattle.fixed_form.specs.declared.label.LabelField.TheVariants.{Blank, Label, Malformed}
use Rattle.fixed_form.specs.Steps.{field_of}

-- what a field is, from a digit on
abbrev pub field_from : Bool → ℕ → List ℕ → LabelField
field_from blank n [] = if blank then Blank else if nat_lt 0 n then Label n else Malformed
field_from blank n (c ∷ cs) = if is_ascii_digit c then field_from false (10 * n + (c - 48)) cs else Malformed

abbrev labelled : Bool → ℕ → LabelField
labelled digits n = if digits && nat_lt 0 n then Label n else Malformed

one_more : (n c : ℕ) → is_ascii_digit c ≡ true → 10 * n + (c - 48) ≡ n * 10 + digit_value c
one_more n c h = omega (arith, digit_is c h)

digits_from : (n : ℕ) (cs : List ℕ) → field_from false n cs ≡ labelled (list_all is_ascii_digit cs) (digits_value_after 10 n cs)
digits_from n [] = refl
digits_from n (c ∷ cs) = by (is_ascii_digit c) refl (digits_from (n * 10 + digit_value c) cs)
  where
    by : (b : Bool) → is_ascii_digit c ≡ b → field_from false (n * 10 + digit_value c) cs ≡ labelled (list_all is_ascii_digit cs) (digits_value_after 10 (n * 10 + digit_value c) cs) → (if b then field_from false (10 * n + (c - 48)) cs else Malformed) ≡ labelled (b && list_all is_ascii_digit cs) (digits_value_after 10 (n * 10 + digit_value c) cs)
    by true h more = ap (λ (k : ℕ). field_from false k cs) (one_more n c h) ∙ more
    by false h more = refl

pub field_of_start : (cs : List ℕ) → field_from true 0 cs ≡ field_of cs
field_of_start [] = refl
field_of_start (c ∷ cs) = digits_from 0 (c ∷ cs)

-- one more digit
pub grows : (n d i : ℕ) → n < 10 ^ i → d ≤ 9 → 10 * n + d < 10 ^ (i + 1)
grows n d i h k = rw add-one (omega (arith, pow-suc 10 i))

pub few_digits : (i : ℕ) → i ≤ 5 → 10 ^ i ≤ 100000
few_digits zero h = lit≤ tt
few_digits (suc zero) h = lit≤ tt
few_digits (suc (suc zero)) h = lit≤ tt
few_digits (suc (suc (suc zero))) h = lit≤ tt
few_digits (suc (suc (suc (suc zero)))) h = lit≤ tt
few_digits (suc (suc (suc (suc (suc zero))))) h = lit≤ tt
few_digits (suc (suc (suc (suc (suc (suc i)))))) h = absurd (omega arith)
