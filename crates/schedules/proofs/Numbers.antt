-- Numbers that digits write.
use Rattle.std.proofs.Common.{◌≡◌, ◌≢◌, ℕ, suc, ◌+◌, ◌-◌, ◌*◌, ◌/◌, ◌%◌, ◌^◌, ◌<◌, ◌≤◌, Bool, true, false, not, leb, eqb, ltb, List, [], ◌∷◌, ◌++◌, length, get_or, take, drop, Option, Some, None, refl, sym, ap, ◌∙◌, append_assoc, arith}
use Rattle.std.specs.Char.{digit_value}
use Rattle.std.specs.Fmt.{decimal}
use Rattle.std.specs.List.{prefix_len, list_all}
use Rattle.std.specs.Str.Parse.{AllDigits, digits_value, digits_value_after}
use Rattle.std.proofs.Math.Seq.{drop-cons}
use Rattle.std.proofs.lemmas.Bool.{and_parts, le-ltb, le-leb, lt-ltb, leb-true, ltb-true, ne_eqb}
use Rattle.std.proofs.lemmas.Fmt.{decimal_by_steps_wide, decimal_digit, decimal_is_IsNumeral_wide, decimal_step_wide}
use Rattle.std.proofs.lemmas.List.{append-nil, take_at, drop_at, take-append-drop}
use Rattle.std.proofs.lemmas.Str.{digit_value_digit}
use Rattle.std.proofs.lemmas.Str.Parse.{digit_from_value}
use Rattle.schedules.specs.Reading.{in_range, number_at, value, value_after}
use Rattle.schedules.specs.Refusals.{IsNumber, is_digit, is_shortest}
use Rattle.schedules.proofs.Lists.{on_true, on_false, choice, front_is, front_passes, some_is}

-- more digits write no smaller number
pub value_after-grows : (n : ℕ) (ds : List ℕ) → n ≤ value_after n ds
value_after-grows n [] = omega arith
value_after-grows n (d ∷ ds) = omega (arith, value_after-grows (10 * n + (d - 48)) ds)

-- digits whose front with one digit more is too large are too large
pub too_large : (total i : ℕ) (ds : List ℕ) → i < length ds → value_after total (drop i ds) ≡ value ds
    → 2 ^ 128 ≤ 10 * total + (get_or ds i 0 - 48) → ltb (value ds) (2 ^ 128) ≡ false
too_large total i ds lt e h =
    let cut : drop i ds ≡ get_or ds i 0 ∷ drop (suc i) ds = drop-cons ds i 0 lt in
    let whole : value ds ≡ value_after (10 * total + (get_or ds i 0 - 48)) (drop (suc i) ds) = sym e ∙ ap (value_after total) cut in
    le-ltb _ _ (omega (arith, whole, value_after-grows (10 * total + (get_or ds i 0 - 48)) (drop (suc i) ds)))

-- ---- the value that std gives digits

digit_bounds : (c : ℕ) → is_digit c ≡ true → (48 ≤ c) × (c ≤ 57)
digit_bounds c h = let parts = and_parts (leb 48 c) (leb c 57) h in (leb-true 48 c parts.0, leb-true c 57 parts.1)

digit_is : (c : ℕ) → is_digit c ≡ true → digit_value c + 48 ≡ c
digit_is c h = digit_value_digit c (digit_bounds c h)

value_after_is : (n : ℕ) (ds : List ℕ) → list_all is_digit ds ≡ true → value_after n ds ≡ digits_value_after 10 n ds
value_after_is n [] h = refl
value_after_is n (c ∷ cs) h =
    let parts = and_parts (is_digit c) (list_all is_digit cs) h in
    let same : 10 * n + (c - 48) ≡ n * 10 + digit_value c = omega (arith, digit_is c parts.0) in
    ap (λ (m : ℕ). value_after m cs) same ∙ value_after_is (n * 10 + digit_value c) cs parts.1

pub value_is : (ds : List ℕ) → list_all is_digit ds ≡ true → value ds ≡ digits_value 10 ds
value_is ds h = value_after_is 0 ds h

-- ---- digits with no zero before them, and the decimal of their value

after-grows : (n : ℕ) (ds : List ℕ) → n ≤ digits_value_after 10 n ds
after-grows n [] = omega arith
after-grows n (d ∷ ds) = omega (arith, after-grows (n * 10 + digit_value d) ds)

decimal_after : (n : ℕ) (ds : List ℕ) → 0 < n → list_all is_digit ds ≡ true → digits_value_after 10 n ds < 10 ^ 64
    → decimal (digits_value_after 10 n ds) ≡ decimal n ++ ds
decimal_after n [] some h small = sym (append-nil (decimal n))
decimal_after n (c ∷ cs) some h small =
    let parts = and_parts (is_digit c) (list_all is_digit cs) h in
    let bounds = digit_bounds c parts.0 in
    let is : digit_value c + 48 ≡ c = digit_is c parts.0 in
    let m : ℕ = n * 10 + digit_value c in
    let front : m / 10 ≡ n = omega (arith, is, bounds.1) in
    let end : 48 + m % 10 ≡ c = omega (arith, is, bounds.1) in
    let bound : m < 10 ^ 64 = omega (arith, after-grows m cs, small) in
    let step : decimal m ≡ decimal (m / 10) ++ ((48 + m % 10) ∷ []) = decimal_step_wide m (omega arith) bound in
    let whole : decimal m ≡ decimal n ++ (c ∷ []) = step ∙ (λ i. decimal (front i) ++ (end i ∷ [])) in
    decimal_after m cs (omega arith) parts.1 small ∙ ap (λ (x : List ℕ). x ++ cs) whole ∙ append_assoc (decimal n) (c ∷ []) cs

not_zero : (c : ℕ) → not (eqb c 48) ≡ true → c ≢ 48
not_zero c h e = let k : ◌≡◌ {A = Bool} false true = rw e at h in absurd cc

decimal_of_value : (ds : List ℕ) → list_all is_digit ds ≡ true → is_shortest ds ≡ true → digits_value 10 ds < 10 ^ 64 → decimal (digits_value 10 ds) ≡ ds
decimal_of_value [] h s small = absurd cc
decimal_of_value (c ∷ []) h s small =
    let parts = and_parts (is_digit c) true h in
    let bounds = digit_bounds c parts.0 in
    let is : digit_value c + 48 ≡ c = digit_is c parts.0 in
    decimal_digit (0 * 10 + digit_value c) (omega (arith, is, bounds.1)) ∙ ap (λ (x : ℕ). x ∷ []) (omega (arith, is))
decimal_of_value (c ∷ d ∷ ds) h s small =
    let parts = and_parts (is_digit c) (list_all is_digit (d ∷ ds)) h in
    let bounds = digit_bounds c parts.0 in
    let is : digit_value c + 48 ≡ c = digit_is c parts.0 in
    let other : c ≢ 48 = not_zero c s in
    let some : 0 < 0 * 10 + digit_value c = omega (arith, is, bounds.0, other) in
    decimal_after (0 * 10 + digit_value c) (d ∷ ds) some parts.1 small
    ∙ ap (λ (x : List ℕ). x ++ (d ∷ ds)) (decimal_digit (0 * 10 + digit_value c) (omega (arith, is, bounds.1)) ∙ ap (λ (x : ℕ). x ∷ []) (omega (arith, is)))

-- a number has one spelling
pub one_spelling : (ds : List ℕ) (n : ℕ) → IsNumber ds n → n < 10 ^ 64 → ds ≡ decimal n
one_spelling ds n h small = sym (decimal_of_value ds h.all h.shortest (omega (arith, h.value, small))) ∙ ap decimal h.value

all_digits : (ds : List ℕ) → AllDigits 10 ds → list_all is_digit ds ≡ true
all_digits [] d = refl
all_digits (c ∷ cs) d =
    let bounds = digit_from_value c d.0 in
    rw (le-leb 48 c bounds.0, le-leb c 57 bounds.1, all_digits cs d.1) refl

record Shortest (n : ℕ) (ds : List ℕ) : Type 0 where
  is : is_shortest ds ≡ true
  first : 0 < n → get_or ds 0 0 ≢ 48

longer : (c : ℕ) (cs : List ℕ) (x : ℕ) → c ≢ 48 → is_shortest ((c ∷ cs) ++ (x ∷ [])) ≡ true
longer c [] x h = rw (ne_eqb c 48 h) refl
longer c (d ∷ ds) x h = rw (ne_eqb c 48 h) refl

shortest_step : (n : ℕ) (ds : List ℕ) (x : ℕ) → 10 ≤ n → Shortest (n / 10) ds → Shortest n (ds ++ (x ∷ []))
shortest_step n [] x h s = absurd (let k = s.is in cc)
shortest_step n (c ∷ cs) x h s = let other : c ≢ 48 = s.first (omega (arith, h)) in record { is = longer c cs x other; first = λ some. other }

pub decimal_is_number : (n : ℕ) → n < 10 ^ 64 → IsNumber (decimal n) n
decimal_is_number n small =
    let numeral = decimal_is_IsNumeral_wide n small in
    let s = decimal_by_steps_wide Shortest
    (λ m low. record { is = refl; first = λ some e. omega (arith, low, some, e) })
    (λ m ds h s. shortest_step m ds (48 + m % 10) h s) n small in
    record { all = all_digits (decimal n) numeral.0.1; shortest = s.is; value = numeral.1 }

-- ---- reading a number

-- a number before what doesn't begin with a digit is read
pub number_again : (ds rest : List ℕ) (n : ℕ) → IsNumber ds n → prefix_len is_digit rest ≡ 0 → number_at (ds ++ rest) ≡ Some (in_range n, rest)
number_again ds rest n h stop =
    let run : prefix_len is_digit (ds ++ rest) ≡ length ds = front_is is_digit ds rest h.all stop in
    let is : value ds ≡ n = value_is ds h.all ∙ h.value in
    rw (run, take_at ds rest (length ds) refl, drop_at ds rest (length ds) refl, h.shortest, is) refl

pub record ReadNumber (t : List ℕ) (x : Option ℕ × List ℕ) : Type 0 where
  pub digits : List ℕ
  pub n : ℕ
  pub number : IsNumber digits n
  pub is : t ≡ digits ++ x.1
  pub read : x.0 ≡ in_range n

-- what is read is one
pub number_sound : (t : List ℕ) (x : Option ℕ × List ℕ) → number_at t ≡ Some x → ReadNumber t x
number_sound t x e =
    let n = prefix_len is_digit t in
    let all = front_passes is_digit t in
    elim (choice (is_shortest (take n t)) (Some (in_range (value (take n t)), drop n t)) None (Some x) e) [
      | on_true s is ↦
          let same = some_is (in_range (value (take n t)), drop n t) x is in
          record {
            digits = take n t;
            n = value (take n t);
            number = record { all = all; shortest = s; value = sym (value_is (take n t) all) };
            is = sym (take-append-drop n t) ∙ ap (λ (y : Option ℕ × List ℕ). take n t ++ y.1) same;
            read = ap (λ (y : Option ℕ × List ℕ). y.0) (sym same);
          }
      | on_false other is ↦ absurd cc
    ]

pub small_in_range : (n : ℕ) → n < 2 ^ 128 → in_range n ≡ Some n
small_in_range n h = rw (lt-ltb n (2 ^ 128) h) refl

pub in_range_small : (n m : ℕ) → in_range n ≡ Some m → (n ≡ m) × (n < 2 ^ 128)
in_range_small n m e =
    elim (choice (ltb n (2 ^ 128)) (Some n) None (Some m) e) [
      | on_true small is ↦ (some_is n m is, ltb-true n (2 ^ 128) small)
      | on_false large is ↦ absurd cc
    ]
