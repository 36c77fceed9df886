-- What is so of every labelled statement: its label has one to five digits, and its text is that of
-- 1 to 20 lines.
use Rattle.std.proofs.Common.{◌≡◌, ℕ, zero, suc, ◌+◌, ◌-◌, ◌%◌, ◌<◌, ◌≤◌, Bool, true, false, List, [], ◌∷◌, ◌++◌, length, Option, Some, None, Result, Ok, Err, refl, sym, ap, subst, ◌∙◌, arith, length-append}
use Rattle.std.specs.Prelude.{not, cond, nat_lt, if◌then◌else◌, drop, OnOk, OnErr}
use Rattle.std.specs.List.{list_all}
use Rattle.std.specs.declared.alloc.AllocError.{AllocError}
use Rattle.std.specs.Char.{is_ascii_digit}
use Rattle.std.specs.Str.{all_ascii_digits}
use Rattle.std.specs.Str.Parse.{digits_value}
use Rattle.std.proofs.lemmas.Str.Parse.{digits_value_short, numerals_by_value, tells_all_ascii_digits}
use Rattle.std.proofs.lemmas.Bool.{ltb-true, le-leb, and_parts}
use Rattle.ast.specs.declared.rule.Rule.TheVariants.{StrangeByte, MalformedLabel, LabelledContinuation}
use Rattle.fixed_form.specs.declared.label.LabelField.TheVariants.{Blank, Label, Malformed}
use Rattle.fixed_form.specs.declared.line.Class.{Class}
use Rattle.fixed_form.specs.declared.line.Class.TheVariants as class
use Rattle.fixed_form.specs.Limits.{is_label_or_none}
use Rattle.fixed_form.specs.Line.{filled, columns, is_blank, is_comment, is_readable, is_continuation, is_empty, is_label, label_field, part_of, without_blanks}
use Rattle.fixed_form.specs.Steps.{class_by, class_of}

length-filled : (n : ℕ) (cs : List ℕ) → length (filled n cs) ≡ n
unfolding filled
length-filled zero cs = refl
length-filled (suc n) [] = ap suc (length-filled n [])
length-filled (suc n) (c ∷ cs) = ap suc (length-filled n cs)

length-columns : (first last : ℕ) (line : List ℕ) → length (columns first last line) ≡ last + 1 - first
unfolding columns
length-columns first last line = length-filled (last + 1 - first) (drop (first - 1) line)

pub width_of_part : (line : List ℕ) → length (part_of line) ≡ 66
width_of_part line = length-columns 7 72 line

all_digits : (cs : List ℕ) → list_all is_ascii_digit cs ≡ true → all_ascii_digits cs ≡ true
all_digits [] e = refl
all_digits (c ∷ cs) e =
    let b = and_parts (is_ascii_digit c) (list_all is_ascii_digit cs) e in
    rw (b.0, all_digits cs b.1) refl

one_shorter : (b : Bool) (c : ℕ) (cs : List ℕ) (n : ℕ) → length cs ≤ n → length (cond b (c ∷ cs) cs) ≤ suc n
one_shorter true c cs n h = omega arith
one_shorter false c cs n h = omega arith

without_blanks_shorter : (cs : List ℕ) → length (without_blanks cs) ≤ length cs
without_blanks_shorter [] = omega arith
without_blanks_shorter (c ∷ cs) = one_shorter (not (is_blank c)) c (without_blanks cs) (length cs) (without_blanks_shorter cs)

in_range : (n : ℕ) → 1 ≤ n → n ≤ 99999 → is_label_or_none (Some n) ≡ true
in_range n h k = rw (le-leb 1 n h, le-leb n 99999 k) refl

label_in_range : (line : List ℕ) → is_label (label_field line) ≡ true → is_label_or_none (Some (digits_value 10 (label_field line))) ≡ true
label_in_range line e =
    let b = and_parts (list_all is_ascii_digit (label_field line)) (nat_lt 0 (digits_value 10 (label_field line))) e in
    let five : length (label_field line) ≤ 5 = omega (arith, without_blanks_shorter (columns 1 5 line), length-columns 1 5 line) in
    let below = digits_value_short (numerals_by_value (λ ds. all_ascii_digits ds ≡ true) tells_all_ascii_digits) (label_field line) 5 (all_digits (label_field line) b.0) five in
    in_range (digits_value 10 (label_field line)) (ltb-true 0 (digits_value 10 (label_field line)) b.1) (omega (arith, below))

abbrev by_tests : Bool → Bool → Bool → Bool → Bool → ℕ → Class
by_tests comment readable continuation empty label v = if comment then class.Comment else if not readable then class.Refused StrangeByte else class_by continuation (if empty then Blank else if label then Label v else Malformed)

initial_label : (comment readable continuation empty label : Bool) (v : ℕ) (given : Option ℕ) → (label ≡ true → is_label_or_none (Some v) ≡ true) → by_tests comment readable continuation empty label v ≡ class.Initial given → is_label_or_none given ≡ true
initial_label true r c e l v o h k = absurd (not_initial k)
  where
    not_initial : class.Comment ≡ class.Initial o → ⊥
    not_initial k = cc
initial_label false false c e l v o h k = absurd (let d : class.Refused StrangeByte ≡ class.Initial o = k in cc)
initial_label false true true true l v o h k = absurd (let d : class.Continuation ≡ class.Initial o = k in cc)
initial_label false true true false true v o h k = absurd (let d : class.Refused LabelledContinuation ≡ class.Initial o = k in cc)
initial_label false true true false false v o h k = absurd (let d : class.Refused LabelledContinuation ≡ class.Initial o = k in cc)
initial_label false true false true l v o h k = subst (λ (m : Option ℕ). is_label_or_none m ≡ true) (same None o k) refl
  where
    same : (m n : Option ℕ) → class.Initial m ≡ class.Initial n → m ≡ n
    same m n k = cc
initial_label false true false false true v o h k = subst (λ (m : Option ℕ). is_label_or_none m ≡ true) (same (Some v) o k) (h refl)
  where
    same : (m n : Option ℕ) → class.Initial m ≡ class.Initial n → m ≡ n
    same m n k = cc
initial_label false true false false false v o h k = absurd (let d : class.Refused MalformedLabel ≡ class.Initial o = k in cc)

-- the label of an initial line
pub label_given : (line : List ℕ) (given : Option ℕ) → class_of line ≡ class.Initial given → is_label_or_none given ≡ true
label_given line given h = initial_label (is_comment line) (is_readable line) (is_continuation line) (is_empty (label_field line)) (is_label (label_field line)) (digits_value 10 (label_field line)) given (label_in_range line) h

-- ---- the characters of a text

-- as many characters as some lines have
pub record IsInLines (n : ℕ) : Type 0 where
  pub whole : n % 66 ≡ 0
  pub one : 66 ≤ n
  pub most : n ≤ 1320

more_lines : (n : ℕ) → n % 66 ≡ 0 → (n + 66) % 66 ≡ 0
more_lines n h = omega (arith, h)

-- A text stays so with a line more, and where there is no memory for it.
pub one_line_more : (old new line : List ℕ) (r : Result (Unit {0}) AllocError) → OnOk r (new ≡ old ++ part_of line) → OnErr r (new ≡ old) → IsInLines (length old) → length old < 1320 → IsInLines (length new)
one_line_more old new line (Ok u) h k l m =
    let w : length new ≡ length old + 66 = ap length h ∙ length-append old (part_of line) ∙ ap (λ (n : ℕ). length old + n) (width_of_part line) in
    record { whole = ap (λ (n : ℕ). n % 66) w ∙ more_lines (length old) l.whole; one = omega (arith, w, l.one); most = omega (arith, w, l.whole, m) }
one_line_more old new line (Err e) h k l m = subst (λ (t : List ℕ). IsInLines (length t)) (sym k) l
