-- What a statement gives, by its class and by what the calls for that class gave.
use Rattle.std.proofs.Common.{◌≡◌, ◌∙◌, ◌-◌, ◌<◌, ◌≤◌, ℕ, suc, Bool, true, false, leb, List, Result, Ok, length, take, drop, sym, ap, subst, arith}
use Rattle.std.proofs.lemmas.Bool.{le-leb, lt-leb}
use Rattle.std.proofs.lemmas.List.{length-drop, take_all}
use Rattle.std.specs.Prelude.{if◌then◌else◌}
use Rattle.std.specs.List.{prefix_len}
use Rattle.ast.specs.Answers.{Break, Fails}
use Rattle.ast.specs.Results.{◌>>=◌}
use Rattle.ast.specs.Tree.{DoHead, Kind, Term}
use Rattle.ast.specs.Tree as tree
use Rattle.ast.specs.declared.refusal.Refusal.{Refusal}
use Rattle.ast.specs.declared.refusal.Refusal.TheVariants.{Refused}
use Rattle.ast.specs.declared.rule.Rule.{Rule}
use Rattle.ast.specs.declared.rule.Rule.TheVariants.{Malformed}
use Rattle.expressions.specs.Answers.{refuse}
use Rattle.expressions.specs.Characters.{is_digit, value}
use Rattle.expressions.specs.Reading.{whole_at}
use Rattle.expressions.proofs.Parts.{goes_on}
use Rattle.syntax.specs.Classes.{Class, class_of, logical_if, without_comma}
use Rattle.syntax.specs.ReadingStatements.{class_at, counted_by, do_at, kind_at}
use Rattle.syntax.specs.Statements.{most_digits}

pub refused : {Y : Type 0} (e : Refusal) (rule : Rule) (line : ℕ) (meant : Result Y Break) → e ≡ Refused rule line → meant ≡ refuse line rule → Fails e meant
refused e rule line meant is whole = subst (λ (x : Refusal). Fails x meant) (sym is) whole

module _ (line room : ℕ) (some : room ≡ 0 → ⊥) (t : List ℕ) (cs : List (List ℕ)) where
  less : room ≡ suc (room - 1)
  less = omega (arith, some)

  pub of_class : (k : Class) → k ≡ class_of t → kind_at line room t cs ≡ class_at line (λ v. kind_at line (room - 1) v cs) k cs
  of_class k is =
      ap (λ (n : ℕ). kind_at line n t cs) less
      ∙ ap (λ (k : Class). class_at line (λ v. kind_at line (room - 1) v cs) k cs) (sym is)

  pub inner_of : (u v : List ℕ) (e : Term) → logical_if u v ≡ class_of t → whole_at line u ≡ Ok e → kind_at line room t cs ≡ (kind_at line (room - 1) v cs >>= λ k. Ok (tree.logical_if e k))
  inner_of u v e is read = goes_on _ _ _ _ read (of_class (logical_if u v) is)

  pub logical_of : (u v : List ℕ) (e : Term) (k : Kind) → logical_if u v ≡ class_of t → whole_at line u ≡ Ok e → kind_at line (room - 1) v cs ≡ Ok k → kind_at line room t cs ≡ Ok (tree.logical_if e k)
  logical_of u v e k is read inside = goes_on _ _ _ _ inside (inner_of u v e is read)

module _ (line : ℕ) (t : List ℕ) (n : ℕ) (is : n ≡ prefix_len is_digit t) where
  abbrev by_number : Bool → Result DoHead Break
  by_number few = if few then counted_by line (value (take n t)) (without_comma (drop n t)) else refuse line Malformed

  numbered : (few : Bool) → leb n most_digits ≡ few → do_at line t ≡ by_number few
  numbered few h =
      ap (λ (m : ℕ). if leb m most_digits then counted_by line (value (take m t)) (without_comma (drop m t)) else refuse line Malformed) (sym is)
      ∙ ap by_number h

  pub overlong : most_digits < n → do_at line t ≡ refuse line Malformed
  overlong h = numbered false (lt-leb n most_digits h)

  pub labelled : (label : ℕ) (rest : List ℕ) → n ≤ most_digits → label ≡ value (take n t) → rest ≡ without_comma (take (length t - n) (drop n t)) → do_at line t ≡ counted_by line label rest
  labelled label rest h valued behind =
      numbered true (le-leb n most_digits h)
      ∙ ap (λ (l : ℕ). counted_by line l (without_comma (drop n t))) (sym valued)
      ∙ ap (λ (u : List ℕ). counted_by line label (without_comma u)) (sym (take_all (length t - n) (drop n t) (omega (arith, length-drop n t))))
      ∙ ap (counted_by line label) (sym behind)
