-- Statements keep the rules, or one of them is the first that breaks one, and never both.
use Rattle.std.proofs.Common.{◌≡◌, ◌∙◌, ℕ, List, ◌∷◌, ◌++◌, Some, None, Result, Ok, Err, ap, sym, inl, inr}
use Rattle.std.specs.Prelude.{IfOk, IfErr}
use Rattle.ast.specs.Answers.{Gives, Says}
use Rattle.ast.specs.Tree.{Statement}
use Rattle.ast.specs.declared.refusal.Refusal.{Refusal}
use Rattle.ast.specs.declared.refusal.Refusal.TheVariants.{Memory, Refused}
use Rattle.ast.specs.declared.rule.Rule.{Rule}
use Rattle.fixed_form.proofs.Splits.{places}
use Rattle.structure.specs.Backward.{spans_in}
use Rattle.structure.specs.Rules.{Keep, BreakFirst, checks, lowest_broken}
use Rattle.structure.specs.declared.span.Blocks.{Blocks}

-- no rule is broken at a place where one is
not-kept : (ss front : List Statement) (s : Statement) (back : List Statement) (n : Rule) → Keep checks ss → ss ≡ front ++ s ∷ back → lowest_broken checks front s ≡ Some n → ⊥
not-kept ss front s back n keep cut broken = let none : lowest_broken checks front s ≡ None = keep.each front s back cut in cc

unbroken : (ss : List Statement) (n : Rule) (line : ℕ) → Keep checks ss → BreakFirst checks ss n line → ⊥
unbroken ss n line keep b = not-kept ss b.front b.statement b.back n keep b.cut b.broken

-- one statement is the first that breaks a rule
one-break : (ss : List Statement) (n : Rule) (line : ℕ) (m : Rule) (at : ℕ) → BreakFirst checks ss n line → BreakFirst checks ss m at → (n ≡ m) × (line ≡ at)
one-break ss n line m at b d =
    elim (places b.front b.back d.front d.back b.statement d.statement (sym b.cut ∙ d.cut)) [
      | inl same ↦
          let fronts = same.fronts in
          let items = same.items in
          let rule : lowest_broken checks b.front b.statement ≡ lowest_broken checks d.front d.statement = λ i. lowest_broken checks (fronts i) (items i) in
          let first = b.broken in
          let second = d.broken in
          ((let e : Some n ≡ Some m = sym first ∙ rule ∙ second in cc), b.place ∙ ap (λ (s : Statement). s.line) items ∙ sym d.place)
      | inr (inl earlier) ↦ absurd (not-kept d.front b.front b.statement earlier.between n d.kept earlier.longer b.broken)
      | inr (inr earlier) ↦ absurd (not-kept b.front d.front d.statement earlier.between m b.kept earlier.longer d.broken)
    ]

pub break-exactly : (r : Result Blocks Refusal) (ss : List Statement) → IfOk r (λ b. Keep checks ss) → IfErr r (Says (BreakFirst checks ss)) → (n : Rule) (line : ℕ) → BreakFirst checks ss n line → Gives spans_in r (Err (record { rule = n; line = line }))
break-exactly (Ok b) ss kept refused n line h = absurd (unbroken ss n line kept h)
break-exactly (Err Memory) ss kept refused n line h = tt
break-exactly (Err (Refused m at)) ss kept refused n line h =
    let same = one-break ss n line m at h refused in
    λ i. Err (record { rule = same.0 i; line = same.1 i })
