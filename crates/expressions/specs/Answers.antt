-- What the calls answer.
use Rattle.std.specs.Prelude.{ℕ, ◌≤◌, Result, Err}
use Rattle.ast.specs.Answers.{Break}
use Rattle.ast.specs.declared.refusal.Refusal.{Refusal}
use Rattle.ast.specs.declared.refusal.Refusal.TheVariants.{Memory, Refused}
use Rattle.ast.specs.Rule.{number_of}
use Rattle.ast.specs.declared.rule.Rule.{Rule}

-- the refusal of a statement's text, by its rule
abbrev pub refuse : {Y : Type 0} → ℕ → Rule → Result Y Break
refuse line rule = Err (record { rule = rule; line = line })

-- a rule that the text of a statement breaks
abbrev pub IsOfStatement : Rule → Type 0
IsOfStatement rule = (20 ≤ number_of rule) × (number_of rule ≤ 27)

-- no want of memory
abbrev pub IsRefused : Refusal → Type 0
IsRefused Memory = ⊥
IsRefused (Refused rule line) = Unit {0}
