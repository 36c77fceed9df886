-- What an answer says. Want of memory says nothing.
use Rattle.std.specs.Prelude.{◌≡◌, ℕ, Result, Ok, Err}
use Rattle.ast.specs.declared.refusal.Refusal.{Refusal}
use Rattle.ast.specs.declared.refusal.Refusal.TheVariants.{Memory, Refused}
use Rattle.ast.specs.declared.rule.Rule.{Rule}

-- a broken rule, and the line where it is broken
pub record Break : Type 0 where
  pub rule : Rule
  pub line : ℕ

-- the refusal is what is meant
abbrev pub Fails : {Y : Type 0} → Refusal → Result Y Break → Type 0
Fails Memory meant = Unit {0}
Fails (Refused rule line) meant = meant ≡ Err (record { rule = rule; line = line })

-- The answer, seen by a view, is what is meant.
abbrev pub Gives : {X Y : Type 0} → (X → Y) → Result X Refusal → Result Y Break → Type 0
Gives view (Ok x) meant = meant ≡ Ok (view x)
Gives view (Err e) meant = Fails e meant

-- A refusal for a broken rule says what is claimed of that rule and line.
abbrev pub Says : (Rule → ℕ → Type 0) → Refusal → Type 0
Says claim Memory = Unit {0}
Says claim (Refused rule line) = claim rule line
