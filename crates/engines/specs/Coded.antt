-- What `code` may write of a source text.
use Rattle.std.specs.Prelude.{◌≡◌, ◌⊎◌, List, ℕ}
use Rattle.command_output.specs.declared.outcomes.Outcome.{Outcome}
use Rattle.command_output.specs.declared.outcomes.Outcome.TheVariants.{Completed}
use Rattle.engines.specs.CodeLines.{code_lines}
use Rattle.engines.specs.Prepared.{IsUncoded, WithCode}

-- the lines of the code of the program that the source reads as, or the line of its refusal, by its
-- text or for its code
abbrev pub ShowsCode : List ℕ → Outcome → List ℕ → Type 0
ShowsCode source outcome text =
    WithCode source (λ tree code. (outcome ≡ Completed) × (text ≡ code_lines code))
    ⊎ IsUncoded source outcome text
