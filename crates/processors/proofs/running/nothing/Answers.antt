use Rattle.std.proofs.Common.{◌≡◌, List, ℕ, subst, sym}
use Rattle.processors.specs.Calls.{IsOutputOf}
use Rattle.processors.specs.Reached.{Reaches}
use Rattle.processors.proofs.Keeping.{first_output}
use Rattle.processors.proofs.Reached.{at_first}
use Rattle.processors.proofs.running.nothing.Goals as goal

pub returns-clause-recorded : goal.returns-clause-recorded
returns-clause-recorded c = λ code input p s sizes. subst (λ (xs : List ℕ). IsOutputOf code input p s xs) (sym c.new.ensures.items) (first_output code input p s sizes)

pub returns-clause-unrecorded : goal.returns-clause-unrecorded
returns-clause-unrecorded c = λ code input p s sizes. subst (λ (xs : List ℕ). Reaches code input p s (λ m. xs ≡ m.output)) (sym c.new.ensures.items) (at_first code input p s sizes)
