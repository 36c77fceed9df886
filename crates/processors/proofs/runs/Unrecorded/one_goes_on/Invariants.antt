use Rattle.std.proofs.Common.{ℕ, ◌<◌, ◌≡◌}
use Rattle.processors.specs.Left.{NoStepIn}
use Rattle.processors.proofs.runs.Unrecorded.one_goes_on.Given as goal

abbrev pub invariant-loop-q : goal.invariant-loop-q
invariant-loop-q g l = (l.self ≡ l.fn.self) × ((r : ℕ) → r < l.q → NoStepIn l.self r)
