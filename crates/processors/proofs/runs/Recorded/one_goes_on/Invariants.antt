use Rattle.std.proofs.Common.{ℕ, ◌<◌, ◌≡◌}
use Rattle.processors.specs.Left.{HasNoStep}
use Rattle.processors.proofs.runs.Recorded.one_goes_on.Given as goal

abbrev pub invariant-loop-q : goal.invariant-loop-q
invariant-loop-q g l = (l.self ≡ l.fn.self) × ((r : ℕ) → r < l.q → HasNoStep l.self r)
