use Rattle.std.proofs.Common.{◌≤◌}
use Rattle.schedules.specs.Schedules.{IsSchedule}
use Rattle.replay.specs.Striding.{Left}
use Rattle.replay.proofs.striding.cut.Given as goal

abbrev pub invariant-loop-left : goal.invariant-loop-left
invariant-loop-left l = Left l.planned l.left l.fn.schedule l.schedule × IsSchedule l.schedule × (l.made ≤ l.left) × (l.left ≤ l.planned)

abbrev pub decreases-loop-left : goal.decreases-loop-left
decreases-loop-left l = l.left
