use Rattle.std.proofs.Common.{◌≡◌, length}
use Rattle.schedules.specs.Schedules.{IsSchedule, text_before}
use Rattle.schedules.proofs.schedule.Schedule.read.Given as goal

abbrev pub invariant-loop-rest : goal.invariant-loop-rest
invariant-loop-rest l = (text_before l.self l.rest ≡ text_before l.fn.self l.text) × IsSchedule l.self

abbrev pub decreases-loop-rest : goal.decreases-loop-rest
decreases-loop-rest l = length l.rest
