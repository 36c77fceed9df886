use Rattle.std.proofs.Common.{◌≡◌, ◌≤◌, ◌<◌, ◌-◌, ◌^◌, length}
use Rattle.schedules.specs.Noting.{AllNoted}
use Rattle.schedules.specs.Schedules.{IsSchedule}
use Rattle.activities.specs.Kinds.{kinds}
use Rattle.replay.specs.Striding.{IsLeg}
use Rattle.replay.proofs.striding.plan.Given as goal

abbrev pub invariant-loop-planned : goal.invariant-loop-planned
invariant-loop-planned l =
    IsLeg l.legs.code.now.instructions.items l.start l.planned l.place × AllNoted l.q (kinds l.legs.code.now.instructions.items l.planned l.start) l.fn.schedule l.schedule
    × IsSchedule l.schedule × (l.schedule.processors ≡ l.fn.schedule.processors) × (l.planned ≤ l.most)
    × (1 ≤ l.planned → length l.fn.schedule.entries < 2 ^ 63) × (l.planned ≡ 0 → l.schedule ≡ l.fn.schedule)

abbrev pub decreases-loop-planned : goal.decreases-loop-planned
decreases-loop-planned l = l.most - l.planned
