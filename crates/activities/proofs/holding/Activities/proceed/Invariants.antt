use Rattle.std.proofs.Common.{◌≤◌, ◌-◌}
use Rattle.activities.specs.Activities.{AreActivities, Stays, code_in, point_in}
use Rattle.activities.specs.Points.{Proceeds}
use Rattle.activities.proofs.holding.Activities.proceed.Given as goal

abbrev pub invariant-loop-left : goal.invariant-loop-left
invariant-loop-left l = record {
  few : l.left ≤ l.fn.n;
  made : Proceeds l.fn.begins (code_in l.fn.self) l.fn.self.slots (l.fn.n - l.left) (point_in l.fn.self) l.fn.q (point_in l.self);
  stand : AreActivities l.self;
  stays : Stays l.fn.self l.self;
}

abbrev pub decreases-loop-left : goal.decreases-loop-left
decreases-loop-left l = l.left
