use Rattle.std.proofs.Common.{◌≡◌, ◌≤◌, ◌-◌, None}
use Rattle.activities.specs.Activities.{AreActivities, code_in, point_in}
use Rattle.activities.specs.Points.{Steps}
use Rattle.activities.specs.Seating.{seated}
use Rattle.activities.proofs.holding.Activities.go_through.Given as goal

abbrev pub invariant-loop-left : goal.invariant-loop-left
invariant-loop-left l = record {
  few : l.left ≤ l.fn.n;
  made : Steps (code_in l.fn.self) l.fn.self.slots (l.fn.n - l.left) (point_in (seated l.q l.place l.fn.iteration l.fn.self)) l.q (point_in (seated l.q l.place l.iteration l.self));
  seated : AreActivities (seated l.q l.place l.iteration l.self);
  number : l.iteration.number ≡ l.fn.iteration.number;
  going : l.self.shared.ended ≡ None;
  others : l.self ≡ record l.fn.self { shared = l.self.shared };
}

abbrev pub decreases-loop-left : goal.decreases-loop-left
decreases-loop-left l = l.left
