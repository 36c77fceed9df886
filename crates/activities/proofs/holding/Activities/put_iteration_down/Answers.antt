use Rattle.std.proofs.Common.{◌∙◌, sym, ap}
use Rattle.activities.specs.Activities.{kept_in}
use Rattle.activities.specs.Seating.{seat}
use Rattle.activities.specs.declared.turn.Outcome.{Outcome}
use Rattle.activities.proofs.Seats.{down_left, down_parked}
use Rattle.activities.proofs.holding.Activities.put_iteration_down.Goals as goal

pub returns-in-Leaves-clause-kept : goal.returns-in-Leaves-clause-kept
returns-in-Leaves-clause-kept c =
    down_left c.args.q c.args.place c.args.iteration c.args.self.now c.requires.free c.requires.idle
    ∙ ap (λ (o : Outcome). kept_in (seat o c.args.q c.args.place c.args.iteration c.args.self.now)) (sym c.in-Leaves.is)

pub returns-in-Parks-clause-kept : goal.returns-in-Parks-clause-kept
returns-in-Parks-clause-kept c =
    down_parked c.args.q c.args.place c.args.iteration c.args.self.now c.requires.idle
    ∙ ap (λ (o : Outcome). kept_in (seat o c.args.q c.args.place c.args.iteration c.args.self.now)) (sym c.in-Parks.is)
