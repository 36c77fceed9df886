use Rattle.std.proofs.Common.{refl, subst}
use Rattle.machine.specs.Code.{Code}
use Rattle.activities.specs.Activities.{code_in, kept_in}
use Rattle.activities.specs.PartsView.{standing_of}
use Rattle.activities.specs.Sharing.{StrodeAt}
use Rattle.activities.specs.declared.turn.Outcome.TheVariants as outcomes
use Rattle.std.specs.Prelude.{Some}
use Rattle.activities.proofs.Seats.{SeatedBy, strode, strode_as}
use Rattle.activities.proofs.holding.Activities.follow.Goals as goal

followed : (c : goal.After-commit_to) → SeatedBy c.args.q c.args.place c.commit_to.result outcomes.Stays c.args.iteration.now c.commit_to.new.iteration c.args.self.now (strode_as c.commit_to.new.iteration c.commit_to.new.cells c.args.self.now.shared c.args.self.now)
followed c =
    let old = c.args.self.now in
    let made : StrodeAt (code_in old) (kept_in old).shared.order.counts c.commit_to.result (kept_in old).shared.cells (standing_of c.args.iteration.now) c.commit_to.new.cells.items (Some (standing_of c.commit_to.new.iteration)) =
    subst (λ (d : Code). StrodeAt d (kept_in old).shared.order.counts c.commit_to.result (kept_in old).shared.cells (standing_of c.args.iteration.now) c.commit_to.new.cells.items (Some (standing_of c.commit_to.new.iteration))) c.requires.own c.commit_to.ensures.made in
    strode c.args.q c.args.place c.commit_to.result c.args.iteration.now c.commit_to.new.iteration c.commit_to.new.cells old.shared old c.requires.seated c.requires.going c.requires.processor c.requires.place refl made c.commit_to.ensures.cells

pub returns-clause-made : goal.returns-clause-made
returns-clause-made c = (followed c).0

pub returns-clause-seated : goal.returns-clause-seated
returns-clause-seated c = (followed c).1
