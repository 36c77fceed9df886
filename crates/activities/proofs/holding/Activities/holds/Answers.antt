use Rattle.std.proofs.Common.{◌∙◌}
use Rattle.activities.proofs.Labour.{holds_frame}
use Rattle.activities.proofs.Shares.{held_is}
use Rattle.activities.proofs.holding.Activities.holds.Goals as goal

pub returns : goal.returns
returns c =
    c.is_some.ensures
    ∙ holds_frame c.args.q c.index.result.now c.args.self.now c.requires.stand (held_is c.args.self.now.held.items c.args.q c.index.result.now c.index.result.now c.requires.processor c.index.ensures)
