use Rattle.std.proofs.Common.{subst}
use Rattle.unrecorded.specs.View.{RunView, Shares}
use Rattle.processors.proofs.Left.{go_none}
use Rattle.processors.proofs.runs.Unrecorded.go_on.Goals as goal

pub returns : goal.returns
returns g c =
    go_none c.args.self.now c.work.new.self c.share.new.self c.take.new.self c.args.q c.in_ok-work.field-0 c.in_ok-share.field-0 c.take.result c.in_ok-work.ensures c.if-branch.false
    (subst (λ (x : RunView). Shares c.in_ok-share.field-0 x c.args.q c.share.new.self) c.self-2.view_is c.in_ok-share.ensures.did) c.if-branch-2.false c.take.ensures
