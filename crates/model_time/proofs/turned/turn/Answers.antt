use Rattle.std.proofs.Common.{Bool, subst}
use Rattle.activities.specs.Activities.{chosen}
use Rattle.unrecorded.specs.View.{Shares, TakesUp}
use Rattle.model_time.proofs.Timing.{picked_turn, waited_turn}
use Rattle.model_time.proofs.turned.turn.Goals as goal

pub returns-then-branch-2 : goal.returns-then-branch-2
returns-then-branch-2 c =
    picked_turn c.args.run.now c.labour.new.self c.share.new.self c.pick.new.self c.args.q c.least-choice.result c.if-labour.ensures
    (subst (λ (b : Bool). Shares b c.labour.new.self c.args.q c.share.new.self) c.if-branch.false c.in_ok-share.ensures.did)
    c.least-choice.ensures
    (subst (λ (b : Bool). TakesUp b c.share.new.self c.args.q (chosen c.least-choice.result) c.pick.new.self) c.if-branch-2.true c.in_ok-pick.ensures.did)

pub returns : goal.returns
returns c =
    waited_turn c.args.run.now c.labour.new.self c.share.new.self c.pick.new.self c.args.q c.least-choice.result c.if-labour.ensures
    (subst (λ (b : Bool). Shares b c.labour.new.self c.args.q c.share.new.self) c.if-branch.false c.in_ok-share.ensures.did)
    c.least-choice.ensures
    (subst (λ (b : Bool). TakesUp b c.share.new.self c.args.q (chosen c.least-choice.result) c.pick.new.self) c.if-branch-2.false c.in_ok-pick.ensures.did)
