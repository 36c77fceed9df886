use Rattle.activities.specs.Activities.{chosen, code_in, point_in}
use Rattle.replay.proofs.Alone.{made_pick, pick_named}
use Rattle.replay.proofs.making.pick.Goals as goal

pub returns-then-branch-clause-made : goal.returns-then-branch-clause-made
returns-then-branch-clause-made c =
    rw c.pick_of.ensures.is
    (made_pick c.args.version (code_in c.args.activities.now) c.args.activities.now.slots (chosen c.args.choice) (point_in c.args.activities.now) c.args.q (point_in c.pick.new.self)
    (rw c.pick_of.ensures.is at c.pick_of.ensures.allowed) (rw c.if-branch.true at c.in_ok-pick.ensures.did))

pub returns-else-branch-clause-made : goal.returns-else-branch-clause-made
returns-else-branch-clause-made c =
    λ b d. (rw c.if-branch.false at c.in_ok-pick.ensures.did).1 b
    (pick_named (code_in c.args.activities.now) c.args.activities.now.slots c.args.version (chosen c.args.choice) (point_in c.args.activities.now) c.args.q b d)
