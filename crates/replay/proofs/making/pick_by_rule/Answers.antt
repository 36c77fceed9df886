use Rattle.activities.specs.Activities.{chosen, code_in, point_in}
use Rattle.replay.proofs.Alone.{made_by_rule, none_by_rule}
use Rattle.replay.proofs.making.pick_by_rule.Goals as goal

pub returns-then-branch-clause-made : goal.returns-then-branch-clause-made
returns-then-branch-clause-made c =
    rw c.pick_of.ensures.is
    (made_by_rule (code_in c.args.activities.now) c.args.activities.now.slots (chosen c.choice-choice.result) (point_in c.args.activities.now) c.args.q (point_in c.pick.new.self)
    (rw c.pick_of.ensures.is at c.pick_of.ensures.allowed) c.choice-choice.ensures.only c.choice-choice.ensures.rule (rw c.if-branch.true at c.in_ok-pick.ensures.did))

pub returns-else-branch-clause-made : goal.returns-else-branch-clause-made
returns-else-branch-clause-made c =
    none_by_rule (code_in c.args.activities.now) c.args.activities.now.slots (chosen c.choice-choice.result) (point_in c.args.activities.now) c.args.q
    c.requires.still c.choice-choice.ensures.only (rw c.if-branch.false at c.in_ok-pick.ensures.did).1
