use Rattle.loop_tree.specs.TreeView.{seen}
use Rattle.plan_check.specs.GivenView.{given}
use Rattle.plan_check.proofs.Ranks.{good_if, once_if}
use Rattle.plan_check.proofs.checking.check_given.Goals as goal

pub returns-clause-good : goal.returns-clause-good
returns-clause-good c = good_if (seen c.args.view.now) (given c.args.plan.now) c.check_body.result c.args.view.now.in_turn c.args.view.now.told c.check_body.ensures.accepted

pub returns-clause-once : goal.returns-clause-once
returns-clause-once c = once_if (seen c.args.view.now) (given c.args.plan.now) c.check_body.result c.check_body.ensures.accepted
