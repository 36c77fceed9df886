use Rattle.loop_tree.specs.TreeView.{seen}
use Rattle.plan_check.specs.GivenView.{given}
use Rattle.plan_check.proofs.Walks.{walked_if}
use Rattle.plan_check.proofs.checking.walk.Goals as goal

pub returns : goal.returns
returns c = walked_if (seen c.args.view.now) (given c.args.plan.now) c.walk_over.result c.requires.fits c.requires.same c.walk_over.ensures.known c.walk_over.ensures.seen
