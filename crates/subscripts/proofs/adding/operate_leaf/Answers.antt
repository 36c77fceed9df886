use Rattle.ast.specs.declared.expression.Operator.TheVariants.{Add, Subtract}
use Rattle.loop_tree.specs.TreeView.{seen}
use Rattle.subscripts.specs.Leaves.{leaf_form}
use Rattle.subscripts.specs.View.{form}
use Rattle.subscripts.proofs.Propers.{leaf_proper, left_proper}
use Rattle.subscripts.proofs.adding.operate_leaf.Goals as goal

pub returns-in-Add-clause-proper : goal.returns-in-Add-clause-proper
returns-in-Add-clause-proper c =
    let l = seen c.args.view.now in
    left_proper l Add (form c.args.form.now) (leaf_form l c.args.leaf) (form c.add_leaf.new.form) c.add_leaf.result c.requires.proper (leaf_proper l c.args.leaf c.requires.leaf) c.add_leaf.ensures.left

pub returns-in-Subtract-clause-proper : goal.returns-in-Subtract-clause-proper
returns-in-Subtract-clause-proper c =
    let l = seen c.args.view.now in
    left_proper l Subtract (form c.args.form.now) (leaf_form l c.args.leaf) (form c.add_leaf-in-Subtract.new.form) c.add_leaf-in-Subtract.result c.requires.proper (leaf_proper l c.args.leaf c.requires.leaf) c.add_leaf-in-Subtract.ensures.left
