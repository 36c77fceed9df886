use Rattle.std.proofs.Common.{sym}
use Rattle.loop_tree.specs.TreeView.{seen}
use Rattle.subscripts.specs.View.{form}
use Rattle.subscripts.proofs.Propers.{left_proper, left_same}
use Rattle.subscripts.proofs.adding.operate.Goals as goal

pub returns-clause-left : goal.returns-clause-left
returns-clause-left c = left_same c.replace.result _ _ _ (sym c.binary_form-whole.ensures.value) c.replace.ensures.left

pub returns-clause-proper : goal.returns-clause-proper
returns-clause-proper c =
    left_proper (seen c.args.view.now) c.args.operator (form c.args.form.now) (form c.args.other.now) _ c.replace.result c.requires.proper c.requires.other
    (left_same c.replace.result _ _ _ (sym c.binary_form-whole.ensures.value) c.replace.ensures.left)
