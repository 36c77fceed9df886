use Rattle.ast.specs.View.{term}
use Rattle.loop_tree.specs.TreeView.{seen}
use Rattle.subscripts.proofs.Meaning.{found_meant}
use Rattle.subscripts.proofs.expression.affine.Goals as goal

pub returns-clause-value : goal.returns-clause-value
returns-clause-value c = found_meant c.found.result (seen c.args.view.now) (term c.args.expression.now) c.found.ensures
