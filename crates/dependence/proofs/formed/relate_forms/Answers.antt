use Rattle.std.proofs.Common.{◌∙◌, map}
use Rattle.loop_tree.specs.TreeView.{seen}
use Rattle.subscripts.specs.View.{form_in}
use Rattle.dependence.proofs.Reformed.{related_by}
use Rattle.dependence.proofs.formed.relate_forms.Goals as goal

pub returns : goal.returns
returns c a b p q = c.by_dimensions.ensures ∙ related_by (seen c.args.view.now) a b (map form_in c.args.first.now) (map form_in c.args.second.now) p q
