use Rattle.std.proofs.Common.{◌≡◌, ◌++◌, map, drop}
use Rattle.ast.specs.Tree.{terms}
use Rattle.ast.specs.View.{term}
use Rattle.dependence.specs.Formed.{forms_of}
use Rattle.loop_tree.specs.TreeView.{seen}
use Rattle.subscripts.specs.View.{form_in}
use Rattle.dependence.proofs.formed.forms.Given as goal

abbrev pub invariant-loop-subscript : goal.invariant-loop-subscript
invariant-loop-subscript l = map form_in l.forms.items ++ forms_of (seen l.view) (terms (map term (drop l.subscript-index l.occurrence.subscripts.now))) ≡ forms_of (seen l.view) (terms (map term l.occurrence.subscripts.now))
