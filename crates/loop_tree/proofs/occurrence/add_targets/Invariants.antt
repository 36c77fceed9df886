use Rattle.std.proofs.Common.{◌≡◌, drop, map}
use Rattle.std.specs.Prelude.{◌++◌}
use Rattle.ast.specs.View.{access}
use Rattle.loop_tree.specs.Occurrences.{targets_occurrences}
use Rattle.loop_tree.specs.View.{occurrence}
use Rattle.loop_tree.proofs.occurrence.add_targets.Given as goal

abbrev pub invariant-loop-element : goal.invariant-loop-element
invariant-loop-element l =
    map occurrence l.list.items ++ targets_occurrences l.statement (map access (drop l.element-index l.elements))
    ≡ map occurrence l.fn.list.items ++ targets_occurrences l.statement (map access l.elements)
