use Rattle.std.proofs.Common.{◌≡◌, drop, map}
use Rattle.ast.specs.Tree.{terms}
use Rattle.ast.specs.View.{term}
use Rattle.loop_tree.specs.Constants.{constant_values}
use Rattle.loop_tree.proofs.ConstantValues.{behind}
use Rattle.loop_tree.proofs.constants.+constant.Given as goal

abbrev pub invariant-values_of-loop-argument : goal.invariant-values_of-loop-argument
invariant-values_of-loop-argument l =
    behind l.values.items (constant_values (terms (map term (drop l.argument-index l.arguments)))) ≡ constant_values (terms (map term l.arguments))
