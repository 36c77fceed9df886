use Rattle.std.proofs.Common.{◌≡◌, drop, map}
use Rattle.std.specs.Prelude.{◌++◌}
use Rattle.ast.specs.Tree.{terms}
use Rattle.ast.specs.View.{term}
use Rattle.loop_tree.specs.Occurrences.{terms_occurrences}
use Rattle.loop_tree.specs.View.{occurrence}
use Rattle.loop_tree.proofs.occurrence.+occurrences.Given as goal

abbrev pub invariant-add_terms-loop-expression : goal.invariant-add_terms-loop-expression
invariant-add_terms-loop-expression l =
    map occurrence l.list.items ++ terms_occurrences l.statement (terms (map term (drop l.expression-index l.expressions)))
    ≡ map occurrence l.fn.list.items ++ terms_occurrences l.statement (terms (map term l.expressions))
