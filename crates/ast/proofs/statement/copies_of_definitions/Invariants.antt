use Rattle.std.proofs.Common.{◌≡◌, map, take}
use Rattle.ast.specs.View.{definition}
use Rattle.ast.proofs.statement.copies_of_definitions.Given as goal

abbrev pub invariant-loop-definition : goal.invariant-loop-definition
invariant-loop-definition l = map definition l.copies.items ≡ map definition (take l.definition-index l.defined)
