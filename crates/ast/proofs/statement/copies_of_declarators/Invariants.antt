use Rattle.std.proofs.Common.{◌≡◌, map, take}
use Rattle.ast.specs.View.{declarator}
use Rattle.ast.proofs.statement.copies_of_declarators.Given as goal

abbrev pub invariant-loop-declarator : goal.invariant-loop-declarator
invariant-loop-declarator l = map declarator l.copies.items ≡ map declarator (take l.declarator-index l.declared)
