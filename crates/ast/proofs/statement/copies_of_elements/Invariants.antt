use Rattle.std.proofs.Common.{◌≡◌, map, take}
use Rattle.ast.specs.View.{access}
use Rattle.ast.proofs.statement.copies_of_elements.Given as goal

abbrev pub invariant-loop-element : goal.invariant-loop-element
invariant-loop-element l = map access l.copies.items ≡ map access (take l.element-index l.elements)
