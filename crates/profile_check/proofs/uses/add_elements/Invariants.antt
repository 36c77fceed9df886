use Rattle.std.proofs.Common.{◌≡◌, ◌++◌, map, drop}
use Rattle.ast.specs.View.{access}
use Rattle.profile_check.specs.Uses as spec
use Rattle.profile_check.specs.UsesView.{use_of}
use Rattle.profile_check.proofs.uses.add_elements.Given as goal

abbrev pub invariant-loop-element : goal.invariant-loop-element
invariant-loop-element l =
    map use_of l.uses.items ++ spec.all_uses spec.given_uses (map access (drop l.element-index l.elements))
    ≡ map use_of l.fn.uses.items ++ spec.all_uses spec.given_uses (map access l.elements)
