use Rattle.std.proofs.Common.{◌≡◌, map, drop}
use Rattle.std.specs.List.{list_all}
use Rattle.ast.specs.View.{access}
use Rattle.profile_check.specs.Kinds.{are_integral}
use Rattle.profile_check.proofs.kinds.elements_are_integral.Given as goal

abbrev pub invariant-loop-element : goal.invariant-loop-element
invariant-loop-element l = list_all (λ a. are_integral a.subscripts) (map access (drop l.element-index l.elements)) ≡ list_all (λ a. are_integral a.subscripts) (map access l.elements)
