use Rattle.std.proofs.Common.{◌≡◌, drop, map}
use Rattle.ast.specs.Tree.{arms}
use Rattle.ast.specs.View.{arm}
use Rattle.placement.specs.Listed.{has_else}
use Rattle.placement.proofs.placing.has_else.Given as goal

abbrev pub invariant-loop-arm : goal.invariant-loop-arm
invariant-loop-arm l = has_else (arms (map arm (drop l.arm-index l.arms))) ≡ has_else (arms (map arm l.arms))
