use Rattle.std.proofs.Common.{◌≡◌, drop, map}
use Rattle.ast.specs.View.{access}
use Rattle.privatise.specs.Flow.{after_targets}
use Rattle.privatise.proofs.passing.pass_targets.Given as goal

abbrev pub invariant-loop-target : goal.invariant-loop-target
invariant-loop-target l = after_targets (map access (drop l.target-index l.targets)) l.walks ≡ after_targets (map access l.targets) l.fn.walks
