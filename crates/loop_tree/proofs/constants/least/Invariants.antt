use Rattle.std.proofs.Common.{◌≡◌, drop}
use Rattle.ast.specs.Exact.{least}
use Rattle.loop_tree.proofs.constants.least.Given as goal

abbrev pub invariant-loop-other : goal.invariant-loop-other
invariant-loop-other l = least l.best (drop l.other-index l.others) ≡ least l.fn.first l.others
