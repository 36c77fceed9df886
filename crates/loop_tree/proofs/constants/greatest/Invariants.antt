use Rattle.std.proofs.Common.{◌≡◌, drop}
use Rattle.ast.specs.Exact.{greatest}
use Rattle.loop_tree.proofs.constants.greatest.Given as goal

abbrev pub invariant-loop-other : goal.invariant-loop-other
invariant-loop-other l = greatest l.best (drop l.other-index l.others) ≡ greatest l.fn.first l.others
