use Rattle.std.proofs.Common.{arith}
use Rattle.codegen.proofs.ranges.number_of.Goals as goal

pub overflow_add-number : goal.overflow_add-number
overflow_add-number c = omega (arith, c.loop-symbol.invariant.0, c.loop-symbol-test.true, c.loop-symbol.auto.symbol-index-end)
