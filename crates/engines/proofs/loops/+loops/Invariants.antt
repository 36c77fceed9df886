use Rattle.std.proofs.Common.{◌≡◌, ◌+◌, drop, map}
use Rattle.ast.specs.Program.{loops_in, loops_in_arms}
use Rattle.ast.specs.Tree.{arms}
use Rattle.ast.specs.View.{arm, block_view}
use Rattle.engines.proofs.loops.+loops.Given as goal

abbrev pub invariant-loops_in-loop-node : goal.invariant-loops_in-loop-node
invariant-loops_in-loop-node l = l.count + loops_in (block_view (drop l.node-index l.nodes)) ≡ loops_in (block_view l.fn.nodes)

abbrev pub invariant-loops_in_arms-loop-arm : goal.invariant-loops_in_arms-loop-arm
invariant-loops_in_arms-loop-arm l = l.count + loops_in_arms (arms (map arm (drop l.arm-index l.arms))) ≡ loops_in_arms (arms (map arm l.fn.arms))
