use Rattle.std.proofs.Common.{◌≡◌, map, take}
use Rattle.ast.specs.View.{node, arm}
use Rattle.ast.proofs.tree.+copies.Given as goal

abbrev pub invariant-copies_of_nodes-loop-node : goal.invariant-copies_of_nodes-loop-node
invariant-copies_of_nodes-loop-node l = map node l.copies.items ≡ map node (take l.node-index l.nodes)

abbrev pub invariant-copies_of_arms-loop-arm : goal.invariant-copies_of_arms-loop-arm
invariant-copies_of_arms-loop-arm l = map arm l.copies.items ≡ map arm (take l.arm-index l.arms)
