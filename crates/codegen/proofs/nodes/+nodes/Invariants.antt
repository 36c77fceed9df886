use Rattle.std.proofs.Common.{◌≡◌, ◌++◌, drop, length, map}
use Rattle.ast.specs.Tree.{arms as arms_tree}
use Rattle.ast.specs.View.{arm as arm_of, block_view}
use Rattle.expr_code.specs.PlacesView.{places_of}
use Rattle.codegen.specs.Blocks.{Ends, code_of_arms, code_of_block, records_in_arms, records_in_block}
use Rattle.codegen.specs.OpenedView.{opens_in}
use Rattle.codegen.specs.Records.{records_of}
use Rattle.codegen.proofs.nodes.+nodes.Given as goal

abbrev pub invariant-emit_block-loop-i : goal.invariant-emit_block-loop-i
invariant-emit_block-loop-i l = record {
  code : l.code.items ++ code_of_block (opens_in l.opened) (places_of l.places) (length l.records.items) (block_view (drop l.i l.nodes))
      ≡ l.fn.code.items ++ code_of_block (opens_in l.opened) (places_of l.places) (length l.fn.records.items) (block_view l.nodes);
  records : records_of l.records ++ records_in_block (opens_in l.opened) (places_of l.places) (block_view (drop l.i l.nodes)) ≡ records_of l.fn.records ++ records_in_block (opens_in l.opened) (places_of l.places) (block_view l.nodes);
}

abbrev pub invariant-emit_arms-loop-arm : goal.invariant-emit_arms-loop-arm
invariant-emit_arms-loop-arm l = record {
  code : Ends l.pending.items (l.code.items ++ code_of_arms (opens_in l.opened) (places_of l.places) (length l.records.items) (arms_tree (map arm_of (drop l.arm-index l.arms))))
      (l.fn.code.items ++ code_of_arms (opens_in l.opened) (places_of l.places) (length l.fn.records.items) (arms_tree (map arm_of l.arms)));
  records : records_of l.records ++ records_in_arms (opens_in l.opened) (places_of l.places) (arms_tree (map arm_of (drop l.arm-index l.arms))) ≡ records_of l.fn.records ++ records_in_arms (opens_in l.opened) (places_of l.places) (arms_tree (map arm_of l.arms));
}
