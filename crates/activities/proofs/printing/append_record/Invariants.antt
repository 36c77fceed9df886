use Rattle.std.proofs.Common.{◌≡◌, ◌≤◌, ◌++◌, ◌∷◌, [], true, map, drop, length}
use Rattle.machine.specs.CodeView.{part}
use Rattle.machine.specs.View.{values_wanted}
use Rattle.ast.specs.Record.{Keeps}
use Rattle.activities.specs.Printing.{to_print}
use Rattle.activities.proofs.printing.append_record.Given as goal

abbrev pub invariant-loop-piece : goal.invariant-loop-piece
invariant-loop-piece l = record {
  wanted : values_wanted (map part (drop l.piece-index l.pieces)) ≡ l.left;
  most : l.left ≤ length l.operands;
  onto : l.out.items ++ to_print l.is_first (map part (drop l.piece-index l.pieces)) l.left l.operands ≡ (l.fn.out.items ++ 32 ∷ []) ++ to_print true (map part l.pieces) (length l.operands) l.operands;
  kept : Keeps l.fn.out.items l.out.items;
}
