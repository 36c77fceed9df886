use Rattle.std.proofs.Common.{◌≡◌, map, drop}
use Rattle.ast.specs.Meaning.{exec_arms, exec_block, grown, then_do, turns}
use Rattle.ast.specs.Tree.{arms as arms_tree}
use Rattle.ast.specs.View.{arm, block_view}
use Rattle.ast.specs.declared.fault.End.TheVariants.{Done}
use Rattle.tree_run.specs.Placed.{PlacedArms, PlacedBlock}
use Rattle.tree_run.specs.Runs.{run_of, symbols_of}
use Rattle.tree_run.proofs.statements.+exec.Given as goal

abbrev pub invariant-exec_block-loop-i : goal.invariant-exec_block-loop-i
invariant-exec_block-loop-i l = record {
  symbols : symbols_of l.machine ≡ symbols_of l.fn.machine;
  placed : PlacedBlock (symbols_of l.machine) (block_view (drop l.i l.block));
  on : exec_block (symbols_of l.machine) (block_view (drop l.i l.block)) (run_of l.machine Done) ≡ exec_block (symbols_of l.fn.machine) (block_view l.block) (run_of l.fn.machine Done);
}

abbrev pub invariant-exec_arms-loop-arm : goal.invariant-exec_arms-loop-arm
invariant-exec_arms-loop-arm l = record {
  symbols : symbols_of l.machine ≡ symbols_of l.fn.machine;
  placed : PlacedArms (symbols_of l.machine) (arms_tree (map arm (drop l.arm-index l.arms)));
  on : exec_arms (symbols_of l.machine) (arms_tree (map arm (drop l.arm-index l.arms))) (run_of l.machine Done) ≡ exec_arms (symbols_of l.fn.machine) (arms_tree (map arm l.arms)) (run_of l.fn.machine Done);
}

abbrev pub invariant-turn-loop-left : goal.invariant-turn-loop-left
invariant-turn-loop-left l = record {
  symbols : symbols_of l.machine ≡ symbols_of l.fn.machine;
  on : turns (λ before. then_do (exec_block (symbols_of l.fn.machine) (block_view l.range) before) (λ after. grown l.line l.variable.name.letters l.step after)) l.left (run_of l.machine Done) ≡ turns (λ before. then_do (exec_block (symbols_of l.fn.machine) (block_view l.range) before) (λ after. grown l.line l.variable.name.letters l.step after)) l.fn.trips (run_of l.fn.machine Done);
}

abbrev pub decreases-turn-loop-left : goal.decreases-turn-loop-left
decreases-turn-loop-left l = l.left
