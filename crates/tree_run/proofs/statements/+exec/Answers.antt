use Rattle.std.proofs.Common.{◌≡◌, ◌∙◌, ◌+◌, ◌-◌, ℕ, List, false, Ok, Err, suc, refl, ap, sym, subst, length, map, drop, take, arith, rules, to_z, of_z, w64}
use Rattle.std.specs.Prelude.{ℤ}
use Rattle.ast.specs.Meaning.{Run, exec_arms, exec_block, grown, is_last_stop_of, then_do, turns}
use Rattle.ast.specs.Symbols.{Symbol}
use Rattle.ast.specs.Tree.{arms as arms_of}
use Rattle.ast.specs.View.{arm as arm_of, block_view, head as head_of}
use Rattle.ast.specs.declared.fault.End.TheVariants.{Done}
use Rattle.tree_run.specs.Placed.{PlacedBlock}
use Rattle.tree_run.specs.Runs.{Reaches, run_of, symbols_of}
use Rattle.tree_run.proofs.Blocks.{all_done, all_tested, arm_failed, arm_passed, arm_taken, entered, growth_failed, node_done, node_failed, placed_arm, placed_node, stopped, trip_failed, turned}
use Rattle.tree_run.proofs.statements.+exec.Goals as goal

pub exec_block-loop-i-preserved : goal.exec_block-loop-i-preserved
exec_block-loop-i-preserved t c =
    let m = c.loop-i.machine in
    let m0 = c.args.machine.now in
    let ns = c.args.block.now in
    let i = c.loop-i.i in
    let n = c.index-block-i.result in
    let new = c.exec.new.machine in
    let ss = symbols_of m in
    let rest = block_view (drop (i + 1) ns) in
    let going : is_last_stop_of (block_view (take (length ns - i) (drop i ns))) ≡ false = sym c.is_last_stop.ensures ∙ c.if-is_last_stop.false in
    record {
      symbols = c.in_ok-exec.ensures.symbols ∙ c.loop-i.invariant.symbols;
      placed = subst (λ (xs : List Symbol). PlacedBlock xs rest) (sym c.in_ok-exec.ensures.symbols) (placed_node ss ns i n c.loop-i-test.true c.index-block-i.is c.loop-i.invariant.placed).1;
      on =
          ap (λ (xs : List Symbol). exec_block xs rest (run_of new Done)) c.in_ok-exec.ensures.symbols
          ∙ node_done ss ns i n (run_of m Done) (run_of new Done) (exec_block (symbols_of m0) (block_view ns) (run_of m0 Done)) c.loop-i-test.true c.index-block-i.is going c.loop-i.invariant.on c.in_ok-exec.ensures.reached refl;
    }

pub exec_block-returns-in_err-exec-clause-reached : goal.exec_block-returns-in_err-exec-clause-reached
exec_block-returns-in_err-exec-clause-reached t c =
    let m = c.loop-i.machine in
    let m0 = c.args.machine.now in
    let ns = c.args.block.now in
    let i = c.loop-i.i in
    let n = c.index-block-i.result in
    let going : is_last_stop_of (block_view (take (length ns - i) (drop i ns))) ≡ false = sym c.is_last_stop.ensures ∙ c.if-is_last_stop.false in
    node_failed c.from_residual.result c.exec.new.machine c.in_err-exec.field-0.0 (symbols_of m) ns i n (run_of m Done) (exec_block (symbols_of m0) (block_view ns) (run_of m0 Done)) c.loop-i-test.true c.index-block-i.is going c.loop-i.invariant.on c.from_residual.ensures.1 c.in_err-exec.ensures.reached

pub exec_block-returns-then-is_last_stop-clause-reached : goal.exec_block-returns-then-is_last_stop-clause-reached
exec_block-returns-then-is_last_stop-clause-reached t c =
    let m = c.loop-i.machine in
    let m0 = c.args.machine.now in
    let ns = c.args.block.now in
    stopped (symbols_of m) ns c.loop-i.i (run_of m Done) (exec_block (symbols_of m0) (block_view ns) (run_of m0 Done)) (sym c.is_last_stop.ensures ∙ c.if-is_last_stop.true) c.loop-i.invariant.on

pub exec_block-returns-clause-reached : goal.exec_block-returns-clause-reached
exec_block-returns-clause-reached t c =
    let m = c.loop-i.machine in
    let m0 = c.args.machine.now in
    let ns = c.args.block.now in
    all_done (symbols_of m) ns c.loop-i.i (run_of m Done) (exec_block (symbols_of m0) (block_view ns) (run_of m0 Done)) c.loop-i-test.false c.loop-i.invariant.on

pub exec_arms-loop-arm-preserved : goal.exec_arms-loop-arm-preserved
exec_arms-loop-arm-preserved t c =
    let m = c.loop-arm.machine in
    let m0 = c.args.machine.now in
    let xs = c.args.arms.now in
    let i = c.loop-arm.arm-index in
    let a = c.arm-item.result in
    record {
      symbols = c.loop-arm.invariant.symbols;
      placed = (placed_arm (symbols_of m) xs i a c.loop-arm-test.true c.arm-item.is c.loop-arm.invariant.placed).2;
      on = arm_passed (symbols_of m) xs i a (run_of m Done) (exec_arms (symbols_of m0) (arms_of (map arm_of xs)) (run_of m0 Done)) c.loop-arm-test.true c.arm-item.is (c.in_ok-holds.ensures ∙ ap Ok c.if-branch.false) c.loop-arm.invariant.on;
    }

pub exec_arms-returns-in_err-holds-clause-reached : goal.exec_arms-returns-in_err-holds-clause-reached
exec_arms-returns-in_err-holds-clause-reached t c =
    let m = c.loop-arm.machine in
    let m0 = c.args.machine.now in
    let xs = c.args.arms.now in
    arm_failed c.from_residual.result m c.in_err-holds.field-0.0 (symbols_of m) xs c.loop-arm.arm-index c.arm-item.result (exec_arms (symbols_of m0) (arms_of (map arm_of xs)) (run_of m0 Done)) c.loop-arm-test.true c.arm-item.is c.loop-arm.invariant.on c.from_residual.ensures.1 c.in_err-holds.ensures

pub exec_arms-returns-clause-reached : goal.exec_arms-returns-clause-reached
exec_arms-returns-clause-reached t c =
    let m = c.loop-arm.machine in
    let m0 = c.args.machine.now in
    let xs = c.args.arms.now in
    all_tested (symbols_of m) xs c.loop-arm.arm-index (run_of m Done) (exec_arms (symbols_of m0) (arms_of (map arm_of xs)) (run_of m0 Done)) c.loop-arm-test.false c.loop-arm.invariant.on

pub exec_arms-returns-then-branch-clause-reached : goal.exec_arms-returns-then-branch-clause-reached
exec_arms-returns-then-branch-clause-reached t c =
    let m = c.loop-arm.machine in
    let m0 = c.args.machine.now in
    let xs = c.args.arms.now in
    subst (λ (r : Run). Reaches c.exec_block.result (run_of c.exec_block.new.machine) r) (arm_taken (symbols_of m) xs c.loop-arm.arm-index c.arm-item.result c.deref.result.now (run_of m Done) (exec_arms (symbols_of m0) (arms_of (map arm_of xs)) (run_of m0 Done)) c.loop-arm-test.true c.arm-item.is c.deref.ensures.value (c.in_ok-holds.ensures ∙ ap Ok c.if-branch.true) c.loop-arm.invariant.on) c.exec_block.ensures.reached

pub exec_loop-returns-clause-reached : goal.exec_loop-returns-clause-reached
exec_loop-returns-clause-reached t c =
    let m = c.args.machine.now in
    let first : to_z w64 (of_z w64 c.in_ok-first.first) ≡ c.in_ok-first.first = search rules in
    let last : to_z w64 (of_z w64 c.in_ok-last.last) ≡ c.in_ok-last.last = search rules in
    let step : to_z w64 (of_z w64 c.in_ok-step.step) ≡ c.in_ok-step.step = search rules in
    rw (entered (symbols_of m) c.args.line (head_of c.args.head.now) (block_view c.args.range.now) (run_of m Done) (to_z w64 (of_z w64 c.in_ok-first.first)) (to_z w64 (of_z w64 c.in_ok-last.last)) (to_z w64 (of_z w64 c.in_ok-step.step)) (c.in_ok-first.ensures ∙ ap Ok (sym first)) (c.in_ok-last.ensures ∙ ap Ok (sym last)) (c.in_ok-step.ensures ∙ ap Ok (sym step))) c.run_loop.ensures.reached

pub turn-loop-left-preserved : goal.turn-loop-left-preserved
turn-loop-left-preserved t c =
    let m0 = c.args.machine.now in
    let m = c.loop-left.machine in
    let line = c.args.line in
    let name = c.args.variable.now.name.letters in
    let b = block_view c.args.range.now in
    let step = to_z w64 (of_z w64 c.args.step) in
    let turn = λ (before : Run). then_do (exec_block (symbols_of m0) b before) (λ after. grown line name step after) in
    let left : c.loop-left.left ≡ suc (c.loop-left.left - 1) = omega (arith, c.loop-left-test.true) in
    let ranged : run_of c.exec_block.new.machine Done ≡ exec_block (symbols_of m0) b (run_of m Done) =
    c.in_ok-exec_block.ensures.reached ∙ ap (λ (ss : List Symbol). exec_block ss b (run_of m Done)) c.loop-left.invariant.symbols in
    record {
      symbols = c.in_ok-grow.ensures.symbols ∙ c.in_ok-exec_block.ensures.symbols ∙ c.loop-left.invariant.symbols;
      on =
          sym (turned (symbols_of m0) b line name step (c.loop-left.left - 1) (run_of m Done) (run_of c.exec_block.new.machine Done) (run_of c.grow.new.machine Done) ranged refl c.in_ok-grow.ensures.reached refl)
          ∙ ap (λ (n : ℕ). turns turn n (run_of m Done)) (sym left)
          ∙ c.loop-left.invariant.on;
    }

pub turn-returns-in_err-exec_block-clause-reached : goal.turn-returns-in_err-exec_block-clause-reached
turn-returns-in_err-exec_block-clause-reached t c =
    let m0 = c.args.machine.now in
    let m = c.loop-left.machine in
    let line = c.args.line in
    let name = c.args.variable.now.name.letters in
    let b = block_view c.args.range.now in
    let step = to_z w64 (of_z w64 c.args.step) in
    let turn = λ (before : Run). then_do (exec_block (symbols_of m0) b before) (λ after. grown line name step after) in
    let left : c.loop-left.left ≡ suc (c.loop-left.left - 1) = omega (arith, c.loop-left-test.true) in
    let back : step ≡ c.args.step = search rules in
    subst (λ (n : ℤ). Reaches c.from_residual.result (run_of c.exec_block.new.machine) (turns (λ (before : Run). then_do (exec_block (symbols_of m0) b before) (λ after. grown line name n after)) c.args.trips (run_of m0 Done))) back
    (trip_failed c.from_residual.result c.exec_block.new.machine c.in_err-exec_block.field-0.0 (symbols_of m0) b line name step (c.loop-left.left - 1) (run_of m Done) (turns turn c.args.trips (run_of m0 Done)) (ap (λ (n : ℕ). turns turn n (run_of m Done)) (sym left) ∙ c.loop-left.invariant.on) c.from_residual.ensures.1
    (subst (λ (ss : List Symbol). Reaches (Err c.in_err-exec_block.field-0.0) (run_of c.exec_block.new.machine) (exec_block ss b (run_of m Done))) c.loop-left.invariant.symbols c.in_err-exec_block.ensures.reached))

pub turn-returns-in_err-grow-clause-reached : goal.turn-returns-in_err-grow-clause-reached
turn-returns-in_err-grow-clause-reached t c =
    let m0 = c.args.machine.now in
    let m = c.loop-left.machine in
    let line = c.args.line in
    let name = c.args.variable.now.name.letters in
    let b = block_view c.args.range.now in
    let step = to_z w64 (of_z w64 c.args.step) in
    let turn = λ (before : Run). then_do (exec_block (symbols_of m0) b before) (λ after. grown line name step after) in
    let left : c.loop-left.left ≡ suc (c.loop-left.left - 1) = omega (arith, c.loop-left-test.true) in
    let back : step ≡ c.args.step = search rules in
    subst (λ (n : ℤ). Reaches c.from_residual-in_err-grow.result (run_of c.grow.new.machine) (turns (λ (before : Run). then_do (exec_block (symbols_of m0) b before) (λ after. grown line name n after)) c.args.trips (run_of m0 Done))) back
    (growth_failed c.from_residual-in_err-grow.result c.grow.new.machine c.in_err-grow.field-0.0 (symbols_of m0) b line name step (c.loop-left.left - 1) (run_of m Done) (run_of c.exec_block.new.machine Done) (turns turn c.args.trips (run_of m0 Done)) (c.in_ok-exec_block.ensures.reached ∙ ap (λ (ss : List Symbol). exec_block ss b (run_of m Done)) c.loop-left.invariant.symbols) refl (ap (λ (n : ℕ). turns turn n (run_of m Done)) (sym left) ∙ c.loop-left.invariant.on) c.from_residual-in_err-grow.ensures.1 c.in_err-grow.ensures.reached)
