use Rattle.std.proofs.Common.{◌≡◌, drop}
use Rattle.ast.specs.ProgramView.{program as program_of}
use Rattle.loop_tree.specs.TreeView.{loops_seen}
use Rattle.codegen.specs.Made.{made_of, with_ranges}
use Rattle.codegen.specs.Reports.{planned_in}
use Rattle.codegen.proofs.ranges.emit_ranges.Given as goal

abbrev pub invariant-loop-place : goal.invariant-loop-place
invariant-loop-place l =
    with_ranges (program_of l.program).symbols (planned_in (drop l.place (loops_seen l.tree)) (drop l.place l.reports)) (made_of l.made)
    ≡ with_ranges (program_of l.program).symbols (planned_in (loops_seen l.tree) l.reports) (made_of l.fn.made)
