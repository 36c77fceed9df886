use Rattle.std.proofs.Common.{◌≡◌, ◌++◌, drop, map}
use Rattle.command_output.specs.Shown.{rows_lines}
use Rattle.command_output.specs.View.{row_view}
use Rattle.command_output.proofs.store.append_rows.Given as goal

abbrev pub invariant-loop-row : goal.invariant-loop-row
invariant-loop-row l = l.out.items ++ rows_lines (map row_view (drop l.row-index l.rows)) ≡ l.fn.out.items ++ rows_lines (map row_view l.rows)
