use Rattle.std.proofs.Common.{◌≡◌, ◌+◌, length, take}
use Rattle.loop_tree.specs.TreeView.{lines_seen, loops_seen}
use Rattle.codegen.specs.Noted.{AreNoted}
use Rattle.codegen.specs.Reports.{AreReports}
use Rattle.codegen.proofs.reports.reports.Given as goal

abbrev pub invariant-loop-place : goal.invariant-loop-place
invariant-loop-place l = record {
  reports : AreReports (loops_seen l.tree) (lines_seen l.tree) (take l.place (loops_seen l.tree)) l.reports.items;
  noted : AreNoted (loops_seen l.tree) l.noted.items;
  count : length l.noted.items ≡ l.place + 1;
}
