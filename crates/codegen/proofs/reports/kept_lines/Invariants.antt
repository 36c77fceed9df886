use Rattle.std.proofs.Common.{◌≡◌, map, take}
use Rattle.codegen.specs.Reports.{kept_line}
use Rattle.codegen.proofs.reports.kept_lines.Given as goal

abbrev pub invariant-loop-one : goal.invariant-loop-one
invariant-loop-one l = l.found.items ≡ map (kept_line l.lines l.sources) (take l.one-index l.kept)
