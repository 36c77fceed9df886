use Rattle.std.proofs.Common.{◌≡◌, map, take}
use Rattle.codegen.specs.Reports.{line_at}
use Rattle.codegen.proofs.reports.source_lines.Given as goal

abbrev pub invariant-loop-source : goal.invariant-loop-source
invariant-loop-source l = l.found.items ≡ map (line_at l.lines) (take l.source-index l.sources)
