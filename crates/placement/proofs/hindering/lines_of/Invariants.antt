use Rattle.std.proofs.Common.{◌≡◌, map, take}
use Rattle.placement.specs.Hindering.{line_at}
use Rattle.placement.proofs.hindering.lines_of.Given as goal

abbrev pub invariant-loop-statement : goal.invariant-loop-statement
invariant-loop-statement l = l.found.items ≡ map (line_at l.lines) (take l.statement-index l.statements)
