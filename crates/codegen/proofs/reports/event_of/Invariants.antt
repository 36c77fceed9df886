use Rattle.std.proofs.Common.{◌≡◌, ◌+◌, drop}
use Rattle.codegen.specs.Reports.{event_of}
use Rattle.codegen.proofs.reports.event_of.Given as goal

abbrev pub invariant-loop-other : goal.invariant-loop-other
invariant-loop-other l = (l.event ≡ l.other-index + 1) × (event_of l.event (drop l.other-index l.sources) l.source ≡ event_of 1 l.sources l.source)
