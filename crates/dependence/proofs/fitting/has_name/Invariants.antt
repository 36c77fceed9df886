use Rattle.std.proofs.Common.{◌≡◌, drop, map}
use Rattle.ast.specs.View.{letters}
use Rattle.dependence.specs.Hiding as spec
use Rattle.dependence.proofs.fitting.has_name.Given as goal

abbrev pub invariant-loop-other : goal.invariant-loop-other
invariant-loop-other l = spec.has_name (map letters (drop l.other-index l.names)) l.name.letters ≡ spec.has_name (map letters l.names) l.name.letters
