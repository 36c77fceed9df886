use Rattle.std.proofs.Common.{◌≡◌, length, drop, map, ◌-◌}
use Rattle.ast.specs.View.{letters}
use Rattle.expr_code.specs.Places.{number_in}
use Rattle.expr_code.proofs.places.number_in.Given as goal

abbrev pub invariant-loop-number : goal.invariant-loop-number
invariant-loop-number l = number_in l.number l.name.letters (map letters (drop l.number l.names)) ≡ number_in 0 l.name.letters (map letters l.names)

abbrev pub decreases-loop-number : goal.decreases-loop-number
decreases-loop-number l = length l.names - l.number
