use Rattle.std.proofs.Common.{◌≡◌, ◌+◌, ◌≤◌, drop, map}
use Rattle.machine.specs.CodeView.{part}
use Rattle.machine.specs.View.{values_wanted}
use Rattle.machine.proofs.next.values_wanted.Given as goal

abbrev pub invariant-loop-piece : goal.invariant-loop-piece
invariant-loop-piece l = (l.wanted ≤ l.piece-index) × (l.wanted + values_wanted (map part (drop l.piece-index l.pieces)) ≡ values_wanted (map part l.pieces))
