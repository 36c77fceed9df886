use Rattle.std.proofs.Common.{◌≡◌, ◌≤◌, ◌+◌, ◌-◌, drop, length}
use Rattle.values.specs.Scanning.{passing, piece_length}
use Rattle.values.proofs.scanner.length_before.Given as goal

abbrev pub invariant-loop-n : goal.invariant-loop-n
invariant-loop-n l = (l.n ≤ length l.text) × (l.n + piece_length (passing l.separator) (drop l.n l.text) ≡ piece_length (passing l.separator) l.text)

abbrev pub decreases-loop-n : goal.decreases-loop-n
decreases-loop-n l = length l.text - l.n
