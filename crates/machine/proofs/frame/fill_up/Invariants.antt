use Rattle.std.proofs.Common.{◌≡◌, ◌≤◌, ◌-◌, replicate, length}
use Rattle.machine.proofs.frame.fill_up.Given as goal

abbrev pub invariant-loop-element : goal.invariant-loop-element
invariant-loop-element g l = record {
  filled : l.vector.items ≡ replicate (length l.vector.items) l.element;
  most : length l.vector.items ≤ l.len;
  room : l.len ≤ l.vector.capacity;
}

abbrev pub decreases-loop-element : goal.decreases-loop-element
decreases-loop-element g l = l.len - length l.vector.items
