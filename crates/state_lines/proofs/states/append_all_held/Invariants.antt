use Rattle.std.proofs.Common.{◌≡◌, ◌-◌, ◌++◌, length}
use Rattle.activities.specs.Activities.{code_in, point_in}
use Rattle.state_lines.specs.States.{held_lines}
use Rattle.state_lines.proofs.states.append_all_held.Given as goal

abbrev pub invariant-loop-q : goal.invariant-loop-q
invariant-loop-q l =
    l.out.items ++ held_lines (code_in l.activities) (point_in l.activities) l.q (length l.activities.held.items - l.q)
    ≡ l.fn.out.items ++ held_lines (code_in l.activities) (point_in l.activities) 0 (length l.activities.held.items)
