use Rattle.std.proofs.Common.{◌≡◌, length}
use Rattle.ast.specs.Input.{next_integer}
use Rattle.tree_run.specs.Runs.{left}
use Rattle.tree_run.proofs.input.Input.next.Given as goal

abbrev pub invariant-loop-self : goal.invariant-loop-self
invariant-loop-self l = next_integer (left l.self) l.self.records ≡ next_integer (left l.fn.self) l.fn.self.records

abbrev pub decreases-loop-self : goal.decreases-loop-self
decreases-loop-self l = length l.self.records
