use Rattle.std.proofs.Common.{◌≡◌, length}
use Rattle.ast.specs.Input.{first_or, from_records}
use Rattle.activities.proofs.input.Input.take_value.Given as goal

abbrev pub invariant-loop-records : goal.invariant-loop-records
invariant-loop-records l = first_or l.integers.items l.records (from_records l.records) ≡ from_records l.self.records

abbrev pub decreases-loop-records : goal.decreases-loop-records
decreases-loop-records l = length l.records
