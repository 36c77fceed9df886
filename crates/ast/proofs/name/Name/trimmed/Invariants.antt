use Rattle.std.proofs.Common.{◌≡◌, ◌≤◌, length, take}
use Rattle.ast.specs.Name.{trimmed}
use Rattle.ast.proofs.name.Name.trimmed.Given as goal

abbrev pub invariant-loop-length : goal.invariant-loop-length
invariant-loop-length l = (l.length ≤ length l.self.letters) × (trimmed (take l.length l.self.letters) ≡ trimmed l.self.letters)

abbrev pub decreases-loop-length : goal.decreases-loop-length
decreases-loop-length l = l.length
