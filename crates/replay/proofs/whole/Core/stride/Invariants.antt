use Rattle.std.proofs.Common.{◌≡◌, ◌<◌, ◌≤◌, ◌+◌, ◌-◌, ◌*◌}
use Rattle.std.specs.Prelude.{if◌then◌else◌}
use Rattle.machine.specs.CodeView.{code_of}
use Rattle.replay.specs.Striding.{Strides}
use Rattle.replay.proofs.whole.Core.stride.Given as goal

abbrev pub invariant-loop-goes : goal.invariant-loop-goes
invariant-loop-goes l = Strides l.fn.self l.q l.made l.self × (l.made ≤ l.n) × (code_of l.legs.code.now ≡ l.self.code) × (l.q < l.self.schedule.processors)

abbrev pub decreases-loop-goes : goal.decreases-loop-goes
decreases-loop-goes l = 2 * (l.n - l.made) + (if l.goes then 1 else 0)
