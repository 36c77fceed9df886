use Rattle.std.proofs.Common.{◌≡◌, length}
use Rattle.machine_tests.proofs.awaiting.in_turn.Given as goal

abbrev pub invariant-loop-turn : goal.invariant-loop-turn
invariant-loop-turn l = length l.kernel.counts ≡ 1

abbrev pub invariant-loop : goal.invariant-loop
invariant-loop l = length l.kernel.counts ≡ 1
