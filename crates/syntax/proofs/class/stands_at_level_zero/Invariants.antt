use Rattle.std.proofs.Common.{◌≡◌, ◌≤◌, drop}
use Rattle.syntax.specs.Classes.{stands_from, stands_at_level_zero}
use Rattle.syntax.proofs.class.stands_at_level_zero.Given as goal

abbrev pub invariant-loop-mark : goal.invariant-loop-mark
invariant-loop-mark l = (l.level ≤ l.mark-index) × (stands_from l.level l.wanted (drop l.mark-index l.text) ≡ stands_at_level_zero l.wanted l.text)
