use Rattle.std.proofs.Common.{◌≡◌, ◌≤◌, take, drop}
use Rattle.syntax.specs.Classes.{enclosed_from, enclosed}
use Rattle.syntax.proofs.class.enclosed.Given as goal

abbrev pub invariant-loop-index : goal.invariant-loop-index
invariant-loop-index l = (l.level ≤ l.index) × (enclosed_from l.level (take l.index l.text) (drop l.index l.text) ≡ enclosed l.text)
