use Rattle.std.proofs.Common.{◌≡◌, drop, map}
use Rattle.structure.specs.Open.{is_active}
use Rattle.structure.specs.View.{opened}
use Rattle.structure.proofs.opened.has_variable.Given as goal

abbrev pub invariant-loop-structure : goal.invariant-loop-structure
invariant-loop-structure l = is_active (map opened (drop l.structure-index l.structures)) l.name.letters ≡ is_active (map opened l.structures) l.name.letters
