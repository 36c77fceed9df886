use Rattle.std.proofs.Common.{◌≡◌, drop, map}
use Rattle.std.specs.List.{list_any}
use Rattle.structure.specs.Rules.{is_range_of}
use Rattle.structure.specs.View.{opened}
use Rattle.structure.proofs.opened.has_range_of.Given as goal

abbrev pub invariant-loop-structure : goal.invariant-loop-structure
invariant-loop-structure l = list_any (is_range_of l.label) (map opened (drop l.structure-index l.structures)) ≡ list_any (is_range_of l.label) (map opened l.structures)
