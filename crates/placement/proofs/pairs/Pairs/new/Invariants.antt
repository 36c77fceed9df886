use Rattle.std.proofs.Common.{◌≡◌, drop, map}
use Rattle.std.specs.Prelude.{◌++◌}
use Rattle.ast.specs.View.{letters}
use Rattle.loop_tree.specs.TreeView.{seen}
use Rattle.loop_tree.specs.View.{occurrence}
use Rattle.placement.specs.Looked.{AreGrouped, HaveForms, shared_in, shared_of}
use Rattle.placement.proofs.pairs.Pairs.new.Given as goal

abbrev pub invariant-loop-occurrence : goal.invariant-loop-occurrence
invariant-loop-occurrence l = record {
  shared : shared_in l.pairs ++ shared_of (seen l.view) (map letters l.privates) (map occurrence (drop l.occurrence-index l.occurrence-items)) ≡ shared_of (seen l.view) (map letters l.privates) (seen l.view).references;
  forms : HaveForms (seen l.view) l.pairs;
  grouped : AreGrouped l.pairs;
}
