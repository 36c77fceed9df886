use Rattle.std.proofs.Common.{◌≡◌, drop, map}
use Rattle.dependence.specs.Tests as spec
use Rattle.loop_tree.specs.TreeView.{seen}
use Rattle.subscripts.specs.SharesView.{share}
use Rattle.dependence.proofs.compare.are_equal.Given as goal

abbrev pub invariant-loop-share : goal.invariant-loop-share
invariant-loop-share l = spec.no_gaps (seen l.view) (map share (drop l.share-index l.first)) (map share l.second) ≡ spec.no_gaps (seen l.view) (map share l.first) (map share l.second)
