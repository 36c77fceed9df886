use Rattle.std.proofs.Common.{◌≡◌, drop, map}
use Rattle.dependence.specs.Tests as spec
use Rattle.loop_tree.specs.TreeView.{seen}
use Rattle.subscripts.specs.Forms.{others}
use Rattle.subscripts.specs.SharesView.{share}
use Rattle.dependence.proofs.divisor.with_others.Given as goal

abbrev pub invariant-loop-share : goal.invariant-loop-share
invariant-loop-share l =
    spec.gcd_with l.divisor (spec.sizes (others (map share l.first) (spec.steady (seen l.view) (map share (drop l.share-index l.second))))) ≡ spec.gcd_with l.fn.number (spec.sizes (others (map share l.first) (spec.steady (seen l.view) (map share l.second))))
