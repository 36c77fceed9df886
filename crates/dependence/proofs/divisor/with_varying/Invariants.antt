use Rattle.std.proofs.Common.{◌≡◌, drop, map}
use Rattle.dependence.specs.Tests as spec
use Rattle.loop_tree.specs.TreeView.{seen}
use Rattle.subscripts.specs.SharesView.{share}
use Rattle.dependence.proofs.divisor.with_varying.Given as goal

abbrev pub invariant-loop-share : goal.invariant-loop-share
invariant-loop-share l =
    spec.gcd_with l.divisor (spec.sizes (spec.varying (seen l.view) (map share (drop l.share-index l.shares)))) ≡ spec.gcd_with l.fn.number (spec.sizes (spec.varying (seen l.view) (map share l.shares)))
