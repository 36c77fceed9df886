use Rattle.std.proofs.Common.{◌≡◌, drop, map}
use Rattle.loop_tree.specs.TreeView.{seen}
use Rattle.subscripts.specs.Forms.{share_varying}
use Rattle.subscripts.specs.SharesView.{share}
use Rattle.subscripts.proofs.shares.share_varying.Given as goal

abbrev pub invariant-loop-share : goal.invariant-loop-share
invariant-loop-share l =
    share_varying (seen l.view) (map share (drop l.share-index l.first)) (map share l.second)
    ≡ share_varying (seen l.view) (map share l.first) (map share l.second)
