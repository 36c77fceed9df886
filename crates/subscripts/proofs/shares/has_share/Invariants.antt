use Rattle.std.proofs.Common.{◌≡◌, drop, map}
use Rattle.subscripts.specs.Forms.{has_share}
use Rattle.subscripts.specs.SharesView.{share}
use Rattle.subscripts.proofs.shares.has_share.Given as goal

abbrev pub invariant-loop-share : goal.invariant-loop-share
invariant-loop-share l = has_share l.cell (map share (drop l.share-index l.shares)) ≡ has_share l.cell (map share l.shares)
