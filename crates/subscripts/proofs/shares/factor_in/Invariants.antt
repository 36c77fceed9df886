use Rattle.std.proofs.Common.{◌≡◌, drop, map}
use Rattle.subscripts.specs.Forms.{factor_in}
use Rattle.subscripts.specs.SharesView.{share}
use Rattle.subscripts.proofs.shares.factor_in.Given as goal

abbrev pub invariant-loop-share : goal.invariant-loop-share
invariant-loop-share l = factor_in (map share (drop l.share-index l.shares)) l.cell ≡ factor_in (map share l.shares) l.cell
