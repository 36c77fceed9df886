use Rattle.std.proofs.Common.{◌≡◌, drop, map}
use Rattle.subscripts.specs.Forms.{total_share}
use Rattle.subscripts.specs.SharesView.{share}
use Rattle.subscripts.specs.Steps.{put_each}
use Rattle.subscripts.proofs.shares.put_totals.Given as goal

abbrev pub invariant-loop-share : goal.invariant-loop-share
invariant-loop-share l =
    (put_each (map share l.shares.items) (map (total_share l.minus (map share l.second)) (map share (drop l.share-index l.first))) ≡ put_each (map share l.fn.shares.items) (map (total_share l.minus (map share l.second)) (map share l.first)))
    × (l.shares.capacity ≡ 8)
