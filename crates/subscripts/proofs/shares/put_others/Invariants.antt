use Rattle.std.proofs.Common.{◌≡◌, drop, map}
use Rattle.subscripts.specs.Forms.{new_share, others}
use Rattle.subscripts.specs.SharesView.{share}
use Rattle.subscripts.specs.Steps.{put_each}
use Rattle.subscripts.proofs.shares.put_others.Given as goal

abbrev pub invariant-loop-share : goal.invariant-loop-share
invariant-loop-share l =
    (put_each (map share l.shares.items) (map (new_share l.minus) (others (map share l.first) (map share (drop l.share-index l.second)))) ≡ put_each (map share l.fn.shares.items) (map (new_share l.minus) (others (map share l.first) (map share l.second))))
    × (l.shares.capacity ≡ 8)
