use Rattle.std.proofs.Common.{◌≡◌, drop, map}
use Rattle.subscripts.specs.Forms.{times_share}
use Rattle.subscripts.specs.SharesView.{share}
use Rattle.subscripts.specs.Steps.{put_each}
use Rattle.subscripts.proofs.shares.put_times.Given as goal

abbrev pub invariant-loop-share : goal.invariant-loop-share
invariant-loop-share l =
    (put_each (map share l.shares.items) (map (times_share l.number) (map share (drop l.share-index l.all))) ≡ put_each (map share l.fn.shares.items) (map (times_share l.number) (map share l.all)))
    × (l.shares.capacity ≡ 8)
