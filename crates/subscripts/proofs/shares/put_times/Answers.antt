use Rattle.std.proofs.Common.{map, refl, of_z, to_z, w64}
use Rattle.subscripts.specs.Forms.{times_share}
use Rattle.subscripts.specs.SharesView.{share}
use Rattle.subscripts.specs.Steps.{put_each, put_fitted}
use Rattle.subscripts.proofs.Putting.{next_put}
use Rattle.subscripts.proofs.shares.put_times.Goals as goal

pub loop-share-preserved : goal.loop-share-preserved
loop-share-preserved c =
    (next_put (λ ss s. put_fitted ss (times_share (to_z w64 (of_z w64 c.args.number)) (share s))) (λ ss all. put_each ss (map (times_share (to_z w64 (of_z w64 c.args.number))) (map share all))) (λ ss s all. refl) c.args.all.now c.loop-share.share-index _ _ _ _ _ c.loop-share-test.true refl c.in_ok-put_product.ensures.left c.loop-share.invariant.0, c.in_ok-put_product.ensures.capacity)
