use Rattle.std.proofs.Common.{◌≡◌, None, map, refl, rules}
use Rattle.subscripts.specs.Forms.{total_share}
use Rattle.subscripts.specs.SharesView.{share}
use Rattle.subscripts.specs.Steps.{put_each, put_fitted}
use Rattle.subscripts.proofs.Putting.{all_put, next_put, no_room, none_left}
use Rattle.subscripts.proofs.shares.put_totals.Goals as goal

pub loop-share-preserved : goal.loop-share-preserved
loop-share-preserved c =
    (next_put (λ ss s. put_fitted ss (total_share c.args.minus (map share c.args.second.now) (share s))) (λ ss all. put_each ss (map (total_share c.args.minus (map share c.args.second.now)) (map share all))) (λ ss s all. refl) c.args.first.now c.loop-share.share-index _ _ _ _ _ c.loop-share-test.true refl c.in_ok-put_total.ensures.left c.loop-share.invariant.0, c.in_ok-put_total.ensures.capacity)

pub returns-in_err-put_total-clause-left : goal.returns-in_err-put_total-clause-left
returns-in_err-put_total-clause-left c =
    let none : c.from_residual.result ≡ None = search rules in
    none_left c.from_residual.result _ _ none
    (no_room (λ ss s. put_fitted ss (total_share c.args.minus (map share c.args.second.now) (share s))) (λ ss all. put_each ss (map (total_share c.args.minus (map share c.args.second.now)) (map share all))) (λ ss s all. refl) c.args.first.now c.loop-share.share-index _ _ _ _ c.loop-share-test.true refl c.in_err-put_total.ensures.left c.loop-share.invariant.0)

pub returns-clause-left : goal.returns-clause-left
returns-clause-left c =
    all_put (λ ss s. put_fitted ss (total_share c.args.minus (map share c.args.second.now) (share s))) (λ ss all. put_each ss (map (total_share c.args.minus (map share c.args.second.now)) (map share all))) (λ ss. refl) c.args.first.now c.loop-share.share-index _ _ c.loop-share-test.false c.loop-share.invariant.0
