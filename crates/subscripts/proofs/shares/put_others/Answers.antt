use Rattle.std.proofs.Common.{◌≡◌, None, map, refl, rules}
use Rattle.subscripts.specs.Forms.{new_share, others}
use Rattle.subscripts.specs.SharesView.{share}
use Rattle.subscripts.specs.Steps.{put_each, put_new}
use Rattle.subscripts.proofs.Putting.{all_put, new_put, next_put, no_room, none_left}
use Rattle.subscripts.proofs.shares.put_others.Goals as goal

pub loop-share-preserved : goal.loop-share-preserved
loop-share-preserved c =
    (next_put (λ ss s. put_new c.args.minus (map share c.args.first.now) ss (share s)) (λ ss all. put_each ss (map (new_share c.args.minus) (others (map share c.args.first.now) (map share all)))) (λ ss s all. new_put c.args.minus (map share c.args.first.now) ss (share s) (map share all)) c.args.second.now c.loop-share.share-index _ _ _ _ _ c.loop-share-test.true refl c.in_ok-put_other.ensures.left c.loop-share.invariant.0, c.in_ok-put_other.ensures.capacity)

pub returns-in_err-put_other-clause-left : goal.returns-in_err-put_other-clause-left
returns-in_err-put_other-clause-left c =
    let none : c.from_residual.result ≡ None = search rules in
    none_left c.from_residual.result _ _ none
    (no_room (λ ss s. put_new c.args.minus (map share c.args.first.now) ss (share s)) (λ ss all. put_each ss (map (new_share c.args.minus) (others (map share c.args.first.now) (map share all)))) (λ ss s all. new_put c.args.minus (map share c.args.first.now) ss (share s) (map share all)) c.args.second.now c.loop-share.share-index _ _ _ _ c.loop-share-test.true refl c.in_err-put_other.ensures.left c.loop-share.invariant.0)

pub returns-clause-left : goal.returns-clause-left
returns-clause-left c =
    all_put (λ ss s. put_new c.args.minus (map share c.args.first.now) ss (share s)) (λ ss all. put_each ss (map (new_share c.args.minus) (others (map share c.args.first.now) (map share all)))) (λ ss. refl) c.args.second.now c.loop-share.share-index _ _ c.loop-share-test.false c.loop-share.invariant.0
