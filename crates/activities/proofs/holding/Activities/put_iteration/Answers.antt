use Rattle.std.proofs.Common.{◌≡◌, Some}
use Rattle.std.specs.Prelude.{option_map}
use Rattle.machine.specs.FrameView as frames
use Rattle.machine.specs.State.{iteration}
use Rattle.activities.specs.PartsView.{standing_of}
use Rattle.activities.specs.Sharing.{with_frame}
use Rattle.activities.proofs.Labour.{iteration_framed, iteration_stands, put_there, put_works, stood_iteration, with_place}
use Rattle.activities.proofs.holding.Activities.put_iteration.Goals as goal

pub returns-clause-works : goal.returns-clause-works
returns-clause-works c =
    let old = c.args.self.now in
    let s = (c.requires.stand.core.runs c.args.q c.args.k c.requires.holds).standing in
    let g = frames.frame_of c.args.to.now in
    let p : option_map standing_of c.put_at.new.place ≡ Some (with_frame g s) = put_there c.args.q c.args.k c.place_from-at.result g c.index_mut.result.now c.put_at.new.place old c.requires.stand c.requires.holds c.place_from-at.ensures c.index_mut.ensures.value c.put_at.ensures in
    put_works (iteration c.args.k) c.args.q s.frame g old (with_place c.place_from-at.result c.put_at.new.place old) (stood_iteration c.args.q c.args.k old c.requires.stand c.requires.going c.requires.holds)
    (iteration_framed c.args.q c.args.k c.place_from-at.result c.put_at.new.place g old c.requires.stand c.requires.holds c.place_from-at.ensures p)

pub returns-clause-stand : goal.returns-clause-stand
returns-clause-stand c =
    let old = c.args.self.now in
    let s = (c.requires.stand.core.runs c.args.q c.args.k c.requires.holds).standing in
    let g = frames.frame_of c.args.to.now in
    let p : option_map standing_of c.put_at.new.place ≡ Some (with_frame g s) = put_there c.args.q c.args.k c.place_from-at.result g c.index_mut.result.now c.put_at.new.place old c.requires.stand c.requires.holds c.place_from-at.ensures c.index_mut.ensures.value c.put_at.ensures in
    iteration_stands c.args.q c.args.k c.place_from-at.result c.put_at.new.place g old c.requires.stand c.requires.holds c.place_from-at.ensures p
