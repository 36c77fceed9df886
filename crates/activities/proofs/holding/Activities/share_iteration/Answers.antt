use Rattle.std.proofs.Common.{◌≡◌, ◌∙◌, List, Option, refl, ap}
use Rattle.std.specs.Prelude.{◌%◌, option_map}
use Rattle.std.specs.Vec.{with_item}
use Rattle.activities.specs.Activities.{code_in, kept_in}
use Rattle.activities.specs.Parts.{Standing}
use Rattle.activities.specs.PartsView.{shared_of, standing_of}
use Rattle.activities.specs.Turns.{held_after}
use Rattle.activities.specs.declared.holding.Activities.{Activities}
use Rattle.activities.proofs.Entering.{runs_of}
use Rattle.activities.proofs.Shares.{SharedBy, iteration_shared, laid_in, may_step, on_err, place_put, stays_same, turned_there, unchanged}
use Rattle.activities.proofs.holding.Activities.share_iteration.Goals as goal

pub step_at-requires : goal.step_at-requires
step_at-requires c = record { may = may_step c.args.q c.args.k c.place_from-at.result c.index_mut.result.now c.args.self.now c.requires.stand c.requires.holds c.place_from-at.ensures c.index_mut.ensures.value }

pub returns-in_err-outcome-clause-err : goal.returns-in_err-outcome-clause-err
returns-in_err-outcome-clause-err c =
    let old = c.args.self.now in
    let new : Activities = record old { shared = c.step_at.new.shared; iterations = with_item old.iterations c.place_from-at.result c.step_at.new.place } in
    let same : kept_in new ≡ kept_in old = unchanged old c.place_from-at.result c.index_mut.result.now c.step_at.new.place c.step_at.new.shared c.index_mut.ensures.value c.in_err-outcome.ensures.err.0 c.in_err-outcome.ensures.err.1 in
    on_err c.from_residual.result (kept_in new ≡ kept_in old) same

pub returns-in_err-outcome-clause-stand : goal.returns-in_err-outcome-clause-stand
returns-in_err-outcome-clause-stand c =
    let old = c.args.self.now in
    let new : Activities = record old { shared = c.step_at.new.shared; iterations = with_item old.iterations c.place_from-at.result c.step_at.new.place } in
    let same : kept_in new ≡ kept_in old = unchanged old c.place_from-at.result c.index_mut.result.now c.step_at.new.place c.step_at.new.shared c.index_mut.ensures.value c.in_err-outcome.ensures.err.0 c.in_err-outcome.ensures.err.1 in
    stays_same old new c.requires.stand (record { code_is = refl; processors = refl; slots = refl }) same

done : (c : goal.After-note) → SharedBy c.args.q c.note.result c.args.self.now c.note.new.self
done c =
    let old = c.args.self.now in
    let x = kept_in old in
    let o = c.in_ok-outcome.outcome in
    let y = shared_of c.step_at.new.shared in
    let d = option_map standing_of c.step_at.new.place in
    let h = c.requires.holds in
    iteration_shared c.args.q c.args.k c.note.result (c.requires.stand.core.runs c.args.q c.args.k h).standing o y d old c.note.new.self c.requires.stand
    (runs_of (code_in old) old.slots c.args.q c.args.k x c.requires.stand.core (laid_in old.code.now) c.requires.going h)
    (turned_there c.args.q c.args.k c.place_from-at.result c.index_mut.result.now o y d old c.requires.stand h c.place_from-at.ensures c.index_mut.ensures.value c.in_ok-outcome.ensures.ok)
    (c.note.ensures.kept
    ∙ ap (λ (xs : List (Option Standing)). record x { shared = y; iterations = xs; held = held_after o c.args.q x.held }) (place_put old.iterations.items c.place_from-at.result (c.args.k % old.slots) c.step_at.new.place c.place_from-at.ensures))
    c.note.ensures.went
    c.note.ensures.stays

pub returns-clause-did : goal.returns-clause-did
returns-clause-did c = (done c).0

pub returns-clause-stand : goal.returns-clause-stand
returns-clause-stand c = (done c).1
