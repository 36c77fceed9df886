use Rattle.std.proofs.Common.{◌≡◌, ◌∙◌, ◌+◌, false, List, Option, refl, ap}
use Rattle.std.specs.Prelude.{◌%◌, IfSome, option_map}
use Rattle.std.specs.Vec.{with_item}
use Rattle.activities.specs.Activities.{code_in, kept_in}
use Rattle.activities.specs.Parts.{Standing}
use Rattle.activities.specs.PartsView.{shared_of, standing_of}
use Rattle.activities.specs.Points.{Moves}
use Rattle.activities.specs.Sharing.{Turned}
use Rattle.activities.specs.Turns.{held_after}
use Rattle.activities.specs.declared.holding.Activities.{Activities}
use Rattle.activities.proofs.Entering.{runs_of}
use Rattle.activities.proofs.Shares.{SharedBy, did_made, did_same, iteration_shared, laid_in, may_step, place_put, stays_same, turned_there, unchanged}
use Rattle.activities.proofs.holding.Activities.synchronize_iteration.Goals as goal

pub synchronize_at-requires : goal.synchronize_at-requires
synchronize_at-requires c = record { may = may_step c.args.q c.args.k c.place_from-at.result c.index_mut.result.now c.args.self.now c.requires.stand c.requires.holds c.place_from-at.ensures c.index_mut.ensures.value }

done : (c : goal.After-note) → SharedBy c.args.q c.note.result c.args.self.now c.note.new.self
done c =
    let old = c.args.self.now in
    let x = kept_in old in
    let o = c.in-Some.outcome in
    let y = shared_of c.synchronize_at.new.shared in
    let d = option_map standing_of c.synchronize_at.new.place in
    let h = c.requires.holds in
    let turned : IfSome (option_map standing_of c.index_mut.result.now) (λ a. Turned (code_in old) (c.place_from-at.result + 1) (shared_of old.shared) a o y d) = rw c.in-Some.is at c.synchronize_at.ensures.some in
    iteration_shared c.args.q c.args.k c.note.result (c.requires.stand.core.runs c.args.q c.args.k h).standing o y d old c.note.new.self c.requires.stand
    (runs_of (code_in old) old.slots c.args.q c.args.k x c.requires.stand.core (laid_in old.code.now) c.requires.going h)
    (turned_there c.args.q c.args.k c.place_from-at.result c.index_mut.result.now o y d old c.requires.stand h c.place_from-at.ensures c.index_mut.ensures.value turned)
    (c.note.ensures.kept
    ∙ ap (λ (xs : List (Option Standing)). record x { shared = y; iterations = xs; held = held_after o c.args.q x.held }) (place_put old.iterations.items c.place_from-at.result (c.args.k % old.slots) c.synchronize_at.new.place c.place_from-at.ensures))
    c.note.ensures.went
    c.note.ensures.stays

pub returns-in-Some-clause-did : goal.returns-in-Some-clause-did
returns-in-Some-clause-did c = did_made c.note.result (λ p r. Moves (code_in c.args.self.now) c.args.self.now.slots false p c.args.q r) c.args.self.now c.note.new.self (done c).0

pub returns-in-Some-clause-same : goal.returns-in-Some-clause-same
returns-in-Some-clause-same c = did_same c.note.result (λ p r. Moves (code_in c.args.self.now) c.args.self.now.slots false p c.args.q r) c.args.self.now c.note.new.self (done c).0

pub returns-in-Some-clause-stand : goal.returns-in-Some-clause-stand
returns-in-Some-clause-stand c = (done c).1

pub returns-in-None-clause-same : goal.returns-in-None-clause-same
returns-in-None-clause-same c = λ e.
    unchanged c.args.self.now c.place_from-at.result c.index_mut.result.now c.synchronize_at.new.place c.synchronize_at.new.shared c.index_mut.ensures.value (c.synchronize_at.ensures.shared c.in-None.is) (c.synchronize_at.ensures.place c.in-None.is)

pub returns-in-None-clause-stand : goal.returns-in-None-clause-stand
returns-in-None-clause-stand c =
    let old = c.args.self.now in
    let new : Activities = record old { shared = c.synchronize_at.new.shared; iterations = with_item old.iterations c.place_from-at.result c.synchronize_at.new.place } in
    let same : kept_in new ≡ kept_in old = unchanged old c.place_from-at.result c.index_mut.result.now c.synchronize_at.new.place c.synchronize_at.new.shared c.index_mut.ensures.value (c.synchronize_at.ensures.shared c.in-None.is) (c.synchronize_at.ensures.place c.in-None.is) in
    stays_same old new c.requires.stand (record { code_is = refl; processors = refl; slots = refl }) same
