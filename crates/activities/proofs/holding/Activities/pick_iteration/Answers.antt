use Rattle.std.proofs.Common.{◌≡◌, ap, refl}
use Rattle.machine.specs.State.{take_iteration}
use Rattle.ec_kernel.specs.View.{View}
use Rattle.activities.specs.Activities.{kept_in}
use Rattle.activities.specs.declared.holding.Activities.{Activities}
use Rattle.activities.specs.declared.parts.Shared.{Shared}
use Rattle.activities.proofs.Picks.{TakenBy, iteration_taken, iteration_untaken, place_stands, with_iteration}
use Rattle.activities.proofs.Shares.{stays_same, unchanged}
use Rattle.std.specs.Vec.{with_item}
use Rattle.activities.proofs.holding.Activities.pick_iteration.Goals as goal

pub take_up-requires-clause-stands : goal.take_up-requires-clause-stands
take_up-requires-clause-stands c = place_stands c.args.k c.place_of-at.result c.index_mut.result.now c.args.self.now c.requires.stand c.place_of-at.ensures c.index_mut.ensures.value

pub returns-then-not-take_up-clause-did : goal.returns-then-not-take_up-clause-did
returns-then-not-take_up-clause-did c =
    let old = c.args.self.now in
    let z : Shared = record old.shared { kernel = c.take_up.new.kernel } in
    let new : Activities = record old { shared = z; iterations = with_item old.iterations c.place_of-at.result c.take_up.new.place } in
    let h = c.take_up.ensures.same c.if-not-take_up.true in
    let same : kept_in new ≡ kept_in old = unchanged old c.place_of-at.result c.index_mut.result.now c.take_up.new.place z c.index_mut.ensures.value (ap (λ (v : View). record (kept_in old).shared { order = v }) h.0) h.1 in (
      same,
      λ b p. iteration_untaken c.args.q c.args.k c.place_of-at.result c.index_mut.result.now c.take_up.result old b c.requires.stand c.place_of-at.ensures c.index_mut.ensures.value c.take_up.ensures.due c.if-not-take_up.true p,
    )

pub returns-then-not-take_up-clause-stand : goal.returns-then-not-take_up-clause-stand
returns-then-not-take_up-clause-stand c =
    let old = c.args.self.now in
    let z : Shared = record old.shared { kernel = c.take_up.new.kernel } in
    let new : Activities = record old { shared = z; iterations = with_item old.iterations c.place_of-at.result c.take_up.new.place } in
    let h = c.take_up.ensures.same c.if-not-take_up.true in
    let same : kept_in new ≡ kept_in old = unchanged old c.place_of-at.result c.index_mut.result.now c.take_up.new.place z c.index_mut.ensures.value (ap (λ (v : View). record (kept_in old).shared { order = v }) h.0) h.1 in
    stays_same old new c.requires.stand (record { code_is = refl; processors = refl; slots = refl }) same

pub returns-clause-did : goal.returns-clause-did
returns-clause-did c =
    let t = c.take_up.ensures.taken c.if-not-take_up.false in
    let r : TakenBy (take_iteration c.args.k) c.args.q c.args.self.now (with_iteration c.args.q c.args.k c.place_of-at.result c.take_up.new.kernel c.take_up.new.place c.args.self.now) =
    iteration_taken c.args.q c.args.k c.place_of-at.result c.take_up.new.kernel c.index_mut.result.now c.take_up.new.place c.take_up.result c.args.self.now c.requires.stand c.requires.going c.requires.idle c.requires.processor c.place_of-at.ensures c.index_mut.ensures.value c.take_up.ensures.due c.if-not-take_up.false t.0 t.1 t.2 in
    r.0

pub returns-clause-stand : goal.returns-clause-stand
returns-clause-stand c =
    let t = c.take_up.ensures.taken c.if-not-take_up.false in
    let r : TakenBy (take_iteration c.args.k) c.args.q c.args.self.now (with_iteration c.args.q c.args.k c.place_of-at.result c.take_up.new.kernel c.take_up.new.place c.args.self.now) =
    iteration_taken c.args.q c.args.k c.place_of-at.result c.take_up.new.kernel c.index_mut.result.now c.take_up.new.place c.take_up.result c.args.self.now c.requires.stand c.requires.going c.requires.idle c.requires.processor c.place_of-at.ensures c.index_mut.ensures.value c.take_up.ensures.due c.if-not-take_up.false t.0 t.1 t.2 in
    r.1
