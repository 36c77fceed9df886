use Rattle.std.proofs.Common.{◌≡◌, ◌∙◌, ◌+◌, ℕ, Some, length, refl, sym, ap, subst, arith}
use Rattle.std.specs.Box.{with_value}
use Rattle.std.specs.Prelude.{if◌then◌else◌}
use Rattle.machine.specs.FrameView.{frame_of}
use Rattle.machine.specs.StoreView.{store_of}
use Rattle.machine.specs.Strides.{strides_past}
use Rattle.machine.specs.declared.frame.Frame.{Frame as FrameValue}
use Rattle.activities.specs.Activities.{code_in, point_in}
use Rattle.activities.specs.Parts.{Shared, Standing}
use Rattle.activities.specs.PartsView.{shared_of, standing_of}
use Rattle.activities.specs.Points.{Steps}
use Rattle.activities.specs.Seating.{seat, seated}
use Rattle.activities.specs.Sharing.{StrodeAt, went}
use Rattle.activities.specs.Told.{is_told}
use Rattle.activities.specs.declared.parts.Iteration.{Iteration}
use Rattle.activities.specs.declared.turn.Outcome.TheVariants as outcomes
use Rattle.activities.proofs.Seats.{SeatedBy, may_it, number_kept, still_going, strode, strode_as, synchronized, with_shared}
use Rattle.activities.proofs.holding.Activities.go_on.Goals as goal

pub synchronize-requires : goal.synchronize-requires
synchronize-requires c = record { may = may_it c.args.q c.args.place c.args.iteration.now c.args.self.now c.requires.seated c.requires.processor c.requires.place }

pub returns-in-Some : goal.returns-in-Some
returns-in-Some c =
    let old = c.args.self.now in
    let o = c.in-Some.outcome in
    let it = c.args.iteration.now in
    let new = c.synchronize.new.iteration in
    let z = c.synchronize.new.shared in
    let s : SeatedBy c.args.q c.args.place (if went o then 1 else 0) o it new old (with_shared z old) =
    synchronized c.args.q c.args.place it new o z old c.requires.seated c.requires.going c.requires.processor c.requires.place c.in-Some.ensures.some in
    record {
      made = subst (λ (n : ℕ). Steps (code_in old) old.slots n (point_in (seated c.args.q c.args.place it old)) c.args.q (point_in (seat o c.args.q c.args.place new (with_shared z old)))) (sym c.steps_of.ensures.made) s.0;
      few = omega (arith, c.steps_of.ensures.few, c.requires.some);
      seated = s.1;
      number = number_kept c.args.q c.args.place it new o z old c.in-Some.ensures.some;
      going = still_going (code_in old) (c.args.place + 1) (shared_of old.shared) (shared_of z) (standing_of it) o _ c.in-Some.ensures.some c.requires.going;
      others = refl;
    }

abbrev came_to : (c : goal.After-iteration-1) → Iteration
came_to c = record { number = c.synchronize.new.iteration.number; frame = with_value c.synchronize.new.iteration.frame c.stride_noting.new.frame; out = c.synchronize.new.iteration.out; wait = c.synchronize.new.iteration.wait }

-- strides, where no await, advance or retirement stands next
strides_made : (c : goal.After-iteration-1) → SeatedBy c.args.q c.args.place c.stride_noting.result outcomes.Stays c.args.iteration.now (came_to c) c.args.self.now (strode_as (came_to c) c.stride_noting.new.cells c.synchronize.new.shared c.args.self.now)
strides_made c =
    let old = c.args.self.now in
    let code = code_in old in
    let z = c.synchronize.new.shared in
    let v = c.stride_noting.new.cells in
    let shared : shared_of z ≡ shared_of old.shared = c.synchronize.ensures.shared c.in-None.is in
    let standing : standing_of c.synchronize.new.iteration ≡ standing_of c.args.iteration.now = c.synchronize.ensures.iteration c.in-None.is in
    let leads = subst (λ (f : FrameValue). strides_past (is_told z.kernel.counts c.synchronize.new.iteration.number) code c.stride_noting.result (record { frame = frame_of f; store = store_of code.variables z.cells.items }) ≡ Some (record { frame = frame_of c.stride_noting.new.frame; store = store_of code.variables v.items })) c.deref_mut.ensures.value c.stride_noting.ensures.made in
    let strode_there : StrodeAt code (shared_of z).order.counts c.stride_noting.result (shared_of z).cells (standing_of c.synchronize.new.iteration) v.items (Some (standing_of (came_to c))) = record { frame = frame_of c.stride_noting.new.frame; leads = leads; standing = refl } in
    strode c.args.q c.args.place c.stride_noting.result c.args.iteration.now (came_to c) v z old c.requires.seated c.requires.going c.requires.processor c.requires.place shared
    (subst (λ (y : Standing). StrodeAt code (shared_of old.shared).order.counts c.stride_noting.result (shared_of old.shared).cells y v.items (Some (standing_of (came_to c)))) standing
    (subst (λ (s : Shared). StrodeAt code s.order.counts c.stride_noting.result s.cells (standing_of c.synchronize.new.iteration) v.items (Some (standing_of (came_to c)))) shared strode_there))
    (c.stride_noting.ensures.cells ∙ ap (λ (s : Shared). length s.cells) shared)

pub returns-in-None-clause-made : goal.returns-in-None-clause-made
returns-in-None-clause-made c = (strides_made c).0

pub returns-in-None-clause-seated : goal.returns-in-None-clause-seated
returns-in-None-clause-seated c = (strides_made c).1
