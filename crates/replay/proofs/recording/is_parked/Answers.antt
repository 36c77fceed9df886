use Rattle.std.proofs.Common.{◌≡◌, ◌∙◌, ℕ, refl, sym, ap, subst, get_or, Some, None}
use Rattle.std.specs.Prelude.{is_some}
use Rattle.machine.specs.State.{iteration}
use Rattle.activities.specs.Activities.{kept_in, point_in, who}
use Rattle.activities.specs.Parts.{held_of}
use Rattle.activities.specs.Points.{wait_of}
use Rattle.activities.specs.declared.holding.Holder.{Holder}
use Rattle.activities.proofs.Labour.{held_runs}
use Rattle.replay.proofs.Recorded.{else_there, parked_is, then_there}
use Rattle.activities.proofs.Shares.{held_is}
use Rattle.replay.proofs.recording.is_parked.Goals as goal

pub returns-then-is_iteration : goal.returns-then-is_iteration
returns-then-is_iteration c =
    let held : held_of (kept_in c.args.activities.now).held c.args.q ≡ Some (iteration c.in-Iteration.number) = held_is c.args.activities.now.held.items c.args.q c.index.result.now c.index.result.now c.requires.processor c.index.ensures ∙ c.is_iteration.ensures c.if-is_iteration.true in
    sym (ap (λ (h : Holder). is_some (wait_of (point_in c.args.activities.now).machine (who h))) c.in-Iteration.is ∙ ap is_some (held_runs c.args.q (iteration c.in-Iteration.number) c.args.activities.now c.requires.stand held))

pub returns-then-iteration-number : goal.returns-then-iteration-number
returns-then-iteration-number c =
    parked_is c.args.activities.now c.args.holder c.in-Iteration.number _ (Some c.in-Some.iteration) c.index-in-Iteration.result.now c.is_some-then-iteration-number.result c.requires.stand c.in-Iteration.is (subst (λ (n : ℕ). c.index-in-Iteration.result.now ≡ get_or c.args.activities.now.iterations.items n c.index-in-Iteration.result.now) c.place_of.ensures c.index-in-Iteration.ensures) c.in-Some.is
    (then_there c.in-Iteration.number c.in-Some.iteration c.is_some-then-iteration-number.result c.if-iteration-number.true c.is_some-then-iteration-number.ensures)

pub returns-else-iteration-number : goal.returns-else-iteration-number
returns-else-iteration-number c =
    parked_is c.args.activities.now c.args.holder c.in-Iteration.number _ (Some c.in-Some.iteration) c.index-in-Iteration.result.now _ c.requires.stand c.in-Iteration.is (subst (λ (n : ℕ). c.index-in-Iteration.result.now ≡ get_or c.args.activities.now.iterations.items n c.index-in-Iteration.result.now) c.place_of.ensures c.index-in-Iteration.ensures) c.in-Some.is
    (else_there c.in-Iteration.number c.in-Some.iteration c.if-iteration-number.false)

pub returns-in-None : goal.returns-in-None
returns-in-None c =
    parked_is c.args.activities.now c.args.holder c.in-Iteration.number _ None c.index-in-Iteration.result.now _ c.requires.stand c.in-Iteration.is (subst (λ (n : ℕ). c.index-in-Iteration.result.now ≡ get_or c.args.activities.now.iterations.items n c.index-in-Iteration.result.now) c.place_of.ensures c.index-in-Iteration.ensures) c.in-None.is refl
