use Rattle.std.proofs.Common.{◌≡◌, ◌∙◌, None, Option, Some, sym, ap}
use Rattle.std.specs.Prelude.{option_map}
use Rattle.machine.specs.State.{the_main, iteration}
use Rattle.activities.specs.Activities.{kept_in, who}
use Rattle.activities.specs.Parts.{held_of}
use Rattle.activities.specs.declared.holding.Holder.{Holder}
use Rattle.activities.specs.declared.holding.Holder.TheVariants as holder
use Rattle.activities.proofs.Shares.{held_is}
use Rattle.machine.specs.State.{Who}
use Rattle.activities.specs.Activities.{frame_held, point_in}
use Rattle.activities.proofs.Labour.{frame_in_place}
use Rattle.activities.proofs.holding.Activities.frame.Goals as goal

pub returns-in-None : goal.returns-in-None
returns-in-None c =
    let none : held_of (kept_in c.args.self.now).held c.args.q ≡ None = held_is c.args.self.now.held.items c.args.q c.index.result.now c.index.result.now c.requires.processor c.index.ensures ∙ ap (λ o. option_map who o) c.in-None.is in
    sym (ap (λ (o : Option Who). frame_held (point_in c.args.self.now).machine o) none)

pub returns-in-Some-Main : goal.returns-in-Some-Main
returns-in-Some-Main c =
    let some : c.index.result.now ≡ Some c.in-Some-Main.field-0 = c.in-Some-Main.is in
    let one : Some c.in-Some-Main.field-0 ≡ Some (holder.Main) = ap (λ (h : Holder). Some h) (rw some at c.in-Some-Main.field-0-is) in
    let h : held_of (kept_in c.args.self.now).held c.args.q ≡ Some the_main = held_is c.args.self.now.held.items c.args.q c.index.result.now c.index.result.now c.requires.processor c.index.ensures ∙ ap (λ o. option_map who o) (some ∙ one) in
    sym (ap (λ (o : Option Who). frame_held (point_in c.args.self.now).machine o) h)

pub returns-in-Some-Iteration : goal.returns-in-Some-Iteration
returns-in-Some-Iteration c =
    let some : c.index.result.now ≡ Some c.in-Some-Iteration.field-0 = c.in-Some-Iteration.is in
    let one : Some c.in-Some-Iteration.field-0 ≡ Some (holder.Iteration c.in-Some-Iteration.number c.in-Some-Iteration.place) = ap (λ (h : Holder). Some h) (rw some at c.in-Some-Iteration.field-0-is) in
    let h : held_of (kept_in c.args.self.now).held c.args.q ≡ Some (iteration c.in-Some-Iteration.number) = held_is c.args.self.now.held.items c.args.q c.index.result.now c.index.result.now c.requires.processor c.index.ensures ∙ ap (λ o. option_map who o) (some ∙ one) in
    c.iteration_frame.ensures ∙ frame_in_place c.args.q c.in-Some-Iteration.number c.args.self.now c.requires.stand h
