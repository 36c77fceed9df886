use Rattle.std.proofs.Common.{◌≡◌, ◌∙◌, None, Some, refl, ap}
use Rattle.std.specs.Prelude.{option_map}
use Rattle.machine.specs.FrameView as frames
use Rattle.machine.specs.State.{the_main, iteration}
use Rattle.activities.specs.Activities.{kept_in, who}
use Rattle.activities.specs.Parts.{held_of}
use Rattle.activities.specs.declared.holding.Holder.{Holder}
use Rattle.activities.specs.declared.holding.Holder.TheVariants as holder
use Rattle.activities.proofs.Shares.{held_is}
use Rattle.activities.proofs.Labour.{idle_frame, main_stands, put_works, stood_main, with_main_frame}
use Rattle.activities.proofs.holding.Activities.put.Goals as goal

pub put_iteration-requires-clause-holds : goal.put_iteration-requires-clause-holds
put_iteration-requires-clause-holds c =
    let some : c.index.result.now ≡ Some c.in-Some-Iteration.field-0 = c.in-Some-Iteration.is in
    let one : Some c.in-Some-Iteration.field-0 ≡ Some (holder.Iteration c.in-Some-Iteration.number c.in-Some-Iteration.place) = ap (λ (h : Holder). Some h) (rw some at c.in-Some-Iteration.field-0-is) in
    let h : held_of (kept_in c.args.self.now).held c.args.q ≡ Some (iteration c.in-Some-Iteration.number) = held_is c.args.self.now.held.items c.args.q c.index.result.now c.index.result.now c.requires.processor c.index.ensures ∙ ap (λ o. option_map who o) (some ∙ one) in
    h

pub returns-in-None-clause-works : goal.returns-in-None-clause-works
returns-in-None-clause-works c made from e l =
    let none : held_of (kept_in c.args.self.now).held c.args.q ≡ None = held_is c.args.self.now.held.items c.args.q c.index.result.now c.index.result.now c.requires.processor c.index.ensures ∙ ap (λ o. option_map who o) c.in-None.is in
    absurd (idle_frame c.args.q c.args.self.now from none e)

pub returns-in-Some-Main-clause-works : goal.returns-in-Some-Main-clause-works
returns-in-Some-Main-clause-works c =
    let some : c.index.result.now ≡ Some c.in-Some-Main.field-0 = c.in-Some-Main.is in
    let one : Some c.in-Some-Main.field-0 ≡ Some (holder.Main) = ap (λ (h : Holder). Some h) (rw some at c.in-Some-Main.field-0-is) in
    let h : held_of (kept_in c.args.self.now).held c.args.q ≡ Some the_main = held_is c.args.self.now.held.items c.args.q c.index.result.now c.index.result.now c.requires.processor c.index.ensures ∙ ap (λ o. option_map who o) (some ∙ one) in
    let old = c.args.self.now in
    rw c.swap.ensures.x_after (put_works the_main c.args.q (kept_in old).main (frames.frame_of c.args.to.now) old (with_main_frame c.args.to.now old) (stood_main c.args.q old c.requires.stand c.requires.going h) refl)

pub returns-in-Some-Main-clause-stand : goal.returns-in-Some-Main-clause-stand
returns-in-Some-Main-clause-stand c = main_stands c.swap.new.x c.args.self.now c.requires.stand
