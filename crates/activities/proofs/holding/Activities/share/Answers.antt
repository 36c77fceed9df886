use Rattle.std.proofs.Common.{◌≡◌, ◌∙◌, false, None, Some, refl, ap}
use Rattle.std.specs.Prelude.{option_map}
use Rattle.activities.specs.Activities.{code_in, point_in, who}
use Rattle.activities.specs.Parts.{held_of}
use Rattle.activities.specs.declared.holding.Holder.{Holder}
use Rattle.activities.specs.declared.holding.Holder.TheVariants as holder
use Rattle.activities.proofs.Shares.{held_is, holders, idle_stands}
use Rattle.activities.proofs.holding.Activities.share.Goals as goal

pub share_main-requires-clause-holds : goal.share_main-requires-clause-holds
share_main-requires-clause-holds c =
    let some : c.index.result.now ≡ Some c.in-Some-Main.field-0 = c.in-Some-Main.is in
    let one : Some c.in-Some-Main.field-0 ≡ Some (holder.Main) = ap (λ (h : Holder). Some h) (rw some at c.in-Some-Main.field-0-is) in
    held_is c.args.self.now.held.items c.args.q c.index.result.now c.index.result.now c.requires.processor c.index.ensures ∙ ap (λ o. option_map who o) (some ∙ one)

pub share_iteration-requires-clause-holds : goal.share_iteration-requires-clause-holds
share_iteration-requires-clause-holds c =
    let some : c.index.result.now ≡ Some c.in-Some-Iteration.field-0 = c.in-Some-Iteration.is in
    let one : Some c.in-Some-Iteration.field-0 ≡ Some (holder.Iteration c.in-Some-Iteration.number c.in-Some-Iteration.place) = ap (λ (h : Holder). Some h) (rw some at c.in-Some-Iteration.field-0-is) in
    held_is c.args.self.now.held.items c.args.q c.index.result.now c.index.result.now c.requires.processor c.index.ensures ∙ ap (λ o. option_map who o) (some ∙ one)

pub returns-in-None-clause-did : goal.returns-in-None-clause-did
returns-in-None-clause-did c =
    let none : held_of (holders c.args.self.now.held.items) c.args.q ≡ None =
    held_is c.args.self.now.held.items c.args.q c.index.result.now c.index.result.now c.requires.processor c.index.ensures ∙ ap (λ o. option_map who o) c.in-None.is in
    (refl, λ b m. idle_stands (code_in c.args.self.now) c.args.self.now.slots c.args.q false (point_in c.args.self.now) b none m)
