use Rattle.std.proofs.Common.{◌≡◌, ◌∙◌, Some, ap}
use Rattle.std.specs.Prelude.{option_map}
use Rattle.activities.specs.Activities.{who}
use Rattle.activities.specs.declared.holding.Holder.{Holder}
use Rattle.activities.specs.declared.holding.Holder.TheVariants as holder
use Rattle.activities.proofs.Shares.{held_is}
use Rattle.activities.proofs.holding.Activities.commit.Goals as goal

pub commit_iteration-requires-clause-holds : goal.commit_iteration-requires-clause-holds
commit_iteration-requires-clause-holds c =
    let some : c.index.result.now ≡ Some c.in-Some-Iteration.field-0 = c.in-Some-Iteration.is in
    let one : Some c.in-Some-Iteration.field-0 ≡ Some (holder.Iteration c.in-Some-Iteration.number c.in-Some-Iteration.place) = ap (λ (h : Holder). Some h) (rw some at c.in-Some-Iteration.field-0-is) in
    held_is c.args.self.now.held.items c.args.q c.index.result.now c.index.result.now c.requires.processor c.index.ensures ∙ ap (λ o. option_map who o) (some ∙ one)
