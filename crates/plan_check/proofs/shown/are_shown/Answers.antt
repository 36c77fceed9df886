use Rattle.std.proofs.Common.{◌<◌, length, rules}
use Rattle.loop_tree.specs.View.{occurrence}
use Rattle.plan_check.specs.GoodPlan.{token_of}
use Rattle.plan_check.specs.SeenView.{note}
use Rattle.plan_check.specs.Walking.{token_noted}
use Rattle.plan_check.proofs.Equal.{item_differs}
use Rattle.plan_check.proofs.shown.are_shown.Goals as goal

pub returns-then-not-is_shown : goal.returns-then-not-is_shown
returns-then-not-is_shown c =
    let within : c.loop-i.i < length c.args.notes.now = search rules in
    item_differs (λ o. token_of (occurrence o)) (λ n. token_noted (note n)) c.args.references.now c.args.notes.now c.loop-i.i c.index-references-i.result c.index-notes-i.result c.is_shown.result c.loop-i-test.true within c.index-references-i.is c.index-notes-i.is c.if-not-is_shown.true c.is_shown.ensures
