use Rattle.std.proofs.Common.{◌≡◌, map, take}
use Rattle.loop_tree.specs.View.{occurrence}
use Rattle.plan_check.specs.GoodPlan.{token_of}
use Rattle.plan_check.specs.SeenView.{note}
use Rattle.plan_check.specs.Walking.{token_noted}
use Rattle.plan_check.proofs.shown.are_shown.Given as goal

abbrev pub invariant-loop-i : goal.invariant-loop-i
invariant-loop-i l = map (λ o. token_of (occurrence o)) (take l.i l.references) ≡ map (λ n. token_noted (note n)) (take l.i l.notes)
