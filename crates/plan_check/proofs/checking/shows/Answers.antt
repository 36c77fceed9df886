use Rattle.std.proofs.Common.{◌∙◌, ap, map}
use Rattle.loop_tree.specs.TreeView.{seen}
use Rattle.loop_tree.specs.View.{occurrence}
use Rattle.plan_check.specs.GivenView.{given}
use Rattle.plan_check.specs.SeenView.{note}
use Rattle.plan_check.specs.Checking.{reference_tokens}
use Rattle.plan_check.specs.Walked.{points_of}
use Rattle.plan_check.specs.Walking.{token_noted}
use Rattle.plan_check.proofs.Judged.{shown_by}
use Rattle.plan_check.proofs.checking.shows.Goals as goal

pub returns : goal.returns
returns c = shown_by occurrence note c.references.result.now c.deref.result.now (seen c.args.view.now).references (reference_tokens (points_of (seen c.args.view.now) (given c.args.plan.now))) c.are_shown.result c.references.ensures.all (ap (λ ns. map token_noted (map note ns)) c.deref.ensures.value ∙ c.requires.tokens) c.are_shown.ensures
