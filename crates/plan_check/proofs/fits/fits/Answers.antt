use Rattle.std.proofs.Common.{◌∙◌, ap, map}
use Rattle.std.specs.List.{list_all}
use Rattle.ast.specs.View.{letters}
use Rattle.loop_tree.specs.TreeView.{seen}
use Rattle.plan_check.specs.Checking.{has_named, is_step}
use Rattle.plan_check.specs.GivenView.{given}
use Rattle.plan_check.proofs.Judged.{fit_by}
use Rattle.plan_check.proofs.fits.fits.Goals as goal

pub returns : goal.returns
returns c =
    fit_by (seen c.args.view.now) (given c.args.plan.now) c.args.events.now c.is_step.result c.has_read.result c.hides_inner.result c.are_assigned.result c.are_once.result c.are_proper.result c.is_fit.result c.requires c.is_fit.ensures
    (c.is_step.ensures ∙ ap is_step c.step.ensures) c.has_read.ensures c.hides_inner.ensures
    (c.are_assigned.ensures ∙ ap (λ rs. list_all (λ n. has_named rs n) (map letters c.args.plan.now.privates.now)) c.assigned.ensures) c.are_once.ensures c.are_proper.ensures
