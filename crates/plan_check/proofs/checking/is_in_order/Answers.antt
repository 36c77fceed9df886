use Rattle.std.proofs.Common.{◌∙◌, ap}
use Rattle.std.specs.List.{list_all}
use Rattle.loop_tree.specs.TreeView.{seen}
use Rattle.plan_check.specs.Flow.{flag_at}
use Rattle.plan_check.specs.GivenView.{given}
use Rattle.plan_check.specs.KnownView.{known as known_of}
use Rattle.plan_check.specs.SeenView.{seen as seen_of}
use Rattle.plan_check.proofs.Judged.{ordered_by}
use Rattle.plan_check.proofs.checking.is_in_order.Goals as goal

pub returns : goal.returns
returns c = ordered_by (seen c.args.view.now) (given c.args.plan.now) (known_of c.args.walked.now.known) (seen_of c.args.walked.now.seen) c.args.events.now c.requires.walked c.requires.named c.outside.result c.all_advanced.result c.are_ordered.result c.are_ordered.ensures c.outside.ensures (c.all_advanced.ensures ∙ ap (λ xs. list_all (λ n. flag_at xs n.0) c.args.events.now) c.deref.ensures.value)
