use Rattle.std.proofs.Common.{◌∙◌, ap, map}
use Rattle.std.specs.Prelude.{replicate}
use Rattle.ast.specs.View.{letters, ref}
use Rattle.loop_tree.specs.TreeView.{seen}
use Rattle.privatise.specs.Flow.{after_block}
use Rattle.privatise.specs.Privates.{private_names}
use Rattle.privatise.specs.declared.walk.Walk.TheVariants.{Missed}
use Rattle.privatise.proofs.Exactly.{are_private}
use Rattle.privatise.proofs.flow.private_scalars.Goals as goal

pub returns : goal.returns
returns c =
    are_private (seen c.args.view.now) c.cells.result (map letters c.in_ok-private_names.field-0.items) c.cells.ensures
    (c.in_ok-private_names.ensures
    ∙ ap (λ ws. private_names ws (map ref c.assigned.result.now)) c.deref.ensures.value
    ∙ ap (λ ws. private_names ws (map ref c.assigned.result.now)) c.in_ok-walks.ensures
    ∙ ap (λ b. private_names (after_block b (replicate c.cells.result Missed)) (map ref c.assigned.result.now)) c.body.ensures
    ∙ ap (λ rs. private_names (after_block (seen c.args.view.now).body (replicate c.cells.result Missed)) rs) c.assigned.ensures)
