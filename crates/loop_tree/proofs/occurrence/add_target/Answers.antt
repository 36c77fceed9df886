use Rattle.loop_tree.specs.Occurrences.{defined_at}
use Rattle.loop_tree.proofs.Occurring.{element_more}
use Rattle.loop_tree.proofs.occurrence.add_target.Goals as goal

pub returns : goal.returns
returns c =
    element_more _ (defined_at c.args.statement) c.args.access.now c.args.statement _ _ _ _ _ c.deref.ensures.value c.deref-2.ensures.value c.in_ok-add_terms.ensures c.add_place.ensures
