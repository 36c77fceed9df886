use Rattle.std.proofs.Common.{◌∙◌, ap, map, subst, sym, Option}
use Rattle.std.specs.Prelude.{IfSome}
use Rattle.loop_tree.specs.TreeView.{seen}
use Rattle.placement.specs.Looked.{Relates, occurrence_in}
use Rattle.placement.specs.declared.analysis.Earlier.{Earlier}
use Rattle.subscripts.specs.View.{form_in}
use Rattle.placement.proofs.analysis.related.Goals as goal

pub returns-in-Some-clause-relation : goal.returns-in-Some-clause-relation
returns-in-Some-clause-relation c =
    c.in-Some.ensures (seen c.args.view.now) c.args.kinds.now (occurrence_in c.args.first.now) (occurrence_in c.args.second.now) c.requires.recent c.requires.second.1

pub returns-clause-recent : goal.returns-clause-recent
returns-clause-recent c = record {
  newest =
      subst (λ (o : Option Earlier). IfSome o (Relates (seen c.args.view.now) c.args.kinds.now (occurrence_in c.args.first.now))) (sym c.add.ensures.newest)
      (λ b is.
      c.relate_forms-relation.ensures (occurrence_in c.args.first.now) b
      (ap (λ fs. map form_in fs) c.at.ensures ∙ c.requires.first.1)
      (ap (λ fs. map form_in fs) c.at-2.ensures ∙ is));
  older = subst (λ (o : Option Earlier). IfSome o (Relates (seen c.args.view.now) c.args.kinds.now (occurrence_in c.args.first.now))) (sym c.add.ensures.older) c.requires.recent.newest;
}

pub returns-clause-relation : goal.returns-clause-relation
returns-clause-relation c =
    c.relate_forms-relation.ensures (occurrence_in c.args.first.now) (occurrence_in c.args.second.now)
    (ap (λ fs. map form_in fs) c.at.ensures ∙ c.requires.first.1)
    (ap (λ fs. map form_in fs) c.at-2.ensures ∙ c.requires.second.1)
