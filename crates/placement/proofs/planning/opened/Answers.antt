use Rattle.std.proofs.Common.{◌∙◌, ap, map, refl, subst, sym}
use Rattle.std.specs.Prelude.{◌+◌}
use Rattle.ast.specs.View.{block_view, letters}
use Rattle.dependence.specs.Plan.{PlanTree}
use Rattle.dependence.specs.PlanView.{plan_block}
use Rattle.dependence.specs.Related.{relations as relations_in}
use Rattle.loop_tree.specs.TreeView.{seen}
use Rattle.placement.specs.Placement.{AreSources}
use Rattle.placement.proofs.Opening as opening
use Rattle.placement.proofs.planning.opened.Goals as goal

pub returns : goal.returns
returns c = (
  refl,
  λ judged.
      let l = seen c.args.view.now in
      let a = c.args.analysis in
      let spots = c.in_ok-spots in
      let p : PlanTree = record {
        body = plan_block c.in_ok-body.body.items;
        privates = map letters c.args.privates.names.items;
        relations = relations_in a.relations;
      } in
      let found = judged.2 in
      let body = opening.placed_body l p a spots.spots c.in_ok-first.first (block_view c.body.result.now) judged.0 found spots.ensures.sources (subst (λ ks. opening.AreSpots a.sources.items ks spots.spots) c.deref.ensures.value spots.ensures.awaits)
      (c.in_ok-first.ensures ∙ ap (λ n. n + 1) c.statement.ensures) c.body.ensures c.in_ok-body.ensures refl in
      record {
        tree = p;
        is = refl;
        body = body;
        sources = subst (λ ss. AreSources l ss) (sym spots.ensures.sources) found.sources;
        triples = found.triples;
      },
)
