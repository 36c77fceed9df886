-- The plain plan that a plan with a body stands for.
use Rattle.std.specs.Prelude.{map}
use Rattle.ast.specs.View.{letters}
use Rattle.dependence.specs.Plan.{PlanTree}
use Rattle.dependence.specs.PlanView.{plan_block}
use Rattle.dependence.specs.Related.{relations as relations_in}
use Rattle.plan_check.specs.declared.given.Given.{Given}

abbrev pub given : Given → PlanTree
given g = record {
  body = plan_block g.body.now;
  privates = map letters g.privates.now;
  relations = relations_in g.relations.now;
}
