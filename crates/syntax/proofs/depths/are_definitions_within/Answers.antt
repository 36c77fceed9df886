use Rattle.std.proofs.Common.{◌∙◌, sym}
use Rattle.ast.specs.View.{definition}
use Rattle.syntax.specs.Depths.{depth_of_definition}
use Rattle.syntax.proofs.Shallow.{shallow_on, too_deep}
use Rattle.syntax.proofs.depths.are_definitions_within.Goals as goal

pub loop-definition-preserved : goal.loop-definition-preserved
loop-definition-preserved c = shallow_on definition depth_of_definition c.args.all.now c.loop-definition.definition-index c.definition-item.result c.args.room _ c.loop-definition-test.true c.definition-item.is (sym c.is_within.ensures ∙ c.if-not-is_within.false) c.loop-definition.invariant

pub returns-then-not-is_within : goal.returns-then-not-is_within
returns-then-not-is_within c = too_deep definition depth_of_definition c.args.all.now c.loop-definition.definition-index c.definition-item.result c.args.room _ c.loop-definition-test.true c.definition-item.is (sym c.is_within.ensures ∙ c.if-not-is_within.true) c.loop-definition.invariant
