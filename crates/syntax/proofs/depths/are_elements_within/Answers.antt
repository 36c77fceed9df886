use Rattle.std.proofs.Common.{◌∙◌, sym}
use Rattle.ast.specs.View.{access}
use Rattle.syntax.specs.Depths.{depth_of_access}
use Rattle.syntax.proofs.Shallow.{shallow_on, too_deep}
use Rattle.syntax.proofs.depths.are_elements_within.Goals as goal

pub loop-element-preserved : goal.loop-element-preserved
loop-element-preserved c = shallow_on access depth_of_access c.args.all.now c.loop-element.element-index c.element-item.result c.args.room _ c.loop-element-test.true c.element-item.is (sym c.is_access_within.ensures ∙ c.if-not-is_access_within.false) c.loop-element.invariant

pub returns-then-not-is_access_within : goal.returns-then-not-is_access_within
returns-then-not-is_access_within c = too_deep access depth_of_access c.args.all.now c.loop-element.element-index c.element-item.result c.args.room _ c.loop-element-test.true c.element-item.is (sym c.is_access_within.ensures ∙ c.if-not-is_access_within.true) c.loop-element.invariant
