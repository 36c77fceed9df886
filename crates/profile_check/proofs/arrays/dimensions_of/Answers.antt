use Rattle.std.proofs.Common.{◌∙◌, List, ap, map, sym}
use Rattle.ast.specs.View.{extent}
use Rattle.ast.specs.declared.program.Dimension.{Dimension}
use Rattle.profile_check.specs.Declarations.{or_no_extents}
use Rattle.profile_check.specs.DeclaredView.{constants_of}
use Rattle.profile_check.proofs.Walks.{all_on, dimension_on, none_on}
use Rattle.profile_check.proofs.arrays.dimensions_of.Goals as goal

pub loop-given-preserved : goal.loop-given-preserved
loop-given-preserved c =
    dimension_on (constants_of c.args.constants.now.entries) c.args.bounds.now c.loop-given.given-index c.given-item.result c.loop-given-test.true c.given-item.is c.loop-given.dimensions.items c.push.new.self.items c.in-Some.dimension _ (rw c.in-Some.is at c.dimension_of.ensures) c.in_ok-push-in-Some.ensures.items c.loop-given.invariant

pub returns-in-None : goal.returns-in-None
returns-in-None c =
    let cs = constants_of c.args.constants.now.entries in
    let lacks = none_on cs c.args.bounds.now c.loop-given.given-index c.given-item.result c.loop-given-test.true c.given-item.is c.loop-given.dimensions.items _ (rw c.in-None.is at c.dimension_of.ensures) c.loop-given.invariant in
    ap (λ (ds : List Dimension). map extent ds) c.new.ensures.items ∙ ap or_no_extents (sym lacks)

pub returns : goal.returns
returns c = all_on (constants_of c.args.constants.now.entries) c.args.bounds.now c.loop-given.given-index c.loop-given.dimensions.items _ c.loop-given-test.false c.loop-given.invariant
