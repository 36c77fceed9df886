use Rattle.std.proofs.Common.{map}
use Rattle.ast.specs.View.{block_view}
use Rattle.dependence.specs.PlanView.{plan_node}
use Rattle.placement.specs.Listed.{awaited}
use Rattle.placement.proofs.Listings.{placed_is}
use Rattle.placement.proofs.placing.placed_range.Goals as goal

pub returns : goal.returns
returns c = placed_is c.args.spots.now.sources.items (awaited c.args.spots.now) c.args.from (block_view c.args.nodes.now) (map plan_node c.in_ok-list.list.items) c.in_ok-list.ensures
