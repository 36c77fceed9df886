-- What the frames of the code stand for.
use Rattle.std.specs.Prelude.{map}
use Rattle.ast.specs.View.{arm, head, node, optional_term}
use Rattle.profile_check.specs.Nesting as spec
use Rattle.profile_check.specs.declared.nesting.Frame.{Frame}
use Rattle.profile_check.specs.declared.nesting.Frame.TheVariants.{Range, Block}
use Rattle.profile_check.specs.declared.nesting.Nest.{Nest}

abbrev pub frame : Frame → spec.Frame
frame (Range line h before) = spec.in_range line (head h) (map node before.items)
frame (Block done line c before) =
    spec.in_block (map arm done.items) line (optional_term c) (map node before.items)

abbrev pub nest_of : Nest → spec.Nest
nest_of n = spec.nest (map frame n.frames.items) (map node n.nodes.items)
