use Rattle.std.proofs.Common.{◌≡◌, [], drop, map, true}
use Rattle.loop_tree.specs.TreeView.{seen}
use Rattle.placement.specs.Looked.{occurrence_in, shared_in, sources_after}
use Rattle.placement.specs.Placement.{is_ascending}
use Rattle.placement.proofs.origins.sources_among.Given as goal

abbrev pub invariant-loop-first : goal.invariant-loop-first
invariant-loop-first l = record {
  rest :
      sources_after (seen l.view) l.pairs (map occurrence_in (drop l.first-index l.pairs.shared.items)) l.sources.items
      ≡ sources_after (seen l.view) l.pairs (shared_in l.pairs) [];
  ascending : is_ascending l.sources.items ≡ true;
}
