use Rattle.std.proofs.Common.{◌≡◌, ◌≤◌, drop, length, map, true}
use Rattle.dependence.specs.Kept.{most_events}
use Rattle.loop_tree.specs.TreeView.{seen}
use Rattle.placement.specs.Looked.{after_all, all_found, found_in, occurrence_in}
use Rattle.placement.specs.Placement.{is_ascending}
use Rattle.placement.proofs.analysis.look_at_each.Given as goal

abbrev pub invariant-loop-first : goal.invariant-loop-first
invariant-loop-first l = record {
  found : after_all (seen l.view) l.pairs (map occurrence_in (drop l.first-index l.pairs.shared.items)) (found_in l.analysis) ≡ all_found (seen l.view) l.pairs;
  ascending : is_ascending l.analysis.sources.items ≡ true;
  few : length l.analysis.sources.items ≤ most_events;
}
