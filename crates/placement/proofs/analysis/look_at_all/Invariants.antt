use Rattle.std.proofs.Common.{◌≡◌, drop}
use Rattle.loop_tree.specs.TreeView.{seen}
use Rattle.placement.specs.Looked.{AllRelate, after_places, found_in, occurrence_in, shared_in}
use Rattle.placement.proofs.analysis.look_at_all.Given as goal

abbrev pub invariant-loop-place : goal.invariant-loop-place
invariant-loop-place l = record {
  recent : AllRelate (seen l.view) l.pairs.kinds.items (occurrence_in l.first) l.recent;
  sources : l.analysis.sources ≡ l.fn.analysis.sources;
  found :
      after_places (seen l.view) (shared_in l.pairs) (occurrence_in l.first) (drop l.place-index l.places) (found_in l.analysis)
      ≡ after_places (seen l.view) (shared_in l.pairs) (occurrence_in l.first) l.places (found_in l.fn.analysis);
}
