use Rattle.std.proofs.Common.{◌≡◌, drop}
use Rattle.loop_tree.specs.TreeView.{seen}
use Rattle.placement.specs.Looked.{AllRelate, keeps, occurrence_in, shared_in}
use Rattle.placement.proofs.origins.keeps.Given as goal

abbrev pub invariant-loop-place : goal.invariant-loop-place
invariant-loop-place l = record {
  recent : AllRelate (seen l.view) l.pairs.kinds.items (occurrence_in l.first) l.recent;
  rest :
      keeps (seen l.view) (shared_in l.pairs) (occurrence_in l.first) (drop l.place-index l.places)
      ≡ keeps (seen l.view) (shared_in l.pairs) (occurrence_in l.first) l.places;
}
