use Rattle.std.proofs.Common.{drop, map, length, nat_eq, reverse}
use Rattle.indexmap.specs.IndexMap.{get}
use Rattle.ast.specs.View.{statement}
use Rattle.structure.specs.Backward.{spans_kept}
use Rattle.structure.proofs.Behind.{Gathered}
use Rattle.structure.proofs.whole.spans.Given as goal

abbrev pub invariant-loop-place : goal.invariant-loop-place
invariant-loop-place l = Gathered (get nat_eq l.gathered.labels) (reverse l.gathered.ends.items) (spans_kept l.gathered.spans.items) l.place (length l.fn.statements) (map statement (drop l.place l.fn.statements))

abbrev pub decreases-loop-place : goal.decreases-loop-place
decreases-loop-place l = l.place
