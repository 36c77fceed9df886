-- What the tree of a program's loops, and a view of one of them, stand for.
use Rattle.std.specs.Prelude.{ℕ, List}
use Rattle.loop_tree.specs.Collecting.{loops_in}
use Rattle.loop_tree.specs.CollectedView.{collected, loop_shown}
use Rattle.loop_tree.specs.Loops.{Loop}
use Rattle.loop_tree.specs.Occurrences.{Occurrence}
use Rattle.loop_tree.specs.declared.tree.LoopTree.{LoopTree}
use Rattle.loop_tree.specs.declared.tree.LoopView.{LoopView}

-- the loops of a tree, numbered from 1
abbrev pub loops_seen : LoopTree → List Loop
loops_seen t = loops_in (collected t.collected)

-- the loop that a view shows
abbrev pub seen : LoopView → Loop
seen v = loop_shown v.info.now v.references.now

-- all loops of the program that it is of
abbrev pub all_seen : LoopView → List Loop
all_seen v = loops_seen v.tree.now

abbrev pub references_seen : LoopTree → List Occurrence
references_seen t = (collected t.collected).references

abbrev pub lines_seen : LoopTree → List ℕ
lines_seen t = t.collected.lines.items
