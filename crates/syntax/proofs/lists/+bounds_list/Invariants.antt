use Rattle.syntax.proofs.lists.+bounds_list.Given as goal

abbrev pub decreases-bounds_list : goal.decreases-bounds_list
decreases-bounds_list l = l.room
