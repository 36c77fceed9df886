use Rattle.syntax.proofs.lists.+items.Given as goal

abbrev pub decreases-items : goal.decreases-items
decreases-items l = l.room
