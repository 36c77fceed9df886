use Rattle.syntax.proofs.lists.+elements.Given as goal

abbrev pub decreases-elements : goal.decreases-elements
decreases-elements l = l.room
