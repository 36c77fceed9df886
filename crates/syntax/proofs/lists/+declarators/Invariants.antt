use Rattle.syntax.proofs.lists.+declarators.Given as goal

abbrev pub decreases-declarators : goal.decreases-declarators
decreases-declarators l = l.room
