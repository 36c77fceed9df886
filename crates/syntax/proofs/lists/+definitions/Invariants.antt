use Rattle.syntax.proofs.lists.+definitions.Given as goal

abbrev pub decreases-definitions : goal.decreases-definitions
decreases-definitions l = l.room
