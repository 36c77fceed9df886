use Rattle.syntax.proofs.statements.+kind.Given as goal

abbrev pub decreases-kind : goal.decreases-kind
decreases-kind l = l.room
