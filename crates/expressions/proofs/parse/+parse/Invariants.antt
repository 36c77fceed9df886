use Rattle.expressions.proofs.parse.+parse.Given as goal

abbrev pub decreases-level : goal.decreases-level
decreases-level l = l.room

abbrev pub decreases-chain : goal.decreases-chain
decreases-chain l = l.room

abbrev pub decreases-primary : goal.decreases-primary
decreases-primary l = l.room

abbrev pub decreases-operand : goal.decreases-operand
decreases-operand l = l.room

abbrev pub decreases-element : goal.decreases-element
decreases-element l = l.room

abbrev pub decreases-subscripts : goal.decreases-subscripts
decreases-subscripts l = l.room

abbrev pub decreases-list : goal.decreases-list
decreases-list l = l.room

abbrev pub decreases-further : goal.decreases-further
decreases-further l = l.room
