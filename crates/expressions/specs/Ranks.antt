-- The levels of precedence by their numbers in the grammar.
use Rattle.std.specs.Prelude.{ℕ}
use Rattle.expressions.specs.Levels as levels
use Rattle.expressions.specs.declared.level.Level.{Level}
use Rattle.expressions.specs.declared.level.Level.TheVariants.{Equivalence, Disjunction}
use Rattle.expressions.specs.declared.level.Level.TheVariants.{Conjunction, Factor, Relation}
use Rattle.expressions.specs.declared.level.Level.TheVariants.{Sum, Product, Primary}

abbrev pub rank : Level → ℕ
rank Equivalence = levels.equivalence
rank Disjunction = levels.disjunction
rank Conjunction = levels.conjunction
rank Factor = levels.factor
rank Relation = levels.relation
rank Sum = levels.sum
rank Product = levels.product
rank Primary = levels.primary
