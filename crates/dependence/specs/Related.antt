-- The list that relations are.
use Rattle.std.specs.Prelude.{ℕ, List}
use Rattle.dependence.specs.Runs.{runs}
use Rattle.dependence.specs.declared.relation.Relation.{Relation}
use Rattle.dependence.specs.declared.relations.Relations.{Relations}

-- the claims, run by run: two references by their numbers, and the relation of them
abbrev pub relations : Relations → List (ℕ × ℕ × Relation)
relations rs = runs rs.different.items rs.runs.items
