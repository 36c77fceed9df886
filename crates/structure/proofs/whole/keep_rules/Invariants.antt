use Rattle.std.proofs.Common.{drop, map}
use Rattle.ast.specs.View.{statement}
use Rattle.structure.specs.Standing.{standing}
use Rattle.structure.proofs.Broken.{Reached}
use Rattle.structure.proofs.whole.keep_rules.Given as goal

abbrev pub invariant-loop-stmt : goal.invariant-loop-stmt
invariant-loop-stmt l = Reached (standing l.structure) (map statement l.statements) (map statement (drop l.stmt-index l.statements))
