use Rattle.std.proofs.Common.{map, drop, take}
use Rattle.ast.specs.View.{statement}
use Rattle.fixed_form.specs.Answers.{entries}
use Rattle.profile_check.proofs.Parsing.{Begins}
use Rattle.profile_check.specs.Reads.{Spelled}
use Rattle.profile_check.proofs.reading.parse.Given as goal

abbrev pub invariant-loop-one : goal.invariant-loop-one
invariant-loop-one l = record {
  spelled : Spelled (entries (take l.one-index l.labelled)) (map statement l.stmts.items);
  begins : Begins (entries l.labelled) (map statement l.stmts.items) (entries (drop l.one-index l.labelled));
}
