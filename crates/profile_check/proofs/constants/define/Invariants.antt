use Rattle.std.proofs.Common.{◌≡◌, ◌||◌, map, drop}
use Rattle.ast.specs.View.{definition}
use Rattle.profile_check.specs.Declarations.{with_constants}
use Rattle.profile_check.specs.DeclaredView.{constants_of}
use Rattle.profile_check.specs.Rules.{lacks_constant}
use Rattle.profile_check.proofs.constants.define.Given as goal

abbrev pub invariant-loop-definition : goal.invariant-loop-definition
invariant-loop-definition l = record {
  lacks : (l.lacks || lacks_constant (constants_of l.constants.entries) (map definition (drop l.definition-index l.defined))) ≡ lacks_constant (constants_of l.fn.constants.entries) (map definition l.defined);
  defined : with_constants (constants_of l.constants.entries) (map definition (drop l.definition-index l.defined)) ≡ with_constants (constants_of l.fn.constants.entries) (map definition l.defined);
}
