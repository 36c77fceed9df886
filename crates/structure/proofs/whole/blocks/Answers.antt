use Rattle.std.proofs.Common.{map, rules}
use Rattle.ast.specs.View.{statement}
use Rattle.structure.proofs.Exactly.{break-exactly}
use Rattle.structure.proofs.whole.blocks.Goals as goal

pub returns-in_err-keep_rules-clause-exactly : goal.returns-in_err-keep_rules-clause-exactly
returns-in_err-keep_rules-clause-exactly c = break-exactly c.from_residual.result (map statement c.args.statements.now) (search rules) (search rules)
