use Rattle.std.proofs.Common.{arith}
use Rattle.std.proofs.lemmas.Grind.{common_steps}
use Rattle.activities.proofs.printing.append_piece.Goals as goal

pub returns-in_ok-append_number-in-Operand-clause-printed : goal.returns-in_ok-append_number-in-Operand-clause-printed
returns-in_ok-append_number-in-Operand-clause-printed c = grind (arith, common_steps)
