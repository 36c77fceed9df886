use Rattle.std.proofs.Common.{arith}
use Rattle.std.proofs.lemmas.Fmt.{decimal_digit}
use Rattle.schedules.proofs.writing.put_line.Goals as goal

pub returns-in-Share-clause-put : goal.returns-in-Share-clause-put
returns-in-Share-clause-put c = rw c.in-Share.is (rw (decimal_digit 0 (omega arith)) at c.put_count-in-Share.ensures.put)
