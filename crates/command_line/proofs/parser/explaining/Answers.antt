use Rattle.command_line.specs.CommandLine.{number, reason}
use Rattle.command_line.proofs.parser.explaining.Goals as goal

pub returns : goal.returns
returns c = c.with.ensures _ reason (c.with-line.ensures _ number c.named.ensures c.optional-number.ensures.rule) c.optional-reason.ensures.rule
