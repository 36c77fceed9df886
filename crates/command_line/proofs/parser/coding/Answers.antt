use Rattle.command_line.specs.CommandLine.{source}
use Rattle.command_line.proofs.parser.coding.Goals as goal

pub returns : goal.returns
returns c = c.with.ensures _ source c.named.ensures c.source.ensures.rule
