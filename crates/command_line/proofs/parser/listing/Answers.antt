use Rattle.command_line.specs.CommandLine.{source, why}
use Rattle.command_line.proofs.parser.listing.Goals as goal

pub returns : goal.returns
returns c = c.with.ensures _ why (c.with-line.ensures _ source c.named.ensures c.source.ensures.rule) c.flag-why.ensures.rule
