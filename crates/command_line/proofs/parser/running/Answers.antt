use Rattle.command_line.specs.CommandLine.{input, source, store}
use Rattle.command_line.proofs.parser.running.Goals as goal

pub returns : goal.returns
returns c = c.with.ensures _ store (c.with-line-2.ensures _ input (c.with-line.ensures _ source c.named.ensures c.source.ensures.rule) c.input.ensures.rule) c.store.ensures.rule
