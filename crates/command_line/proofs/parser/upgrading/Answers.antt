use Rattle.command_line.specs.CommandLine.{out, schedule, source, whole_input}
use Rattle.command_line.proofs.parser.upgrading.Goals as goal

pub returns : goal.returns
returns c = c.with.ensures _ out (c.with-line-3.ensures _ schedule (c.with-line-2.ensures _ whole_input (c.with-line.ensures _ source c.named.ensures c.source.ensures.rule) c.whole_input.ensures.rule) c.schedule.ensures.rule) c.needed-out.ensures.rule
