use Rattle.command_line.specs.CommandLine.{iterations, loop_number, out, source}
use Rattle.command_line.proofs.parser.drawing.Goals as goal

pub returns : goal.returns
returns c = c.with.ensures _ iterations (c.with-line-3.ensures _ loop_number (c.with-line-2.ensures _ out (c.with-line.ensures _ source c.named.ensures c.source.ensures.rule) c.picture.ensures.rule) c.option-loop_number.ensures.rule) c.option-iterations.ensures.rule
