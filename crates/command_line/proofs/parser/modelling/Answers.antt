use Rattle.command_line.specs.CommandLine.{input, most, processors, schedule_out, slots, source}
use Rattle.command_line.proofs.parser.modelling.Goals as goal

pub returns : goal.returns
returns c = c.with.ensures _ schedule_out (c.with-line-5.ensures _ most (c.with-line-4.ensures _ slots (c.with-line-3.ensures _ processors (c.with-line-2.ensures _ input (c.with-line.ensures _ source c.named.ensures c.source.ensures.rule) c.input.ensures.rule) c.processors.ensures.rule) c.slots.ensures.rule) c.option-most.ensures.rule) c.schedule_out.ensures.rule
