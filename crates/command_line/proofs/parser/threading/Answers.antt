use Rattle.command_line.specs.CommandLine.{input, processors, schedule_out, slots, source, store, tally}
use Rattle.command_line.proofs.parser.threading.Goals as goal

pub returns : goal.returns
returns c = c.with.ensures _ tally (c.with-line-6.ensures _ store (c.with-line-5.ensures _ schedule_out (c.with-line-4.ensures _ slots (c.with-line-3.ensures _ processors (c.with-line-2.ensures _ input (c.with-line.ensures _ source c.named.ensures c.source.ensures.rule) c.input.ensures.rule) c.processors.ensures.rule) c.slots.ensures.rule) c.schedule_out.ensures.rule) c.store.ensures.rule) c.flag-tally.ensures.rule
