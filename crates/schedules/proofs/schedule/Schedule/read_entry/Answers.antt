use Rattle.std.proofs.Common.{sym, ◌∙◌}
use Rattle.schedules.specs.View.{entry}
use Rattle.schedules.proofs.Parsing.{reads_allowed, reads_no_entry, reads_text}
use Rattle.schedules.proofs.schedule.Schedule.read_entry.Goals as goal

pub push-requires-clause-allowed : goal.push-requires-clause-allowed
push-requires-clause-allowed c =
    reads_allowed c.self.inside.version c.self.inside.processors c.self.inside.slots c.self.inside.shorts.items c.self.inside.picked.items c.args.self.now c.self.invariant c.self.view_is
    c.args.text.now (entry c.in-Ok.entry) c.in-Ok.rest.now (sym c.in-Ok.ensures)

pub returns-in_ok-push-in-Ok-clause-ok : goal.returns-in_ok-push-in-Ok-clause-ok
returns-in_ok-push-in-Ok-clause-ok c =
    reads_text c.self.inside.version c.self.inside.processors c.self.inside.slots c.self.inside.shorts.items c.self.inside.picked.items c.args.self.now c.self.invariant c.self.view_is
    c.args.text.now (entry c.in-Ok.entry) c.in-Ok.rest.now c.push.new.self (sym c.in-Ok.ensures) c.in_ok-push-in-Ok.ensures.ok

pub returns-in-Err-clause-err : goal.returns-in-Err-clause-err
returns-in-Err-clause-err c =
    reads_no_entry c.self.inside.version c.self.inside.processors c.self.inside.slots c.self.inside.shorts.items c.self.inside.picked.items c.args.self.now c.self.invariant c.self.view_is
    c.args.text.now c.in-Err.fault c.flaw_of.result c.len.result c.requires.some (sym c.in-Err.ensures) c.flaw_of.ensures (c.len.ensures ∙ c.self.inside.shorts.ok.0)
