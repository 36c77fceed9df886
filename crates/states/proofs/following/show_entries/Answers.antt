use Rattle.std.proofs.Common.{ℕ, length, subst}
use Rattle.std.specs.Io.KnownBytes.{Appends}
use Rattle.schedules.specs.Kept.{entries_of}
use Rattle.schedules.specs.View.{act, entry}
use Rattle.activities.specs.Activities.{code_in, point_in}
use Rattle.state_lines.specs.States.{block}
use Rattle.states.specs.Followed.{Falls}
use Rattle.states.proofs.Showing.{fallen, halted, shows_on}
use Rattle.states.proofs.following.show_entries.Goals as goal

pub loop-entry-preserved : goal.loop-entry-preserved
loop-entry-preserved g c =
    shows_on c.args.schedule.now c.args.activities.now c.loop-entry.activities c.make_at.new.activities
    (entries_of c.loop-entry.entries.shorts.now c.loop-entry.entries.picked.now) (entries_of c.next.new.self.shorts.now c.next.new.self.picked.now) (entry c.in-Some.entry) c.loop-entry.line (act c.in_default-make_at.field-0)
    (g.W.Write.contents c.args.out.now) (g.W.Write.contents c.loop-entry.out) (g.W.Write.contents c.show_entry.new.out)
    c.requires.of c.loop-entry.invariant c.in-Some.ensures.some (rw c.version-version.ensures at c.in_default-make_at.ensures.made) c.in_default-make_at.ensures.stand c.in_default-make_at.ensures.stays
    (subst (λ (k : ℕ). Appends (g.W.Write.contents c.loop-entry.out) (g.W.Write.contents c.show_entry.new.out)
    (block (code_in c.make_at.new.activities) (length c.make_at.new.activities.held.items) c.loop-entry.line (entry c.in-Some.entry) k (point_in c.make_at.new.activities)))
    c.gone_out-before.ensures c.in_default-show_entry.ensures.ok)

pub returns-in-Err-clause-halted : goal.returns-in-Err-clause-halted
returns-in-Err-clause-halted g c =
    halted c.in-Err.refusal c.args.schedule.now c.version-version.result c.args.activities.now c.loop-entry.activities
    (entries_of c.loop-entry.entries.shorts.now c.loop-entry.entries.picked.now) (entries_of c.next.new.self.shorts.now c.next.new.self.picked.now) (entry c.in-Some.entry) c.loop-entry.line
    (g.W.Write.contents c.args.out.now) (g.W.Write.contents c.loop-entry.out)
    c.version-version.ensures c.requires.of c.loop-entry.invariant c.in-Some.ensures.some c.in-Err.ensures.refused

pub returns-in-Err-show_entry-clause-halted : goal.returns-in-Err-show_entry-clause-halted
returns-in-Err-show_entry-clause-halted g c =
    fallen c.in-Err-show_entry.halt c.args.schedule.now c.args.activities.now c.loop-entry.activities c.make_at.new.activities
    (entries_of c.loop-entry.entries.shorts.now c.loop-entry.entries.picked.now) (entries_of c.next.new.self.shorts.now c.next.new.self.picked.now) (entry c.in-Some.entry) c.loop-entry.line (act c.in_default-make_at.field-0)
    (g.W.Write.contents c.args.out.now) (g.W.Write.contents c.loop-entry.out) (g.W.Write.contents c.show_entry.new.out)
    c.requires.of c.loop-entry.invariant c.in-Some.ensures.some (rw c.version-version.ensures at c.in_default-make_at.ensures.made) c.in_default-make_at.ensures.stays
    (subst (λ (k : ℕ). Falls (g.W.Write.contents c.loop-entry.out) (g.W.Write.contents c.show_entry.new.out)
    (block (code_in c.make_at.new.activities) (length c.make_at.new.activities.held.items) c.loop-entry.line (entry c.in-Some.entry) k (point_in c.make_at.new.activities)) c.in-Err-show_entry.halt)
    c.gone_out-before.ensures c.in-Err-show_entry.ensures.err)
