use Rattle.std.proofs.Common.{arith}
use Rattle.schedules.specs.Kept.{entries_of}
use Rattle.schedules.specs.View.{act, entry}
use Rattle.activities.specs.Activities.{code_in, point_in}
use Rattle.replay.proofs.Followed.{follows_on, lines_left, refused_nowhere, refused_stop}
use Rattle.replay.proofs.following.follow.Goals as goal

pub overflow_add-line : goal.overflow_add-line
overflow_add-line c =
    let left = lines_left c.args.schedule.now.version (code_in c.args.activities.now) c.args.schedule.now.slots (point_in c.args.activities.now) c.args.schedule.now.entries
    (entries_of c.loop-entry.entries.shorts.now c.loop-entry.entries.picked.now) c.loop-entry.line (point_in c.loop-entry.activities) c.loop-entry.invariant.0 in
    omega (arith, left, c.entries-entries.ensures.few)

pub loop-entry-preserved : goal.loop-entry-preserved
loop-entry-preserved c =
    follows_on c.args.schedule.now.version c.args.schedule.now.processors c.args.schedule.now.slots c.args.schedule.now.entries c.args.activities.now c.loop-entry.activities c.make_at.new.activities
    (entries_of c.loop-entry.entries.shorts.now c.loop-entry.entries.picked.now) (entries_of c.next.new.self.shorts.now c.next.new.self.picked.now) (entry c.in-Some.entry) c.loop-entry.line (act c.in_default-make_at.field-0)
    c.requires.of.slots c.loop-entry.invariant c.in-Some.ensures.some (rw c.version-version.ensures at c.in_default-make_at.ensures.made) c.in_default-make_at.ensures.stand c.in_default-make_at.ensures.stays

pub returns-in-Err-clause-refused : goal.returns-in-Err-clause-refused
returns-in-Err-clause-refused c =
    refused_stop c.in-Err.refusal c.args.schedule.now.version c.version-version.result c.args.schedule.now.processors c.args.schedule.now.slots c.args.schedule.now.entries c.args.activities.now c.loop-entry.activities
    (entries_of c.loop-entry.entries.shorts.now c.loop-entry.entries.picked.now) (entries_of c.next.new.self.shorts.now c.next.new.self.picked.now) (entry c.in-Some.entry) c.loop-entry.line
    c.version-version.ensures c.requires.of.slots c.loop-entry.invariant c.in-Some.ensures.some c.in-Err.ensures.refused

pub returns-in-Err-clause-only : goal.returns-in-Err-clause-only
returns-in-Err-clause-only c =
    refused_nowhere c.in-Err.refusal c.args.schedule.now.version c.version-version.result c.args.schedule.now.processors c.args.schedule.now.slots c.args.schedule.now.entries c.args.activities.now c.loop-entry.activities
    (entries_of c.loop-entry.entries.shorts.now c.loop-entry.entries.picked.now) (entries_of c.next.new.self.shorts.now c.next.new.self.picked.now) (entry c.in-Some.entry) c.loop-entry.line
    c.version-version.ensures c.requires.of.slots c.loop-entry.invariant c.in-Some.ensures.some c.in-Err.ensures.refused
