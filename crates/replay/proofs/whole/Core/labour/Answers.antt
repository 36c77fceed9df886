use Rattle.std.proofs.Common.{sym, ◌∙◌}
use Rattle.replay.specs.CoreView.{point_at}
use Rattle.replay.proofs.Bursts.{none_added, none_ended, none_local, none_seen, whole_worked}
use Rattle.replay.proofs.Onwards.{has_ended, not_there, whole_same}
use Rattle.replay.proofs.whole.Core.labour.Goals as goal

pub returns-then-is_some-clause-made : goal.returns-then-is_some-clause-made
returns-then-is_some-clause-made c = none_added c.args.self.now c.args.q

pub returns-then-is_some-clause-all : goal.returns-then-is_some-clause-all
returns-then-is_some-clause-all c l =
    let ended = has_ended c.self.inside.input.now c.self.inside.activities c.self.inside.schedule c.args.self.now c.self.view_is (sym c.is_some.ensures ∙ c.if-is_some.true) in
    none_ended c.args.self.now.code c.args.self.now.schedule.slots c.args.q (point_at c.args.self.now) ended.0 ended.1

pub returns-then-q-len-clause-made : goal.returns-then-q-len-clause-made
returns-then-q-len-clause-made c = none_added c.args.self.now c.args.q

pub returns-then-q-len-clause-all : goal.returns-then-q-len-clause-all
returns-then-q-len-clause-all c l =
    none_local c.args.self.now.code c.args.self.now.schedule.slots c.args.q (point_at c.args.self.now)
    (not_there c.self.inside.input.now c.self.inside.activities c.self.inside.schedule c.args.self.now c.args.q c.len.result c.self.view_is (c.len.ensures ∙ c.self.inside.activities.held.ok.0) c.if-q-len.true)

pub invariant_of-self : goal.invariant_of-self
invariant_of-self c =
    whole_same c.self.inside.input.now c.self.inside.activities c.labour.new.activities c.self.inside.schedule c.labour.new.schedule c.self.inside.tally c.labour.new.tally c.self.invariant
    c.in-Err.ensures.parts c.in-Err.ensures.stays c.in-Err.ensures.err

pub invariant_of-self-2 : goal.invariant_of-self-2
invariant_of-self-2 c =
    whole_worked c.self.inside.input.now c.self.inside.activities c.labour.new.activities c.self.inside.schedule c.labour.new.schedule c.self.inside.tally c.labour.new.tally
    c.args.q c.in-Ok.made c.self.invariant c.in-Ok.ensures.parts c.in-Ok.ensures.stays c.in-Ok.ensures.did

pub returns-clause-all : goal.returns-clause-all
returns-clause-all c l =
    none_seen c.self.inside.input.now c.self.inside.activities c.labour.new.activities c.self.inside.schedule c.labour.new.schedule c.self.inside.tally c.labour.new.tally
    c.args.q c.in-Ok.made c.in-Ok.ensures.parts c.in-Ok.ensures.stays c.in-Ok.ensures.did (c.in-Ok.ensures.all l)
