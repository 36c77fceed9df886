use Rattle.schedules.proofs.Bursts.{keeps_bursts, sees_bursts}
use Rattle.schedules.proofs.schedule.Schedule.push_work.Goals as goal

pub invariant_of-self-2 : goal.invariant_of-self-2
invariant_of-self-2 c =
    keeps_bursts c.self.inside.version c.self.inside.processors c.self.inside.slots c.self.inside.shorts.items c.self.inside.picked.items c.args.self.now c.self.invariant c.self.view_is
    c.args.processor c.args.made c.append_bursts.new.shorts.items c.in_ok-append_bursts.ensures.ok c.requires.below

pub returns-clause-ok : goal.returns-clause-ok
returns-clause-ok c =
    sees_bursts c.self.inside.version c.self.inside.processors c.self.inside.slots c.self.inside.shorts.items c.self.inside.picked.items c.args.self.now c.self.invariant c.self.view_is
    c.args.processor c.args.made c.append_bursts.new.shorts.items c.in_ok-append_bursts.ensures.ok

pub returns-clause-kept : goal.returns-clause-kept
returns-clause-kept c = (invariant_of-self-2 c).schedule
