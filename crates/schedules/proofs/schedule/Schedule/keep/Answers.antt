use Rattle.schedules.proofs.Parsing.{keeps_one, sees_one}
use Rattle.schedules.proofs.schedule.Schedule.keep.Goals as goal

pub invariant_of-self-2 : goal.invariant_of-self-2
invariant_of-self-2 c =
    keeps_one c.self.inside.version c.self.inside.processors c.self.inside.slots c.self.inside.shorts.items c.self.inside.picked.items c.args.self.now c.self.invariant c.self.view_is
    c.args.short c.push.new.self.items c.requires.plain c.in_ok-push.ensures.items c.requires.below c.requires.allowed

pub returns-clause-ok : goal.returns-clause-ok
returns-clause-ok c =
    sees_one c.self.inside.version c.self.inside.processors c.self.inside.slots c.self.inside.shorts.items c.self.inside.picked.items c.args.self.now c.self.invariant c.self.view_is
    c.args.short c.push.new.self.items c.requires.plain c.in_ok-push.ensures.items

pub returns-clause-kept : goal.returns-clause-kept
returns-clause-kept c = (invariant_of-self-2 c).schedule
