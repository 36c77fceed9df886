use Rattle.schedules.proofs.Parsing.{keeps_pick, sees_pick}
use Rattle.schedules.proofs.schedule.Schedule.push_pick.Goals as goal

pub invariant_of-self-in-Ok : goal.invariant_of-self-in-Ok
invariant_of-self-in-Ok c =
    keeps_pick c.self.inside.version c.self.inside.processors c.self.inside.slots c.self.inside.shorts.items c.self.inside.picked.items c.args.self.now c.self.invariant c.self.view_is
    c.args.processor c.args.iteration c.push-2.new.self.items c.push.new.self.items c.in-Ok.ensures.items c.in_ok-push.ensures.items c.requires.below c.requires.allowed

pub returns-in-Ok-clause-ok : goal.returns-in-Ok-clause-ok
returns-in-Ok-clause-ok c =
    sees_pick c.self.inside.version c.self.inside.processors c.self.inside.slots c.self.inside.shorts.items c.self.inside.picked.items c.args.self.now c.self.invariant c.self.view_is
    c.args.processor c.args.iteration c.push-2.new.self.items c.push.new.self.items c.in-Ok.ensures.items c.in_ok-push.ensures.items

pub returns-in-Ok-clause-kept : goal.returns-in-Ok-clause-kept
returns-in-Ok-clause-kept c = (invariant_of-self-in-Ok c).schedule
