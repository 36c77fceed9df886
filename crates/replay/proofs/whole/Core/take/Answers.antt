use Rattle.schedules.specs.declared.entry.Version.TheVariants.{Second}
use Rattle.activities.specs.Activities.{chosen, code_in, point_in}
use Rattle.replay.specs.Making.{pick_of}
use Rattle.replay.proofs.Alone.{named_pick}
use Rattle.replay.proofs.Onwards.{whole_more}
use Rattle.replay.proofs.whole.Core.take.Goals as goal

pub invariant_of-self-then-went : goal.invariant_of-self-then-went
invariant_of-self-then-went c =
    let more = rw c.if-went.true at c.in-Ok.ensures.did in
    whole_more c.self.inside.input.now c.self.inside.activities c.pick.new.activities c.self.inside.schedule c.pick.new.schedule c.self.inside.tally c.pick.new.tally
    (record { processor = c.args.q; act = pick_of (chosen c.args.choice) }) c.self.invariant c.in-Ok.ensures.parts c.in-Ok.ensures.stays
    (named_pick (code_in c.self.inside.activities) c.self.inside.schedule.slots Second (chosen c.args.choice) (point_in c.self.inside.activities) c.args.q (point_in c.pick.new.activities) more.step)
    more.schedule more.tally
