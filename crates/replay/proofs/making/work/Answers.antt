use Rattle.activities.specs.Activities.{code_in, point_in}
use Rattle.replay.proofs.Alone.{made_work}
use Rattle.replay.proofs.making.work.Goals as goal

pub returns-then-work-clause-made : goal.returns-then-work-clause-made
returns-then-work-clause-made c =
    made_work c.args.version (code_in c.args.activities.now) c.args.activities.now.slots c.args.count (point_in c.args.activities.now) c.args.q (point_in c.work.new.self)
    c.requires.allowed (rw c.from.ensures at (c.work.ensures.went c.if-work.true))
