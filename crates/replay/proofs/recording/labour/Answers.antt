use Rattle.std.proofs.Common.{ℕ, subst}
use Rattle.activities.specs.Activities.{code_in, point_in}
use Rattle.activities.specs.Points.{NoLocal}
use Rattle.replay.proofs.Bursts.{labour_worked}
use Rattle.replay.proofs.recording.labour.Goals as goal

pub returns-clause-did : goal.returns-clause-did
returns-clause-did c =
    labour_worked c.args.activities.now c.labour-made.new.self c.args.schedule.now c.recount.new.self c.args.tally.now c.count.new.self c.args.q c.labour-made.result
    c.requires.parts c.labour-made.ensures.made (c.recount.ensures.last _ _ _ c.in_ok-push.ensures.ok) c.count.ensures.made c.count.ensures.again

pub returns-clause-all : goal.returns-clause-all
returns-clause-all c l = subst (λ (s : ℕ). NoLocal (code_in c.args.activities.now) s (point_in c.labour-made.new.self) c.args.q) c.requires.parts.are.slots (c.labour-made.ensures.all l)
