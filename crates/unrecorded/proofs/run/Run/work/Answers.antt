use Rattle.unrecorded.proofs.Reaching.{no_local_seen, worked_drives, worked_whole}
use Rattle.unrecorded.proofs.run.Run.work.Goals as goal

pub invariant_of-self : goal.invariant_of-self
invariant_of-self c =
    worked_whole c.self.inside.input.now c.self.inside.activities c.labour.new.self c.args.self.now c.args.q c.labour.result c.self.view_is c.self.invariant c.labour.ensures.stand c.labour.ensures.stays c.requires.processor c.labour.ensures.made

pub returns-clause-drives : goal.returns-clause-drives
returns-clause-drives c =
    worked_drives c.self.inside.input.now c.self.inside.activities c.labour.new.self c.args.self.now c.args.q c.labour.result c.self.view_is c.labour.ensures.stays c.labour.ensures.made

pub returns-clause-all : goal.returns-clause-all
returns-clause-all c =
    λ l. no_local_seen c.self.inside.input.now c.self.inside.activities c.labour.new.self c.args.self.now c.args.q c.self.view_is (c.labour.ensures.all l)
