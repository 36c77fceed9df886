use Rattle.unrecorded.proofs.Reaching.{driven, driven_whole}
use Rattle.unrecorded.proofs.run.Run.commit.Goals as goal

pub invariant_of-self : goal.invariant_of-self
invariant_of-self c =
    driven_whole c.self.inside.input.now c.self.inside.activities c.commit.new.self c.args.self.now c.args.q c.commit.result c.self.view_is c.self.invariant c.commit.ensures.stand c.commit.ensures.stays c.requires.processor c.commit.ensures.made

pub returns-clause-drives : goal.returns-clause-drives
returns-clause-drives c =
    driven c.self.inside.input.now c.self.inside.activities c.commit.new.self c.args.self.now c.args.q c.commit.result c.self.view_is c.commit.ensures.stays c.commit.ensures.made
