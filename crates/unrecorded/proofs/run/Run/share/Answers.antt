use Rattle.unrecorded.proofs.Reaching.{shared_did, shared_whole}
use Rattle.unrecorded.proofs.run.Run.share.Goals as goal

pub invariant_of-self : goal.invariant_of-self
invariant_of-self c =
    shared_whole c.self.inside.input.now c.self.inside.activities c.share.new.self c.args.self.now c.args.q c.share.result c.self.view_is c.self.invariant c.share.ensures.stand c.share.ensures.stays c.requires.processor c.share.ensures.did c.share.ensures.err

pub returns-clause-did : goal.returns-clause-did
returns-clause-did c =
    shared_did c.self.inside.input.now c.self.inside.activities c.share.new.self c.args.self.now c.args.q c.share.result c.self.view_is c.share.ensures.stays c.share.ensures.did
