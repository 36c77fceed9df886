use Rattle.activities.specs.Activities.{chosen}
use Rattle.unrecorded.proofs.Reaching.{picked_did, picked_whole}
use Rattle.unrecorded.proofs.run.Run.pick.Goals as goal

pub invariant_of-self : goal.invariant_of-self
invariant_of-self c =
    picked_whole c.self.inside.input.now c.self.inside.activities c.pick.new.self c.args.self.now c.args.q (chosen c.args.choice) c.pick.result c.self.view_is c.self.invariant c.pick.ensures.stand c.pick.ensures.stays c.requires.processor c.pick.ensures.did c.pick.ensures.err

pub returns-clause-did : goal.returns-clause-did
returns-clause-did c =
    picked_did c.self.inside.input.now c.self.inside.activities c.pick.new.self c.args.self.now c.args.q (chosen c.args.choice) c.pick.result c.self.view_is c.pick.ensures.stays c.pick.ensures.did
