use Rattle.unrecorded.proofs.Reaching.{gone_on, gone_whole}
use Rattle.unrecorded.proofs.run.Run.proceed.Goals as goal

pub invariant_of-self : goal.invariant_of-self
invariant_of-self c =
    gone_whole c.args.begins c.self.inside.input.now c.self.inside.activities c.proceed.new.self c.args.self.now c.args.q c.proceed.result c.self.view_is c.self.invariant c.proceed.ensures.stand c.proceed.ensures.stays c.requires.processor c.proceed.ensures.made

pub returns-clause-proceeds : goal.returns-clause-proceeds
returns-clause-proceeds c = gone_on c.args.begins c.self.inside.input.now c.self.inside.activities c.proceed.new.self c.args.self.now c.args.q c.proceed.result c.self.view_is c.proceed.ensures.stays c.proceed.ensures.made
