use Rattle.unrecorded.proofs.Reaching.{laboured, worked_whole}
use Rattle.unrecorded.proofs.run.Run.labour.Goals as goal

pub invariant_of-self : goal.invariant_of-self
invariant_of-self c =
    worked_whole c.self.inside.input.now c.self.inside.activities c.labour.new.self c.args.self.now c.args.q c.labour.result c.self.view_is c.self.invariant c.labour.ensures.stand c.labour.ensures.stays c.requires.processor c.labour.ensures.made

pub returns : goal.returns
returns c =
    laboured c.self.inside.input.now c.self.inside.activities c.labour.new.self c.args.self.now c.args.q c.labour.result c.self.view_is c.labour.ensures.stays c.labour.ensures.made c.labour.ensures.all c.labour.ensures.few
