use Rattle.std.proofs.Common.{◌+◌, true}
use Rattle.unrecorded.proofs.Reaching.{gone_on, gone_whole}
use Rattle.unrecorded.proofs.run.Run.run_draft.Goals as goal

pub invariant_of-self : goal.invariant_of-self
invariant_of-self c =
    gone_whole true c.self.inside.input.now c.self.inside.activities c.run_draft.new.self c.args.self.now c.args.q (c.run_draft.result.more + c.run_draft.result.followed) c.self.view_is c.self.invariant c.run_draft.ensures.stand c.run_draft.ensures.stays c.requires.processor c.run_draft.ensures.made

pub returns-clause-made : goal.returns-clause-made
returns-clause-made c =
    gone_on true c.self.inside.input.now c.self.inside.activities c.run_draft.new.self c.args.self.now c.args.q (c.run_draft.result.more + c.run_draft.result.followed) c.self.view_is c.run_draft.ensures.stays c.run_draft.ensures.made
