use Rattle.machine.specs.CodeView.{code_of}
use Rattle.machine.specs.FrameView.{frame_of}
use Rattle.replay.proofs.Bursts.{whole_worked}
use Rattle.replay.proofs.Onwards.{becomes, is_there, whole_same}
use Rattle.replay.proofs.whole.Core.put_work.Goals as goal

pub put_all-requires-clause-processor : goal.put_all-requires-clause-processor
put_all-requires-clause-processor c =
    is_there c.self.inside.input.now c.self.inside.activities c.self.inside.schedule c.self.inside.tally c.args.self.now c.args.q (frame_of c.args.work.now.from) c.self.invariant.parts c.self.view_is
    c.requires.from.0

pub invariant_of-self : goal.invariant_of-self
invariant_of-self c =
    whole_same c.self.inside.input.now c.self.inside.activities c.put_all.new.activities c.self.inside.schedule c.put_all.new.schedule c.self.inside.tally c.put_all.new.tally c.self.invariant
    c.in-Err.ensures.parts c.in-Err.ensures.stays c.in-Err.ensures.err

pub invariant_of-self-2 : goal.invariant_of-self-2
invariant_of-self-2 c =
    whole_worked c.self.inside.input.now c.self.inside.activities c.put_all.new.activities c.self.inside.schedule c.put_all.new.schedule c.self.inside.tally c.put_all.new.tally
    c.args.q c.args.work.now.made c.self.invariant c.in_default.ensures.parts c.in_default.ensures.stays c.in_default.ensures.did

pub returns-clause-frame : goal.returns-clause-frame
returns-clause-frame c =
    becomes c.self.inside.input.now c.self.inside.activities c.put_all.new.activities c.self.inside.schedule c.put_all.new.schedule c.self.inside.tally c.put_all.new.tally c.args.self.now (code_of c.args.work.now.code.now)
    c.args.q c.args.work.now.made (frame_of c.args.work.now.from) (frame_of c.args.work.now.to) c.self.view_is c.self.invariant.parts c.in_default.ensures.parts c.requires.from
    c.in_default.ensures.did.step (c.args.work.now.leads c.requires.some)
