use Rattle.machine.specs.CodeView.{code_of}
use Rattle.machine.specs.FrameView.{frame_of}
use Rattle.schedules.specs.Schedules.{works}
use Rattle.replay.proofs.Onwards.{becomes, is_there, whole_more, whole_same}
use Rattle.replay.proofs.whole.Core.put.Goals as goal

pub put-requires-clause-processor : goal.put-requires-clause-processor
put-requires-clause-processor c =
    is_there c.self.inside.input.now c.self.inside.activities c.self.inside.schedule c.self.inside.tally c.args.self.now c.args.q (frame_of c.args.done.from) c.self.invariant.parts c.self.view_is
    c.requires.from.0

pub invariant_of-self : goal.invariant_of-self
invariant_of-self c =
    whole_same c.self.inside.input.now c.self.inside.activities c.put.new.activities c.self.inside.schedule c.put.new.schedule c.self.inside.tally c.put.new.tally c.self.invariant
    c.in-Err.ensures.parts c.in-Err.ensures.stays c.in-Err.ensures.err

pub invariant_of-self-2 : goal.invariant_of-self-2
invariant_of-self-2 c =
    let more = c.in_default.ensures.did in
    whole_more c.self.inside.input.now c.self.inside.activities c.put.new.activities c.self.inside.schedule c.put.new.schedule c.self.inside.tally c.put.new.tally
    (record { processor = c.args.q; act = works c.made-made.result }) c.self.invariant c.in_default.ensures.parts c.in_default.ensures.stays more.step more.schedule more.tally

pub returns-clause-frame : goal.returns-clause-frame
returns-clause-frame c =
    becomes c.self.inside.input.now c.self.inside.activities c.put.new.activities c.self.inside.schedule c.put.new.schedule c.self.inside.tally c.put.new.tally c.args.self.now (code_of c.args.done.code.now)
    c.args.q c.made-made.result (frame_of c.args.done.from) (frame_of c.args.done.to) c.self.view_is c.self.invariant.parts c.in_default.ensures.parts c.requires.from
    c.in_default.ensures.did.step c.made-made.ensures.leads
