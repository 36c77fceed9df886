use Rattle.machine.specs.CodeView.{code_of}
use Rattle.machine.specs.FrameView.{frame_of}
use Rattle.unrecorded.proofs.Reaching.{put_works, worked, worked_whole}
use Rattle.unrecorded.proofs.run.Run.put.Goals as goal

pub invariant_of-self : goal.invariant_of-self
invariant_of-self c =
    worked_whole c.self.inside.input.now c.self.inside.activities c.put.new.self c.args.self.now c.args.q c.args.work.now.made c.self.view_is c.self.invariant c.put.ensures.stand c.put.ensures.stays c.requires.processor
    (put_works c.self.inside.input.now c.self.inside.activities c.put.new.self c.args.self.now (code_of c.args.work.now.code.now) c.args.q c.args.work.now.made (frame_of c.args.work.now.from) (frame_of c.args.work.now.to)
    c.self.view_is c.requires.own c.requires.from (c.args.work.now.leads c.requires.some) c.put.ensures.works)

pub returns-clause-made : goal.returns-clause-made
returns-clause-made c = (
  c.requires.going,
  c.requires.from,
  worked c.self.inside.input.now c.self.inside.activities c.put.new.self c.args.self.now c.args.q c.args.work.now.made c.self.view_is c.put.ensures.stays
      (put_works c.self.inside.input.now c.self.inside.activities c.put.new.self c.args.self.now (code_of c.args.work.now.code.now) c.args.q c.args.work.now.made (frame_of c.args.work.now.from) (frame_of c.args.work.now.to)
      c.self.view_is c.requires.own c.requires.from (c.args.work.now.leads c.requires.some) c.put.ensures.works),
)
