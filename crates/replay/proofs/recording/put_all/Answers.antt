use Rattle.machine.specs.FrameView.{frame_of}
use Rattle.replay.proofs.Bursts.{put_worked}
use Rattle.replay.proofs.recording.put_all.Goals as goal

pub returns-clause-did : goal.returns-clause-did
returns-clause-did c =
    put_worked c.args.activities.now c.put.new.self c.args.schedule.now c.push_work.new.self c.args.tally.now c.count.new.self c.args.q c.args.made (frame_of c.args.to.now)
    c.requires.parts c.requires.holds c.requires.leads c.put.ensures.works c.in_ok-push_work.ensures.ok c.count.ensures.made c.count.ensures.again
