use Rattle.std.proofs.Common.{arith}
use Rattle.machine.specs.FrameView.{frame_of}
use Rattle.replay.proofs.Recorded.{put_more}
use Rattle.std.proofs.lemmas.Grind.{common_steps}
use Rattle.replay.proofs.recording.put.Goals as goal

pub returns-clause-did : goal.returns-clause-did
returns-clause-did c =
    put_more c.args.activities.now c.put.new.self c.args.schedule.now c.push.new.self c.args.tally.now c.count.new.self c.args.q c.args.made (frame_of c.args.to)
    c.requires.parts c.requires.holds c.requires.leads c.put.ensures.works c.in_ok-push.ensures.ok c.count.ensures.made c.count.ensures.again

pub returns-clause-parts : goal.returns-clause-parts
returns-clause-parts c = grind (arith, common_steps)
