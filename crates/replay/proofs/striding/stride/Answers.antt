use Rattle.std.proofs.Common.{sym}
use Rattle.machine.specs.CodeView.{code_of}
use Rattle.machine.specs.FrameView.{frame_of}
use Rattle.replay.proofs.Strode.{strode, strode_parts}
use Rattle.replay.proofs.striding.stride.Goals as goal

pub returns-clause-did : goal.returns-clause-did
returns-clause-did c =
    strode (code_of c.args.legs.now.code.now) c.args.activities.now c.stride-made.new.self c.args.schedule.now c.cut.new.schedule c.plan.new.schedule c.args.tally.now c.count.new.self c.args.q
    c.stands_at-place.result c.in_ok-planned.planned c.stride-made.result (frame_of c.in-Some.frame.now) c.requires.own c.requires.parts (sym c.in-Some.ensures) c.stands_at-place.ensures c.stride-made.ensures.few
    c.in_ok-planned.ensures.path c.in_ok-planned.ensures.noted c.stride-made.ensures.along c.cut.ensures.left c.count.ensures.made c.count.ensures.again

pub returns-clause-parts : goal.returns-clause-parts
returns-clause-parts c =
    strode_parts c.args.activities.now c.stride-made.new.self c.args.schedule.now c.cut.new.schedule c.args.tally.now c.count.new.self c.args.q c.stride-made.result c.requires.parts c.requires.counted
    (returns-clause-did c) c.stride-made.ensures.stand c.stride-made.ensures.stays c.cut.ensures.kept
