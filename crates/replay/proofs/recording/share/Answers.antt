use Rattle.std.proofs.Common.{arith}
use Rattle.activities.specs.Activities.{who}
use Rattle.replay.proofs.Recorded.{share_more, share_none}
use Rattle.std.proofs.lemmas.Grind.{common_steps}
use Rattle.replay.proofs.recording.share.Goals as goal

pub returns-in-Ok-true-clause-did : goal.returns-in-Ok-true-clause-did
returns-in-Ok-true-clause-did c =
    share_more c.args.activities.now c.share.new.self c.args.schedule.now c.push.new.self c.args.tally.now c.count.new.self c.args.q (who c.args.holder) c.is_parked-parked.result
    c.requires.parts c.requires.holds (rw c.in-Ok-true.field-0-test at c.in-Ok-true.ensures.did) c.in_ok-push.ensures.ok c.is_parked-parked.ensures c.count.ensures.made c.count.ensures.again

pub returns-in-Ok-false-clause-did : goal.returns-in-Ok-false-clause-did
returns-in-Ok-false-clause-did c =
    let did = rw c.in-Ok-false.field-0-test at c.in-Ok-false.ensures.did in
    share_none c.args.activities.now c.share.new.self c.args.schedule.now c.take_back.new.self c.args.tally.now c.args.q c.requires.parts did.0 did.1 (c.take_back.ensures.last _ _ c.in_ok-push.ensures.ok)

pub returns-in-Ok-true-clause-parts : goal.returns-in-Ok-true-clause-parts
returns-in-Ok-true-clause-parts c = grind (arith, common_steps)
