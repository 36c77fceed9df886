use Rattle.std.proofs.Common.{ap, ◌+◌, ◌∙◌, Bool, arith}
use Rattle.std.specs.Prelude.{if◌then◌else◌}
use Rattle.schedules.specs.Schedules.{Act, with_entry}
use Rattle.activities.specs.Activities.{chosen}
use Rattle.replay.proofs.Recorded.{pick_more}
use Rattle.std.proofs.lemmas.Grind.{common_steps}
use Rattle.replay.proofs.recording.pick.Goals as goal

pub returns-in-Ok-true-clause-did : goal.returns-in-Ok-true-clause-did
returns-in-Ok-true-clause-did c =
    pick_more c.args.activities.now c.pick.new.self c.args.schedule.now c.push.new.self c.args.tally.now c.count.new.self c.args.q (chosen c.args.choice)
    c.requires.parts (rw c.in-Ok-true.field-0-test at c.in-Ok-true.ensures.did)
    (c.in_ok-push.ensures.ok ∙ ap (λ (a : Act). with_entry c.args.schedule.now (record { processor = c.args.q; act = a })) c.pick_of.ensures.is)
    c.count.ensures.made (c.count.ensures.again ∙ ap (λ (b : Bool). c.args.tally.now.again + (if b then 1 else 0)) c.was_parked.ensures)

pub returns-in-Ok-true-clause-parts : goal.returns-in-Ok-true-clause-parts
returns-in-Ok-true-clause-parts c = grind (arith, common_steps)
