use Rattle.activities.specs.Activities.{code_in, point_in}
use Rattle.replay.proofs.Followed.{names_itself}
use Rattle.replay.proofs.upgrading.as_it_is.Goals as goal

pub returns-in_ok-try_copy-in-Ok-clause-found : goal.returns-in_ok-try_copy-in-Ok-clause-found
returns-in_ok-try_copy-in-Ok-clause-found c =
    names_itself (code_in c.args.activities.now) (point_in c.args.activities.now) (point_in c.follow.new.activities) c.args.schedule.now c.in_ok-try_copy-in-Ok.field-0
    c.requires.second c.in_ok-try_copy-in-Ok.ensures c.in-Ok.ensures.leads
