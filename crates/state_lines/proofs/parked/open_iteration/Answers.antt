use Rattle.std.proofs.Common.{◌∙◌, sym}
use Rattle.activities.specs.Activities.{kept_in}
use Rattle.state_lines.proofs.Seen.{stands_at}
use Rattle.state_lines.proofs.parked.open_iteration.Goals as goal

pub returns : goal.returns
returns c = c.iteration_in.ensures ∙ sym (stands_at (kept_in c.args.activities.now).iterations c.args.activities.now.slots c.args.k)
