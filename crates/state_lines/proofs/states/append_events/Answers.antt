use Rattle.std.proofs.Common.{◌≡◌, ◌++◌, List, ℕ, subst, sym}
use Rattle.std.specs.Prelude.{OnOk}
use Rattle.activities.specs.Activities.{point_in}
use Rattle.state_lines.proofs.Seen.{events_shown}
use Rattle.state_lines.proofs.states.append_events.Goals as goal

pub returns : goal.returns
returns c =
    subst (λ (t : List ℕ). OnOk c.append_counts.result (c.append_counts.new.out.items ≡ c.args.out.now.items ++ t)) (sym (events_shown (point_in c.args.activities.now).machine)) c.append_counts.ensures
