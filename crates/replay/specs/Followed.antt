-- What following a schedule from where activities stand comes to.
use Rattle.activities.specs.Activities.{code_in, point_in}
use Rattle.activities.specs.declared.holding.Activities.{Activities}
use Rattle.schedules.specs.Refusals.{Explains}
use Rattle.schedules.specs.Schedules.{Schedule}
use Rattle.schedules.specs.declared.refusal.ReplayRefusal.{ReplayRefusal}
use Rattle.replay.specs.Making.{LeadsOnly}
use Rattle.replay.specs.Replayed.{NoneLeads, StopsAt}

-- the schedule's entries lead from the old activities to the new ones, and nowhere else
abbrev pub Follows : Schedule → (old new : Activities) → Type 0
Follows x old new =
    LeadsOnly x.version (code_in old) x.slots (point_in old) x.entries (point_in new)

-- the refusal says at which entry the schedule stops
abbrev pub SaysStop : Schedule → Activities → ReplayRefusal → Type 0
SaysStop x a refusal =
    Explains refusal (StopsAt x.version (code_in a) x.slots (point_in a) x.entries)

-- where it isn't for want of memory, the schedule's entries lead nowhere
abbrev pub SaysNoneLead : Schedule → Activities → ReplayRefusal → Type 0
SaysNoneLead x a refusal =
    Explains refusal (λ flaw line. NoneLeads x.version (code_in a) x.slots (point_in a) x.entries)
