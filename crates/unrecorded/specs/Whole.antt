-- What always holds of a run without a record.
use Rattle.std.specs.Prelude.{ℕ, List, length}
use Rattle.activities.specs.Activities.{AreActivities, code_in, kept_in, point_in}
use Rattle.activities.specs.declared.holding.Activities.{Activities}
use Rattle.unrecorded.specs.View.{IsReached, RunView}

-- A run of the machine leads to where its activities stand.
pub record IsWhole (input : List ℕ) (a : Activities) : Type 0 where
  pub stand : AreActivities a
  pub reached : IsReached (code_in a) input (length a.held.items) a.slots (point_in a).machine

-- what a run of these parts is seen as
abbrev pub seen_as : List ℕ → Activities → RunView
seen_as input a = record {
  code = code_in a;
  input = input;
  processors = length a.held.items;
  slots = a.slots;
  kept = kept_in a;
}
