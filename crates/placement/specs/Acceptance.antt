-- What placement promises the check of plans.
use Rattle.std.specs.Prelude.{◌≡◌, ◌<◌, ℕ, true, List}
use Rattle.dependence.specs.Kept.{EligibleIn}
use Rattle.dependence.specs.Plan.{PlanTree}
use Rattle.loop_tree.specs.Loops.{IsWhole, Loop, has_cell}
use Rattle.loop_tree.specs.Told.{are_in_turn, are_told, known, references}
use Rattle.placement.specs.Placement.{IsPlacedBody}
use Rattle.plan_check.specs.Checking.{Checked}

-- The check accepts each plan that is placed for a loop that may be open, where so many cells are
-- enough for the scalars that its range gives values.
abbrev pub IsAccepted : Type 0
IsAccepted =
    (cells : ℕ) (l : Loop) (p : PlanTree) (around : List Loop)
    → IsWhole l → are_in_turn (references l.references) ≡ true → are_told (known l) ≡ true
    → ((c : ℕ) → has_cell c l.assigned ≡ true → c < cells)
    → EligibleIn l around → IsPlacedBody l p → Checked cells l p
