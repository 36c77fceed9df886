-- An account of the code: what is noted of loops, one after another.
use Rattle.std.specs.Prelude.{◌≡◌, ◌<◌, ℕ, Bool, false, List, ◌∷◌}
use Rattle.std.specs.Prelude.{length, Option, Some, None, slice_get}
use Rattle.loop_tree.specs.Loops.{Loop, loop_numbered}
use Rattle.placement.specs.Judged.{IsInside}
use Rattle.placement.specs.Placement.{loops_around}

-- the loop around a loop comes before it
abbrev pub AreNested : List Loop → Type 0
AreNested all = (n m : ℕ) (l : Loop) → loop_numbered all n ≡ Some l → l.around ≡ Some m → m < n

abbrev pub is_true_or_none : Option Bool → Bool
is_true_or_none None = false
is_true_or_none (Some b) = b

-- what is noted of the loop of a number; nothing of none
abbrev pub is_noted : List Bool → Option ℕ → Bool
is_noted noted None = false
is_noted noted (Some n) = is_true_or_none (slice_get noted n)

-- of each loop so far it is noted, by its number, whether it or one around it may be open
pub record AreNoted (all : List Loop) (noted : List Bool) : Type 0 where
  pub none : slice_get noted 0 ≡ Some false
  pub each : (n : ℕ) (l : Loop) → n < length noted → loop_numbered all n ≡ Some l
      → IsInside (l ∷ loops_around all l) (is_noted noted (Some n))
