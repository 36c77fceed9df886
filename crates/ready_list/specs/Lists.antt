-- Lists of slots with values: what callers of `Links` see.
use Rattle.std.specs.Prelude.{ℕ, Option, Some, None, length, ◌+◌, ◌<◌, ◌≤◌, ◌^◌, ◌==◌}
use Rattle.std.specs.Prelude.{if◌then◌else◌, nat_le, List, [], ◌∷◌, get_or, set}

-- the slots have the numbers below `slots`; the lists have the numbers 0, 1, 2, .. in order
pub record Lists : Type 0 where
  pub slots : ℕ
  -- each list from its front, each slot with its value
  pub lists : List (List (ℕ × ℕ))

-- the list of a number
abbrev pub list_at : Lists → ℕ → List (ℕ × ℕ)
list_at x l = get_or x.lists l []

-- all as it was but one list
abbrev pub with_list : Lists → ℕ → List (ℕ × ℕ) → Lists
with_list x l xs = record x { lists = set x.lists l xs }

-- in how many places of a list a slot stands
abbrev pub times_in : ℕ → List (ℕ × ℕ) → ℕ
times_in s [] = 0
times_in s (x ∷ xs) = (if s == x.0 then 1 else 0) + times_in s xs

-- in how many places of several lists a slot stands
abbrev pub places_in : ℕ → List (List (ℕ × ℕ)) → ℕ
places_in s [] = 0
places_in s (xs ∷ rest) = times_in s xs + places_in s rest

-- a slot put behind all of value at most its own
abbrev pub inserted : ℕ × ℕ → List (ℕ × ℕ) → List (ℕ × ℕ)
inserted y [] = y ∷ []
inserted y (x ∷ xs) = if nat_le x.1 y.1 then x ∷ inserted y xs else y ∷ (x ∷ xs)

-- the list without a slot
abbrev pub without : ℕ → List (ℕ × ℕ) → List (ℕ × ℕ)
without s [] = []
without s (x ∷ xs) = if s == x.0 then without s xs else x ∷ without s xs

-- no value is below v
abbrev pub NoneBelow : ℕ → List (ℕ × ℕ) → Type 0
NoneBelow v [] = Unit {0}
NoneBelow v (x ∷ xs) = (v ≤ x.1) × NoneBelow v xs

-- each value is at most all that come later
abbrev pub InOrder : List (ℕ × ℕ) → Type 0
InOrder [] = Unit {0}
InOrder (x ∷ xs) = NoneBelow x.1 xs × InOrder xs

-- the first slot of a list with its value
abbrev pub front_of : List (ℕ × ℕ) → Option (ℕ × ℕ)
front_of [] = None
front_of (x ∷ xs) = Some x

-- no slot stands in two places, slots are in range, and each list is in order of value
pub record IsLinked (x : Lists) : Type 0 where
  pub countable : x.slots < 2 ^ 64
  pub in_range : (s : ℕ) → 0 < places_in s x.lists → s < x.slots
  pub once : (s : ℕ) → places_in s x.lists ≤ 1
  pub ordered : (l : ℕ) → l < length x.lists → InOrder (get_or x.lists l [])
