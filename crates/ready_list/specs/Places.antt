-- Where a value belongs in a list of the table.
use Rattle.std.specs.Prelude.{ℕ, ◌≡◌, ◌+◌, ◌<◌, ◌≤◌, List, [], ◌∷◌, ◌++◌, get_or}
use Rattle.ready_list.specs.declared.table.Node.{Node}
use Rattle.ready_list.specs.Table.{lists_of}

-- the last slot of a list, or u where it has none
abbrev pub last_of : ℕ → List (ℕ × ℕ) → ℕ
last_of u [] = u
last_of u (x ∷ xs) = last_of x.0 xs

-- no value is above v
abbrev pub NoneAbove : ℕ → List (ℕ × ℕ) → Type 0
NoneAbove v [] = Unit {0}
NoneAbove v (x ∷ xs) = (x.1 ≤ v) × NoneAbove v xs

-- each value is above v
abbrev pub AllAbove : ℕ → List (ℕ × ℕ) → Type 0
AllAbove v [] = Unit {0}
AllAbove v (x ∷ xs) = (v < x.1) × AllAbove v xs

-- p ends the part of list l whose values are at most v; it is the list's head where that is empty
pub record IsPlaceFor (t : List Node) (n l v p : ℕ) : Type 0 where
  pub front : List (ℕ × ℕ)
  pub back : List (ℕ × ℕ)
  pub split : get_or (lists_of t n) l [] ≡ front ++ back
  pub last : p ≡ last_of (n + l) front
  pub low : NoneAbove v front
  pub high : AllAbove v back
