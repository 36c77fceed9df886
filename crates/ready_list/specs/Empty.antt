-- The table of lists that are all empty.
use Rattle.std.specs.Prelude.{ℕ, ◌≡◌, ◌+◌, ◌<◌, List, length, Some, None}
use Rattle.ready_list.specs.declared.table.Node.{Node}
use Rattle.ready_list.specs.Table.{node}

-- a slot in no list leads to itself
abbrev pub free_slot : ℕ → Node
free_slot s = record { next = s; previous = s; owner = None; value = 0 }

-- the head, at a place, of a list without slots
abbrev pub empty_head : ℕ → ℕ → Node
empty_head place l = record { next = place; previous = place; owner = Some l; value = 0 }

pub record IsEmptyTable (t : List Node) (n m : ℕ) : Type 0 where
  pub size : length t ≡ n + m
  pub slots : (s : ℕ) → s < n → node t s ≡ free_slot s
  pub heads : (l : ℕ) → l < m → node t (n + l) ≡ empty_head (n + l) l
