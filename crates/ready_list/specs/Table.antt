-- The table that holds the lists: a node for each slot, then a head for each list. A list is a ring
-- through its head.
use Rattle.std.specs.Prelude.{ℕ, zero, suc, ◌≡◌, ◌+◌, ◌-◌, ◌<◌, ◌≤◌, ◌^◌, nat_lt, if◌then◌else◌}
use Rattle.std.specs.Prelude.{List, [], ◌∷◌, length, map, get_or, set, Some, None}
use Rattle.std.specs.List.{range_with_len}
use Rattle.ready_list.specs.declared.table.Node.{Node}
use Rattle.ready_list.specs.Lists.{Lists, times_in, places_in, InOrder}

abbrev pub blank : Node
blank = record { next = 0; previous = 0; owner = None; value = 0 }

abbrev pub node : List Node → ℕ → Node
node t u = get_or t u blank

-- the slots from u on, up to the next head
abbrev pub walk : ℕ → List Node → ℕ → ℕ → List (ℕ × ℕ)
walk zero t n u = []
walk (suc k) t n u = if nat_lt u n then (u, (node t u).value) ∷ walk k t n (node t u).next else []

-- the lists of a table of n slots
abbrev pub lists_of : List Node → ℕ → List (List (ℕ × ℕ))
lists_of t n = map (λ head. walk n t n (node t head).next) (range_with_len n (length t - n))

-- what a table of n slots is seen as
abbrev pub seen_as : List Node → ℕ → Lists
seen_as t n = record { slots = n; lists = lists_of t n }

-- from u on, the slots of list l follow one another up to its head
abbrev pub Path : List Node → ℕ → ℕ → ℕ → List (ℕ × ℕ) → Type 0
Path t n l u [] = (node t u).next ≡ n + l
Path t n l u (x ∷ xs) =
    ((node t u).next ≡ x.0) × (x.0 < n) × ((node t x.0).owner ≡ Some l)
    × ((node t x.0).value ≡ x.1) × Path t n l x.0 xs

-- a table of n slots holds these lists
pub record Holds (t : List Node) (n : ℕ) (ls : List (List (ℕ × ℕ))) : Type 0 where
  pub countable : n < 2 ^ 64
  pub size : length t ≡ n + length ls
  pub head : (l : ℕ) → l < length ls
      → ((node t (n + l)).owner ≡ Some l) × ((node t (n + l)).value ≡ 0)
  pub path : (l : ℕ) → l < length ls → Path t n l (n + l) (get_or ls l [])
  pub back : (u : ℕ) → u < length t → (node t (node t u).next).previous ≡ u
  pub within : (u : ℕ) → u < length t
      → ((node t u).next < length t) × ((node t u).previous < length t)
  pub free : (s : ℕ) → s < n → (node t s).owner ≡ None
      → (places_in s ls ≡ 0) × ((node t s).next ≡ s) × ((node t s).previous ≡ s)
  pub held : (s l : ℕ) → s < n → (node t s).owner ≡ Some l
      → (l < length ls) × (0 < times_in s (get_or ls l []))
  pub once : (s : ℕ) → places_in s ls ≤ 1
  pub ordered : (l : ℕ) → l < length ls → InOrder (get_or ls l [])
  pub fits : (u : ℕ) → (node t u).value < 2 ^ 128

-- one link of a node changed
abbrev pub with_next : List Node → ℕ → ℕ → List Node
with_next t u v = set t u (record (node t u) { next = v })

abbrev pub with_previous : List Node → ℕ → ℕ → List Node
with_previous t u v = set t u (record (node t u) { previous = v })

-- the node of y written, and y linked in between p and q
abbrev pub joined : List Node → ℕ → ℕ → ℕ → Node → List Node
joined t p q y n = with_previous (with_next (set t y n) p y) q y

-- p and q linked past y, which then stands alone
abbrev pub parted : List Node → ℕ → ℕ → ℕ → List Node
parted t p q y =
    let rest = with_previous (with_next t p q) q p in
    set rest y (record (node rest y) { next = y; previous = y; owner = None })
