-- The lists that a kernel keeps in `Links`: list 0 is the ready list, list 1 the free list, and the
-- events' lists of waiters follow.
use Rattle.std.specs.Prelude.{ℕ, ◌≡◌, ◌+◌, ◌<◌, List, [], ◌∷◌, ◌++◌}
use Rattle.std.specs.Prelude.{length, map, get_or, drop, take}
use Rattle.std.specs.List.{prefix_len, range_with_len}
use Rattle.std.specs.Prelude.{Bool, nat_le, Option, Some, None, if◌then◌else◌}
use Rattle.ready_list.specs.Lists.{Lists, IsLinked, list_at, with_list}
use Rattle.ready_list.specs.declared.links.TheConstants.{LAST}
use Rattle.ec_kernel.specs.View.{View}

-- a slot with its value, as a waiter
abbrev pub waiter : ℕ × ℕ → ℕ × ℕ
waiter x = (x.1, x.0)

-- the slots of a list
abbrev pub slots_of : List (ℕ × ℕ) → List ℕ
slots_of xs = map (λ x. x.0) xs

-- what lists, counts and a ticket are seen as
abbrev pub seen : Lists → List ℕ → ℕ → View
seen x counts ticket = record {
  slots = x.slots;
  counts = counts;
  ticket = ticket;
  waiters = map (λ xs. map waiter xs) (drop 2 x.lists);
  ready = slots_of (list_at x 0);
  free = slots_of (list_at x 1);
}

-- each value of a list is above a count
abbrev pub ValuesAbove : ℕ → List (ℕ × ℕ) → Type 0
ValuesAbove count [] = Unit {0}
ValuesAbove count (x ∷ xs) = (count < x.1) × ValuesAbove count xs

-- What holds of the lists of a kernel: they are linked, and a waiter's value is above its count.
pub record IsKept (x : Lists) (counts : List ℕ) : Type 0 where
  pub lists : length x.lists ≡ 2 + length counts
  pub linked : IsLinked x
  pub above : (e : ℕ) → e < length counts → ValuesAbove (get_or counts e 0) (list_at x (2 + e))

-- a slot as it stands in the ready list and in the free list
abbrev pub at_end : ℕ × ℕ → ℕ × ℕ
at_end x = (x.0, LAST)

-- a count has reached the value of a slot
abbrev pub is_reached : ℕ → ℕ × ℕ → Bool
is_reached count x = nat_le x.1 count

-- how many slots at the front of a list have values that a count has reached
abbrev pub reached_part : ℕ → List (ℕ × ℕ) → ℕ
reached_part count xs = prefix_len (is_reached count) xs

-- that part of list l goes to the end of list 0
abbrev pub woken : Lists → ℕ → ℕ → Lists
woken x l count =
    with_list
    (with_list x l (drop (reached_part count (list_at x l)) (list_at x l)))
    0
    (list_at x 0 ++ map at_end (take (reached_part count (list_at x l)) (list_at x l)))

-- the first slot of a list, if a count has reached its value
abbrev pub due_of : ℕ → List (ℕ × ℕ) → Option ℕ
due_of count [] = None
due_of count (x ∷ xs) = if is_reached count x then Some x.0 else None

-- slots in turn, as they stand in the free list
abbrev pub in_turn : ℕ → List (ℕ × ℕ)
in_turn n = map (λ s. (s, LAST)) (range_with_len 0 n)
