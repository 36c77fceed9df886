-- The kernel as its callers see it.
use Rattle.std.specs.Prelude.{ℕ, ◌≡◌, ◌+◌, ◌<◌, ◌≤◌, ◌==◌, if◌then◌else◌, nat_le}
use Rattle.std.specs.Prelude.{List, [], ◌∷◌, ◌++◌, Option, Some, None, length}
use Rattle.std.specs.Prelude.{map, get_or, set, drop, replicate, take, Bool}
use Rattle.std.specs.List.{range_with_len, prefix_len}

-- a waiter is a value, at which it wakes, and a slot
pub record View : Type 0 where
  -- slots have the numbers below this
  pub slots : ℕ
  -- the count of each event, which has the number of its place
  pub counts : List ℕ
  -- the ticket that is given next
  pub ticket : ℕ
  -- the waiters of each event, by value and then arrival
  pub waiters : List (List (ℕ × ℕ))
  -- the slots that have woken, the first to wake first
  pub ready : List ℕ
  -- the slots that may be taken
  pub free : List ℕ

-- the count of an event
abbrev pub count_at : View → ℕ → ℕ
count_at k e = get_or k.counts e 0

-- the waiters of an event
abbrev pub waiters_at : View → ℕ → List (ℕ × ℕ)
waiters_at k e = get_or k.waiters e []

-- in how many places of a list a slot stands
abbrev pub times : ℕ → List ℕ → ℕ
times s [] = 0
times s (x ∷ xs) = (if s == x then 1 else 0) + times s xs

-- in how many places a slot waits
abbrev pub times_waiting : ℕ → List (List (ℕ × ℕ)) → ℕ
times_waiting s [] = 0
times_waiting s (ws ∷ rest) = times s (map (λ w. w.1) ws) + times_waiting s rest

-- in how many places a slot stands
abbrev pub places : ℕ → View → ℕ
places s k = times_waiting s k.waiters + (times s k.ready + times s k.free)

-- a slot that has been taken: it is in no place, and may be parked or given back
abbrev pub StandsNowhere : View → ℕ → Type 0
StandsNowhere k s = (s < k.slots) × (places s k ≡ 0)

-- nobody waits
abbrev pub NoWaiter : List (List (ℕ × ℕ)) → Type 0
NoWaiter [] = Unit {0}
NoWaiter (ws ∷ rest) = (ws ≡ []) × NoWaiter rest

-- a new kernel: nothing has happened, and all slots are free
abbrev pub new_kernel : ℕ → ℕ → View
new_kernel slots events = record {
  slots = slots;
  counts = replicate events 0;
  ticket = 0;
  waiters = replicate events [];
  ready = [];
  free = range_with_len 0 slots;
}

-- a waiter takes its place behind all of at most its value
abbrev pub queued : ℕ × ℕ → List (ℕ × ℕ) → List (ℕ × ℕ)
queued w [] = w ∷ []
queued w (x ∷ xs) = if nat_le x.0 w.0 then x ∷ queued w xs else w ∷ (x ∷ xs)

-- slot s waits for event e to reach the value v
abbrev pub parked : View → ℕ → ℕ → ℕ → View
parked k e v s = record k { waiters = set k.waiters e (queued (v, s) (waiters_at k e)) }

-- whether a count has reached a waiter's value
abbrev pub reached_by : ℕ → ℕ × ℕ → Bool
reached_by count w = nat_le w.0 count

-- how many waiters of an event wake at its next advance: the front part whose values it reaches
abbrev pub wakes : View → ℕ → ℕ
wakes k e = prefix_len (reached_by (count_at k e + 1)) (waiters_at k e)

-- the count grows by one, and those that wake go in order to the end of the ready list
abbrev pub advanced : View → ℕ → View
advanced k e = record k {
  counts = set k.counts e (count_at k e + 1);
  waiters = set k.waiters e (drop (wakes k e) (waiters_at k e));
  ready = k.ready ++ map (λ w. w.1) (take (wakes k e) (waiters_at k e));
}

-- the counts and the ticket begin anew
abbrev pub restarted : View → View
restarted k = record k { counts = replicate (length k.counts) 0; ticket = 0 }

-- the slot at the front of a list, if there is one
abbrev pub first_of : List ℕ → Option ℕ
first_of [] = None
first_of (x ∷ xs) = Some x

-- a list without a slot
abbrev pub without : ℕ → List ℕ → List ℕ
without s [] = []
without s (x ∷ xs) = if s == x then without s xs else x ∷ without s xs

-- each value is above a count
abbrev pub AllAbove : ℕ → List (ℕ × ℕ) → Type 0
AllAbove count [] = Unit {0}
AllAbove count (w ∷ ws) = (count < w.0) × AllAbove count ws

-- each value is at least v
abbrev pub NoneBelow : ℕ → List (ℕ × ℕ) → Type 0
NoneBelow v [] = Unit {0}
NoneBelow v (w ∷ ws) = (v ≤ w.0) × NoneBelow v ws

-- each value is at most all that come later
abbrev pub InOrder : List (ℕ × ℕ) → Type 0
InOrder [] = Unit {0}
InOrder (w ∷ ws) = NoneBelow w.0 ws × InOrder ws

-- what holds of every kernel
pub record IsKernel (k : View) : Type 0 where
  pub events : length k.waiters ≡ length k.counts
  -- each waiter's value is above its event's count
  pub waiting : (e : ℕ) → e < length k.counts → AllAbove (count_at k e) (waiters_at k e)
  pub in_order : (e : ℕ) → e < length k.counts → InOrder (waiters_at k e)
  -- no two places hold one slot
  pub once : (s : ℕ) → places s k ≤ 1
  pub in_range : (s : ℕ) → 0 < places s k → s < k.slots
