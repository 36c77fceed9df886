-- Where the kernel has an activity, by what it is parked on.
use Rattle.std.specs.Prelude.{◌≡◌, ◌<◌, ◌≤◌, ◌⊎◌, ℕ, List, [], ◌∷◌, Option, Some, None, length}
use Rattle.ec_kernel.specs.View.{View, count_at, waiters_at, places, times}
use Rattle.machine.specs.State.{Wait, until_count, until_retired}

-- a slot waits for a value
abbrev pub Waits : ℕ → ℕ → List (ℕ × ℕ) → Type 0
Waits v slot [] = ⊥
Waits v slot (w ∷ ws) = ((w.0 ≡ v) × (w.1 ≡ slot)) ⊎ Waits v slot ws

-- where the count has reached the value the slot is ready, and otherwise it waits
abbrev pub StandsAt : View → ℕ → ℕ → ℕ → Type 0
StandsAt x slot e v =
    (e < length x.counts) × (((v ≤ count_at x e) × (0 < times slot x.ready))
    ⊎ ((count_at x e < v) × Waits v slot (waiters_at x e)))

-- a slot whose activity isn't parked stands nowhere; events have the numbers from 1 on
abbrev pub Stands : View → ℕ → Option Wait → Type 0
Stands x slot None = places slot x ≡ 0
Stands x slot (Some (until_count e v)) = (0 < e) × StandsAt x slot e v
Stands x slot (Some (until_retired v)) = StandsAt x slot 0 v
