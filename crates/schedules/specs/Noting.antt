-- A schedule that is added to step by step.
use Rattle.std.specs.Prelude.{◌≡◌, ◌≤◌, ◌+◌, ◌⊎◌, ℕ, Bool, true, false, List, [], ◌∷◌}
use Rattle.schedules.specs.Schedules.{Schedule, longest_burst, shares, with_entry, works}

-- its last entry is of so many local instructions of a processor
pub record EndsIn (q n : ℕ) (x : Schedule) : Type 0 where
  pub before : Schedule
  pub is : x ≡ with_entry before (record { processor = q; act = works n })
  pub some : 1 ≤ n
  pub few : n ≤ longest_burst

-- its last entry, of local instructions of a processor, has so many more
pub record IsLonger (q more : ℕ) (x y : Schedule) : Type 0 where
  pub before : Schedule
  pub count : ℕ
  pub some : 1 ≤ count
  pub few : count + more ≤ longest_burst
  pub was : x ≡ with_entry before (record { processor = q; act = works count })
  pub is : y ≡ with_entry before (record { processor = q; act = works (count + more) })

-- A step of processor q is added: a local instruction, in an entry of its own or in the last
-- one, or a shared step.
abbrev pub Notes : ℕ → Bool → Schedule → Schedule → Type 0
Notes q true x y = (y ≡ with_entry x (record { processor = q; act = works 1 })) ⊎ IsLonger q 1 x y
Notes q false x y = y ≡ with_entry x (record { processor = q; act = shares })

-- steps of these kinds are added, one after another: whether each is local
abbrev pub AllNoted : ℕ → List Bool → Schedule → Schedule → Type 0
AllNoted q [] x y = x ≡ y
AllNoted q (k ∷ ks) x y = (z : Schedule) × Notes q k x z × AllNoted q ks z y
