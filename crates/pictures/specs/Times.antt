-- When the entries of a schedule are made, where each step takes one unit of time.
use Rattle.std.specs.Prelude.{◌≡◌, ℕ, max, nat_le, nat_lt, if◌then◌else◌, List, get_or, length, set}
use Rattle.pictures.specs.Runs.{counted_on}
use Rattle.pictures.specs.declared.clocks.Clocks.{Clocks}
use Rattle.pictures.specs.declared.clocks.Duty.{Duty}

-- Steps that touch what processors share keep their order. In one unit they are those of processors
-- in the order of their numbers, as all steps of a run in lock step are.
abbrev pub in_order : Clocks → ℕ → ℕ
in_order c q = if nat_le c.least q then c.unit else counted_on c.unit 1

-- An entry begins when its processor is free; one that touches what they share not before its turn.
abbrev pub begins : Clocks → Duty → ℕ
begins c d =
    if d.shared then max (get_or c.free.items d.processor 0) (in_order c d.processor)
    else get_or c.free.items d.processor 0

-- when processors are free, where one is from a unit on
abbrev pub freed : List ℕ → (processor unit : ℕ) → List ℕ
freed free q unit = if nat_lt q (length free) then set free q unit else free

-- With this entry made, its processor is free behind its steps.
pub record IsAfter (old : Clocks) (d : Duty) (new : Clocks) : Type 0 where
  pub free : new.free.items ≡ freed old.free.items d.processor (counted_on (begins old d) d.steps)
  pub unit : new.unit ≡ (if d.shared then begins old d else old.unit)
  pub least : new.least ≡ (if d.shared then counted_on d.processor 1 else old.least)
