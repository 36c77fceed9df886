use Rattle.std.proofs.Common.{◌≡◌, ◌++◌, ◌≤◌, ◌-◌, List, ℕ, [], drop, length, take}
use Rattle.schedules.specs.Kept.{entries_of}
use Rattle.schedules.specs.Schedules.{entries_before}
use Rattle.schedules.proofs.writing.put_lines.Given as goal

abbrev pub invariant-loop-count : goal.invariant-loop-count
invariant-loop-count l = record {
  count : l.count ≤ length l.shorts;
  at : l.at ≤ length l.lines;
  put : (ks : List ℕ) → entries_before (entries_of l.shorts ks) [] ≡ take l.at l.lines ++ entries_before (entries_of (drop l.count l.shorts) ks) [];
}

abbrev pub decreases-loop-count : goal.decreases-loop-count
decreases-loop-count l = length l.shorts - l.count
