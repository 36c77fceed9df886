-- Relations in order, run by run.
use Rattle.std.specs.Prelude.{◌==◌, ◌+◌, ◌-◌, ◌*◌, nat_le, nat_lt, ℕ, Bool}
use Rattle.std.specs.Prelude.{true, ◌&&◌, ◌||◌, if◌then◌else◌, List, [], ◌∷◌}
use Rattle.dependence.specs.declared.run.Run.{Run}

-- the number behind the last of the others of a run
abbrev pub end : Run → ℕ
end r = if r.count == 0 then r.second else r.second + r.step * (r.count - 1) + 1

-- the pairs of a run are not before a pair
abbrev pub is_behind : (first second : ℕ) → Run → Bool
is_behind a b r = (nat_lt a r.first || ((a == r.first) && nat_le b r.second)) && nat_le 1 r.step

-- each run is behind the one before it, and the first of them not before a pair
abbrev pub ascend : (first second : ℕ) → List Run → Bool
ascend a b [] = true
ascend a b (r ∷ rs) = is_behind a b r && ascend r.first (end r) rs
