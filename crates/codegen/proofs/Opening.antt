-- When the code of a program may open a loop: where its first two parameters are 64-bit integers,
-- and make the trips that are known. Its own meaning never comes to others.
use Rattle.std.specs.Prelude.{◌==◌, ◌&&◌, ℕ, ℤ, pos, Bool, true, false, List, Option, Some, None, slice_get, unwrap_or}
use Rattle.ast.specs.Exact.{fits, trips}
use Rattle.codegen.specs.Program.{Planned}

abbrev pub agrees : Option ℕ → ℕ → Bool
agrees None n = true
agrees (Some k) n = n == k

abbrev pub may_if : Option Planned → ℤ → ℤ → Bool
may_if None m1 m2 = false
may_if (Some x) m1 m2 = fits m1 && (fits m2 && agrees x.loop.trips (trips m1 m2 (unwrap_or x.loop.step (pos 0))))

abbrev pub may_open : List Planned → ℕ → ℤ → ℤ → Bool
may_open xs n m1 m2 = may_if (slice_get xs n) m1 m2
