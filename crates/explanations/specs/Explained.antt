-- The numbers that have a page.
use Rattle.std.specs.Prelude.{◌&&◌, ◌||◌, nat_le, ℕ, Bool}

-- a number is in a range
abbrev pub is_within : ℕ → ℕ → ℕ → Bool
is_within least most n = nat_le least n && nat_le n most

-- the numbers that are explained: of the rules for lines, for statements and for the profile, of
-- those for schedules and for runs in threads, and of code that is too long; those of the faults,
-- 1 to 6, are among them
abbrev pub is_explained : ℕ → Bool
is_explained n =
    is_within 1 8 n || is_within 20 27 n || is_within 30 43 n || is_within 51 59 n
    || is_within 61 61 n
