-- An account of the code: a text is read from the left.
use Rattle.std.specs.Prelude.{ℕ, zero, suc, ◌+◌, ◌-◌, ◌*◌, ◌^◌, nat_eq, nat_le}
use Rattle.std.specs.Prelude.{nat_lt, ◌&&◌, codes, if◌then◌else◌, List, [], ◌∷◌}
use Rattle.std.specs.Prelude.{length, take, drop, Option, Some, None, Result, Ok, Err}
use Rattle.std.specs.List.{prefix_len, starts_with}
use Rattle.machine.specs.State.{most_processors, most_slots}
use Rattle.schedules.specs.Refusals.{is_digit, is_shortest}
use Rattle.schedules.specs.Schedules.{Act, works, shares, picks_main, picks}
use Rattle.schedules.specs.Schedules.{takes_ticket, Entry, longest_burst}
use Rattle.schedules.specs.declared.entry.Version.{Version}
use Rattle.schedules.specs.declared.entry.Version.TheVariants.{First, Second}
use Rattle.schedules.specs.declared.reading.NoEntry.{NoEntry}
use Rattle.schedules.specs.declared.reading.NoEntry.TheVariants.{Form, Processor}

-- the whole number that digits write, after digits that write n
abbrev pub value_after : ℕ → List ℕ → ℕ
value_after n [] = n
value_after n (d ∷ ds) = value_after (10 * n + (d - 48)) ds

-- the whole number that digits write
abbrev pub value : List ℕ → ℕ
value ds = value_after 0 ds

-- a value of at most 128 bits
abbrev pub in_range : ℕ → Option ℕ
in_range n = if nat_lt n (2 ^ 128) then Some n else None

-- what follows of something, where it is there
abbrev pub if_some : {X Y : Type 0} → Option X → (X → Option Y) → Option Y
if_some None next = None
if_some (Some x) next = next x

-- a number, from so many digits, and what stands after it
abbrev pub number_of : ℕ → List ℕ → Option (Option ℕ × List ℕ)
number_of n t =
    if is_shortest (take n t) then Some (in_range (value (take n t)), drop n t) else None

-- a number at the beginning of a text, and what stands after it
abbrev pub number_at : List ℕ → Option (Option ℕ × List ℕ)
number_at t = number_of (prefix_len is_digit t) t

-- what stands after a word
abbrev pub after : List ℕ → List ℕ → Option (List ℕ)
after word t = if starts_with nat_eq t word then Some (drop (length word) t) else None

-- line 1 at the beginning of a text, and what stands after it
abbrev pub header_at : List ℕ → Option (Version × List ℕ)
header_at t = or_second (after (codes "DOACROSS SCHEDULE 1\n") t)
  where
    second : Option (List ℕ) → Option (Version × List ℕ)
    second None = None
    second (Some rest) = Some (Second, rest)

    or_second : Option (List ℕ) → Option (Version × List ℕ)
    or_second None = second (after (codes "DOACROSS SCHEDULE 2\n") t)
    or_second (Some rest) = Some (First, rest)

-- a number from 1 to the most
abbrev pub bounded : ℕ → ℕ → Option ℕ
bounded most n = if nat_le 1 n && nat_le n most then Some n else None

-- such a number at the beginning of a text, and what stands after it
abbrev pub size_at : ℕ → List ℕ → Option (ℕ × List ℕ)
size_at most t =
    if_some (number_at t) (λ x. if_some x.0 (λ n. if_some (bounded most n) (λ m. Some (m, x.1))))

-- line 2 at the beginning of a text, and what stands behind it
abbrev pub sizes_at : List ℕ → Option (ℕ × ℕ × List ℕ)
sizes_at t =
    if_some (size_at most_processors t)
    (λ x. if_some (after (codes " ") x.1) (λ u. if_some (size_at most_slots u) (λ y.
    if_some (after (codes "\n") y.1) (λ w. Some (x.0, y.0, w)))))

-- the act of a number: a shared step for 0, else so many local instructions, 1,024 at most
abbrev pub burst_of : ℕ → Option Act
burst_of zero = Some shares
burst_of (suc n) = if_some (bounded longest_burst (suc n)) (λ m. Some (works m))

-- an act that is a number, and what stands behind it
abbrev pub counted_at : List ℕ → Option (Act × List ℕ)
counted_at t =
    if_some (number_at t) (λ x. if_some x.0 (λ n. if_some (burst_of n) (λ a. Some (a, x.1))))

-- the first of two, if it is there, or else the second
abbrev pub or_else : {X : Type 0} → Option X → Option X → Option X
or_else None o = o
or_else (Some x) o = Some x

-- the pick of an iteration, and what stands behind it
abbrev pub iteration_at : List ℕ → Option (Act × List ℕ)
iteration_at t =
    if_some (after (codes "I ") t)
    (λ u. if_some (number_at u) (λ x. if_some x.0 (λ k. Some (picks k, x.1))))

-- this act, where its word was there, and what stands behind it
abbrev pub named_at : Act → Option (List ℕ) → Option (Act × List ℕ)
named_at a None = None
named_at a (Some rest) = Some (a, rest)

-- a pick of main, of a ticket or of an iteration, and what stands behind it
abbrev pub picked_at : List ℕ → Option (Act × List ℕ)
picked_at t =
    or_else (named_at picks_main (after (codes "M") t))
    (or_else (named_at takes_ticket (after (codes "T") t)) (iteration_at t))

-- an act that the version knows, and what stands behind it
abbrev pub act_at : Version → List ℕ → Option (Act × List ℕ)
act_at First t = counted_at t
act_at Second t = or_else (picked_at t) (counted_at t)

-- a line that has the form of an entry, and what stands behind it; no processor where its number is
-- too large
abbrev pub line_at : Version → List ℕ → Option (Option ℕ × Act × List ℕ)
line_at v t =
    if_some (number_at t) (λ x. if_some (after (codes " ") x.1) (λ u. if_some (act_at v u) (λ y.
    if_some (after (codes "\n") y.1) (λ w. Some (x.0, y.0, w)))))

-- an entry whose processor is one of the first p
abbrev pub entry_by : ℕ → Option ℕ → Act → List ℕ → Result (Entry × List ℕ) NoEntry
entry_by p None a t = Err Processor
entry_by p (Some q) a t =
    if nat_lt q p then Ok (record { processor = q; act = a }, t) else Err Processor

-- the entry of such a line, or why there is none
abbrev pub entry_of : ℕ → Option (Option ℕ × Act × List ℕ) → Result (Entry × List ℕ) NoEntry
entry_of p None = Err Form
entry_of p (Some x) = entry_by p x.0 x.1 x.2

-- the entry at the beginning of a text, or why none stands there
abbrev pub entry_at : Version → ℕ → List ℕ → Result (Entry × List ℕ) NoEntry
entry_at v p t = entry_of p (line_at v t)
