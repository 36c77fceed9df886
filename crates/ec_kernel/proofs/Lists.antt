-- The kernel's lists beside those that it is seen with.
use Rattle.std.proofs.Common.{inl, inr, ◌≡◌, ◌∙◌, ℕ, zero, suc, ◌+◌, ◌<◌, ◌≤◌, List, [], ◌∷◌, ◌++◌, length, get_or, take, drop, true, false, refl, ap, arith}
use Rattle.std.specs.Prelude.{◌==◌, if◌then◌else◌, nat_le, map, cond}
use Rattle.std.specs.List.{prefix_len}
use Rattle.std.proofs.lemmas.Bool.{cases_lt, le-leb, lt-leb}
use Rattle.std.proofs.lemmas.List.{get_or-drop}
use Rattle.ready_list.specs.Lists as lists
use Rattle.ready_list.specs.Lists.{times_in, places_in, inserted}
use Rattle.ec_kernel.specs.View.{times, times_waiting, places, queued, reached_by, without, AllAbove, NoneBelow, InOrder}
use Rattle.ec_kernel.specs.Kept.{waiter, slots_of, seen, ValuesAbove, at_end, reached_part}

pub times-slots : (s : ℕ) (xs : List (ℕ × ℕ)) → times s (slots_of xs) ≡ times_in s xs
times-slots s [] = refl
times-slots s (x ∷ xs) = omega (arith, times-slots s xs)

pub times-waiters : (s : ℕ) (xs : List (ℕ × ℕ)) → times s (map (λ w. w.1) (map waiter xs)) ≡ times_in s xs
times-waiters s [] = refl
times-waiters s (x ∷ xs) = omega (arith, times-waiters s xs)

times-waiting : (s : ℕ) (ls : List (List (ℕ × ℕ))) → times_waiting s (map (λ xs. map waiter xs) ls) ≡ places_in s ls
times-waiting s [] = refl
times-waiting s (xs ∷ ls) = omega (arith, times-waiters s xs, times-waiting s ls)

-- a slot stands where it is seen to stand
pub places-seen : (s slots : ℕ) (ls : List (List (ℕ × ℕ))) (counts : List ℕ) (ticket : ℕ) → 2 ≤ length ls → places s (seen (record { slots = slots; lists = ls }) counts ticket) ≡ places_in s ls
places-seen s slots [] counts ticket h = absurd (omega arith)
places-seen s slots (r ∷ []) counts ticket h = absurd (omega arith)
places-seen s slots (r ∷ (f ∷ ls)) counts ticket h = omega (arith, times-waiting s ls, times-slots s r, times-slots s f)

get_or-lists : (ls : List (List (ℕ × ℕ))) (e : ℕ) → get_or (map (λ xs. map waiter xs) ls) e [] ≡ map waiter (get_or ls e [])
get_or-lists [] e = refl
get_or-lists (xs ∷ ls) zero = refl
get_or-lists (xs ∷ ls) (suc e) = get_or-lists ls e

-- the waiters of an event stand in its list
pub waiters-seen : (ls : List (List (ℕ × ℕ))) (e : ℕ) → get_or (map (λ xs. map waiter xs) (drop 2 ls)) e [] ≡ map waiter (get_or ls (2 + e) [])
waiters-seen ls e = get_or-lists (drop 2 ls) e ∙ ap (λ xs. map waiter xs) (get_or-drop 2 ls e [])

pub queued-waiter : (s v : ℕ) (xs : List (ℕ × ℕ)) → queued (v, s) (map waiter xs) ≡ map waiter (inserted (s, v) xs)
queued-waiter s v [] = refl
queued-waiter s v (x ∷ xs) = elim (nat_le x.1 v) as (λ b. (if b then waiter x ∷ queued (v, s) (map waiter xs) else (v, s) ∷ (waiter x ∷ map waiter xs)) ≡ map waiter (if b then x ∷ inserted (s, v) xs else (s, v) ∷ (x ∷ xs))) [
  | true ↦ ap (λ a. waiter x ∷ a) (queued-waiter s v xs)
  | false ↦ refl
]

pub slots-without : (s : ℕ) (xs : List (ℕ × ℕ)) → slots_of (lists.without s xs) ≡ without s (slots_of xs)
slots-without s [] = refl
slots-without s (x ∷ xs) = elim (s == x.0) as (λ b. slots_of (if b then lists.without s xs else x ∷ lists.without s xs) ≡ (if b then without s (slots_of xs) else x.0 ∷ without s (slots_of xs))) [
  | true ↦ slots-without s xs
  | false ↦ ap (λ a. x.0 ∷ a) (slots-without s xs)
]

pub above-waiters : (c : ℕ) (xs : List (ℕ × ℕ)) → ValuesAbove c xs → AllAbove c (map waiter xs)
above-waiters c [] h = tt
above-waiters c (x ∷ xs) h = (h.0, above-waiters c xs h.1)

none-below-waiters : (v : ℕ) (xs : List (ℕ × ℕ)) → lists.NoneBelow v xs → NoneBelow v (map waiter xs)
none-below-waiters v [] h = tt
none-below-waiters v (x ∷ xs) h = (h.0, none-below-waiters v xs h.1)

pub order-waiters : (xs : List (ℕ × ℕ)) → lists.InOrder xs → InOrder (map waiter xs)
order-waiters [] h = tt
order-waiters (x ∷ xs) h = (none-below-waiters x.1 xs h.0, order-waiters xs h.1)

pub above-inserted : (c s v : ℕ) (xs : List (ℕ × ℕ)) → c < v → ValuesAbove c xs → ValuesAbove c (inserted (s, v) xs)
above-inserted c s v [] h k = (h, tt)
above-inserted c s v (x ∷ xs) h k = elim (nat_le x.1 v) as (λ b. ValuesAbove c (if b then x ∷ inserted (s, v) xs else (s, v) ∷ (x ∷ xs))) [
  | true ↦ (k.0, above-inserted c s v xs h k.1)
  | false ↦ (h, k)
]

above-all : (c v : ℕ) (xs : List (ℕ × ℕ)) → c < v → lists.NoneBelow v xs → ValuesAbove c xs
above-all c v [] h k = tt
above-all c v (x ∷ xs) h k = (omega (arith, k.0), above-all c v xs h k.1)

-- behind the part that a count has reached, all is above it
pub above-rest : (c : ℕ) (xs : List (ℕ × ℕ)) → lists.InOrder xs → ValuesAbove c (drop (reached_part c xs) xs)
above-rest c [] h = tt
above-rest c (x ∷ xs) h = elim (cases_lt c x.1) [
  | inl a ↦ (let e : nat_le x.1 c ≡ false = lt-leb x.1 c a in rw e (a, above-all c x.1 xs a h.0))
  | inr b ↦ (let e : nat_le x.1 c ≡ true = le-leb x.1 c b in let one : 1 + reached_part c xs ≡ suc (reached_part c xs) = omega arith in rw (e, one) (above-rest c xs h.1))
]

pub reached-waiters : (c : ℕ) (xs : List (ℕ × ℕ)) → prefix_len (reached_by c) (map waiter xs) ≡ reached_part c xs
reached-waiters c [] = refl
reached-waiters c (x ∷ xs) = ap (λ n. cond (nat_le x.1 c) (1 + n) 0) (reached-waiters c xs)

pub drop-waiters : (k : ℕ) (xs : List (ℕ × ℕ)) → drop k (map waiter xs) ≡ map waiter (drop k xs)
drop-waiters zero xs = refl
drop-waiters (suc k) [] = refl
drop-waiters (suc k) (x ∷ xs) = drop-waiters k xs

pub slots-append : (xs ys : List (ℕ × ℕ)) → slots_of (xs ++ ys) ≡ slots_of xs ++ slots_of ys
slots-append [] ys = refl
slots-append (x ∷ xs) ys = ap (λ a. x.0 ∷ a) (slots-append xs ys)

pub woken-slots : (k : ℕ) (xs : List (ℕ × ℕ)) → slots_of (map at_end (take k xs)) ≡ map (λ w. w.1) (take k (map waiter xs))
woken-slots zero xs = refl
woken-slots (suc k) [] = refl
woken-slots (suc k) (x ∷ xs) = ap (λ a. x.0 ∷ a) (woken-slots k xs)
