-- Local work in as many entries as it takes.
use Rattle.std.proofs.Common.{◌≡◌, ◌∙◌, ℕ, zero, suc, ◌+◌, ◌<◌, ◌≤◌, List, [], ◌∷◌, ◌++◌, length, refl, sym, ap, subst, arith}
use Rattle.std.specs.Prelude.{◌/◌, ◌%◌, replicate}
use Rattle.schedules.specs.Kept.{IsKept, all_taken, entries_of, entry_of, last_short, seen, short_bursts}
use Rattle.schedules.specs.Schedules.{AreEntries, Entry, IsAct, Schedule, bursts, last_burst, longest_burst, with_entries, works}
use Rattle.schedules.specs.declared.entry.Version.{Version}
use Rattle.schedules.specs.declared.entry.Version.TheVariants.{First, Second}
use Rattle.schedules.specs.declared.short.Short.{Short}
use Rattle.schedules.specs.declared.short.Short.TheVariants.{Work, Share, PickMain, PickIteration, TakeTicket}

abbrev pub burst : ℕ → ℕ → Entry
burst q n = record { processor = q; act = works n }

-- ---- entries as they are kept

entries_added : (ss ws : List Short) (ks : List ℕ) → all_taken ss ≡ length ks → entries_of (ss ++ ws) ks ≡ entries_of ss ks ++ entries_of ws []
entries_added [] ws [] h = refl
entries_added [] ws (k ∷ ks) h = absurd (omega (arith, h))
entries_added (Work q n ∷ ss) ws ks h = ap (λ (es : List Entry). entry_of (Work q n) ks ∷ es) (entries_added ss ws ks (omega (arith, h)))
entries_added (Share q ∷ ss) ws ks h = ap (λ (es : List Entry). entry_of (Share q) ks ∷ es) (entries_added ss ws ks (omega (arith, h)))
entries_added (PickMain q ∷ ss) ws ks h = ap (λ (es : List Entry). entry_of (PickMain q) ks ∷ es) (entries_added ss ws ks (omega (arith, h)))
entries_added (TakeTicket q ∷ ss) ws ks h = ap (λ (es : List Entry). entry_of (TakeTicket q) ks ∷ es) (entries_added ss ws ks (omega (arith, h)))
entries_added (PickIteration q ∷ ss) ws [] h = absurd (omega (arith, h))
entries_added (PickIteration q ∷ ss) ws (k ∷ ks) h = ap (λ (es : List Entry). entry_of (PickIteration q) (k ∷ ks) ∷ es) (entries_added ss ws ks (omega (arith, h)))

taken_added : (ss ws : List Short) → all_taken (ss ++ ws) ≡ all_taken ss + all_taken ws
taken_added [] ws = omega arith
taken_added (s ∷ ss) ws = omega (arith, taken_added ss ws)

repeated_entries : (k q l : ℕ) (ws : List Short) → entries_of (replicate k (Work q l) ++ ws) [] ≡ replicate k (burst q l) ++ entries_of ws []
repeated_entries zero q l ws = refl
repeated_entries (suc k) q l ws = ap (λ (es : List Entry). burst q l ∷ es) (repeated_entries k q l ws)

last_entries : (q n : ℕ) → entries_of (last_short q n) [] ≡ last_burst q n
last_entries q zero = refl
last_entries q (suc n) = refl

bursts_entries : (q n : ℕ) → entries_of (short_bursts q n) [] ≡ bursts q n
bursts_entries q n =
    repeated_entries (n / longest_burst) q longest_burst (last_short q (n % longest_burst))
    ∙ ap (λ (es : List Entry). replicate (n / longest_burst) (burst q longest_burst) ++ es) (last_entries q (n % longest_burst))

repeated_taken : (k q l : ℕ) (ws : List Short) → all_taken (replicate k (Work q l) ++ ws) ≡ all_taken ws
repeated_taken zero q l ws = refl
repeated_taken (suc k) q l ws = omega (arith, repeated_taken k q l ws)

last_taken : (q n : ℕ) → all_taken (last_short q n) ≡ 0
last_taken q zero = refl
last_taken q (suc n) = refl

bursts_taken : (q n : ℕ) → all_taken (short_bursts q n) ≡ 0
bursts_taken q n = repeated_taken (n / longest_burst) q longest_burst (last_short q (n % longest_burst)) ∙ last_taken q (n % longest_burst)

-- ---- they may stand in a schedule

are_added : (v : Version) (p : ℕ) (es fs : List Entry) → AreEntries v p es → AreEntries v p fs → AreEntries v p (es ++ fs)
are_added v p [] fs a b = b
are_added v p (e ∷ es) fs a b = (a.0, are_added v p es fs a.1 b)

pub is_act : (v : Version) (n : ℕ) → 1 ≤ n → n ≤ longest_burst → IsAct v (works n)
is_act First n low high = (low, high)
is_act Second n low high = (low, high)

are_repeated : (v : Version) (p k q l : ℕ) → q < p → 1 ≤ l → l ≤ longest_burst → AreEntries v p (replicate k (burst q l))
are_repeated v p zero q l below low high = tt
are_repeated v p (suc k) q l below low high = ((below, is_act v l low high), are_repeated v p k q l below low high)

is_last : (v : Version) (p q n : ℕ) → q < p → n ≤ longest_burst → AreEntries v p (last_burst q n)
is_last v p q zero below high = tt
is_last v p q (suc n) below high = ((below, is_act v (suc n) (omega arith) high), tt)

pub are_bursts : (v : Version) (p q n : ℕ) → q < p → AreEntries v p (bursts q n)
are_bursts v p q n below =
    are_added v p (replicate (n / longest_burst) (burst q longest_burst)) (last_burst q (n % longest_burst))
    (are_repeated v p (n / longest_burst) q longest_burst below (omega arith) (omega arith)) (is_last v p q (n % longest_burst) below (omega arith))

-- ---- a schedule that grows by them

module _ (v : Version) (p n : ℕ) (ss : List Short) (ks : List ℕ) (x : Schedule) (kept : IsKept v p n ss ks) (is : seen v p n ss ks ≡ x) (q made : ℕ) (new : List Short) (grown : new ≡ ss ++ short_bursts q made) where
  entries_grown : entries_of new ks ≡ entries_of ss ks ++ bursts q made
  entries_grown =
      ap (λ (ts : List Short). entries_of ts ks) grown ∙ entries_added ss (short_bursts q made) ks kept.all
      ∙ ap (λ (es : List Entry). entries_of ss ks ++ es) (bursts_entries q made)

  pub keeps_bursts : q < x.processors → IsKept v p n new ks
  keeps_bursts below =
      let here : q < p = subst (λ (y : Schedule). q < y.processors) (sym is) below in
      record {
        all = omega (arith, ap all_taken grown, taken_added ss (short_bursts q made), bursts_taken q made, kept.all);
        schedule = (kept.schedule.0, subst (λ (es : List Entry). AreEntries v p es) (sym entries_grown) (are_added v p (entries_of ss ks) (bursts q made) kept.schedule.1 (are_bursts v p q made here)));
      }

  pub sees_bursts : seen v p n new ks ≡ with_entries x (bursts q made)
  sees_bursts =
      ap (λ (es : List Entry). record { version = v; processors = p; slots = n; entries = es }) entries_grown
      ∙ ap (λ (y : Schedule). with_entries y (bursts q made)) is
