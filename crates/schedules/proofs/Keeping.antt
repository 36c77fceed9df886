-- Entries that are kept, and one more.
use Rattle.std.proofs.Common.{◌≡◌, ℕ, ◌+◌, ◌<◌, List, [], ◌∷◌, ◌++◌, length, drop, refl, sym, ap, subst, ◌∙◌, arith}
use Rattle.std.proofs.lemmas.List.{append-nil, length-append}
use Rattle.schedules.specs.Kept.{IsKept, all_taken, entries_of, entry_of, seen, taken}
use Rattle.schedules.specs.Schedules.{AreEntries, Entry, IsAct, with_entry}
use Rattle.schedules.specs.declared.entry.Version.{Version}
use Rattle.schedules.specs.declared.short.Short.{Short}
use Rattle.schedules.specs.declared.short.Short.TheVariants.{Work, Share, PickMain, PickIteration, TakeTicket}
use Rattle.schedules.proofs.Wholes.{are_pushed}

pub entries_kept : (ss : List Short) (s : Short) (ks new : List ℕ) → all_taken ss ≡ length ks → entries_of (ss ++ s ∷ []) (ks ++ new) ≡ entries_of ss ks ++ entry_of s new ∷ []
entries_kept [] s [] new h = refl
entries_kept [] s (k ∷ ks) new h = absurd (omega (arith, h))
entries_kept (Work q n ∷ ss) s ks new h = ap (λ (es : List Entry). entry_of (Work q n) ks ∷ es) (entries_kept ss s ks new (omega (arith, h)))
entries_kept (Share q ∷ ss) s ks new h = ap (λ (es : List Entry). entry_of (Share q) ks ∷ es) (entries_kept ss s ks new (omega (arith, h)))
entries_kept (PickMain q ∷ ss) s ks new h = ap (λ (es : List Entry). entry_of (PickMain q) ks ∷ es) (entries_kept ss s ks new (omega (arith, h)))
entries_kept (TakeTicket q ∷ ss) s ks new h = ap (λ (es : List Entry). entry_of (TakeTicket q) ks ∷ es) (entries_kept ss s ks new (omega (arith, h)))
entries_kept (PickIteration q ∷ ss) s [] new h = absurd (omega (arith, h))
entries_kept (PickIteration q ∷ ss) s (k ∷ ks) new h = ap (λ (es : List Entry). entry_of (PickIteration q) (k ∷ ks) ∷ es) (entries_kept ss s ks new (omega (arith, h)))

pub taken_kept : (ss : List Short) (s : Short) → all_taken (ss ++ s ∷ []) ≡ all_taken ss + taken s
taken_kept [] s = omega arith
taken_kept (t ∷ ss) s = omega (arith, taken_kept ss s)

pub length_entries : (ss : List Short) (ks : List ℕ) → length (entries_of ss ks) ≡ length ss
length_entries [] ks = refl
length_entries (s ∷ ss) ks = omega (arith, length_entries ss (drop (taken s) ks))

pub seen_pushed : (v : Version) (p n : ℕ) (ss : List Short) (s : Short) (ks new : List ℕ) → IsKept v p n ss ks → seen v p n (ss ++ s ∷ []) (ks ++ new) ≡ with_entry (seen v p n ss ks) (entry_of s new)
seen_pushed v p n ss s ks new k = ap (λ (es : List Entry). record { version = v; processors = p; slots = n; entries = es }) (entries_kept ss s ks new k.all)

pub kept_pushed : (v : Version) (p n : ℕ) (ss : List Short) (s : Short) (ks new : List ℕ) → IsKept v p n ss ks → taken s ≡ length new
    → (entry_of s new).processor < p → IsAct v (entry_of s new).act → IsKept v p n (ss ++ s ∷ []) (ks ++ new)
kept_pushed v p n ss s ks new k t below allowed = record {
  all = omega (arith, taken_kept ss s, k.all, t, length-append ks new);
  schedule = (k.schedule.0, subst (λ (es : List Entry). AreEntries v p es) (sym (entries_kept ss s ks new k.all)) (are_pushed v p (entries_of ss ks) (entry_of s new) k.schedule.1 below allowed));
}

-- one entry more that takes no number
pub seen_kept : (v : Version) (p n : ℕ) (ss : List Short) (s : Short) (ks : List ℕ) → IsKept v p n ss ks → seen v p n (ss ++ s ∷ []) ks ≡ with_entry (seen v p n ss ks) (entry_of s [])
seen_kept v p n ss s ks k = ap (λ (ls : List ℕ). seen v p n (ss ++ s ∷ []) ls) (sym (append-nil ks)) ∙ seen_pushed v p n ss s ks [] k

pub kept_kept : (v : Version) (p n : ℕ) (ss : List Short) (s : Short) (ks : List ℕ) → IsKept v p n ss ks → taken s ≡ 0
    → (entry_of s []).processor < p → IsAct v (entry_of s []).act → IsKept v p n (ss ++ s ∷ []) ks
kept_kept v p n ss s ks k t below allowed = subst (λ (ls : List ℕ). IsKept v p n (ss ++ s ∷ []) ls) (append-nil ks) (kept_pushed v p n ss s ks [] k t below allowed)
