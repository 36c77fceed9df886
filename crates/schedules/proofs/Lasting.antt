-- The last entry of a schedule, as it is kept.
use Rattle.std.proofs.Common.{◌≡◌, ◌∙◌, ℕ, zero, suc, ◌<◌, List, [], ◌∷◌, ◌++◌, length, Some, refl, sym, ap, subst, arith}
use Rattle.std.specs.Prelude.{IfSome, ◌-◌, get_or}
use Rattle.std.proofs.lemmas.List.{append-nil}
use Rattle.schedules.specs.Kept.{IsKept, burst_of, entries_of, entry_of, seen}
use Rattle.schedules.specs.Noting.{EndsIn}
use Rattle.schedules.specs.Schedules.{AreEntries, Entry, Schedule, picks, picks_main, shares, takes_ticket, with_entry, works}
use Rattle.schedules.specs.declared.entry.Version.{Version}
use Rattle.schedules.specs.declared.short.Short.{Short}
use Rattle.schedules.specs.declared.short.Short.TheVariants.{Work, Share, PickMain, PickIteration, TakeTicket}
use Rattle.schedules.proofs.Bursts.{burst}
use Rattle.schedules.proofs.Keeping.{seen_kept}
use Rattle.schedules.proofs.Recounting.{ending, last_is, last_same}
use Rattle.schedules.proofs.Taking.{kept_back}

at_last : (ss : List Short) (s : Short) (i : ℕ) → length ss ≡ suc i → s ≡ get_or ss i s → (rs : List Short) × (ss ≡ rs ++ s ∷ [])
at_last [] s i h e = absurd (omega (arith, h))
at_last (t ∷ []) s zero h e = ([], ap (λ (u : Short). u ∷ []) (sym e))
at_last (t ∷ []) s (suc i) h e = absurd (omega (arith, h))
at_last (t ∷ (u ∷ ss)) s zero h e = absurd (omega (arith, h))
at_last (t ∷ (u ∷ ss)) s (suc i) h e =
    let r = at_last (u ∷ ss) s i (omega (arith, h)) e in
    (t ∷ r.0, ap (λ (rs : List Short). t ∷ rs) r.1)

at_end : (ss : List Short) (s : Short) → 0 < length ss → s ≡ get_or ss (length ss - 1) s → (rs : List Short) × (ss ≡ rs ++ s ∷ [])
at_end ss s h e = at_last ss s (length ss - 1) (omega (arith, h)) e

ends : (v : Version) (p n : ℕ) (rs ss : List Short) (s : Short) (ks : List ℕ) → ss ≡ rs ++ s ∷ [] → IsKept v p n ss ks → IfSome (burst_of s) (λ r. EndsIn r.0 r.1 (seen v p n ss ks))
ends v p n rs ss (Work q m) ks e k =
    let end = ending rs (Work q m) ks in
    let last = last_is v p end.0 (burst q m) (subst (λ (es : List Entry). AreEntries v p es) (ap (λ (ts : List Short). entries_of ts ks) e ∙ end.2) k.schedule.1) in
    record {
      before = seen v p n rs ks;
      is = ap (λ (ts : List Short). seen v p n ts ks) e ∙ seen_kept v p n rs (Work q m) ks (kept_back v p n rs ss (Work q m) ks [] ks e (sym (append-nil ks)) refl k);
      some = last.1.0;
      few = last.1.1;
    }
ends v p n rs ss (Share q) ks e k = tt
ends v p n rs ss (PickMain q) ks e k = tt
ends v p n rs ss (PickIteration q) ks e k = tt
ends v p n rs ss (TakeTicket q) ks e k = tt

pub ends_in : (v : Version) (p n : ℕ) (ss : List Short) (ks : List ℕ) (X : Schedule) (s : Short) → seen v p n ss ks ≡ X → IsKept v p n ss ks → 0 < length ss → s ≡ get_or ss (length ss - 1) s → IfSome (burst_of s) (λ r. EndsIn r.0 r.1 X)
ends_in v p n ss ks X s is k h e =
    let r = at_end ss s h e in
    subst (λ (x : Schedule). IfSome (burst_of s) (λ r. EndsIn r.0 r.1 x)) is (ends v p n r.0 ss s ks r.1 k)

told : (s : Short) (ls : List ℕ) (q m : ℕ) → entry_of s ls ≡ burst q m → burst_of s ≡ Some (q, m)
told (Work r l) ls q m e =
    let processor : r ≡ q = ap (λ (d : Entry). d.processor) e in
    let act : works l ≡ works m = ap (λ (d : Entry). d.act) e in
    let count : l ≡ m = cc in
    ap (λ (i : ℕ). Some (i, l)) processor ∙ ap (λ (i : ℕ). Some (q, i)) count
told (Share r) ls q m e = let z : shares ≡ works m = ap (λ (d : Entry). d.act) e in cc
told (PickMain r) ls q m e = let z : picks_main ≡ works m = ap (λ (d : Entry). d.act) e in cc
told (PickIteration r) ls q m e = let z : picks (get_or ls 0 0) ≡ works m = ap (λ (d : Entry). d.act) e in cc
told (TakeTicket r) ls q m e = let z : takes_ticket ≡ works m = ap (λ (d : Entry). d.act) e in cc

pub ends_so : (v : Version) (p n : ℕ) (ss : List Short) (ks : List ℕ) (X : Schedule) (s : Short) → seen v p n ss ks ≡ X → 0 < length ss → s ≡ get_or ss (length ss - 1) s
    → (x : Schedule) (q m : ℕ) → X ≡ with_entry x (record { processor = q; act = works m }) → burst_of s ≡ Some (q, m)
ends_so v p n ss ks X s is h e x q m f =
    let r = at_end ss s h e in
    let end = ending r.0 s ks in
    told s end.1 q m
    (last_same end.0 x.entries (entry_of s end.1) (burst q m) (sym (ap (λ (ts : List Short). entries_of ts ks) r.1 ∙ end.2) ∙ ap (λ (y : Schedule). y.entries) (is ∙ f)))

pub none_kept : (v : Version) (p n : ℕ) (ss : List Short) (ks : List ℕ) (X : Schedule) → seen v p n ss ks ≡ X → length ss ≡ 0 → (x : Schedule) (e : Entry) → X ≡ with_entry x e → ⊥
none_kept v p n [] ks X is h x e f = by x.entries (ap (λ (y : Schedule). y.entries) (is ∙ f))
  where
    by : (es : List Entry) → [] ≡ es ++ e ∷ [] → ⊥
    by [] g = cc
    by (d ∷ es) g = cc
none_kept v p n (s ∷ ss) ks X is h x e f = omega (arith, h)
