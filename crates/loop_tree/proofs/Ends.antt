-- A loop's end, in the list of what is known of loops.
use Rattle.std.specs.List.{list_all}
use Rattle.std.proofs.lemmas.Bool.{and_parts}
use Rattle.std.proofs.Common.{subst, ◌≡◌, ◌∙◌, ap, sym, refl, ℕ, List, [], ◌∷◌, map, length, get_or, ◌≤◌, ◌<◌, zero, suc, arith}
use Rattle.std.proofs.Math.ListN.{set}
use Rattle.std.proofs.lemmas.List.{length-map, take-map, drop-map}
use Rattle.std.specs.Prelude.{◌-◌, take, drop, Bool, true, false, nat_le, ◌&&◌, if◌then◌else◌, slice_get, slice_index_or, Some, Option, option_map}
use Rattle.std.proofs.lemmas.Option.{slice_get-map}
use Rattle.loop_tree.specs.Collecting.{Span, with_end, ended_at, part, loop_by}
use Rattle.loop_tree.specs.Loops.{Loop, loop_numbered}
use Rattle.loop_tree.specs.Occurrences as spec
use Rattle.loop_tree.specs.View.{occurrence}
use Rattle.loop_tree.specs.declared.occurrence.Occurrence.{Occurrence}
use Rattle.loop_tree.specs.CollectedView.{span}
use Rattle.loop_tree.specs.Told.{are_told, known}
use Rattle.loop_tree.specs.declared.collecting.Info.{Info}

pub set_end : (is : List Info) (p n : ℕ) (i d : Info) → span i ≡ with_end n (span (get_or is p d)) → p < length is → map span (set is p i) ≡ ended_at p n (map span is)
set_end [] p n i d e h = refl
set_end (j ∷ is) zero n i d e h = ap (λ s. s ∷ map span is) e
set_end (j ∷ is) (suc p) n i d e h = ap (λ ss. span j ∷ ss) (set_end is p n i d e (omega (arith, h)))

pub no_end : (ss : List Span) (p n : ℕ) → length ss ≤ p → ended_at p n ss ≡ ss
no_end [] p n h = refl
no_end (s ∷ ss) zero n h = absurd (omega (arith, h))
no_end (s ∷ ss) (suc p) n h = ap (λ ts. s ∷ ts) (no_end ss p n (omega (arith, h)))

pub part_seen : (xs : List Occurrence) (n m : ℕ) → map occurrence (part xs n m) ≡ part (map occurrence xs) n m
part_seen xs n m =
    by (nat_le n m && nat_le m (length xs))
    ∙ ap (λ k. if nat_le n m && nat_le m k then take (m - n) (drop n (map occurrence xs)) else []) (sym (length-map xs occurrence))
  where
    by : (b : Bool) → map occurrence (if b then take (m - n) (drop n xs) else []) ≡ (if b then take (m - n) (drop n (map occurrence xs)) else [])
    by true = sym (take-map occurrence (m - n) (drop n xs)) ∙ sym (ap (λ ys. take (m - n) ys) (drop-map occurrence n xs))
    by false = refl

at_place : (rs : List spec.Occurrence) (is : List Info) (m : ℕ) (d : Info) → m < length (map (loop_by rs) (map span is)) → slice_get (map (loop_by rs) (map span is)) m ≡ Some (loop_by rs (span (slice_index_or is m d)))
at_place rs [] m d k = absurd (omega (arith, k))
at_place rs (i ∷ is) zero d k = refl
at_place rs (i ∷ is) (suc m) d k = at_place rs is m d (omega (arith, k))

pub loop_found : (rs : List spec.Occurrence) (is : List Info) (n : ℕ) (d : Info) → 1 ≤ n → n ≤ length (map (loop_by rs) (map span is)) → loop_numbered (map (loop_by rs) (map span is)) n ≡ Some (loop_by rs (span (slice_index_or is (n - 1) d)))
loop_found rs is zero d h k = absurd (omega (arith, h))
loop_found rs is (suc m) d h k =
    let e : m ≡ suc m - 1 = omega arith in
    at_place rs is m d (omega (arith, k)) ∙ ap (λ j. Some (loop_by rs (span (slice_index_or is j d)))) e

pub told_at : (ls : List Loop) (n : ℕ) (l : Loop) → list_all (λ (m : Loop). are_told (known m)) ls ≡ true → loop_numbered ls n ≡ Some l → are_told (known l) ≡ true
told_at ls zero l h e = cc
told_at [] (suc n) l h e = cc
told_at (m ∷ ls) (suc zero) l h e = let d : m ≡ l = cc in subst (λ (x : Loop). are_told (known x) ≡ true) d (and_parts (are_told (known m)) (list_all (λ (x : Loop). are_told (known x)) ls) h).0
told_at (m ∷ ls) (suc (suc n)) l h e = told_at ls (suc n) l (and_parts (are_told (known m)) (list_all (λ (x : Loop). are_told (known x)) ls) h).1 e

pub seen_at : (xs : List Occurrence) (n : ℕ) (o : Option Occurrence) → o ≡ slice_get xs n → option_map occurrence o ≡ slice_get (map occurrence xs) n
seen_at xs n o e = ap (λ (x : Option Occurrence). option_map occurrence x) e ∙ sym (slice_get-map occurrence xs n)
