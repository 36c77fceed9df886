-- Rows of references.
use Rattle.std.proofs.Common.{◌≡◌, ◌∙◌, ◌==◌, ◌<◌, ◌≤◌, min, ℕ, zero, suc, Bool, true, false, List, [], ◌∷◌, ◌++◌, Option, Some, None, length, map, drop, get_or, slice_get, ap, arith, refl, sym, append_assoc}
use Rattle.std.specs.Prelude.{◌+◌, ◌&&◌, if◌then◌else◌}
use Rattle.loop_tree.specs.Loops.{Loop}
use Rattle.loop_tree.specs.Occurrences.{Occurrence}
use Rattle.plan_check.specs.Entries.{entries_by}
use Rattle.plan_check.specs.Grouping.{at_cell, cell_of, chosen, is_wanted, with_chosen, with_place}
use Rattle.plan_check.specs.Judging.{Entry}
use Rattle.plan_check.specs.Walking.{Note}

chosen_behind : (es : List Entry) (ns : List ℕ) (n : ℕ) → chosen es (ns ++ n ∷ []) ≡ chosen es ns ++ with_chosen (slice_get es n) []
chosen_behind es [] n = refl
chosen_behind es (m ∷ ns) n = by (slice_get es m) (chosen_behind es ns n)
  where
    by : (o : Option Entry) → chosen es (ns ++ n ∷ []) ≡ chosen es ns ++ with_chosen (slice_get es n) [] → with_chosen o (chosen es (ns ++ n ∷ [])) ≡ with_chosen o (chosen es ns) ++ with_chosen (slice_get es n) []
    by None h = h
    by (Some e) h = ap (λ (xs : List Entry). e ∷ xs) h

-- a place more, and the references that are left
one_more : (every : Bool) (all : List Entry) (c n : ℕ) (e : Entry) (es : List Entry) (ns : List ℕ) → slice_get all n ≡ Some e
    → chosen all (with_place (is_wanted every e && (c == cell_of e)) n ns) ++ at_cell every c es ≡ chosen all ns ++ at_cell every c (e ∷ es)
one_more every all c n e es ns at = by (is_wanted every e && (c == cell_of e))
  where
    by : (b : Bool) → chosen all (with_place b n ns) ++ at_cell every c es ≡ chosen all ns ++ (if b then e ∷ at_cell every c es else at_cell every c es)
    by true =
        ap (λ (xs : List Entry). xs ++ at_cell every c es) (chosen_behind all ns n ∙ ap (λ (o : Option Entry). chosen all ns ++ with_chosen o []) at)
        ∙ append_assoc (chosen all ns) (e ∷ []) (at_cell every c es)
    by false = refl

module _ {X : Type 0} (view : X → Entry) where
  item_at : (xs : List X) (n : ℕ) (x : X) → n < length xs → x ≡ get_or xs n x → slice_get (map view xs) n ≡ Some (view x)
  item_at [] n x l e = absurd (omega (arith, l))
  item_at (y ∷ xs) zero x l e = ap (λ (z : X). Some (view z)) (sym e)
  item_at (y ∷ xs) (suc n) x l e = item_at xs n x (omega (arith, l)) e

  left_at : (xs : List X) (n : ℕ) (x : X) → n < length xs → x ≡ get_or xs n x → map view (drop n xs) ≡ view x ∷ map view (drop (suc n) xs)
  left_at [] n x l e = absurd (omega (arith, l))
  left_at (y ∷ xs) zero x l e = ap (λ (z : X). view z ∷ map view xs) (sym e)
  left_at (y ∷ xs) (suc n) x l e = left_at xs n x (omega (arith, l)) e

  pub place_more : (all : Bool) (xs : List X) (n : ℕ) (x : X) → n < length xs → x ≡ get_or xs n x → (c : ℕ) (old new : List ℕ) → new ≡ with_place (is_wanted all (view x) && (c == cell_of (view x))) n old
      → chosen (map view xs) old ++ at_cell all c (map view (drop n xs)) ≡ at_cell all c (map view xs) → chosen (map view xs) new ++ at_cell all c (map view (drop (n + 1) xs)) ≡ at_cell all c (map view xs)
  place_more all xs n x l e c old new is h =
      let next : (n + 1) ≡ suc n = omega arith in
      ap (λ m. chosen (map view xs) new ++ at_cell all c (map view (drop m xs))) next
      ∙ ap (λ (ns : List ℕ). chosen (map view xs) ns ++ at_cell all c (map view (drop (suc n) xs))) is
      ∙ one_more all (map view xs) c n (view x) (map view (drop (suc n) xs)) old (item_at xs n x l e)
      ∙ ap (λ (es : List Entry). chosen (map view xs) old ++ at_cell all c es) (sym (left_at xs n x l e))
      ∙ h

pub no_notes : (l : Loop) (os : List Occurrence) → entries_by l os [] ≡ []
no_notes l [] = refl
no_notes l (o ∷ os) = refl

-- the references at places, one by one
pub at_place : {X Y : Type 0} (view : X → Y) (xs : List X) (n : ℕ) (x : X) → n < length xs → x ≡ get_or xs n x → slice_get (map view xs) n ≡ Some (view x)
at_place view [] n x l e = absurd (omega (arith, l))
at_place view (y ∷ xs) zero x l e = ap (λ z. Some (view z)) (sym e)
at_place view (y ∷ xs) (suc n) x l e = at_place view xs n x (omega (arith, l)) e

pub no_more : {X Y : Type 0} (f : X → Occurrence) (g : Y → Note) (l : Loop) (n : ℕ) (xs : List X) (ys : List Y) → min (length xs) (length ys) ≤ n → entries_by l (map f (drop n xs)) (map g (drop n ys)) ≡ []
no_more f g l zero [] ys h = refl
no_more f g l zero (x ∷ xs) [] h = refl
no_more f g l zero (x ∷ xs) (y ∷ ys) h = absurd (omega (arith, h))
no_more f g l (suc n) [] ys h = refl
no_more f g l (suc n) (x ∷ xs) [] h = no_notes l (map f (drop n xs))
no_more f g l (suc n) (x ∷ xs) (y ∷ ys) h = no_more f g l n xs ys (omega (arith, h))
