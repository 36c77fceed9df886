-- How large a program in the profile is: its statements, and the elements of its arrays.
use Rattle.std.proofs.Common.{◌≡◌, ◌∙◌, ℕ, ℤ, ◌+◌, ◌≤◌, Bool, true, false, not, List, [], ◌∷◌, ◌++◌, length, refl, arith, length-append, map, Option, Some, None, option_map}
use Rattle.std.specs.Prelude.{◌&&◌, ◌||◌, nat_le, nat_lt, int_lt, if◌then◌else◌}
use Rattle.std.specs.List.{list_any, list_all}
use Rattle.std.proofs.lemmas.Bool.{or_parts, and_parts, and_from, not_from_false, leb-false, ltb-false, le-leb}
use Rattle.std.proofs.lemmas.List.Folds.{list_all-map}
use Rattle.indexmap.specs.IndexMap.{insert_entry}
use Rattle.ast.specs.Store.{same_name}
use Rattle.ast.specs.Symbols.{Extent, variable, elements, most_elements, is_sized_sort, is_sized}
use Rattle.ast.specs.Tree.{Bounds, Declarator, Statement}
use Rattle.structure.specs.Open.{open_after}
use Rattle.profile_check.specs.Checking.{and_then_declared}
use Rattle.profile_check.specs.Declarations.{Declared, Arrays, Constants, extent_of, all_or_none, extents_of, or_no_extents, arrays_by, with_arrays, array_elements, total_elements, dimensions_named, constant_named, constant_or, sort_of, declared_in, symbols_of}
use Rattle.profile_check.specs.Rules.{context_after, is_crossed, is_ill_bounded, opens, most_dimensions, most_statements, most_nested, most_names, InProfile}
use Rattle.profile_check.specs.Uses.{bounded_by}
use Rattle.profile_check.proofs.Sound.{Kept, kept, along, along-declared}

-- the parts of `LargeProgram`
record Small (front : List Statement) (s : Statement) : Type 0 where
  statements : nat_le most_statements (length front) ≡ false
  elements : nat_lt most_elements (total_elements (declared_in front).arrays + total_elements (arrays_by (declared_in front).constants (bounded_by s.kind))) ≡ false

small : (typed : List (List ℕ)) (front : List Statement) (s : Statement) → Kept (context_after typed front) s → Small front s
small typed front s k =
    let d = declared_in front in
    let names = (and_then_declared d s).names in
    let count = total_elements d.arrays + total_elements (arrays_by d.constants (bounded_by s.kind)) in
    let a = or_parts (nat_le most_statements (length front)) ((opens s.kind && nat_le most_nested (length (open_after front))) || (nat_lt most_names (length names) || nat_lt most_elements count)) k.size in
    let b = or_parts (opens s.kind && nat_le most_nested (length (open_after front))) (nat_lt most_names (length names) || nat_lt most_elements count) a.1 in
    let c = or_parts (nat_lt most_names (length names)) (nat_lt most_elements count) b.1 in
    record { statements = a.0; elements = c.1 }

one_more : (most n m : ℕ) → nat_le most n ≡ false → m ≡ n + 1 → m ≤ most
one_more most n m h e = let k = leb-false most n h in omega arith

pub few_statements : (ss : List Statement) → InProfile ss → length ss ≤ most_statements
few_statements ss h =
    along (λ (front : List Statement). length front ≤ most_statements) ss (omega arith)
    (λ front s back e p. one_more most_statements (length front) (length (front ++ s ∷ [])) (small _ front s (kept ss h front s back e)).statements (length-append front (s ∷ [])))

-- ---- no bounds of an array are crossed

abbrev is_uncrossed : Extent → Bool
is_uncrossed d = not (int_lt d.upper d.lower)

abbrev are_uncrossed : List Extent → Bool
are_uncrossed ds = list_all is_uncrossed ds

-- the extents of bounds that are not crossed
uncrossed : (constants : Constants) (bs : List Bounds) → list_any (λ b. is_crossed (extent_of constants b)) bs ≡ false → are_uncrossed (or_no_extents (extents_of constants bs)) ≡ true
uncrossed constants [] h = refl
uncrossed constants (b ∷ bs) h =
    let p = or_parts (is_crossed (extent_of constants b)) (list_any (λ (c : Bounds). is_crossed (extent_of constants c)) bs) h in
    by (extent_of constants b) (map (extent_of constants) bs) p.0 (uncrossed constants bs p.1)
  where
    onto : (d : Extent) (r : Option (List Extent)) → is_crossed (Some d) ≡ false → are_uncrossed (or_no_extents r) ≡ true → are_uncrossed (or_no_extents (option_map (λ ds. d ∷ ds) r)) ≡ true
    onto d None k u = refl
    onto d (Some ds) k u = and_from (is_uncrossed d) (are_uncrossed ds) (not_from_false (int_lt d.upper d.lower) k) u

    by : (o : Option Extent) (others : List (Option Extent)) → is_crossed o ≡ false → are_uncrossed (or_no_extents (all_or_none others)) ≡ true
        → are_uncrossed (or_no_extents (all_or_none (o ∷ others))) ≡ true
    by None others k u = refl
    by (Some d) others k u = onto d (all_or_none others) k u

-- ---- each array is sized

abbrev is_sized_array : List ℕ × List Extent → Bool
is_sized_array a = is_sized_sort (variable a.1)

abbrev are_sized : Arrays → Bool
are_sized arrays = list_all is_sized_array arrays

-- an array with a bound that has no value is sized as a scalar is
few-elements : (ds : List Extent) → array_elements ds ≤ most_elements → elements ds ≤ most_elements
few-elements [] h = omega arith
few-elements (d ∷ ds) h = h

sized-by : (constants : Constants) (ds : List Declarator) → list_any (is_ill_bounded constants) ds ≡ false → total_elements (arrays_by constants ds) ≤ most_elements
    → are_sized (arrays_by constants ds) ≡ true
sized-by constants [] h c = refl
sized-by constants (d ∷ ds) h c =
    let es = or_no_extents (extents_of constants d.bounds) in
    let crossed = list_any (λ (b : Bounds). is_crossed (extent_of constants b)) d.bounds in
    let p = or_parts (is_ill_bounded constants d) (list_any (is_ill_bounded constants) ds) h in
    let q = or_parts (nat_lt most_dimensions (length d.bounds)) crossed p.0 in
    let one : array_elements es ≤ most_elements = omega arith in
    let few : elements es ≤ most_elements = few-elements es one in
    let rest : total_elements (arrays_by constants ds) ≤ most_elements = omega arith in
    and_from (is_sized_sort (variable es)) (are_sized (arrays_by constants ds))
    (and_from (are_uncrossed es) (nat_le (elements es) most_elements) (uncrossed constants d.bounds q.1) (le-leb (elements es) most_elements few))
    (sized-by constants ds p.1 rest)

sized-entry : (arrays : Arrays) (x : List ℕ) (ds : List Extent) → are_sized arrays ≡ true → is_sized_sort (variable ds) ≡ true → are_sized (insert_entry same_name arrays x ds) ≡ true
sized-entry [] x ds h s = and_from (is_sized_sort (variable ds)) true s refl
sized-entry (a ∷ arrays) x ds h s =
    let p = and_parts (is_sized_array a) (are_sized arrays) h in
    by (same_name x a.0) p.0 p.1 (sized-entry arrays x ds p.1 s)
  where
    by : (b : Bool) → is_sized_array a ≡ true → are_sized arrays ≡ true → are_sized (insert_entry same_name arrays x ds) ≡ true
        → are_sized (if b then (a.0, ds) ∷ arrays else a ∷ insert_entry same_name arrays x ds) ≡ true
    by true one rest more = and_from (is_sized_sort (variable ds)) (are_sized arrays) s rest
    by false one rest more = and_from (is_sized_array a) (are_sized (insert_entry same_name arrays x ds)) one more

sized-with : (arrays more : Arrays) → are_sized arrays ≡ true → are_sized more ≡ true → are_sized (with_arrays arrays more) ≡ true
sized-with arrays [] h s = h
sized-with arrays (a ∷ more) h s =
    let p = and_parts (is_sized_array a) (are_sized more) s in
    sized-with (insert_entry same_name arrays a.0 a.1) more (sized-entry arrays a.0 a.1 h p.0) p.1

sized-more : (typed : List (List ℕ)) (front : List Statement) (s : Statement) → Kept (context_after typed front) s → are_sized (declared_in front).arrays ≡ true
    → are_sized (and_then_declared (declared_in front) s).arrays ≡ true
sized-more typed front s k p =
    let d = declared_in front in
    let more = arrays_by d.constants (bounded_by s.kind) in
    let together = ltb-false most_elements (total_elements d.arrays + total_elements more) (small typed front s k).elements in
    let few : total_elements more ≤ most_elements = omega arith in
    sized-with d.arrays more p (sized-by d.constants (bounded_by s.kind) k.bounds few)

sized-arrays : (ss : List Statement) → InProfile ss → are_sized (declared_in ss).arrays ≡ true
sized-arrays ss h = along-declared (λ (d : Declared). are_sized d.arrays ≡ true) ss refl (λ front s back e p. sized-more _ front s (kept ss h front s back e) p)

-- ---- each symbol is sized

sized-dimensions : (arrays : Arrays) (x : List ℕ) → are_sized arrays ≡ true → is_sized_sort (variable (dimensions_named arrays x)) ≡ true
sized-dimensions [] x h = refl
sized-dimensions (a ∷ arrays) x h =
    let p = and_parts (is_sized_array a) (are_sized arrays) h in
    by (same_name a.0 x) p.0 (sized-dimensions arrays x p.1)
  where
    by : (b : Bool) → is_sized_array a ≡ true → is_sized_sort (variable (dimensions_named arrays x)) ≡ true → is_sized_sort (variable (if b then a.1 else dimensions_named arrays x)) ≡ true
    by true one rest = one
    by false one rest = rest

sized-sort : (ds : List Extent) (v : Option ℤ) → is_sized_sort (variable ds) ≡ true → is_sized_sort (constant_or (variable ds) v) ≡ true
sized-sort ds None h = h
sized-sort ds (Some n) h = refl

sized-names : (d : Declared) (names : List (List ℕ)) → are_sized d.arrays ≡ true → list_all (λ x. is_sized_sort (sort_of d x)) names ≡ true
sized-names d [] h = refl
sized-names d (x ∷ names) h =
    and_from (is_sized_sort (sort_of d x)) (list_all (λ (y : List ℕ). is_sized_sort (sort_of d y)) names)
    (sized-sort (dimensions_named d.arrays x) (constant_named d.constants x) (sized-dimensions d.arrays x h)) (sized-names d names h)

-- no bounds are crossed, and no array has too many elements
pub sized : (ss : List Statement) → InProfile ss → list_all is_sized (symbols_of (declared_in ss)) ≡ true
sized ss h =
    let d = declared_in ss in
    list_all-map is_sized (λ (x : List ℕ). record { name = x; sort = sort_of d x }) d.names ∙ sized-names d d.names (sized-arrays ss h)
