-- A statement that breaks no rule declares nothing again: its arrays stand after those before it.
use Rattle.std.proofs.Common.{◌≡◌, ◌∙◌, ℕ, ◌+◌, ◌||◌, Bool, true, false, cond, List, [], ◌∷◌, ◌++◌, refl, ap, sym, subst, Option, Some, None, append_assoc, append-nil}
use Rattle.std.specs.Prelude.{nat_le, if◌then◌else◌}
use Rattle.std.specs.List.{list_any}
use Rattle.std.proofs.lemmas.Bool.{or_parts, or_from}
use Rattle.std.proofs.lemmas.List.Folds.{list_any-append}
use Rattle.std.proofs.Math.Bool.{or-false, or_assoc}
use Rattle.indexmap.specs.IndexMap.{insert_entry}
use Rattle.indexmap.specs.IndexSet.{insert_key, insert_all}
use Rattle.ast.specs.Store.{same_name}
use Rattle.ast.specs.Symbols.{Extent}
use Rattle.ast.specs.Tree.{Declarator, Statement}
use Rattle.ast.specs.Rule.{number_of}
use Rattle.ast.specs.declared.rule.Rule.{Rule}
use Rattle.ast.proofs.SameNames.{same_is}
use Rattle.profile_check.specs.Checking.{and_then_declared}
use Rattle.profile_check.specs.Declarations.{Declared, Arrays, Constants, declared_in, arrays_by, or_no_extents, extents_of, with_arrays, total_elements, objects_by}
use Rattle.profile_check.specs.Rules.{lower}
use Rattle.profile_check.specs.TakenBefore.{taken_before}
use Rattle.profile_check.specs.Uses.{is_among, bounded_by, defined_by, declarator_names, definition_names}
use Rattle.profile_check.proofs.OneMore.{declared-append}
use Rattle.profile_check.proofs.Sums.{total-append}

pub lower-none : (a b : Option Rule) → lower a b ≡ None → (a ≡ None) × (b ≡ None)
lower-none None b h = (refl, h)
lower-none (Some a) None h = absurd cc
lower-none (Some a) (Some b) h = absurd (by (nat_le (number_of a) (number_of b)) h)
  where
    by : (first : Bool) → (if first then Some a else Some b) ≡ None → ⊥
    by true h = cc
    by false h = cc

pub none-first : (b : Bool) (rule : Rule) (rest : Option Rule) → (if b then Some rule else rest) ≡ None → (b ≡ false) × (rest ≡ None)
none-first true rule rest h = absurd cc
none-first false rule rest h = (refl, h)

-- A table has what was taken into it.
had-equal : (x y : List ℕ) (keys : List (List ℕ)) (b : Bool) → same_name x y ≡ b → list_any (same_name y) keys ≡ true → list_any (same_name x) keys ≡ (list_any (same_name x) keys || b)
had-equal x y keys false e h = sym (or-false (list_any (same_name x) keys))
had-equal x y keys true e h =
    let there = ap (λ z. list_any (same_name z) keys) (same_is x y e) ∙ h in
    there ∙ sym (ap (λ b. b || true) there)

had-key : (x y : List ℕ) (keys : List (List ℕ)) (b : Bool) → list_any (same_name y) keys ≡ b → list_any (same_name x) (cond b keys (keys ++ y ∷ [])) ≡ (list_any (same_name x) keys || same_name x y)
had-key x y keys true h = had-equal x y keys (same_name x y) refl h
had-key x y keys false h = list_any-append (same_name x) keys (y ∷ []) ∙ ap (λ b. list_any (same_name x) keys || b) (or-false (same_name x y))

pub had-all : (x : List ℕ) (keys xs : List (List ℕ)) → list_any (same_name x) (insert_all same_name keys xs) ≡ (list_any (same_name x) keys || list_any (same_name x) xs)
had-all x keys [] = sym (or-false (list_any (same_name x) keys))
had-all x keys (y ∷ ys) =
    had-all x (insert_key same_name keys y) ys ∙ ap (λ b. b || list_any (same_name x) ys) (had-key x y keys (list_any (same_name y) keys) refl)
    ∙ or_assoc (list_any (same_name x) keys) (same_name x y) (list_any (same_name x) ys)

-- ---- arrays one after another

abbrev is_array : Arrays → List ℕ → Bool
is_array arrays x = list_any (λ a. same_name x a.0) arrays

added : (arrays : Arrays) (y : List ℕ) (ds : List Extent) → is_array arrays y ≡ false → insert_entry same_name arrays y ds ≡ arrays ++ (y, ds) ∷ []
added [] y ds h = refl
added (a ∷ arrays) y ds h =
    let p = or_parts (same_name y a.0) (is_array arrays y) h in
    ap (λ (b : Bool). if b then (a.0, ds) ∷ arrays else a ∷ insert_entry same_name arrays y ds) p.0 ∙ ap (λ (rest : Arrays). a ∷ rest) (added arrays y ds p.1)

still-none : (arrays : Arrays) (y : List ℕ) (ds : List Extent) (x : List ℕ) → same_name x y ≡ false → is_array arrays x ≡ false → is_array (insert_entry same_name arrays y ds) x ≡ false
still-none [] y ds x e h = or_from (same_name x y) false e refl
still-none (a ∷ arrays) y ds x e h =
    let p = or_parts (same_name x a.0) (is_array arrays x) h in
    by (or_from (same_name x a.0) (is_array (insert_entry same_name arrays y ds) x) p.0 (still-none arrays y ds x e p.1)) (same_name y a.0)
  where
    by : is_array (a ∷ insert_entry same_name arrays y ds) x ≡ false → (b : Bool) → is_array (if b then (a.0, ds) ∷ arrays else a ∷ insert_entry same_name arrays y ds) x ≡ false
    by later true = h
    by later false = later

others-none : (constants : Constants) (arrays : Arrays) (ds : List Declarator) (x : List ℕ) → is_among (declarator_names ds) x ≡ false → is_array arrays x ≡ false
    → is_array (with_arrays arrays (arrays_by constants ds)) x ≡ false
others-none constants arrays [] x e h = h
others-none constants arrays (d ∷ ds) x e h =
    let p = or_parts (same_name x d.name) (is_among (declarator_names ds) x) e in
    let es = or_no_extents (extents_of constants d.bounds) in
    others-none constants (insert_entry same_name arrays d.name es) ds x p.1 (still-none arrays d.name es x p.0 h)

-- each array is an object
abbrev AreObjects : List (List ℕ) → Arrays → Type 0
AreObjects objects arrays = (x : List ℕ) → is_among objects x ≡ false → is_array arrays x ≡ false

objects-more : (d : Declared) (s : Statement) → AreObjects d.objects d.arrays → AreObjects (and_then_declared d s).objects (and_then_declared d s).arrays
objects-more d s p = λ x h.
    let a = or_parts (is_among d.objects x) (is_among (objects_by s.kind) x) (sym (had-all x d.objects (objects_by s.kind)) ∙ h) in
    let arrays = declarator_names (bounded_by s.kind) in
    let constants = definition_names (defined_by s.kind) in
    let b = or_parts (is_among arrays x) (is_among constants x) (sym (list_any-append (same_name x) arrays constants) ∙ a.1) in
    others-none d.constants d.arrays (bounded_by s.kind) x b.0 (p x a.0)

objects-rest : (front back : List Statement) → AreObjects (declared_in front).objects (declared_in front).arrays → AreObjects (declared_in (front ++ back)).objects (declared_in (front ++ back)).arrays
objects-rest front [] p = subst (λ (ss : List Statement). AreObjects (declared_in ss).objects (declared_in ss).arrays) (sym (append-nil front)) p
objects-rest front (s ∷ back) p =
    let one = subst (λ (d : Declared). AreObjects d.objects d.arrays) (sym (declared-append front s)) (objects-more (declared_in front) s p) in
    subst (λ (ss : List Statement). AreObjects (declared_in ss).objects (declared_in ss).arrays) (append_assoc front (s ∷ []) back) (objects-rest (front ++ s ∷ []) back one)

objects-one : (objects : List (List ℕ)) (arrays : Arrays) (y : List ℕ) (ds : List Extent) → AreObjects objects arrays → AreObjects (insert_key same_name objects y) (arrays ++ (y, ds) ∷ [])
objects-one objects arrays y ds p = λ x h.
    let a = or_parts (is_among objects x) (same_name x y) (sym (had-key x y objects (list_any (same_name y) objects) refl) ∙ h) in
    list_any-append (λ (a : List ℕ × List Extent). same_name x a.0) arrays ((y, ds) ∷ [])
    ∙ or_from (is_array arrays x) (same_name x y || false) (p x a.0) (or_from (same_name x y) false a.1 refl)

appended : (constants : Constants) (objects : List (List ℕ)) (arrays : Arrays) (ds : List Declarator) (others : List (List ℕ)) → AreObjects objects arrays
    → taken_before objects (declarator_names ds ++ others) ≡ false → with_arrays arrays (arrays_by constants ds) ≡ arrays ++ arrays_by constants ds
appended constants objects arrays [] others p h = sym (append-nil arrays)
appended constants objects arrays (d ∷ ds) others p h =
    let q = or_parts (is_among objects d.name) (taken_before (insert_key same_name objects d.name) (declarator_names ds ++ others)) h in
    let es = or_no_extents (extents_of constants d.bounds) in
    ap (λ (table : Arrays). with_arrays table (arrays_by constants ds)) (added arrays d.name es (p d.name q.0))
    ∙ appended constants (insert_key same_name objects d.name) (arrays ++ (d.name, es) ∷ []) ds others (objects-one objects arrays d.name es p) q.1
    ∙ append_assoc arrays ((d.name, es) ∷ []) (arrays_by constants ds)

pub elements-more : (front : List Statement) (s : Statement) → taken_before (declared_in front).objects (objects_by s.kind) ≡ false
    → total_elements (and_then_declared (declared_in front) s).arrays
    ≡ total_elements (declared_in front).arrays + total_elements (arrays_by (declared_in front).constants (bounded_by s.kind))
elements-more front s h =
    let d = declared_in front in
    ap total_elements (appended d.constants d.objects d.arrays (bounded_by s.kind) (definition_names (defined_by s.kind)) (objects-rest [] front (λ x e. refl)) h)
    ∙ total-append d.arrays (arrays_by d.constants (bounded_by s.kind))
