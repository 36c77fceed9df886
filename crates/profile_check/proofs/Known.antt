-- What the symbols of a program in the profile stand for.
use Rattle.std.proofs.Common.{◌≡◌, ◌∙◌, ℕ, ℤ, ◌<◌, Bool, true, false, not, cond, List, [], ◌∷◌, ◌++◌, length, get_or, map, refl, ap, sym, subst, Option, Some, None, option_map, inl, inr}
use Rattle.std.specs.Prelude.{◌||◌, if◌then◌else◌, is_some, slice_get, unwrap_or}
use Rattle.std.specs.List.{IsDistinct, list_any, find, position_or_len}
use Rattle.std.proofs.lemmas.Bool.{or_parts, or_from, or_left, or_right, and_parts, and_from, lt-ltb, cases_order}
use Rattle.std.proofs.lemmas.Bool.Decides.{Decides-int_eq}
use Rattle.std.proofs.lemmas.Cmp.{nat_list_eq_equiv, int_eq_equiv}
use Rattle.std.proofs.lemmas.List.Folds.{list_any-append, find_at}
use Rattle.std.proofs.lemmas.Map.Keys.{IsDistinct-push, apart_from_distinct, any_passes_from_place}
use Rattle.std.proofs.lemmas.Option.{slice_get_within, slice_get-map, get_or_from_slice_get, same_Some, none-some}
use Rattle.indexmap.specs.IndexSet.{insert_key, insert_all}
use Rattle.ast.specs.Program.{is_variable, is_variable_named, is_placed}
use Rattle.ast.specs.Store.{same_name}
use Rattle.ast.specs.Symbols.{Extent, variable, Symbol, names_of, dimensions_of, dimensions_in}
use Rattle.ast.specs.Tree.{Ref, Kind, Statement}
use Rattle.ast.specs.declared.expression.Intrinsic.{Intrinsic}
use Rattle.ast.specs.declared.expression.Intrinsic.TheVariants.{Abs, Iabs, Max, Max0, Min, Min0, Mod}
use Rattle.ast.proofs.SameNames.{same_is}
use Rattle.profile_check.specs.Checking.{and_then_declared}
use Rattle.profile_check.specs.Declarations.{Declared, declared_in, constant_named, dimensions_named, constant_or, sort_of, symbols_of}
use Rattle.ast.specs.Spelling.{intrinsic_name, intrinsic_named}
use Rattle.profile_check.specs.Reads.{is_fixed, is_constant}
use Rattle.profile_check.specs.Resolving.{place_of}
use Rattle.profile_check.specs.Rules.{is_some_and, is_other, context_after, typed_in_whole, InProfile}
use Rattle.profile_check.specs.Uses.{is_among, is_intrinsic, typed_by, dimensioned_by, defined_by, declarator_names, definition_names, names_used, names_declared, names_mentioned}
use Rattle.profile_check.proofs.CountedTerms.{Ranked}
use Rattle.profile_check.proofs.Entries.{turn}
use Rattle.profile_check.proofs.Erased.{Known}
use Rattle.profile_check.proofs.Fresh.{had-all}
use Rattle.profile_check.proofs.Parts.{table_in, Serves}
use Rattle.profile_check.proofs.Sound.{kept, once, along-declared, constant-others}

-- ---- each name is one symbol's

distinct-key : (keys : List (List ℕ)) (x : List ℕ) (b : Bool) → list_any (same_name x) keys ≡ b → IsDistinct same_name keys → IsDistinct same_name (cond b keys (keys ++ x ∷ []))
distinct-key keys x true e d = d
distinct-key keys x false e d = IsDistinct-push nat_list_eq_equiv keys x d e

distinct-all : (keys xs : List (List ℕ)) → IsDistinct same_name keys → IsDistinct same_name (insert_all same_name keys xs)
distinct-all keys [] d = d
distinct-all keys (x ∷ xs) d = distinct-all (insert_key same_name keys x) xs (distinct-key keys x (list_any (same_name x) keys) refl d)

distinct-none : IsDistinct same_name []
unfolding IsDistinct
distinct-none = tt

distinct-names : (ss : List Statement) → IsDistinct same_name (declared_in ss).names
distinct-names ss =
    along-declared (λ (d : Declared). IsDistinct same_name d.names) ss distinct-none
    (λ front s back e p. distinct-all (declared_in front).names (names_mentioned s.kind) p)

-- the symbols of some of the names that are declared
abbrev symbols_at : Declared → List (List ℕ) → List Symbol
symbols_at d names = map (λ x. record { name = x; sort = sort_of d x }) names

names-at : (d : Declared) (names : List (List ℕ)) → names_of (symbols_at d names) ≡ names
names-at d [] = refl
names-at d (x ∷ names) = ap (λ (xs : List (List ℕ)). x ∷ xs) (names-at d names)

pub distinct : (ss : List Statement) → IsDistinct same_name (names_of (symbols_of (declared_in ss)))
distinct ss = subst (λ (xs : List (List ℕ)). IsDistinct same_name xs) (sym (names-at (declared_in ss) (declared_in ss).names)) (distinct-names ss)

-- ---- each constant is a name

not-defined : (k : Kind) (x : List ℕ) → is_among (names_mentioned k) x ≡ false → is_among (definition_names (defined_by k)) x ≡ false
not-defined k x h =
    let others = declarator_names (typed_by k) ++ declarator_names (dimensioned_by k) in
    let defined = definition_names (defined_by k) in
    let a = or_parts (is_among (names_declared k) x) (is_among (names_used k) x) (sym (list_any-append (same_name x) (names_declared k) (names_used k)) ∙ h) in
    (or_parts (is_among others x) (is_among defined x) (sym (list_any-append (same_name x) others defined) ∙ a.0)).1

abbrev AreNames : Declared → Type 0
AreNames d = (x : List ℕ) → is_among d.names x ≡ false → constant_named d.constants x ≡ None

are-names-more : (d : Declared) (s : Statement) → AreNames d → AreNames (and_then_declared d s)
are-names-more d s p = λ x h.
    let q = or_parts (is_among d.names x) (is_among (names_mentioned s.kind) x) (sym (had-all x d.names (names_mentioned s.kind)) ∙ h) in
    constant-others d.constants (defined_by s.kind) x (not-defined s.kind x q.1) ∙ p x q.0

are-names : (ss : List Statement) → AreNames (declared_in ss)
are-names ss = along-declared AreNames ss (λ x h. refl) (λ front s back e p. are-names-more (declared_in front) s p)

constant-named : (ss : List Statement) (x : List ℕ) (v : ℤ) → constant_named (declared_in ss).constants x ≡ Some v → is_among (declared_in ss).names x ≡ true
constant-named ss x v h = by (is_among (declared_in ss).names x) refl
  where
    by : (b : Bool) → is_among (declared_in ss).names x ≡ b → b ≡ true
    by true e = refl
    by false e = let none = are-names ss x e in absurd cc

-- ---- what a name stands for

-- the symbol of a constant
fixed-at : (d : Declared) (x : List ℕ) (n : ℤ) → constant_named d.constants x ≡ Some n → is_fixed (sort_of d x) n ≡ true
fixed-at d x n h = ap (λ (v : Option ℤ). is_fixed (constant_or (variable (dimensions_named d.arrays x)) v) n) h ∙ int_eq_equiv.refl n

constant-found : (d : Declared) (names : List (List ℕ)) (x : List ℕ) (n : ℤ) → constant_named d.constants x ≡ Some n → is_among names x ≡ true → is_constant (symbols_at d names) x n ≡ true
constant-found d [] x n h m = absurd cc
constant-found d (y ∷ names) x n h m = by (constant-found d names x n h) (same_name x y) refl m
  where
    by : (is_among names x ≡ true → is_constant (symbols_at d names) x n ≡ true) → (b : Bool) → same_name x y ≡ b → (b || is_among names x) ≡ true
        → (if same_name y x then is_fixed (sort_of d y) n else is_constant (symbols_at d names) x n) ≡ true
    by rest true e k =
        ap (λ (b : Bool). if b then is_fixed (sort_of d y) n else is_constant (symbols_at d names) x n) (turn y x ∙ e)
        ∙ ap (λ (z : List ℕ). is_fixed (sort_of d z) n) (sym (same_is x y e)) ∙ fixed-at d x n h
    by rest false e k = ap (λ (b : Bool). if b then is_fixed (sort_of d y) n else is_constant (symbols_at d names) x n) (turn y x ∙ e) ∙ rest k

-- the place of a name
found : (names : List (List ℕ)) (x : List ℕ) → is_among names x ≡ true → find (same_name x) names ≡ Some x
found [] x m = absurd cc
found (y ∷ names) x m = by (found names x) (same_name x y) refl m
  where
    by : (is_among names x ≡ true → find (same_name x) names ≡ Some x) → (b : Bool) → same_name x y ≡ b → (b || is_among names x) ≡ true → cond b (Some y) (find (same_name x) names) ≡ Some x
    by rest true e k = ap (λ (z : List ℕ). Some z) (sym (same_is x y e))
    by rest false e k = rest k

at-place : (names : List (List ℕ)) (x : List ℕ) → is_among names x ≡ true → slice_get names (place_of names x) ≡ Some x
at-place names x m =
    let p = position_or_len (same_name x) names in
    let here : slice_get names p ≡ Some x = sym (find_at (same_name x) names) ∙ found names x m in
    ap (λ (b : Bool). slice_get names (unwrap_or (cond b (Some p) None) 0)) (lt-ltb p (length names) (slice_get_within names p x here)) ∙ here

symbol-at : (d : Declared) (names : List (List ℕ)) (i : ℕ) (x : List ℕ) → slice_get names i ≡ Some x → slice_get (symbols_at d names) i ≡ Some (record { name = x; sort = sort_of d x })
symbol-at d names i x h =
    slice_get-map (λ (y : List ℕ). record { name = y; sort = sort_of d y }) names i ∙ ap (λ (o : Option (List ℕ)). option_map (λ y. record { name = y; sort = sort_of d y }) o) h

variable-at : (d : Declared) (x : List ℕ) → constant_named d.constants x ≡ None → is_variable_named x (Some (record { name = x; sort = sort_of d x })) ≡ true
variable-at d x h =
    and_from (same_name x x) (is_variable (sort_of d x)) (nat_list_eq_equiv.refl x)
    (ap (λ (v : Option ℤ). is_variable (constant_or (variable (dimensions_named d.arrays x)) v)) h)

no-constant : (found : Option ℤ) → not (is_some found) ≡ true → found ≡ None
no-constant None h = refl
no-constant (Some n) h = absurd cc

-- the symbols serve the names that are declared
pub serves : (ss : List Statement) → InProfile ss → Serves (symbols_of (declared_in ss)) (table_in (declared_in ss))
serves ss h = record {
  constants = λ x v e. constant-found (declared_in ss) (declared_in ss).names x v e (constant-named ss x v e);
  places = λ r n m f.
      ap (λ (o : Option Symbol). is_variable_named r.name o) (symbol-at (declared_in ss) (declared_in ss).names (place_of (declared_in ss).names r.name) r.name (at-place (declared_in ss).names r.name m))
      ∙ variable-at (declared_in ss) r.name (no-constant (constant_named (declared_in ss).constants r.name) f);
}

-- ---- no name is an intrinsic function's

none-other : (program : Option (List ℕ)) (names : List (List ℕ)) → list_any (is_other program) names ≡ false → list_any is_intrinsic names ≡ false
none-other program [] h = refl
none-other program (x ∷ names) h =
    let p = or_parts (is_other program x) (list_any (is_other program) names) h in
    let q = or_parts (is_intrinsic x) (is_some_and (same_name x) program) p.0 in
    or_from (is_intrinsic x) (list_any is_intrinsic names) q.0 (none-other program names p.1)

none-key : (test : List ℕ → Bool) (keys : List (List ℕ)) (x : List ℕ) → (b : Bool) → list_any test keys ≡ false → test x ≡ false → list_any test (cond b keys (keys ++ x ∷ [])) ≡ false
none-key test keys x true h t = h
none-key test keys x false h t = list_any-append test keys (x ∷ []) ∙ or_from (list_any test keys) (test x || false) h (or_from (test x) false t refl)

none-all : (test : List ℕ → Bool) (keys xs : List (List ℕ)) → list_any test keys ≡ false → list_any test xs ≡ false → list_any test (insert_all same_name keys xs) ≡ false
none-all test keys [] h t = h
none-all test keys (x ∷ xs) h t =
    let p = or_parts (test x) (list_any test xs) t in
    none-all test (insert_key same_name keys x) xs (none-key test keys x (list_any (same_name x) keys) h p.0) p.1

no-intrinsic : (ss : List Statement) → InProfile ss → list_any is_intrinsic (declared_in ss).names ≡ false
no-intrinsic ss h =
    along-declared (λ (d : Declared). list_any is_intrinsic d.names ≡ false) ss refl
    (λ front s back e p.
    none-all is_intrinsic (declared_in front).names (names_mentioned s.kind) p
    (none-other (declared_in front).program (names_mentioned s.kind) (once (context_after (typed_in_whole ss) front) s (kept ss h front s back e)).names))

intrinsic : (f : Intrinsic) → is_intrinsic (intrinsic_name f) ≡ true
intrinsic Abs = refl
intrinsic Iabs = refl
intrinsic Max = refl
intrinsic Max0 = refl
intrinsic Min = refl
intrinsic Min0 = refl
intrinsic Mod = refl

intrinsic-back : (f : Intrinsic) → intrinsic_named (intrinsic_name f) ≡ Some f
intrinsic-back Abs = refl
intrinsic-back Iabs = refl
intrinsic-back Max = refl
intrinsic-back Max0 = refl
intrinsic-back Min = refl
intrinsic-back Min0 = refl
intrinsic-back Mod = refl

-- ---- a name stands for one thing

-- the name of a reference in its place, a variable's
record Held (d : Declared) (names : List (List ℕ)) (r : Ref) : Type 0 where
  name : slice_get names r.cell ≡ Some r.name
  free : constant_named d.constants r.name ≡ None

no-value : (ds : List Extent) (v : Option ℤ) → is_variable (constant_or (variable ds) v) ≡ true → v ≡ None
no-value ds None h = refl
no-value ds (Some n) h = absurd cc

held : (d : Declared) (names : List (List ℕ)) (r : Ref) → is_placed (symbols_at d names) r ≡ true → Held d names r
held d names r h = by (slice_get names r.cell) refl (sym (ap (λ (o : Option Symbol). is_variable_named r.name o) (slice_get-map (λ (y : List ℕ). record { name = y; sort = sort_of d y }) names r.cell)) ∙ h)
  where
    by : (o : Option (List ℕ)) → slice_get names r.cell ≡ o → is_variable_named r.name (option_map (λ y. record { name = y; sort = sort_of d y }) o) ≡ true → Held d names r
    by None e k = absurd cc
    by (Some y) e k =
        let p = and_parts (same_name y r.name) (is_variable (sort_of d y)) k in
        let q : y ≡ r.name = same_is y r.name p.0 in
        record {
          name = e ∙ ap (λ (z : List ℕ). Some z) q;
          free = ap (λ (z : List ℕ). constant_named d.constants z) (sym q) ∙ no-value (dimensions_named d.arrays y) (constant_named d.constants y) p.1;
        }

-- the value of a constant
record Valued (d : Declared) (names : List (List ℕ)) (x : List ℕ) (n : ℤ) : Type 0 where
  named : is_among names x ≡ true
  value : constant_named d.constants x ≡ Some n

fixed-back : (ds : List Extent) (v : Option ℤ) (n : ℤ) → is_fixed (constant_or (variable ds) v) n ≡ true → v ≡ Some n
fixed-back ds None n h = absurd cc
fixed-back ds (Some m) n h = ap (λ (k : ℤ). Some k) ((Decides-int_eq m n).0 h)

valued : (d : Declared) (names : List (List ℕ)) (x : List ℕ) (n : ℤ) → is_constant (symbols_at d names) x n ≡ true → Valued d names x n
valued d [] x n h = absurd cc
valued d (y ∷ names) x n h = by (valued d names x n) (same_name y x) refl h
  where
    by : (is_constant (symbols_at d names) x n ≡ true → Valued d names x n) → (b : Bool) → same_name y x ≡ b
        → (if b then is_fixed (sort_of d y) n else is_constant (symbols_at d names) x n) ≡ true → Valued d (y ∷ names) x n
    by rest true e k = record {
      named = or_left (same_name x y) (is_among names x) (turn x y ∙ e);
      value = ap (λ (z : List ℕ). constant_named d.constants z) (sym (same_is y x e)) ∙ fixed-back (dimensions_named d.arrays y) (constant_named d.constants y) n k;
    }
    by rest false e k =
        let v = rest k in
        record { named = or_right (same_name x y) (is_among names x) v.named; value = v.value }

-- distinct names stand in one place each
one-place : (names : List (List ℕ)) (x : List ℕ) (i j : ℕ) → IsDistinct same_name names → slice_get names i ≡ Some x → slice_get names j ≡ Some x → i < j → ⊥
one-place names x i j d a b less =
    let apart = apart_from_distinct same_name names i j [] d less (slice_get_within names j x b) in
    let first = get_or_from_slice_get names i x [] a in
    let second = get_or_from_slice_get names j x [] b in
    let same : same_name x x ≡ false = ap (λ (z : List ℕ). same_name z x) (sym first) ∙ ap (λ (z : List ℕ). same_name (get_or names i []) z) (sym second) ∙ apart in
    let q : true ≡ false = sym (nat_list_eq_equiv.refl x) ∙ same in absurd cc

same-place : (names : List (List ℕ)) (x : List ℕ) (i j : ℕ) → IsDistinct same_name names → slice_get names i ≡ Some x → slice_get names j ≡ Some x → i ≡ j
same-place names x i j d a b = elim (cases_order i j) [
  | inl e ↦ e
  | inr (inl less) ↦ absurd (one-place names x i j d a b less)
  | inr (inr less) ↦ absurd (one-place names x j i d b a less)
]

-- a name stands for one thing: a variable in one place, a constant with one value, or an intrinsic
-- function
pub known : (ss : List Statement) → InProfile ss → Known (symbols_of (declared_in ss))
known ss h =
    let d = declared_in ss in
    record {
      place = λ r s p q e.
          let a = held d d.names r p in
          let b = held d d.names s q in
          same-place d.names s.name r.cell s.cell (distinct-names ss) (a.name ∙ ap (λ (x : List ℕ). Some x) e) b.name;
      value = λ x n m p q. same_Some n m (sym (valued d d.names x n p).value ∙ (valued d d.names x m q).value);
      no_constant = λ r n p q. none-some n (sym (held d d.names r p).free ∙ (valued d d.names r.name n q).value);
      no_function = λ r f p e.
          not-named f r.cell ((held d d.names r p).name ∙ ap (λ (x : List ℕ). Some x) e);
      no_value = λ f n p. not-named f (place_of d.names (intrinsic_name f)) (at-place d.names (intrinsic_name f) (valued d d.names (intrinsic_name f) n p).named);
      function = λ f g e. same_Some f g (sym (intrinsic-back f) ∙ ap intrinsic_named e ∙ intrinsic-back g);
    }
  where
    not-named : (f : Intrinsic) (i : ℕ) → slice_get (declared_in ss).names i ≡ Some (intrinsic_name f) → ⊥
    not-named f i e =
        let some = any_passes_from_place is_intrinsic (declared_in ss).names i (intrinsic_name f) e (intrinsic f) in
        let q : true ≡ false = sym some ∙ no-intrinsic ss h in absurd cc

-- ---- the dimensions of a name

dimensions-found : (d : Declared) (names : List (List ℕ)) (x : List ℕ) → constant_named d.constants x ≡ None → is_among names x ≡ true → dimensions_in (symbols_at d names) x ≡ dimensions_named d.arrays x
dimensions-found d [] x f m = absurd cc
dimensions-found d (y ∷ names) x f m = by (dimensions-found d names x f) (same_name x y) refl m
  where
    by : (is_among names x ≡ true → dimensions_in (symbols_at d names) x ≡ dimensions_named d.arrays x) → (b : Bool) → same_name x y ≡ b → (b || is_among names x) ≡ true
        → (if same_name y x then dimensions_of (sort_of d y) else dimensions_in (symbols_at d names) x) ≡ dimensions_named d.arrays x
    by rest true e k =
        ap (λ (b : Bool). if b then dimensions_of (sort_of d y) else dimensions_in (symbols_at d names) x) (turn y x ∙ e)
        ∙ ap (λ (z : List ℕ). dimensions_of (sort_of d z)) (sym (same_is x y e))
        ∙ ap (λ (v : Option ℤ). dimensions_of (constant_or (variable (dimensions_named d.arrays x)) v)) f
    by rest false e k = ap (λ (b : Bool). if b then dimensions_of (sort_of d y) else dimensions_in (symbols_at d names) x) (turn y x ∙ e) ∙ rest k

no-function : (ss : List Statement) → InProfile ss → (i : ℕ) (x : List ℕ) → slice_get (declared_in ss).names i ≡ Some x → (b : Bool) → is_intrinsic x ≡ b → b ≡ false
no-function ss h i x e false k = refl
no-function ss h i x e true k =
    let some = any_passes_from_place is_intrinsic (declared_in ss).names i x e k in
    let q : true ≡ false = sym some ∙ no-intrinsic ss h in absurd cc

pub ranked : (ss : List Statement) → InProfile ss → Ranked (symbols_of (declared_in ss)) (declared_in ss).arrays
ranked ss h =
    let d = declared_in ss in
    record {
      other = λ r p. no-function ss h r.cell r.name (held d d.names r p).name (is_intrinsic r.name) refl;
      dimensions = λ r p.
          let a = held d d.names r p in
          dimensions-found d d.names r.name a.free (any_passes_from_place (same_name r.name) d.names r.cell r.name a.name (nat_list_eq_equiv.refl r.name));
    }
