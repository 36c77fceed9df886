-- Tables of the code as definitions speak of them.
use Rattle.std.proofs.Common.{◌≡◌, ◌∙◌, ℕ, ℤ, Bool, true, false, cond, List, [], ◌∷◌, ◌++◌, map, refl, ap, sym, Option, Some, None, Vec, Global, length, append_assoc}
use Rattle.std.specs.Prelude.{if◌then◌else◌}
use Rattle.std.specs.Map.{lookup}
use Rattle.std.proofs.lemmas.List.{map-append, length-map}
use Rattle.std.specs.List.{list_any}
use Rattle.indexmap.specs.IndexMap.{insert_entry}
use Rattle.indexmap.specs.IndexSet.{insert_key}
use Rattle.ast.specs.Store.{same_name}
use Rattle.ast.specs.Symbols.{Extent}
use Rattle.ast.specs.View.{letters, extent, bounds}
use Rattle.ast.specs.declared.statement.Bounds as written
use Rattle.std.specs.Option.{option_map_or}
use Rattle.ast.specs.declared.name.Name.{Name}
use Rattle.ast.specs.declared.program.Dimension.{Dimension}
use Rattle.ast.specs.contracts.name.NamePartialEq.TheImpl.{eq-value}
use Rattle.ast.proofs.SameNames.{same_itself, same_is}
use Rattle.profile_check.specs.Declarations.{constant_named, dimensions_named}
use Rattle.profile_check.specs.DeclaredView.{constants_of, arrays_of}

turned : (x y : List ℕ) (b c : Bool) → same_name x y ≡ b → same_name y x ≡ c → b ≡ c
turned x y true true h k = refl
turned x y false false h k = refl
turned x y true false h k = sym (same_itself x) ∙ ap (λ z. same_name z x) (same_is x y h) ∙ k
turned x y false true h k = sym (sym (same_itself y) ∙ ap (λ z. same_name z y) (same_is y x k) ∙ h)

pub turn : (x y : List ℕ) → same_name x y ≡ same_name y x
turn x y = turned x y (same_name x y) (same_name y x) refl refl

pub constant_found : (es : List (Name × ℤ)) (x : Name) → lookup (eq-value.it x) es ≡ constant_named (constants_of es) x.letters
constant_found [] x = refl
constant_found (e ∷ es) x = λ i. if turn x.letters e.0.letters i then Some e.1 else constant_found es x i

insert_one : {V W : Type 0} (view : V → W) (b : Bool) (e : Name × V) (v : V) (es rest : List (Name × V)) (more : List (List ℕ × W))
    → map (λ p. (p.0.letters, view p.1)) rest ≡ more
    → map (λ p. (p.0.letters, view p.1)) (if b then (e.0, v) ∷ es else e ∷ rest)
    ≡ (if b then (e.0.letters, view v) ∷ map (λ p. (p.0.letters, view p.1)) es else (e.0.letters, view e.1) ∷ more)
insert_one view true e v es rest more h = refl
insert_one view false e v es rest more h = ap (λ xs. (e.0.letters, view e.1) ∷ xs) h

insert_entry-letters : {V W : Type 0} (view : V → W) (es : List (Name × V)) (x : Name) (v : V)
    → map (λ p. (p.0.letters, view p.1)) (insert_entry eq-value.it es x v) ≡ insert_entry same_name (map (λ p. (p.0.letters, view p.1)) es) x.letters (view v)
insert_entry-letters view [] x v = refl
insert_entry-letters view (e ∷ es) x v = insert_one view (eq-value.it x e.0) e v es (insert_entry eq-value.it es x v) _ (insert_entry-letters view es x v)

pub constant_added : (es : List (Name × ℤ)) (x : Name) (n : ℤ) → constants_of (insert_entry eq-value.it es x n) ≡ insert_entry same_name (constants_of es) x.letters n
constant_added es x n = insert_entry-letters (λ z. z) es x n

pub array_added : (es : List (Name × Vec Dimension Global)) (x : Name) (v : Vec Dimension Global)
    → arrays_of (insert_entry eq-value.it es x v) ≡ insert_entry same_name (arrays_of es) x.letters (map extent v.items)
array_added es x v = insert_entry-letters (λ z. map extent z.items) es x v

-- the dimensions of an array, none of another name
abbrev pub extents_in : Option (Vec Dimension Global) → List Extent
extents_in None = []
extents_in (Some v) = map extent v.items

found_one : (b : Bool) (v : Vec Dimension Global) (rest : Option (Vec Dimension Global)) → extents_in (cond b (Some v) rest) ≡ (if b then map extent v.items else extents_in rest)
found_one true v rest = refl
found_one false v rest = refl

pub array_found : (es : List (Name × Vec Dimension Global)) (x : Name) → dimensions_named (arrays_of es) x.letters ≡ extents_in (lookup (eq-value.it x) es)
array_found [] x = refl
array_found (e ∷ es) x =
    (λ i. if turn e.0.letters x.letters i then map extent e.1.items else array_found es x i)
    ∙ sym (found_one (eq-value.it x e.0) e.1 (lookup (eq-value.it x) es))

pub list_any-letters : (p : List ℕ → Bool) (ks : List Name) → list_any p (map letters ks) ≡ list_any (λ k. p (letters k)) ks
list_any-letters p [] = refl
list_any-letters p (k ∷ ks) = rw (list_any-letters p ks) refl

one_more : (b : Bool) (ks : List Name) (x : Name) → map letters (cond b ks (ks ++ x ∷ [])) ≡ cond b (map letters ks) (map letters ks ++ letters x ∷ [])
one_more true ks x = refl
one_more false ks x = simp map-append

pub insert_key-letters : (ks : List Name) (x : Name) → map letters (insert_key eq-value.it ks x) ≡ insert_key same_name (map letters ks) (letters x)
insert_key-letters ks x = rw (list_any-letters (same_name x.letters) ks) (one_more (list_any (eq-value.it x) ks) ks x)

pub ruleset table_laws = (list_any-letters, insert_key-letters)

pub bounds_length : (bs : List written.Bounds) → length (map bounds bs) ≡ length bs
bounds_length bs = length-map bs bounds

rank_in : (found : Option (Vec Dimension Global)) → length (extents_in found) ≡ option_map_or (λ v. length v.items) found 0
rank_in None = refl
rank_in (Some v) = length-map v.items extent

pub rank_found : (es : List (Name × Vec Dimension Global)) (x : Name)
    → length (dimensions_named (arrays_of es) x.letters) ≡ option_map_or (λ v. length v.items) (lookup (eq-value.it x) es) 0
rank_found es x = ap length (array_found es x) ∙ rank_in (lookup (eq-value.it x) es)

pub appended : (a b c : List (List ℕ)) → (a ++ b) ++ c ≡ a ++ (b ++ c)
appended a b c = append_assoc a b c

pub names_length : (ks : List Name) → length (map letters ks) ≡ length ks
names_length ks = length-map ks letters
