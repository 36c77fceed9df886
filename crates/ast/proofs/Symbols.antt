-- What is found at the place of a name among the symbols.
use Rattle.std.proofs.Common.{◌≡◌, ℕ, true, List, Some, ◌∙◌, false, Option, None, refl, sym, ap, zero, suc, [], ◌∷◌, subst, ◌≢◌}
use Rattle.std.proofs.lemmas.Bool.{and_parts}
use Rattle.std.proofs.lemmas.Cmp.{nat_list_eq_equiv}
use Rattle.std.specs.List.{AllByRecursion, IsDistinct, list_all}
use Rattle.std.specs.Prelude.{slice_get, ◌&&◌}
use Rattle.ast.proofs.SameNames.{same_is, same_itself}
use Rattle.ast.specs.Program.{is_variable, is_variable_named, is_placed}
use Rattle.ast.specs.Store.{same_name}
use Rattle.ast.specs.Symbols.{Symbol, names_of, dimensions_in, dimensions_of, is_sized, Sort, variable, fixed, elements, size}
use Rattle.ast.specs.Tree.{Ref}

-- the symbol of a reference
pub record Found (ss : List Symbol) (cell : ℕ) (name : List ℕ) : Type 0 where
  pub symbol : Symbol
  pub at : slice_get ss cell ≡ Some symbol
  pub named : symbol.name ≡ name
  pub is_variable : is_variable symbol.sort ≡ true

pub found : (ss : List Symbol) (r : Ref) → is_placed ss r ≡ true → Found ss r.cell r.name
found ss r h = by (slice_get ss r.cell) refl
  where
    by : (o : Option Symbol) → slice_get ss r.cell ≡ o → Found ss r.cell r.name
    by None e = absurd (let d : false ≡ true = sym (ap (is_variable_named r.name) e) ∙ h in cc)
    by (Some s) e =
        let k : (same_name s.name r.name && is_variable s.sort) ≡ true = sym (ap (is_variable_named r.name) e) ∙ h in
        let p = and_parts (same_name s.name r.name) (is_variable s.sort) k in
        record { symbol = s; at = e; named = same_is s.name r.name p.0; is_variable = p.1 }

-- a name at a place isn't one from which all names differ
pub differs : (x : List ℕ) (ss : List Symbol) (i : ℕ) (s : Symbol) → AllByRecursion (λ n. same_name x n ≡ false) (names_of ss) → slice_get ss i ≡ Some s → same_name x s.name ≡ false
differs x [] i s h e = cc
differs x (t ∷ ss) zero s h e = let d : t ≡ s = cc in subst (λ (z : Symbol). same_name x z.name ≡ false) d h.0
differs x (t ∷ ss) (suc i) s h e = differs x ss i s h.1 e

pub names_differ : (ss : List Symbol) (i j : ℕ) (s t : Symbol) → IsDistinct same_name (names_of ss) → slice_get ss i ≡ Some s → slice_get ss j ≡ Some t → i ≢ j → same_name s.name t.name ≡ false
unfolding IsDistinct
names_differ [] i j s t h e f n = cc e
names_differ (u ∷ ss) zero zero s t h e f n = absurd (n refl)
names_differ (u ∷ ss) zero (suc j) s t h e f n = let d : u ≡ s = cc e in subst (λ (z : Symbol). same_name z.name t.name ≡ false) d (differs u.name ss j t h.0 f)
names_differ (u ∷ ss) (suc i) zero s t h e f n = let d : u ≡ t = cc f in nat_list_eq_equiv.symm s.name t.name ∙ subst (λ (z : Symbol). same_name z.name s.name ≡ false) d (differs u.name ss i s h.0 e)
names_differ (u ∷ ss) (suc i) (suc j) s t h e f n = names_differ ss i j s t h.1 e f (λ k. n (ap suc k))

pub dimensions_told : (ss : List Symbol) (i : ℕ) (s : Symbol) → IsDistinct same_name (names_of ss) → slice_get ss i ≡ Some s → dimensions_in ss s.name ≡ dimensions_of s.sort
unfolding IsDistinct
dimensions_told [] i s h e = cc
dimensions_told (t ∷ ss) zero s h e =
    let d : t ≡ s = cc in
    let k : same_name t.name s.name ≡ true = subst (λ (z : Symbol). same_name t.name z.name ≡ true) d (same_itself t.name) in
    rw k (ap (λ (z : Symbol). dimensions_of z.sort) d)
dimensions_told (t ∷ ss) (suc i) s h e =
    let k : same_name t.name s.name ≡ false = differs t.name ss i s h.0 e in
    rw k (dimensions_told ss i s h.1 e)

pub sized_at : (ss : List Symbol) (i : ℕ) (s : Symbol) → list_all is_sized ss ≡ true → slice_get ss i ≡ Some s → is_sized s ≡ true
sized_at [] i s h e = cc
sized_at (t ∷ ss) zero s h e = let d : t ≡ s = cc in subst (λ (z : Symbol). is_sized z ≡ true) d (and_parts (is_sized t) (list_all is_sized ss) h).0
sized_at (t ∷ ss) (suc i) s h e = sized_at ss i s (and_parts (is_sized t) (list_all is_sized ss) h).1 e

pub size_of_variable : (s : Sort) → is_variable s ≡ true → size s ≡ elements (dimensions_of s)
size_of_variable (variable ds) h = refl
size_of_variable (fixed n) h = absurd (let d : false ≡ true = h in cc)
