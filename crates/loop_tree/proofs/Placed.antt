-- Where each reference holds the place of its name, and no name stands twice, cells tell names.
use Rattle.std.proofs.Common.{◌≡◌, ◌≢◌, ◌∙◌, ap, sym, refl, ℕ, List, subst}
use Rattle.std.proofs.lemmas.Bool.{and_parts, eqb-true, eqb-false}
use Rattle.std.proofs.lemmas.Cmp.{nat_list_eq_equiv}
use Rattle.std.specs.Prelude.{Bool, true, false, ◌&&◌, ◌==◌, Option, Some, None, slice_get, not}
use Rattle.std.specs.List.{IsDistinct, list_all}
use Rattle.ast.specs.Program.{is_placed, is_variable, is_variable_named}
use Rattle.ast.specs.Store.{same_name}
use Rattle.ast.specs.Symbols.{Symbol, names_of}
use Rattle.ast.specs.Tree.{Ref}
use Rattle.ast.proofs.Lists.{all_weaker}
use Rattle.ast.proofs.SameNames.{same_is}
use Rattle.ast.proofs.Symbols.{names_differ}
use Rattle.loop_tree.specs.Told.{iff, is_told, are_told}

-- the name at a place
record Stands (ss : List Symbol) (cell : ℕ) (name : List ℕ) : Type 0 where
  symbol : Symbol
  at : slice_get ss cell ≡ Some symbol
  named : symbol.name ≡ name

stands : (ss : List Symbol) (r : Ref) → is_placed ss r ≡ true → Stands ss r.cell r.name
stands ss r h = by (slice_get ss r.cell) refl
  where
    by : (o : Option Symbol) → slice_get ss r.cell ≡ o → Stands ss r.cell r.name
    by None e = absurd (let d : false ≡ true = sym (ap (is_variable_named r.name) e) ∙ h in cc)
    by (Some s) e =
        let k : (same_name s.name r.name && is_variable s.sort) ≡ true = sym (ap (is_variable_named r.name) e) ∙ h in
        record { symbol = s; at = e; named = same_is s.name r.name (and_parts (same_name s.name r.name) (is_variable s.sort) k).0 }

one_name : (ss : List Symbol) (i j : ℕ) (x y : List ℕ) → Stands ss i x → Stands ss j y → i ≡ j → same_name x y ≡ true
one_name ss i j x y a b e =
    let k : Some a.symbol ≡ Some b.symbol = sym a.at ∙ ap (slice_get ss) e ∙ b.at in
    let d : a.symbol ≡ b.symbol = cc k in
    let z : x ≡ y = sym a.named ∙ ap (λ (s : Symbol). s.name) d ∙ b.named in
    subst (λ n. same_name x n ≡ true) z (nat_list_eq_equiv.refl x)

two_names : (ss : List Symbol) (i j : ℕ) (x y : List ℕ) → IsDistinct same_name (names_of ss) → Stands ss i x → Stands ss j y → i ≢ j → same_name x y ≡ false
two_names ss i j x y h a b n =
    ap (λ z. same_name z y) (sym a.named) ∙ ap (λ z. same_name a.symbol.name z) (sym b.named) ∙ names_differ ss i j a.symbol b.symbol h a.at b.at n

told : (ss : List Symbol) (r s : Ref) → IsDistinct same_name (names_of ss) → is_placed ss r ≡ true → is_placed ss s ≡ true → is_told r s ≡ true
told ss r s h a b = by (r.cell == s.cell) refl
  where
    by : (c : Bool) → (r.cell == s.cell) ≡ c → iff c (same_name r.name s.name) ≡ true
    by true e = one_name ss r.cell s.cell r.name s.name (stands ss r a) (stands ss s b) (eqb-true r.cell s.cell e)
    by false e = ap not (two_names ss r.cell s.cell r.name s.name h (stands ss r a) (stands ss s b) (eqb-false r.cell s.cell e))

pub all_told : (ss : List Symbol) (rs : List Ref) → IsDistinct same_name (names_of ss) → list_all (λ r. is_placed ss r) rs ≡ true → are_told rs ≡ true
all_told ss rs h k =
    all_weaker (λ r. is_placed ss r) (λ r. list_all (λ s. is_told r s) rs) rs
    (λ r a. all_weaker (λ s. is_placed ss s) (λ s. is_told r s) rs (λ s b. told ss r s h a b) k) k
