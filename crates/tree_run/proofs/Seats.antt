-- Where a reference's values stand in a list of cells that fits the symbols.
use Rattle.std.proofs.Common.{◌≡◌, ◌∙◌, ℕ, ◌<◌, ◌≤◌, List, [], length, get_or, true, sym, ap, subst}
use Rattle.std.specs.Prelude.{ℤ, map, not, int_lt}
use Rattle.std.specs.List.{IsDistinct, list_all}
use Rattle.ast.specs.Program.{is_placed}
use Rattle.ast.specs.Store.{same_name, values_in}
use Rattle.ast.specs.Symbols.{Symbol, names_of, dimensions_in, dimensions_of, elements, is_sized, most_elements}
use Rattle.ast.specs.Tree.{Ref}
use Rattle.ast.specs.Symbols.{shapes_of}
use Rattle.ast.proofs.Symbols.{found, dimensions_told, sized_at, size_of_variable}
use Rattle.tree_run.specs.Shapes.{shapes_in}
use Rattle.tree_run.proofs.Cells.{names_fit, values_fit}
use Rattle.tree_run.proofs.Finding.{open_sort, few_elements}

pub record Seat (ss : List Symbol) (cs : List (List ℕ × List ℤ)) (i : ℕ) (x : List ℕ) : Type 0 where
  pub within : i < length cs
  pub named : (get_or cs i ([], [])).0 ≡ x
  pub room : length (values_in cs i) ≡ elements (dimensions_in ss x)
  pub distinct : IsDistinct same_name (map (λ c. c.0) cs)

pub seat : (ss : List Symbol) (cs : List (List ℕ × List ℤ)) (r : Ref) → shapes_in cs ≡ shapes_of ss → IsDistinct same_name (names_of ss) → is_placed ss r ≡ true → Seat ss cs r.cell r.name
seat ss cs r fits distinct placed =
    let f = found ss r placed in
    let v = values_fit cs ss r.cell f.symbol fits f.at in
    let dims : dimensions_in ss r.name ≡ dimensions_of f.symbol.sort = ap (dimensions_in ss) (sym f.named) ∙ dimensions_told ss r.cell f.symbol distinct f.at in
    record {
      within = v.2;
      named = v.1 ∙ f.named;
      room = v.0 ∙ size_of_variable f.symbol.sort f.is_variable ∙ ap elements (sym dims);
      distinct = subst (λ (ns : List (List ℕ)). IsDistinct same_name ns) (sym (names_fit cs ss fits)) distinct;
    }

-- what holds of the dimensions of a placed reference
pub record Held (ss : List Symbol) (x : List ℕ) : Type 0 where
  pub open_bounds : list_all (λ d. not (int_lt d.upper d.lower)) (dimensions_in ss x) ≡ true
  pub few : elements (dimensions_in ss x) ≤ most_elements

pub held : (ss : List Symbol) (r : Ref) → list_all is_sized ss ≡ true → IsDistinct same_name (names_of ss) → is_placed ss r ≡ true → Held ss r.name
held ss r sized distinct placed =
    let f = found ss r placed in
    let s = sized_at ss r.cell f.symbol sized f.at in
    let dims : dimensions_in ss r.name ≡ dimensions_of f.symbol.sort = ap (dimensions_in ss) (sym f.named) ∙ dimensions_told ss r.cell f.symbol distinct f.at in
    record {
      open_bounds = ap (list_all (λ d. not (int_lt d.upper d.lower))) dims ∙ open_sort f.symbol.sort s;
      few = subst (λ (n : ℕ). n ≤ most_elements) (size_of_variable f.symbol.sort f.is_variable ∙ ap elements (sym dims)) (few_elements f.symbol.sort s);
    }
