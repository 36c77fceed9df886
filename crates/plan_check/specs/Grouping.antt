-- An account of the code: references by the cells of their variables.
use Rattle.std.specs.Prelude.{◌==◌, ◌&&◌, ◌||◌, ℕ, Bool, List, [], ◌∷◌, ◌++◌}
use Rattle.std.specs.Prelude.{get_or, if◌then◌else◌, slice_get, Option, Some, None}
use Rattle.dependence.specs.declared.relation.Relation.{Relation}
use Rattle.loop_tree.specs.Loops.{Loop}
use Rattle.loop_tree.specs.Occurrences.{Occurrence}
use Rattle.plan_check.specs.Judging.{Entry, Verdict, is_own, with_pair}

abbrev pub cell_of : Entry → ℕ
cell_of e = e.occurrence.ref.cell

-- all are wanted, or those that give their variables values
abbrev pub is_wanted : Bool → Entry → Bool
is_wanted all e = all || e.occurrence.defines

-- those of a cell that are wanted, in order
abbrev pub at_cell : Bool → ℕ → List Entry → List Entry
at_cell all c [] = []
at_cell all c (e ∷ es) =
    if is_wanted all e && (c == cell_of e) then e ∷ at_cell all c es else at_cell all c es

-- a place more in the row of a cell
abbrev pub with_place : Bool → ℕ → List ℕ → List ℕ
with_place b n ns = if b then ns ++ n ∷ [] else ns

-- a cell beyond the rows has none
abbrev pub row_at : List (List ℕ) → ℕ → List ℕ
row_at rows c = get_or rows c []

abbrev pub with_chosen : Option Entry → List Entry → List Entry
with_chosen None es = es
with_chosen (Some e) es = e ∷ es

-- the references at places
abbrev pub chosen : List Entry → List ℕ → List Entry
chosen es [] = []
chosen es (n ∷ ns) = with_chosen (slice_get es n) (chosen es ns)

-- of all rows, and of those of references that give values, the row of those that a reference is
-- judged with
abbrev pub row_for : (all defining : List (List ℕ)) → Occurrence → List ℕ
row_for all defining o = if o.defines then row_at all o.ref.cell else row_at defining o.ref.cell

-- each reference is judged with those of its cell: all of them where it gives its variable a value,
-- and otherwise those that do
module _ (l : Loop) (events : List ℕ) (claim : ℕ → ℕ → Option Relation) where
  abbrev pub with_optional : Entry → Option Entry → Verdict → Verdict
  with_optional x None v = v
  with_optional x (Some y) v = with_pair l events claim x y v

  abbrev pub with_places : Entry → List Entry → List ℕ → Verdict → Verdict
  with_places x es [] v = v
  with_places x es (n ∷ ns) v = with_places x es ns (with_optional x (slice_get es n) v)

  abbrev pub with_row : List (List ℕ) → Entry → List Entry → List ℕ → Verdict → Verdict
  with_row privates x es ns v = if is_own l privates x.occurrence then v else with_places x es ns v

  abbrev pub with_groups : List (List ℕ) → (all defining : List (List ℕ)) → List Entry
      → List Entry → Verdict → Verdict
  with_groups privates all defining es [] v = v
  with_groups privates all defining es (x ∷ xs) v =
      with_groups privates all defining es xs
      (with_row privates x es (row_for all defining x.occurrence) v)
