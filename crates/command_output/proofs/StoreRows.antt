-- Rows in order, and those of a program.
use Rattle.std.proofs.Common.{◌≡◌, ℕ, ℤ, pos, drop, suc, ◌+◌, ◌<◌, List, [], ◌∷◌, ◌++◌, length, map, get_or, refl, ap, sym, ◌∙◌, arith, is_lt}
use Rattle.std.proofs.lemmas.List.{append_assoc, get_or-map, length-map}
use Rattle.std.proofs.Math.Seq.{drop-cons}
use Rattle.std.specs.List.Sorted.{IsSortedByKey}
use Rattle.std.specs.declared.cmp.Ordering.{Ordering}
use Rattle.ast.specs.Store.{StoreOf, values_in}
use Rattle.ast.specs.Symbols.{Extent, Symbol, cell_of, cells_of}
use Rattle.ast.specs.declared.name.Name.{Name}
use Rattle.command_output.specs.Shown as shown
use Rattle.command_output.specs.Shown.{byte_order, element_line, lines_from, row_of, subscripts_at}
use Rattle.command_output.specs.View.{row_view, rows_from}
use Rattle.command_output.specs.declared.row.Row.{Row}

-- rows that are sorted by their names are so as they are shown
pub sorted_rows : (cmp : Name → Name → Ordering) → ((a b : Name) → cmp a b ≡ byte_order a.letters b.letters) → (rs : List Row) → IsSortedByKey (λ r. r.symbol.now.name) cmp rs → IsSortedByKey (λ r. r.symbol.name) byte_order (map row_view rs)
sorted_rows cmp same [] sorted k d low high = absurd (omega (arith, high))
sorted_rows cmp same (r ∷ rs) sorted k d low high =
    let all : List Row = r ∷ rs in
    let size : length (map row_view all) ≡ length all = length-map all row_view in
    let within : k + 1 < length all = omega (arith, size, high) in
    let next : get_or (map row_view all) (k + 1) d ≡ row_view (get_or all (k + 1) r) = get_or-map row_view all (k + 1) r d within in
    let this : get_or (map row_view all) k d ≡ row_view (get_or all k r) = get_or-map row_view all k r d (omega arith) in
    ap (λ x. is_lt (byte_order x.symbol.name (get_or (map row_view all) k d).symbol.name)) next
    ∙ ap (λ x. is_lt (byte_order (get_or all (k + 1) r).symbol.now.name.letters x.symbol.name)) this
    ∙ ap is_lt (sym (same (get_or all (k + 1) r).symbol.now.name (get_or all k r).symbol.now.name))
    ∙ sorted k r low within

-- a cell more in front, and the places one further on
shift : (c : List ℕ × List ℤ) (cs : List (List ℕ × List ℤ)) (n : ℕ) (ss : List Symbol) → rows_from (c ∷ cs) (suc n) ss ≡ rows_from cs n ss
shift c cs n [] = refl
shift c cs n (s ∷ ss) =
    let next : suc n + 1 ≡ suc (n + 1) = omega arith in
    ap (λ (rs : List shown.Row). record { symbol = s; values = values_in cs n } ∷ rs) (ap (λ m. rows_from (c ∷ cs) m ss) next ∙ shift c cs (n + 1) ss)

-- the rows of a program's symbols
pub rows_whole : (store : StoreOf) (symbols : List Symbol) → rows_from (cells_of symbols store) 0 symbols ≡ map (row_of store) symbols
rows_whole store [] = refl
rows_whole store (s ∷ ss) =
    ap (λ (rs : List shown.Row). row_of store s ∷ rs) (shift (cell_of store s) (cells_of ss store) 0 ss ∙ rows_whole store ss)

-- the line of one element more
pub one_element : (name : List ℕ) (ds : List Extent) (place : ℕ) (values : List ℤ) (front grown whole : List ℕ) → place < length values
    → grown ≡ front ++ element_line name (subscripts_at ds place) (get_or values place (pos 0))
    → front ++ lines_from name ds place (drop place values) ≡ whole
    → grown ++ lines_from name ds (place + 1) (drop (place + 1) values) ≡ whole
one_element name ds place values front grown whole within is so_far =
    let next : suc place ≡ place + 1 = omega arith in
    let cut : drop place values ≡ get_or values place (pos 0) ∷ drop (place + 1) values =
    drop-cons values place (pos 0) within ∙ ap (λ n. get_or values place (pos 0) ∷ drop n values) next in
    let rest : List ℕ = lines_from name ds (place + 1) (drop (place + 1) values) in
    ap (λ xs. xs ++ rest) is
    ∙ append_assoc front (element_line name (subscripts_at ds place) (get_or values place (pos 0))) rest
    ∙ ap (λ vs. front ++ lines_from name ds place vs) (sym cut)
    ∙ so_far
