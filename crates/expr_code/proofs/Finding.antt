-- What is found at the place of a name among the symbols, and among the variables of code.
use Rattle.std.proofs.Common.{◌≡◌, ◌∙◌, ◌+◌, ◌<◌, ◌≤◌, ◌^◌, ℕ, zero, suc, Bool, true, false, List, [], ◌∷◌, Option, Some, None, length, refl, sym, ap, subst, arith}
use Rattle.std.specs.Prelude.{slice_get, int_lt, not, nat_le, if◌then◌else◌}
use Rattle.std.specs.List.{IsDistinct, list_all}
use Rattle.std.proofs.lemmas.Bool.{and_parts, leb-true, lt-ltb}
use Rattle.std.proofs.lemmas.Option.{slice_get_within}
use Rattle.ast.specs.Program.{is_placed}
use Rattle.ast.specs.Store.{same_name}
use Rattle.ast.specs.Symbols.{Extent, Symbol, names_of, dimensions_in, dimensions_of, elements, size, is_sized, most_elements}
use Rattle.ast.specs.Tree.{Ref}
use Rattle.ast.proofs.Symbols.{found, dimensions_told, sized_at, size_of_variable}
use Rattle.ast.proofs.Places.{Open}
use Rattle.machine.specs.Code.{Cell, cell_at}
use Rattle.machine.specs.declared.code.Variable.{Variable}
use Rattle.expr_code.specs.Computes.{variables_in, variables_for}
use Rattle.expr_code.specs.Emitted.{short}
use Rattle.expr_code.specs.Places.{dimensions_at, dimensions_found, number_in}

-- the dimensions at a reference's place are those of its name
pub dimensions_same : (ss : List Symbol) (r : Ref) → IsDistinct same_name (names_of ss) → is_placed ss r ≡ true → dimensions_in ss r.name ≡ dimensions_at ss r.cell
dimensions_same ss r d h =
    let f = found ss r h in
    ap (dimensions_in ss) (sym f.named) ∙ dimensions_told ss r.cell f.symbol d f.at ∙ sym (ap dimensions_found f.at)

-- the variable with the name and the size of a symbol
variable_at : (xs : List Variable) (ss : List Symbol) (i : ℕ) (s : Symbol) → variables_in xs ≡ variables_for ss → slice_get ss i ≡ Some s → (x : Variable) × (slice_get xs i ≡ Some x) × (x.name.letters ≡ s.name) × (x.size ≡ size s.sort)
variable_at xs [] i s h e = cc
variable_at [] (t ∷ ss) i s h e = cc
variable_at (x ∷ xs) (t ∷ ss) zero s h e =
    let first : ◌≡◌ {A = List ℕ × ℕ} (x.name.letters, x.size) (t.name, size t.sort) = cc in
    let d : t ≡ s = cc in (
      x,
      refl,
      ap (λ (p : List ℕ × ℕ). p.0) first ∙ ap (λ (z : Symbol). z.name) d,
      ap (λ (p : List ℕ × ℕ). p.1) first ∙ ap (λ (z : Symbol). size z.sort) d,
    )
variable_at (x ∷ xs) (t ∷ ss) (suc i) s h e = let rest : variables_in xs ≡ variables_for ss = cc in variable_at xs ss i s rest e

-- how a reference with these dimensions reaches its cells
pub record Reach (xs : List Variable) (r : Ref) (ds : List Extent) : Type 0 where
  pub variable : Variable
  pub at : slice_get xs r.cell ≡ Some variable
  pub named : variable.name.letters ≡ r.name
  pub room : variable.size ≡ elements ds
  pub small : r.cell < 2 ^ 32
  pub open_bounds : Open ds
  pub few : elements ds ≤ most_elements

pub reach : (xs : List Variable) (ss : List Symbol) (r : Ref) → variables_in xs ≡ variables_for ss → list_all is_sized ss ≡ true → length ss ≤ 2 ^ 32 → is_placed ss r ≡ true → Reach xs r (dimensions_at ss r.cell)
reach xs ss r same_ones sized few h =
    let f = found ss r h in
    let s = sized_at ss r.cell f.symbol sized f.at in
    let v = variable_at xs ss r.cell f.symbol same_ones f.at in
    let ds : dimensions_of f.symbol.sort ≡ dimensions_at ss r.cell = sym (ap dimensions_found f.at) in
    let parts = and_parts (list_all (λ d. not (int_lt d.upper d.lower)) (dimensions_of f.symbol.sort)) (nat_le (size f.symbol.sort) most_elements) s in
    let count : size f.symbol.sort ≡ elements (dimensions_at ss r.cell) = size_of_variable f.symbol.sort f.is_variable ∙ ap elements ds in
    record {
      variable = v.0;
      at = v.1;
      named = v.2 ∙ f.named;
      room = v.3 ∙ count;
      small = omega (arith, few, slice_get_within ss r.cell f.symbol f.at);
      open_bounds = ap (λ (es : List Extent). list_all (λ d. not (int_lt d.upper d.lower)) es) (sym ds) ∙ parts.0;
      few = subst (λ (n : ℕ). n ≤ most_elements) count (leb-true (size f.symbol.sort) most_elements parts.1);
    }

pub short_is : (n : ℕ) → n < 2 ^ 32 → short n ≡ n
short_is n h = ap (λ (b : Bool). if b then n else 4294967295) (lt-ltb n 4294967296 h)

abbrev cell_named : ℕ → List ℕ → Option Cell
cell_named n x = Some (record { name = x; place = n })

-- the cell that an instruction on the variable of a reference means
pub cell_law : (xs : List Variable) (r : Ref) (ds : List Extent) (n : ℕ) → Reach xs r ds → n < elements ds → cell_at (slice_get xs (short r.cell)) n ≡ Some (record { name = r.name; place = n })
cell_law xs r ds n w h =
    let inside : n < w.variable.size = subst (λ (z : ℕ). n < z) (sym w.room) h in
    ap (λ (c : ℕ). cell_at (slice_get xs c) n) (short_is r.cell w.small)
    ∙ ap (λ (o : Option Variable). cell_at o n) w.at
    ∙ ap (λ (b : Bool). if b then Some (record { name = w.variable.name.letters; place = n }) else None) (lt-ltb n w.variable.size inside)
    ∙ ap (cell_named n) w.named

-- the number of a name is that of one of the names
pub number_below : (n : ℕ) (name : List ℕ) (xs : List (List ℕ)) (x : ℕ) → number_in n name xs ≡ Some x → x < n + length xs
number_below n name [] x e = cc
number_below n name (y ∷ ys) x e = by (same_name y name) refl (number_below (n + 1) name ys x)
  where
    by : (b : Bool) → same_name y name ≡ b → (number_in (n + 1) name ys ≡ Some x → x < n + 1 + length ys) → x < n + length (y ∷ ys)
    by true t more = let k : Some n ≡ Some x = ap (λ (c : Bool). if c then Some n else number_in (n + 1) name ys) (sym t) ∙ e in let is : n ≡ x = cc in omega (arith, is)
    by false t more = let k : number_in (n + 1) name ys ≡ Some x = ap (λ (c : Bool). if c then Some n else number_in (n + 1) name ys) (sym t) ∙ e in let z = more k in omega (arith, z)
