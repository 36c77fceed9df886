-- Laws of a list of names with values, and of the store that it stands for.
use Rattle.std.proofs.Common.{◌≡◌, ◌∙◌, ℕ, zero, suc, ◌+◌, ◌<◌, Bool, true, false, List, [], ◌∷◌, get_or, Option, Some, length, refl, sym, ap, subst, arith}
use Rattle.std.specs.Prelude.{ℤ, pos, map, ◌==◌, ◌&&◌, if◌then◌else◌, slice_get, slice_index_or, unwrap_or}
use Rattle.std.specs.List.{AllByRecursion, IsDistinct}
use Rattle.std.proofs.lemmas.Bool.{ne_eqb}
use Rattle.std.proofs.lemmas.Cmp.{nat_list_eq_equiv}
use Rattle.std.proofs.Math.Dec.{eqb-suc-suc}
use Rattle.std.proofs.Math.ListN.{set}
use Rattle.ast.specs.Store.{StoreOf, same_name, put, zeros, value_at, values_in, values_from, store_of}
use Rattle.ast.specs.Symbols.{Symbol, names_of, size, cells_of}
use Rattle.ast.specs.Symbols.{shapes_of}
use Rattle.ast.proofs.SameNames.{same_itself, same_is}
use Rattle.tree_run.specs.Shapes.{shapes_in}

abbrev Cell : Type 0
Cell = List ℕ × List ℤ

abbrev cell_names : List Cell → List (List ℕ)
cell_names cs = map (λ c. c.0) cs

-- ---- what the shapes say

pub names_fit : (cs : List Cell) (ss : List Symbol) → shapes_in cs ≡ shapes_of ss → cell_names cs ≡ names_of ss
names_fit [] [] h = refl
names_fit [] (s ∷ ss) h = cc
names_fit (c ∷ cs) [] h = cc
names_fit (c ∷ cs) (s ∷ ss) h =
    let first : ◌≡◌ {A = List ℕ × ℕ} (c.0, length c.1) (s.name, size s.sort) = cc in
    let rest : shapes_in cs ≡ shapes_of ss = cc in
    let name : c.0 ≡ s.name = ap (λ (p : List ℕ × ℕ). p.0) first in
    ap (λ (n : List ℕ). n ∷ cell_names cs) name ∙ ap (λ (ns : List (List ℕ)). s.name ∷ ns) (names_fit cs ss rest)

pub values_fit : (cs : List Cell) (ss : List Symbol) (i : ℕ) (s : Symbol) → shapes_in cs ≡ shapes_of ss → slice_get ss i ≡ Some s → (length (values_in cs i) ≡ size s.sort) × ((get_or cs i ([], [])).0 ≡ s.name) × (i < length cs)
values_fit cs [] i s h e = cc
values_fit [] (t ∷ ss) i s h e = cc
values_fit (c ∷ cs) (t ∷ ss) zero s h e =
    let first : ◌≡◌ {A = List ℕ × ℕ} (c.0, length c.1) (t.name, size t.sort) = cc in
    let d : t ≡ s = cc in
    (ap (λ (p : List ℕ × ℕ). p.1) first ∙ ap (λ (z : Symbol). size z.sort) d, ap (λ (p : List ℕ × ℕ). p.0) first ∙ ap (λ (z : Symbol). z.name) d, omega arith)
values_fit (c ∷ cs) (t ∷ ss) (suc i) s h e =
    let rest : shapes_in cs ≡ shapes_of ss = cc in
    let k = values_fit cs ss i s rest e in
    (k.0, k.1, omega (arith, k.2))

-- ---- reading

abbrev Differ : List ℕ → List Cell → Type 0
Differ x cs = AllByRecursion (λ n. same_name x n ≡ false) (cell_names cs)

differ_at : (x : List ℕ) (cs : List Cell) (i : ℕ) → Differ x cs → i < length cs → same_name x (get_or cs i ([], [])).0 ≡ false
differ_at x [] i h l = absurd (omega (arith, l))
differ_at x (c ∷ cs) zero h l = h.0
differ_at x (c ∷ cs) (suc i) h l = differ_at x cs i h.1 (omega (arith, l))

value_found : (cs : List Cell) (i p : ℕ) → IsDistinct same_name (cell_names cs) → i < length cs → value_at cs (get_or cs i ([], [])).0 p ≡ slice_get (values_in cs i) p
unfolding IsDistinct
value_found [] i p h l = absurd (omega (arith, l))
value_found (c ∷ cs) zero p h l = rw (same_itself c.0) refl
value_found (c ∷ cs) (suc i) p h l =
    let k = differ_at c.0 cs i h.0 (omega (arith, l)) in
    rw k (value_found cs i p h.1 (omega (arith, l)))

element_found : (xs : List ℤ) (p : ℕ) → unwrap_or (slice_get xs p) (pos 0) ≡ slice_index_or xs p (pos 0)
element_found [] p = refl
element_found (x ∷ xs) zero = refl
element_found (x ∷ xs) (suc p) = element_found xs p

pub loaded : (cs : List Cell) (i p : ℕ) (x : List ℕ) → IsDistinct same_name (cell_names cs) → i < length cs → (get_or cs i ([], [])).0 ≡ x → store_of cs x p ≡ slice_index_or (values_in cs i) p (pos 0)
unfolding store_of
loaded cs i p x h l n = ap (λ (y : List ℕ). unwrap_or (value_at cs y p) (pos 0)) (sym n) ∙ ap (λ (o : Option ℤ). unwrap_or o (pos 0)) (value_found cs i p h l) ∙ element_found (values_in cs i) p

-- ---- writing

set_found : (xs : List ℤ) (p q : ℕ) (v : ℤ) → p < length xs → unwrap_or (slice_get (set xs p v) q) (pos 0) ≡ (if (p == q) then v else unwrap_or (slice_get xs q) (pos 0))
set_found [] p q v h = absurd (omega (arith, h))
set_found (x ∷ xs) zero zero v h = refl
set_found (x ∷ xs) zero (suc q) v h = rw (ne_eqb 0 (suc q) (λ e. omega arith)) refl
set_found (x ∷ xs) (suc p) zero v h = rw (ne_eqb (suc p) 0 (λ e. omega arith)) refl
set_found (x ∷ xs) (suc p) (suc q) v h = rw (eqb-suc-suc p q) (set_found xs p q v (omega (arith, h)))

-- a name that is another's isn't a third one
other : (x y z : List ℕ) → same_name x z ≡ false → same_name x y ≡ true → same_name z y ≡ false
other x y z h k = nat_list_eq_equiv.symm z y ∙ (subst (λ (w : List ℕ). same_name w z ≡ false) (same_is x y k) h)

passed : (b s : Bool) (e : Bool) (v : ℤ) (w new old : Option ℤ) → (b ≡ true → s ≡ false) → unwrap_or new (pos 0) ≡ (if s && e then v else unwrap_or old (pos 0)) → unwrap_or (if b then w else new) (pos 0) ≡ (if s && e then v else unwrap_or (if b then w else old) (pos 0))
passed true s e v w new old k h = let f : s ≡ false = k refl in rw f refl
passed false s e v w new old k h = h

chosen : (b e : Bool) (v w : ℤ) → (if e then v else w) ≡ (if true && e then v else w)
chosen b true v w = refl
chosen b false v w = refl

put_at : (cs : List Cell) (i p : ℕ) (v : ℤ) (x : List ℕ) → IsDistinct same_name (cell_names cs) → i < length cs → (get_or cs i ([], [])).0 ≡ x → p < length (values_in cs i) → (y : List ℕ) (q : ℕ) → store_of (set cs i (x, set (values_in cs i) p v)) y q ≡ put (store_of cs) x p v y q
unfolding store_of put IsDistinct
put_at [] i p v x h l n w y q = absurd (omega (arith, l))
put_at (c ∷ cs) zero p v x h l n w y q = rw n (by (same_name x y) refl)
  where
    by : (b : Bool) → same_name x y ≡ b → unwrap_or (if same_name x y then slice_get (set c.1 p v) q else value_at cs y q) (pos 0) ≡ (if same_name x y && (p == q) then v else unwrap_or (if same_name x y then slice_get c.1 q else value_at cs y q) (pos 0))
    by true e = rw e (set_found c.1 p q v w)
    by false e = rw e refl
put_at (c ∷ cs) (suc i) p v x h l n w y q =
    passed (same_name c.0 y) (same_name x y) (p == q) v (slice_get c.1 q) _ _ (other c.0 y x (subst (λ (z : List ℕ). same_name c.0 z ≡ false) n (differ_at c.0 cs i h.0 (omega (arith, l))))) (put_at cs i p v x h.1 (omega (arith, l)) n w y q)

pub written : (cs : List Cell) (i p : ℕ) (v : ℤ) (x : List ℕ) → IsDistinct same_name (cell_names cs) → i < length cs → (get_or cs i ([], [])).0 ≡ x → p < length (values_in cs i) → store_of (set cs i ((get_or cs i ([], [])).0, set (values_in cs i) p v)) ≡ put (store_of cs) x p v
written cs i p v x h l n w = ap (λ (y : List ℕ). store_of (set cs i (y, set (values_in cs i) p v))) n ∙ (λ k y q. put_at cs i p v x h l n w y q k)

length_set : (xs : List ℤ) (p : ℕ) (v : ℤ) → length (set xs p v) ≡ length xs
length_set [] p v = refl
length_set (x ∷ xs) zero v = refl
length_set (x ∷ xs) (suc p) v = ap suc (length_set xs p v)

pub shapes_kept : (cs : List Cell) (i p : ℕ) (v : ℤ) → shapes_in (set cs i ((get_or cs i ([], [])).0, set (values_in cs i) p v)) ≡ shapes_in cs
shapes_kept [] i p v = refl
shapes_kept (c ∷ cs) zero p v = ap (λ (n : ℕ). (c.0, n) ∷ shapes_in cs) (length_set c.1 p v)
shapes_kept (c ∷ cs) (suc i) p v = ap (λ (ns : List (List ℕ × ℕ)). (c.0, length c.1) ∷ ns) (shapes_kept cs i p v)

-- ---- the cells of symbols

length_values : (f : ℕ → ℤ) (k n : ℕ) → length (values_from f k n) ≡ n
length_values f k zero = refl
length_values f k (suc n) = ap suc (length_values f (k + 1) n)

pub shapes_made : (ss : List Symbol) (store : StoreOf) → shapes_in (cells_of ss store) ≡ shapes_of ss
shapes_made [] store = refl
shapes_made (s ∷ ss) store =
    ap (λ (n : ℕ). (s.name, n) ∷ shapes_in (cells_of ss store)) (length_values (store s.name) 0 (size s.sort))
    ∙ ap (λ (ns : List (List ℕ × ℕ)). (s.name, size s.sort) ∷ ns) (shapes_made ss store)

zero_value : (k n p : ℕ) → unwrap_or (slice_get (values_from (λ q. pos 0) k n) p) (pos 0) ≡ pos 0
zero_value k zero p = refl
zero_value k (suc n) zero = refl
zero_value k (suc n) (suc p) = zero_value (k + 1) n p

zero_cells : (ss : List Symbol) (y : List ℕ) (p : ℕ) → unwrap_or (value_at (cells_of ss zeros) y p) (pos 0) ≡ pos 0
zero_cells [] y p = refl
zero_cells (s ∷ ss) y p = by (same_name s.name y) (zero_cells ss y p)
  where
    by : (b : Bool) → unwrap_or (value_at (cells_of ss zeros) y p) (pos 0) ≡ pos 0 → unwrap_or (if b then slice_get (values_from (zeros s.name) 0 (size s.sort)) p else value_at (cells_of ss zeros) y p) (pos 0) ≡ pos 0
    by true h = zero_value 0 (size s.sort) p
    by false h = h

pub started : (ss : List Symbol) → store_of (cells_of ss zeros) ≡ zeros
unfolding store_of
started ss = λ k y p. zero_cells ss y p k

-- ---- a list of cells tells its store

values_told : (f : ℕ → ℤ) (xs : List ℤ) (k : ℕ) → ((p : ℕ) → p < length xs → f (k + p) ≡ slice_index_or xs p (pos 0)) → values_from f k (length xs) ≡ xs
values_told f [] k h = refl
values_told f (x ∷ xs) k h =
    ap (λ (v : ℤ). v ∷ values_from f (k + 1) (length xs)) (ap f (omega arith) ∙ h 0 (omega arith))
    ∙ ap (λ (vs : List ℤ). x ∷ vs) (values_told f xs (k + 1) (λ p l. ap f (omega arith) ∙ h (suc p) (omega (arith, l))))

-- a store has the values of cells
abbrev Has : StoreOf → Cell → Type 0
Has store c = (p : ℕ) → p < length c.1 → store c.0 p ≡ slice_index_or c.1 p (pos 0)

told_by : (cs : List Cell) (ss : List Symbol) (store : StoreOf) → shapes_in cs ≡ shapes_of ss → AllByRecursion (Has store) cs → cs ≡ cells_of ss store
told_by [] [] store f h = refl
told_by [] (s ∷ ss) store f h = cc
told_by (c ∷ cs) [] store f h = cc
told_by (c ∷ cs) (s ∷ ss) store f h =
    let first : ◌≡◌ {A = List ℕ × ℕ} (c.0, length c.1) (s.name, size s.sort) = cc in
    let rest : shapes_in cs ≡ shapes_of ss = cc in
    let name : c.0 ≡ s.name = ap (λ (q : List ℕ × ℕ). q.0) first in
    let count : length c.1 ≡ size s.sort = ap (λ (q : List ℕ × ℕ). q.1) first in
    let told : values_from (store c.0) 0 (length c.1) ≡ c.1 = values_told (store c.0) c.1 0 (λ p l. ap (store c.0) (omega arith) ∙ h.0 p l) in
    let values : c.1 ≡ values_from (store s.name) 0 (size s.sort) = sym told ∙ ap (λ (n : List ℕ). values_from (store n) 0 (length c.1)) name ∙ ap (λ (k : ℕ). values_from (store s.name) 0 k) count in
    ap (λ (ds : List Cell). c ∷ ds) (told_by cs ss store rest h.1)
    ∙ ap (λ (n : List ℕ). (n, c.1) ∷ cells_of ss store) name
    ∙ ap (λ (vs : List ℤ). (s.name, vs) ∷ cells_of ss store) values

held_later : (c : Cell) (cs ds : List Cell) → Differ c.0 ds → AllByRecursion (Has (store_of cs)) ds → AllByRecursion (Has (store_of (c ∷ cs))) ds
unfolding store_of
held_later c cs [] h a = tt
held_later c cs (d ∷ ds) h a = (λ p l. (let t : same_name c.0 d.0 ≡ false = h.0 in rw t (a.0 p l)), held_later c cs ds h.1 a.1)

held : (cs : List Cell) → IsDistinct same_name (cell_names cs) → AllByRecursion (Has (store_of cs)) cs
unfolding store_of IsDistinct
held [] h = tt
held (c ∷ cs) h = (λ p l. (rw (same_itself c.0) (element_found c.1 p)), held_later c cs cs h.0 (held cs h.1))

pub told : (cs : List Cell) (ss : List Symbol) → shapes_in cs ≡ shapes_of ss → IsDistinct same_name (names_of ss) → cs ≡ cells_of ss (store_of cs)
told cs ss f h = told_by cs ss (store_of cs) f (held cs (subst (λ (ns : List (List ℕ)). IsDistinct same_name ns) (sym (names_fit cs ss f)) h))
