-- Laws of names whose elements follow each other in one list.
use Rattle.std.proofs.Common.{◌≡◌, ◌∙◌, ℕ, zero, suc, ◌+◌, ◌-◌, ◌<◌, ◌≤◌, min, true, List, [], ◌∷◌, ◌++◌, get_or, length, take, drop, refl, sym, ap, subst, arith}
use Rattle.std.specs.Prelude.{ℤ, pos, slice_index_or, replicate, ◌==◌}
use Rattle.std.proofs.Math.ListN.{set}
use Rattle.std.proofs.Math.Seq.{take-set-lt}
use Rattle.std.proofs.lemmas.Bool.{and_parts, eq-eqb, eqb-true}
use Rattle.std.proofs.lemmas.List.{drop-drop, drop-set-add, drop-set-lt, drop_at, get_or-drop, length-drop, length-replicate, length-take, replicate-append-replicate, take-set-le, take_all, take_at}
use Rattle.ast.specs.Laid.{is_laid}
use Rattle.ast.specs.Store.{dealt, total_of, values_in, values_from, zeros}
use Rattle.ast.specs.Symbols.{Symbol, cells_of, shapes_of, size}
use Rattle.ast.specs.View.{shapes_in}
use Rattle.ast.specs.declared.table.Seat.{Seat}
use Rattle.ast.proofs.Sizes.{zeros_of}

abbrev Shapes : Type 0
Shapes = List (List ℕ × ℕ)

-- ---- one name's values

pub dealt_length : (xs : Shapes) (vs : List ℤ) → length (dealt xs vs) ≡ length xs
dealt_length [] vs = refl
dealt_length (x ∷ xs) vs = ap suc (dealt_length xs (drop x.1 vs))

pub dealt_name : (xs : Shapes) (vs : List ℤ) (i : ℕ) → (get_or (dealt xs vs) i ([], [])).0 ≡ (get_or xs i ([], 0)).0
dealt_name [] vs i = refl
dealt_name (x ∷ xs) vs zero = refl
dealt_name (x ∷ xs) vs (suc i) = dealt_name xs (drop x.1 vs) i

pub dealt_values : (xs : Shapes) (vs : List ℤ) (i : ℕ) → values_in (dealt xs vs) i ≡ take (get_or xs i ([], 0)).1 (drop (total_of (take i xs)) vs)
dealt_values [] vs i = refl
dealt_values (x ∷ xs) vs zero = refl
dealt_values (x ∷ xs) vs (suc i) = dealt_values xs (drop x.1 vs) i ∙ ap (take (get_or xs i ([], 0)).1) (drop-drop (total_of (take i xs)) x.1 vs)

-- an element of a name has a place among those of all
pub within : (xs : Shapes) (vs : List ℤ) (i p : ℕ) → p < length (values_in (dealt xs vs) i) → (i < length xs) × (total_of (take i xs) + p < length vs)
within [] vs i p h = absurd (omega (arith, h))
within (x ∷ xs) vs zero p h =
    let k : p < min x.1 (length vs) = subst (λ n. p < n) (length-take x.1 vs) h in
    (omega arith, omega (arith, k))
within (x ∷ xs) vs (suc i) p h =
    let k = within xs (drop x.1 vs) i p h in
    let l = length-drop x.1 vs in
    let m = k.0 in
    let n = k.1 in
    (omega (arith, m), omega (arith, n, l))

pub read_at : (xs : Shapes) (vs : List ℤ) (i p : ℕ) (d : ℤ) → p < length (values_in (dealt xs vs) i) → slice_index_or (values_in (dealt xs vs) i) p d ≡ get_or vs (total_of (take i xs) + p) d
read_at [] vs i p d h = absurd (omega (arith, h))
read_at (x ∷ xs) vs zero p d h =
    let k : p < min x.1 (length vs) = subst (λ n. p < n) (length-take x.1 vs) h in
    taken x.1 vs p (omega (arith, k)) ∙ ap (λ n. get_or vs n d) (let z : p ≡ 0 + p = omega arith in z)
  where
    taken : (n : ℕ) (ws : List ℤ) (q : ℕ) → q < n → slice_index_or (take n ws) q d ≡ get_or ws q d
    taken zero ws q l = absurd (omega (arith, l))
    taken (suc n) [] q l = refl
    taken (suc n) (w ∷ ws) zero l = refl
    taken (suc n) (w ∷ ws) (suc q) l = taken n ws q (omega (arith, l))
read_at (x ∷ xs) vs (suc i) p d h =
    read_at xs (drop x.1 vs) i p d h ∙ get_or-drop x.1 vs (total_of (take i xs) + p) d ∙ ap (λ n. get_or vs n d) (let z : x.1 + (total_of (take i xs) + p) ≡ (x.1 + total_of (take i xs)) + p = omega arith in z)

pub written : (xs : Shapes) (vs : List ℤ) (i p : ℕ) (v : ℤ) → p < length (values_in (dealt xs vs) i) → dealt xs (set vs (total_of (take i xs) + p) v) ≡ set (dealt xs vs) i ((get_or (dealt xs vs) i ([], [])).0, set (values_in (dealt xs vs) i) p v)
written [] vs i p v h = refl
written (x ∷ xs) vs zero p v h =
    let k : p < min x.1 (length vs) = subst (λ n. p < n) (length-take x.1 vs) h in
    let near : p < x.1 = omega (arith, k) in
    ap (λ n. dealt (x ∷ xs) (set vs n v)) (let z : 0 + p ≡ p = omega arith in z)
    ∙ ap (λ ws. (x.0, ws) ∷ dealt xs (drop x.1 (set vs p v))) (take-set-lt x.1 vs p v near)
    ∙ ap (λ ws. (x.0, set (take x.1 vs) p v) ∷ dealt xs ws) (drop-set-lt x.1 vs p v near)
written (x ∷ xs) vs (suc i) p v h =
    let t : ℕ = total_of (take i xs) in
    ap (λ n. dealt (x ∷ xs) (set vs n v)) (let z : (x.1 + t) + p ≡ x.1 + (t + p) = omega arith in z)
    ∙ ap (λ ws. (x.0, ws) ∷ dealt xs (drop x.1 (set vs (x.1 + (t + p)) v))) (take-set-le x.1 vs (x.1 + (t + p)) v (omega arith))
    ∙ ap (λ ws. (x.0, take x.1 vs) ∷ dealt xs ws) (drop-set-add x.1 vs (t + p) v)
    ∙ ap (λ cs. (x.0, take x.1 vs) ∷ cs) (written xs (drop x.1 vs) i p v h)

-- ---- zeros

pub zeros_dealt : (ss : List Symbol) → dealt (shapes_of ss) (replicate (total_of (shapes_of ss)) (pos 0)) ≡ cells_of ss zeros
zeros_dealt [] = refl
zeros_dealt (s ∷ ss) =
    let n : ℕ = size s.sort in
    let m : ℕ = total_of (shapes_of ss) in
    ap (λ ws. (s.name, ws) ∷ dealt (shapes_of ss) (drop n (replicate (n + m) (pos 0)))) (taken n m ∙ zeros_of 0 n)
    ∙ ap (λ ws. (s.name, values_from (zeros s.name) 0 n) ∷ dealt (shapes_of ss) ws) (dropped n m)
    ∙ ap (λ cs. (s.name, values_from (zeros s.name) 0 n) ∷ cs) (zeros_dealt ss)
  where
    taken : (n m : ℕ) → take n (replicate (n + m) (pos 0)) ≡ replicate n (pos 0)
    taken n m = ap (take n) (sym (replicate-append-replicate n m (pos 0))) ∙ take_at (replicate n (pos 0)) (replicate m (pos 0)) n (length-replicate n (pos 0))

    dropped : (n m : ℕ) → drop n (replicate (n + m) (pos 0)) ≡ replicate m (pos 0)
    dropped n m = ap (drop n) (sym (replicate-append-replicate n m (pos 0))) ∙ drop_at (replicate n (pos 0)) (replicate m (pos 0)) n (length-replicate n (pos 0))

-- ---- where elements stand

starts_at : (n : ℕ) (seats : List Seat) (end i : ℕ) (d : Seat) → is_laid n seats end ≡ true → i < length seats → (get_or seats i d).start ≡ n + total_of (take i (shapes_in seats))
starts_at n [] end i d h l = absurd (omega (arith, l))
starts_at n (s ∷ seats) end zero d h l =
    let k = and_parts (s.start == n) (is_laid (n + s.size) seats end) h in
    let e = eqb-true s.start n k.0 in
    omega (arith, e)
starts_at n (s ∷ seats) end (suc i) d h l =
    let k = and_parts (s.start == n) (is_laid (n + s.size) seats end) h in
    let e = starts_at (n + s.size) seats end i d k.1 (omega (arith, l)) in
    omega (arith, e)

ends_at : (n : ℕ) (seats : List Seat) (end : ℕ) → is_laid n seats end ≡ true → end ≡ n + total_of (shapes_in seats)
ends_at n [] end h = let e = eqb-true n end h in omega (arith, e)
ends_at n (s ∷ seats) end h =
    let k = and_parts (s.start == n) (is_laid (n + s.size) seats end) h in
    let e = ends_at (n + s.size) seats end k.1 in
    omega (arith, e)

pub all_of : (seats : List Seat) (end : ℕ) → is_laid 0 seats end ≡ true → end ≡ total_of (shapes_in seats)
all_of seats end h = let e = ends_at 0 seats end h in omega (arith, e)

-- the elements of a name begin behind those of the names before it
pub start_of : (seats : List Seat) (end i : ℕ) (x : Seat) → is_laid 0 seats end ≡ true → i < length seats → x ≡ get_or seats i x → x.start ≡ total_of (take i (shapes_in seats))
start_of seats end i x h l e = let k = starts_at 0 seats end i x h l in ap (λ (s : Seat). s.start) e ∙ omega (arith, k)

length_shapes : (seats : List Seat) → length (shapes_in seats) ≡ length seats
length_shapes [] = refl
length_shapes (s ∷ seats) = ap suc (length_shapes seats)

pub start_past : (seats : List Seat) (end i : ℕ) → is_laid 0 seats end ≡ true → length seats ≤ i → end ≡ total_of (take i (shapes_in seats))
start_past seats end i h l = all_of seats end h ∙ ap total_of (sym (take_all i (shapes_in seats) (let k = length_shapes seats in omega (arith, k, l))))

laid_more : (n : ℕ) (seats : List Seat) (end : ℕ) (s : Seat) → is_laid n seats end ≡ true → s.start ≡ end → is_laid n (seats ++ s ∷ []) (end + s.size) ≡ true
laid_more n [] end s h e =
    let k = eqb-true n end h in
    let same : s.start ≡ n = omega (arith, k, e) in
    let whole : n + s.size ≡ end + s.size = omega (arith, k) in
    rw (eq-eqb s.start n same, eq-eqb (n + s.size) (end + s.size) whole) refl
laid_more n (t ∷ seats) end s h e =
    let k = and_parts (t.start == n) (is_laid (n + t.size) seats end) h in
    rw k.0 (laid_more (n + t.size) seats end s k.1 e)

-- one name more
pub laid_push : (seats : List Seat) (end : ℕ) (s : Seat) → is_laid 0 seats end ≡ true → s.start ≡ end → is_laid 0 (seats ++ s ∷ []) (end + s.size) ≡ true
laid_push seats end s h e = laid_more 0 seats end s h e
