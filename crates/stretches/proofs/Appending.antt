-- Notes with one more behind them, and notes undone.
use Rattle.std.proofs.Common.{◌≡◌, ◌∙◌, ℕ, zero, suc, ◌+◌, ◌<◌, ◌≤◌, Bool, true, false, ◌&&◌, List, [], ◌∷◌, ◌++◌, length, get_or, take, set, refl, sym, ap, arith, nat_lt}
use Rattle.std.specs.Prelude.{ℤ, pos}
use Rattle.std.specs.Ordering.{int_eq}
use Rattle.std.proofs.lemmas.Bool.Decides.{Decides-ltb, Decides-int_eq}
use Rattle.std.proofs.lemmas.List.{length-set, set-get_or, take_more}
use Rattle.stretches.specs.Notes.{all_hold, before, behind, cells_by, holds, undone}
use Rattle.stretches.specs.declared.note.Note.{Note}

and_true : (b : Bool) → (b && true) ≡ b
and_true true = refl
and_true false = refl

and_false : (b : Bool) → (b && false) ≡ false
and_false true = refl
and_false false = refl

pub and_both : (a b : Bool) → (a && b) ≡ true → (a ≡ true) × (b ≡ true)
and_both true b e = (refl, e)
and_both false b e = cc

and_assoc : (a b c : Bool) → (a && (b && c)) ≡ ((a && b) && c)
and_assoc true b c = refl
and_assoc false b c = refl

pub hold_on : (ns : List Note) (n : Note) (cells : List ℤ) → all_hold (ns ++ n ∷ []) cells ≡ (all_hold ns cells && holds n (cells_by ns cells))
hold_on [] n cells = and_true (holds n cells)
hold_on (m ∷ ns) n cells =
    ap (λ (b : Bool). holds m cells && b) (hold_on ns n (behind m cells))
    ∙ and_assoc (holds m cells) (all_hold ns (behind m cells)) (holds n (cells_by ns (behind m cells)))

pub by_on : (ns : List Note) (n : Note) (cells : List ℤ) → cells_by (ns ++ n ∷ []) cells ≡ behind n (cells_by ns cells)
by_on [] n cells = refl
by_on (m ∷ ns) n cells = by_on ns n (behind m cells)

pub undone_on : (ns : List Note) (n : Note) (cells : List ℤ) → undone (ns ++ n ∷ []) cells ≡ undone ns (before n cells)
undone_on [] n cells = refl
undone_on (m ∷ ns) n cells = ap (λ (ds : List ℤ). before m ds) (undone_on ns n cells)

pub length_by : (ns : List Note) (cells : List ℤ) → length (cells_by ns cells) ≡ length cells
length_by [] cells = refl
length_by (n ∷ ns) cells = length_by ns (behind n cells) ∙ length-set cells n.cell n.is

-- a note holds where its cell is there and has the value that it was taken to have
pub holds_there : (n : Note) (cells : List ℤ) → n.cell < length cells → get_or cells n.cell (pos 0) ≡ n.was → holds n cells ≡ true
holds_there n cells h e =
    ap (λ (b : Bool). b && int_eq (get_or cells n.cell (pos 0)) n.was) ((Decides-ltb n.cell (length cells)).1 h)
    ∙ (Decides-int_eq (get_or cells n.cell (pos 0)) n.was).1 e

pub there_held : (n : Note) (cells : List ℤ) → holds n cells ≡ true → (n.cell < length cells) × (get_or cells n.cell (pos 0) ≡ n.was)
there_held n cells e =
    let b = and_both (nat_lt n.cell (length cells)) (int_eq (get_or cells n.cell (pos 0)) n.was) e in
    ((Decides-ltb n.cell (length cells)).0 b.0, (Decides-int_eq (get_or cells n.cell (pos 0)) n.was).0 b.1)

set_twice : (xs : List ℤ) (i : ℕ) (v w : ℤ) → set (set xs i v) i w ≡ set xs i w
set_twice [] i v w = refl
set_twice (x ∷ xs) zero v w = refl
set_twice (x ∷ xs) (suc i) v w = ap (λ (ys : List ℤ). x ∷ ys) (set_twice xs i v w)

set_none : (xs : List ℤ) (i : ℕ) (v : ℤ) → length xs ≤ i → set xs i v ≡ xs
set_none [] i v h = refl
set_none (x ∷ xs) zero v h = absurd (omega (arith, h))
set_none (x ∷ xs) (suc i) v h = ap (λ (ys : List ℤ). x ∷ ys) (set_none xs i v (omega (arith, h)))

-- an access that was made where it held is undone
before_behind : (n : Note) (cells : List ℤ) → holds n cells ≡ true → before n (behind n cells) ≡ cells
before_behind n cells e =
    set_twice cells n.cell n.is n.was
    ∙ ap (λ (v : ℤ). set cells n.cell v) (sym (there_held n cells e).1)
    ∙ set-get_or cells n.cell (pos 0)

pub undoes : (ns : List Note) (cells : List ℤ) → all_hold ns cells ≡ true → undone ns (cells_by ns cells) ≡ cells
undoes [] cells e = refl
undoes (n ∷ ns) cells e =
    let b = and_both (holds n cells) (all_hold ns (behind n cells)) e in
    ap (λ (ds : List ℤ). before n ds) (undoes ns (behind n cells) b.1) ∙ before_behind n cells b.0

-- where one doesn't hold, all don't
pub stops : (ns : List Note) (i : ℕ) (d : Note) (cells : List ℤ) → i < length ns → holds (get_or ns i d) (cells_by (take i ns) cells) ≡ false → all_hold ns cells ≡ false
stops [] i d cells h e = absurd (omega (arith, h))
stops (n ∷ ns) zero d cells h e = ap (λ (b : Bool). b && all_hold ns (behind n cells)) e
stops (n ∷ ns) (suc i) d cells h e =
    ap (λ (b : Bool). holds n cells && b) (stops ns i d (behind n cells) (omega (arith, h)) e) ∙ and_false (holds n cells)

-- a cell that isn't there doesn't get its value back
pub before_none : (n : Note) (cells : List ℤ) → length cells ≤ n.cell → before n cells ≡ cells
before_none n cells h = set_none cells n.cell n.was h

-- one note more, of those that are there
pub hold_more : (ns : List Note) (i : ℕ) (d : Note) (cells ds : List ℤ) → i < length ns → all_hold (take i ns) cells ≡ true → ds ≡ cells_by (take i ns) cells → holds (get_or ns i d) ds ≡ true → all_hold (take (i + 1) ns) cells ≡ true
hold_more ns i d cells ds h a e b =
    ap (λ (ms : List Note). all_hold ms cells) (take_more ns i d h)
    ∙ hold_on (take i ns) (get_or ns i d) cells
    ∙ ap (λ (c : Bool). c && holds (get_or ns i d) (cells_by (take i ns) cells)) a
    ∙ ap (λ (es : List ℤ). holds (get_or ns i d) es) (sym e)
    ∙ b

pub by_more : (ns : List Note) (i : ℕ) (d : Note) (cells ds : List ℤ) → i < length ns → ds ≡ cells_by (take i ns) cells → behind (get_or ns i d) ds ≡ cells_by (take (i + 1) ns) cells
by_more ns i d cells ds h e =
    ap (λ (es : List ℤ). behind (get_or ns i d) es) e
    ∙ sym (by_on (take i ns) (get_or ns i d) cells)
    ∙ ap (λ (ms : List Note). cells_by ms cells) (sym (take_more ns i d h))

pub undone_more : (ns : List Note) (i j : ℕ) (d : Note) (cells : List ℤ) → j ≡ i + 1 → i < length ns → undone (take j ns) cells ≡ undone (take i ns) (before (get_or ns i d) cells)
undone_more ns i j d cells e h =
    ap (λ (m : ℕ). undone (take m ns) cells) e
    ∙ ap (λ (ms : List Note). undone ms cells) (take_more ns i d h)
    ∙ undone_on (take i ns) (get_or ns i d) cells

-- an access that changes nothing
pub settled : (n : Note) (cells : List ℤ) → holds n cells ≡ true → n.is ≡ n.was → cells ≡ set cells n.cell n.is
settled n cells h e =
    sym (ap (λ (v : ℤ). set cells n.cell v) (e ∙ sym (there_held n cells h).1) ∙ set-get_or cells n.cell (pos 0))
