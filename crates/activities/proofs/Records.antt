-- A record that is printed piece by piece, and bytes that begin with those before.
use Rattle.std.proofs.Common.{◌≡◌, ◌∙◌, ◌≤◌, ◌<◌, ◌+◌, ◌++◌, ◌∷◌, [], ℕ, suc, zero, Bool, true, false, List, drop, get_or, length, map, reverse, take, refl, sym, ap, subst, arith}
use Rattle.std.specs.Prelude.{ℤ}
use Rattle.std.proofs.lemmas.List.{append_assoc, append-nil, length-append, take_all, take_at}
use Rattle.ast.specs.Record.{Keeps, all_shown, items_printed, record_of}
use Rattle.machine.specs.CodeView.{part}
use Rattle.machine.specs.View.{filled, values_wanted}
use Rattle.machine.specs.declared.code.Piece.{Piece}
use Rattle.activities.specs.Printing.{PrintsPiece, to_print}

pub keeps_same : (old new : List ℕ) → new ≡ old → Keeps old new
keeps_same old new e = (let n = ap (λ (l : List ℕ). length l) e in omega (arith, n), ap (λ (l : List ℕ). take (length old) l) e ∙ take_all (length old) old (omega arith))

pub keeps_more : (old more new : List ℕ) → new ≡ old ++ more → Keeps old new
keeps_more old more new e = (
  let n = ap (λ (l : List ℕ). length l) e ∙ length-append old more in omega (arith, n),
  ap (λ (l : List ℕ). take (length old) l) e ∙ take_at old more (length old) refl,
)

drop_one : (ps : List Piece) (i : ℕ) (p : Piece) → i < length ps → drop i ps ≡ get_or ps i p ∷ drop (suc i) ps
drop_one [] i p h = absurd (omega (arith, h))
drop_one (q ∷ ps) zero p h = refl
drop_one (q ∷ ps) (suc i) p h = drop_one ps i p (omega (arith, h))

-- the next piece is printed, and the rest is still to print
pub goes_on : (start out new : List ℕ) (first : Bool) (pieces : List Piece) (i left rest : ℕ) (vs : List ℤ) (p : Piece) → i < length pieces → p ≡ get_or pieces i p
    → values_wanted (map part (drop i pieces)) ≡ left → left ≤ length vs → out ++ to_print first (map part (drop i pieces)) left vs ≡ start → PrintsPiece first (part p) left vs out rest new
    → (values_wanted (map part (drop (i + 1) pieces)) ≡ rest) × (new ++ to_print false (map part (drop (i + 1) pieces)) rest vs ≡ start)
goes_on start out new first pieces i left rest vs p h is wanted most onto printed =
    let next : suc i ≡ i + 1 = omega arith in
    let ahead : drop i pieces ≡ p ∷ drop (i + 1) pieces = drop_one pieces i p h ∙ ap (λ (q : Piece). q ∷ drop (suc i) pieces) (sym is) ∙ ap (λ (n : ℕ). p ∷ drop n pieces) next in
    let r = printed (map part (drop (i + 1) pieces)) (subst (λ (ps : List Piece). values_wanted (map part ps) ≡ left) ahead wanted) most in
    (r.0, r.1 ∙ subst (λ (ps : List Piece). out ++ to_print first (map part ps) left vs ≡ start) ahead onto)

nothing : (first : Bool) (vs : List ℤ) → all_shown first (filled [] vs) ≡ []
nothing true vs = refl
nothing false vs = refl

-- all pieces are printed, and the record ends
pub is_whole : (old out new : List ℕ) (first : Bool) (pieces rest : List Piece) (left : ℕ) (vs : List ℤ) → rest ≡ [] → out ++ to_print first (map part rest) left vs ≡ (old ++ 32 ∷ []) ++ to_print true (map part pieces) (length vs) vs
    → new ≡ out ++ 10 ∷ [] → new ≡ old ++ record_of (filled (map part pieces) (reverse vs))
is_whole old out new first pieces rest left vs none onto ended =
    let all : out ≡ (old ++ 32 ∷ []) ++ items_printed (filled (map part pieces) (reverse vs)) =
    sym (append-nil out)
    ∙ ap (λ (l : List ℕ). out ++ l) (sym (nothing first (reverse (take left vs))) ∙ ap (λ (ps : List Piece). to_print first (map part ps) left vs) (sym none))
    ∙ onto
    ∙ ap (λ (ws : List ℤ). (old ++ 32 ∷ []) ++ items_printed (filled (map part pieces) (reverse ws))) (take_all (length vs) vs (omega arith)) in
    ended
    ∙ ap (λ (l : List ℕ). l ++ 10 ∷ []) all
    ∙ append_assoc (old ++ 32 ∷ []) (items_printed (filled (map part pieces) (reverse vs))) (10 ∷ [])
    ∙ append_assoc old (32 ∷ []) (items_printed (filled (map part pieces) (reverse vs)) ++ 10 ∷ [])
