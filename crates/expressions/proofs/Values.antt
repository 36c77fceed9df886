-- More digits write no smaller number.
use Rattle.std.proofs.Common.{◌≡◌, ℕ, suc, ◌+◌, ◌-◌, ◌*◌, ◌^◌, ◌<◌, ◌≤◌, false, ltb, List, [], ◌∷◌, length, get_or, drop, sym, ap, ◌∙◌, arith}
use Rattle.std.proofs.Math.Seq.{drop-cons}
use Rattle.std.proofs.lemmas.Bool.{le-ltb}
use Rattle.expressions.specs.Characters.{value, value_after}

pub value_after-grows : (n : ℕ) (ds : List ℕ) → n ≤ value_after n ds
value_after-grows n [] = omega arith
value_after-grows n (d ∷ ds) = omega (arith, value_after-grows (10 * n + (d - 48)) ds)

-- digits whose front with one digit more is too large are too large
pub too_large : (total i : ℕ) (ds : List ℕ) → i < length ds → value_after total (drop i ds) ≡ value ds → 2 ^ 63 ≤ 10 * total + (get_or ds i 0 - 48) → ltb (value ds) (2 ^ 63) ≡ false
too_large total i ds lt e h =
    let cut : drop i ds ≡ get_or ds i 0 ∷ drop (suc i) ds = drop-cons ds i 0 lt in
    let whole : value ds ≡ value_after (10 * total + (get_or ds i 0 - 48)) (drop (suc i) ds) = sym e ∙ ap (value_after total) cut in
    le-ltb _ _ (omega (arith, whole, value_after-grows (10 * total + (get_or ds i 0 - 48)) (drop (suc i) ds)))
