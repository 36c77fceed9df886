-- A list of walks with one of them changed.
use Rattle.std.proofs.Common.{◌≡◌, ◌∙◌, ap, refl, ℕ, zero, suc, ◌+◌, List, [], ◌∷◌, ◌++◌, length, take, drop, get_or, ◌<◌, ◌≤◌, arith}
use Rattle.std.proofs.Math.ListN.{set}
use Rattle.privatise.specs.Cells.{walk_at, gone_on, stopped, joined}
use Rattle.privatise.specs.Walks.{then_walk, more}
use Rattle.privatise.specs.declared.walk.Walk.{Walk}

pub changed : (ws : List Walk) (c : ℕ) (w v d : Walk) → v ≡ then_walk (get_or ws c d) w → c < length ws → set ws c v ≡ gone_on ws c w
changed [] c w v d e h = absurd (omega (arith, h))
changed (x ∷ ws) zero w v d e h = ap (λ y. y ∷ ws) e
changed (x ∷ ws) (suc c) w v d e h = ap (λ ys. x ∷ ys) (changed ws c w v d e (omega (arith, h)))

pub unchanged : (ws : List Walk) (c : ℕ) (w : Walk) → length ws ≤ c → gone_on ws c w ≡ ws
unchanged [] c w h = refl
unchanged (x ∷ ws) zero w h = absurd (omega (arith, h))
unchanged (x ∷ ws) (suc c) w h = ap (λ ys. x ∷ ys) (unchanged ws c w (omega (arith, h)))

-- ---- one cell after another: those before a cell are done, the others are to be done

abbrev pub stopping : List Walk → ℕ → List Walk
stopping ws i = take i ws ++ stopped (drop i ws)

abbrev pub joining : List Walk → List Walk → ℕ → List Walk
joining ws os i = take i ws ++ joined (drop i ws) (drop i os)

join_step : (ws os : List Walk) (i : ℕ) (v d : Walk) → v ≡ more (get_or ws i d) (walk_at os i) → i < length ws → joining (set ws i v) os (suc i) ≡ joining ws os i
join_step [] os i v d e h = absurd (omega (arith, h))
join_step (w ∷ ws) [] zero v d e h = ap (λ x. x ∷ joined ws []) e
join_step (w ∷ ws) (o ∷ os) zero v d e h = ap (λ x. x ∷ joined ws os) e
join_step (w ∷ ws) [] (suc i) v d e h = ap (λ xs. w ∷ xs) (join_none ws i v d e (omega (arith, h)))
  where
    join_none : (xs : List Walk) (k : ℕ) (y c : Walk) → y ≡ more (get_or xs k c) (walk_at [] k) → k < length xs → take (suc k) (set xs k y) ++ joined (drop (suc k) (set xs k y)) [] ≡ take k xs ++ joined (drop k xs) []
    join_none [] k y c f l = absurd (omega (arith, l))
    join_none (x ∷ xs) zero y c f l = ap (λ z. z ∷ joined xs []) f
    join_none (x ∷ xs) (suc k) y c f l = ap (λ zs. x ∷ zs) (join_none xs k y c f (omega (arith, l)))
join_step (w ∷ ws) (o ∷ os) (suc i) v d e h = ap (λ xs. w ∷ xs) (join_step ws os i v d e (omega (arith, h)))

pub join_next : (ws os : List Walk) (i : ℕ) (v d o : Walk) → v ≡ more (get_or ws i d) o → o ≡ walk_at os i → i < length ws → joining (set ws i v) os (i + 1) ≡ joining ws os i
join_next ws os i v d o e f h =
    let n : i + 1 ≡ suc i = omega arith in
    ap (λ k. joining (set ws i v) os k) n ∙ join_step ws os i v d (e ∙ ap (λ w. more (get_or ws i d) w) f) h

pub all_joined : (ws os : List Walk) (i : ℕ) → length ws ≤ i → joining ws os i ≡ ws
all_joined [] os zero h = refl
all_joined [] os (suc i) h = refl
all_joined (w ∷ ws) os zero h = absurd (omega (arith, h))
all_joined (w ∷ ws) [] (suc i) h = ap (λ xs. w ∷ xs) (with_none ws i (omega (arith, h)))
  where
    with_none : (xs : List Walk) (k : ℕ) → length xs ≤ k → take k xs ++ joined (drop k xs) [] ≡ xs
    with_none [] zero l = refl
    with_none [] (suc k) l = refl
    with_none (x ∷ xs) zero l = absurd (omega (arith, l))
    with_none (x ∷ xs) (suc k) l = ap (λ zs. x ∷ zs) (with_none xs k (omega (arith, l)))
all_joined (w ∷ ws) (o ∷ os) (suc i) h = ap (λ xs. w ∷ xs) (all_joined ws os i (omega (arith, h)))
