-- Lists that are changed place by place.
use Rattle.std.proofs.Common.{◌≡◌, ◌∙◌, ap, refl, ℕ, zero, suc, ◌+◌, List, [], ◌∷◌, ◌++◌, length, take, drop, get_or, ◌<◌, ◌≤◌, arith}
use Rattle.std.proofs.Math.ListN.{set}
use Rattle.plan_check.specs.Flow.{all, zipped}

module _ {A : Type 0} (v : A) where
  abbrev pub setting : List A → ℕ → List A
  setting ws i = take i ws ++ all v (drop i ws)

  set_step : (ws : List A) (i : ℕ) → i < length ws → setting (set ws i v) (suc i) ≡ setting ws i
  set_step [] i h = absurd (omega (arith, h))
  set_step (w ∷ ws) zero h = refl
  set_step (w ∷ ws) (suc i) h = ap (λ xs. w ∷ xs) (set_step ws i (omega (arith, h)))

  pub set_next : (ws : List A) (i : ℕ) → i < length ws → setting (set ws i v) (i + 1) ≡ setting ws i
  set_next ws i h = let n : i + 1 ≡ suc i = omega arith in ap (λ k. setting (set ws i v) k) n ∙ set_step ws i h

module _ {A : Type 0} (f : A → A → A) (none : A) where
  abbrev pub joining : List A → List A → ℕ → List A
  joining ws os i = take i ws ++ zipped f none (drop i ws) (drop i os)

  join_step : (ws os : List A) (i : ℕ) (v d : A) → v ≡ f (get_or ws i d) (get_or os i none) → i < length ws → joining (set ws i v) os (suc i) ≡ joining ws os i
  join_step [] os i v d e h = absurd (omega (arith, h))
  join_step (w ∷ ws) [] zero v d e h = ap (λ x. x ∷ zipped f none ws []) e
  join_step (w ∷ ws) (o ∷ os) zero v d e h = ap (λ x. x ∷ zipped f none ws os) e
  join_step (w ∷ ws) [] (suc i) v d e h = ap (λ xs. w ∷ xs) (join_none ws i v d e (omega (arith, h)))
    where
      join_none : (xs : List A) (k : ℕ) (y c : A) → y ≡ f (get_or xs k c) (get_or [] k none) → k < length xs → take (suc k) (set xs k y) ++ zipped f none (drop (suc k) (set xs k y)) [] ≡ take k xs ++ zipped f none (drop k xs) []
      join_none [] k y c g l = absurd (omega (arith, l))
      join_none (x ∷ xs) zero y c g l = ap (λ z. z ∷ zipped f none xs []) g
      join_none (x ∷ xs) (suc k) y c g l = ap (λ zs. x ∷ zs) (join_none xs k y c g (omega (arith, l)))
  join_step (w ∷ ws) (o ∷ os) (suc i) v d e h = ap (λ xs. w ∷ xs) (join_step ws os i v d e (omega (arith, h)))

  pub join_next : (ws os : List A) (i : ℕ) (v d o : A) → v ≡ f (get_or ws i d) o → o ≡ get_or os i none → i < length ws → joining (set ws i v) os (i + 1) ≡ joining ws os i
  join_next ws os i v d o e g h =
      let n : i + 1 ≡ suc i = omega arith in
      ap (λ k. joining (set ws i v) os k) n ∙ join_step ws os i v d (e ∙ ap (λ w. f (get_or ws i d) w) g) h

  pub all_joined : (ws os : List A) (i : ℕ) → length ws ≤ i → joining ws os i ≡ ws
  all_joined [] os zero h = refl
  all_joined [] os (suc i) h = refl
  all_joined (w ∷ ws) os zero h = absurd (omega (arith, h))
  all_joined (w ∷ ws) [] (suc i) h = ap (λ xs. w ∷ xs) (with_none ws i (omega (arith, h)))
    where
      with_none : (xs : List A) (k : ℕ) → length xs ≤ k → take k xs ++ zipped f none (drop k xs) [] ≡ xs
      with_none [] zero l = refl
      with_none [] (suc k) l = refl
      with_none (x ∷ xs) zero l = absurd (omega (arith, l))
      with_none (x ∷ xs) (suc k) l = ap (λ zs. x ∷ zs) (with_none xs k (omega (arith, l)))
  all_joined (w ∷ ws) (o ∷ os) (suc i) h = ap (λ xs. w ∷ xs) (all_joined ws os i (omega (arith, h)))
