-- A row of places that is made longer.
use Rattle.std.proofs.Common.{◌≡◌, ◌∙◌, ◌==◌, ◌<◌, ℕ, zero, suc, List, [], ◌∷◌, ◌++◌, length, map, get_or, ap, arith, refl, sym, subst, ⊎_elim}
use Rattle.std.proofs.Math.ListN.{set}
use Rattle.std.proofs.lemmas.Bool.{cases_eq, eq-eqb, ne_eqb}
use Rattle.std.proofs.lemmas.List.{get_or-set_other, map-set}
use Rattle.plan_check.specs.Grouping.{row_at, with_place}

module _ {X : Type 0} (view : X → List ℕ) where
  row_set : (xs : List X) (n : ℕ) (new : X) → n < length xs → row_at (map view (set xs n new)) n ≡ view new
  row_set [] n new l = absurd (omega (arith, l))
  row_set (x ∷ xs) zero new l = refl
  row_set (x ∷ xs) (suc n) new l = row_set xs n new (omega (arith, l))

  row_is : (xs : List X) (n : ℕ) (old : X) → n < length xs → old ≡ get_or xs n old → row_at (map view xs) n ≡ view old
  row_is [] n old l e = absurd (omega (arith, l))
  row_is (x ∷ xs) zero old l e = ap view (sym e)
  row_is (x ∷ xs) (suc n) old l e = row_is xs n old (omega (arith, l)) e

  pub added : (xs : List X) (n : ℕ) (old new : X) (place : ℕ) → n < length xs → old ≡ get_or xs n old → view new ≡ view old ++ place ∷ [] → (c : ℕ)
      → row_at (map view (set xs n new)) c ≡ with_place (c == n) place (row_at (map view xs) c)
  added xs n old new place l e k c = ⊎_elim
      (λ q. subst (λ m. row_at (map view (set xs n new)) m ≡ with_place (m == n) place (row_at (map view xs) m)) (sym q)
      (row_set xs n new l ∙ k ∙ ap (λ row. row ++ place ∷ []) (sym (row_is xs n old l e)) ∙ ap (λ b. with_place b place (row_at (map view xs) n)) (sym (eq-eqb n n refl))))
      (λ ne. ap (λ rows. row_at rows c) (map-set view xs n new) ∙ get_or-set_other (map view xs) n c (view new) [] ne ∙ ap (λ b. with_place b place (row_at (map view xs) c)) (sym (ne_eqb c n ne)))
      (cases_eq c n)
