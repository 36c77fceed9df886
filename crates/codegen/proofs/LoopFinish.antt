-- A step changes nothing of what all iterations, finished one after another, come to.
use Rattle.std.proofs.Common.{◌≡◌, ◌∙◌, ℕ, zero, suc, ◌+◌, ◌<◌, ◌≤◌, ℤ, List, [], ◌∷◌, ◌++◌, Option, Some, None, refl, sym, ap, subst, ⊎_elim, arith, append_assoc}
use Rattle.std.proofs.lemmas.Bool.{cases_eq}
use Rattle.ast.specs.Store.{StoreOf}
use Rattle.machine.specs.State.{put_at}
use Rattle.machine.specs.View.{Cause}
use Rattle.machine.proofs.Puts.{put_same}
use Rattle.codegen.proofs.IterationLaws.{put_other, after-snoc, with_end}
use Rattle.codegen.proofs.IterationSteps.{Process, follow, after, first, run, Whole, add, going, joined, finish}

going_same : (bad : Option Cause) (ds : List ℤ) (σ τ : StoreOf) (next next' : StoreOf → Whole) → next' τ ≡ next σ → going bad ds τ next' ≡ going bad ds σ next
going_same None ds σ τ next next' e = ap (add ds) e
going_same (Some f) ds σ τ next next' e = refl

module _ (start : ℕ → Process) where
  pub finish_same : (past past' : ℕ → List ℤ) (n k : ℕ) → ((i : ℕ) → k ≤ i → past' i ≡ past i) → (σ : StoreOf) → finish start past' n k σ ≡ finish start past n k σ
  finish_same past past' zero k h σ = refl
  finish_same past past' (suc n) k h σ =
      ap (λ (p : List ℤ). joined p (run (after (start k) p) σ) (finish start past' n (suc k))) (h k (omega arith))
      ∙ going_same (run (after (start k) (past k)) σ).bad _ _ _ (finish start past n (suc k)) (finish start past' n (suc k)) (finish_same past past' n (suc k) (λ i le. h i (omega arith)) (run (after (start k) (past k)) σ).end)

  module _ (past : ℕ → List ℤ) (j : ℕ) (v : ℤ) (ρ : StoreOf → StoreOf) (Q : StoreOf → Type 0)
      (keeps : (i : ℕ) → i < j → (σ : StoreOf) → Q σ → Q (run (after (start i) (past i)) σ).end)
      (ignores : (i : ℕ) → i < j → (σ : StoreOf) → run (after (start i) (past i)) (ρ σ) ≡ with_end ρ (run (after (start i) (past i)) σ))
      (here : (σ : StoreOf) → Q σ → run (after (start j) (past j)) σ ≡ first v (run (follow (after (start j) (past j)) v) (ρ σ)))
    where
      at_place : (next next' : StoreOf → Whole) → ((σ : StoreOf) → next' σ ≡ next σ) → (σ : StoreOf) → Q σ → joined (past j ++ v ∷ []) (run (after (start j) (past j ++ v ∷ [])) (ρ σ)) next' ≡ joined (past j) (run (after (start j) (past j)) σ) next
      at_place next next' h σ q =
          let P = after (start j) (past j) in
          let r = run (follow P v) (ρ σ) in
          ap (λ (p : Process). joined (past j ++ v ∷ []) (run p (ρ σ)) next') (after-snoc (start j) (past j) v)
          ∙ ap (λ d. going r.bad d r.end next') (append_assoc (past j) (v ∷ []) r.values)
          ∙ going_same r.bad (past j ++ v ∷ r.values) r.end r.end next next' (h r.end)
          ∙ ap (λ x. joined (past j) x next) (sym (here σ q))

      pub finish_step : (n k : ℕ) → k ≤ j → j < k + n → (σ : StoreOf) → Q σ → finish start (put_at past j (past j ++ v ∷ [])) n k (ρ σ) ≡ finish start past n k σ
      finish_step zero k le lt σ q = absurd (omega arith)
      finish_step (suc n) k le lt σ q =
          let past' = put_at past j (past j ++ v ∷ []) in
          ⊎_elim
          (λ e.
          let tail = finish_same past past' n (suc k) (λ i l. put_other past j (past j ++ v ∷ []) i (λ x. absurd (omega arith))) in
          let here' : past' k ≡ past j ++ v ∷ [] = subst (λ x. past' x ≡ past j ++ v ∷ []) (sym e) (put_same past j (past j ++ v ∷ [])) in
          ap (λ (p : List ℤ). joined p (run (after (start k) p) (ρ σ)) (finish start past' n (suc k))) here'
          ∙ subst (λ x. joined (past j ++ v ∷ []) (run (after (start x) (past j ++ v ∷ [])) (ρ σ)) (finish start past' n (suc k)) ≡ joined (past x) (run (after (start x) (past x)) σ) (finish start past n (suc k))) (sym e)
          (at_place (finish start past n (suc k)) (finish start past' n (suc k)) tail σ q))
          (λ ne.
          let low : k < j = omega arith in
          let r = run (after (start k) (past k)) σ in
          ap (λ (p : List ℤ). joined p (run (after (start k) p) (ρ σ)) (finish start past' n (suc k))) (put_other past j (past j ++ v ∷ []) k ne)
          ∙ ap (λ x. joined (past k) x (finish start past' n (suc k))) (ignores k low σ)
          ∙ going_same r.bad _ r.end (ρ r.end) (finish start past n (suc k)) (finish start past' n (suc k)) (finish_step n (suc k) (omega arith) (omega arith) r.end (keeps k low σ q)))
          (cases_eq k j)
