-- What the code finds of a loop tells whether it suits, and the lowest reason why it doesn't.
use Rattle.std.proofs.Common.{◌≡◌, ◌∙◌, ◌<◌, ◌≤◌, inl, inr, ℕ, Bool, true, false, List, [], ◌∷◌, length, map, refl, sym, true≢false, arith}
use Rattle.std.specs.Prelude.{◌&&◌}
use Rattle.std.specs.List.{Contains, list_all}
use Rattle.ast.specs.Tree.{Ref}
use Rattle.ast.specs.View.{letters}
use Rattle.dependence.specs.Kept.{IsNonzero, Kept, Suits, block_reads, block_variables}
use Rattle.dependence.specs.Serial.{number_of}
use Rattle.dependence.specs.declared.serial.SerialReason.{SerialReason}
use Rattle.dependence.specs.declared.serial.SerialReason.TheVariants.{NoStep, Reads, SharedVariable, ManySources, Inside, Refused}
use Rattle.loop_tree.specs.Loops.{IsWhole, Loop}
use Rattle.loop_tree.specs.Private.{Private}
use Rattle.loop_tree.specs.Told.{are_told, known}
use Rattle.placement.specs.Analysed.{AreAnalysed, HasManySources}
use Rattle.dependence.specs.Hiding.{has_name, hides}
use Rattle.placement.specs.Judged.{IsHindered, IsJudged, IsPlain, IsSuiting, suits_by}
use Rattle.placement.specs.Placement.{AreSources, IsLowest, Reason, SomeEligible}
use Rattle.placement.specs.declared.analysis.Analysis.{Analysis}
use Rattle.placement.specs.declared.planning.Judged.{Judged}
use Rattle.placement.specs.declared.planning.Judged.TheVariants as judged
use Rattle.placement.proofs.Cells.{known_variable, private_cell, private_name}
use Rattle.placement.proofs.Few.{few}
use Rattle.plan_check.proofs.Members.{In, among, contained, all_in}

-- an element of which a test doesn't hold
one_not : (f : Ref → Bool) (rs : List Ref) → list_all f rs ≡ false → (r : Ref) × In r rs × (f r ≡ false)
one_not f [] h = cc
one_not f (x ∷ rs) h = by (f x) refl h (λ g. one_not f rs g)
  where
    by : (b : Bool) → f x ≡ b → (b && list_all f rs) ≡ false → (list_all f rs ≡ false → (r : Ref) × In r rs × (f r ≡ false)) → (r : Ref) × In r (x ∷ rs) × (f r ≡ false)
    by true e g more = let m = more g in (m.0, inr m.1, m.2)
    by false e g more = (x, inl refl, e)

-- sources in order are no more than any sources
no_more : (l : Loop) (ss xs : List ℕ) → AreSources l ss → ((s t d : ℕ) → Kept l s t d → Contains xs s) → length ss ≤ length xs
no_more l ss xs are all = few ss xs are.ascending (λ s i. let k = are.kept s (contained s ss i) in among s xs (all s k.0 k.1 k.2))

module _ (l : Loop) (whole : IsWhole l) (told : are_told (known l) ≡ true) where
  -- of the variables of the loops inside
  all_private : (names : List (List ℕ)) → IsPlain l names → hides names l ≡ true → (r : Ref) → In r (block_variables l.body) → Private l r.cell
  all_private names plain h r i = private_name l names told plain.privates r (known_variable l whole r i) (all_in (λ (q : Ref). has_name names q.name) (block_variables l.body) r h i)

  one_shared : (names : List (List ℕ)) → IsPlain l names → hides names l ≡ false → (r : Ref) × In r (block_variables l.body) × (Private l r.cell → ⊥)
  one_shared names plain h =
      let g = one_not (λ (q : Ref). has_name names q.name) (block_variables l.body) h in
      (g.0, g.1, λ v. true≢false (sym (private_cell l names told plain.privates g.0 (known_variable l whole g.0 g.1) v) ∙ g.2))

  pub suiting : (names : List (List ℕ)) (a : Analysis) → IsPlain l names → hides names l ≡ true → AreAnalysed l names a → Suits l
  suiting names a plain h analysed = record {
    step = plain.step;
    no_read = plain.no_read;
    inner = λ r c. all_private names plain h r (among r (block_variables l.body) c);
    sources = a.sources.items;
    few = analysed.few;
    all = analysed.sources.all;
  }

  -- no reason below this one holds
  refuted : (around : List Loop) (r q : SerialReason) → number_of r ≤ 5 → (1 < number_of r → IsNonzero l.step) → (2 < number_of r → block_reads l.body ≡ false)
      → (3 < number_of r → (v : Ref) → In v (block_variables l.body) → Private l v.cell) → (4 < number_of r → HasManySources l → ⊥) → number_of q < number_of r → Reason l around q → ⊥
  refuted around r NoStep top a b c d less refutes = refutes (a less)
  refuted around r Reads top a b c d less reads = true≢false (sym reads ∙ b less)
  refuted around r SharedVariable top a b c d less (v, i, shared) = shared (c less v (among v (block_variables l.body) i))
  refuted around r ManySources top a b c d less many = d less many
  refuted around r Inside top a b c d less some = absurd (omega (arith, less, top))
  refuted around r Refused top a b c d less none = none

  few_and_many : Suits l → HasManySources l → ⊥
  few_and_many s many =
      let g = no_more l many.0 s.sources many.1 s.all in
      let most = s.few in
      let more = many.2 in
      absurd (omega (arith, g, most, more))

  pub hindered : (r : SerialReason) → IsHindered l r → (Suits l → ⊥) × IsLowest l [] r
  hindered NoStep refutes = (
    λ s. refutes s.step,
    (refutes, λ q less h. refuted [] NoStep q (omega arith) (λ k. absurd (omega (arith, k))) (λ k. absurd (omega (arith, k))) (λ k. absurd (omega (arith, k))) (λ k. absurd (omega (arith, k))) less h),
  )
  hindered Reads (step, reads) = (
    λ s. true≢false (sym reads ∙ s.no_read),
    (reads, λ q less h. refuted [] Reads q (omega arith) (λ k. step) (λ k. absurd (omega (arith, k))) (λ k. absurd (omega (arith, k))) (λ k. absurd (omega (arith, k))) less h),
  )
  hindered SharedVariable (names, plain, hidden) =
      let one = one_shared names plain hidden in (
        λ s. one.2 (s.inner one.0 (contained one.0 (block_variables l.body) one.1)),
        ((one.0, contained one.0 (block_variables l.body) one.1, one.2), λ q less h. refuted [] SharedVariable q (omega arith) (λ k. plain.step) (λ k. plain.no_read) (λ k. absurd (omega (arith, k))) (λ k. absurd (omega (arith, k))) less h),
      )
  hindered ManySources (names, plain, hidden, many) = (
    λ s. few_and_many s many,
    (many, λ q less h. refuted [] ManySources q (omega arith) (λ k. plain.step) (λ k. plain.no_read) (λ k. all_private names plain hidden) (λ k. absurd (omega (arith, k))) less h),
  )
  hindered Inside none = absurd none
  hindered Refused none = absurd none

  -- a loop that suits has none of the reasons but that of a loop around it
  pub lowest_inside : (around : List Loop) → Suits l → SomeEligible around → IsLowest l around Inside
  lowest_inside around s some = (
    some,
    λ q less h. refuted around Inside q (omega arith) (λ k. s.step) (λ k. s.no_read) (λ k v i. s.inner v (contained v (block_variables l.body) i)) (λ k many. few_and_many s many) less h,
  )

  pub suiting_by : (j : Judged) → IsJudged l j → IsSuiting l (suits_by j)
  suiting_by (judged.Serial reason) h = (hindered reason h).0
  suiting_by (judged.Suits privates a) h = suiting (map letters privates.names.items) a h.0 h.1 h.2
