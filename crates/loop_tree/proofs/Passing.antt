-- What a loop over a list has come to, where the rest of the list leads from there to the whole.
use Rattle.std.proofs.Common.{◌≡◌, ◌∙◌, ◌+◌, ◌<◌, ◌≤◌, ℕ, List, [], ◌∷◌, sym, ap, length, drop, get_or}
use Rattle.std.proofs.lemmas.List.{drop_all, drop_more}

module _ {X S : Type 0} (one : X → S → S) (all : List X → S → S) where
  -- the next element leads further
  pub next : ((x : X) (xs : List X) (s : S) → all (x ∷ xs) s ≡ all xs (one x s)) → (xs : List X) (i : ℕ) (x : X) (before after whole : S) → i < length xs → x ≡ get_or xs i x → after ≡ one x before → all (drop i xs) before ≡ whole → all (drop (i + 1) xs) after ≡ whole
  next steps xs i x before after whole h is led so_far =
      ap (λ (s : S). all (drop (i + 1) xs) s) led
      ∙ sym (steps x (drop (i + 1) xs) before)
      ∙ ap (λ (y : X). all (y ∷ drop (i + 1) xs) before) is
      ∙ sym (ap (λ (l : List X). all l before) (drop_more xs i x h))
      ∙ so_far

  -- no element is left
  pub passed : ((s : S) → all [] s ≡ s) → (xs : List X) (i : ℕ) (s whole : S) → length xs ≤ i → all (drop i xs) s ≡ whole → s ≡ whole
  passed none xs i s whole h so_far = sym (none s) ∙ sym (ap (λ (l : List X). all l s) (drop_all i xs h)) ∙ so_far
