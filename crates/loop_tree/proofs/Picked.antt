-- The greatest and the least of numbers, picked one by one by a test.
use Rattle.std.proofs.Common.{◌≡◌, ◌∙◌, ◌+◌, ◌<◌, ◌≤◌, ℕ, ℤ, pos, Bool, true, false, List, [], ◌∷◌, sym, ap, length, drop, get_or}
use Rattle.std.specs.Prelude.{if◌then◌else◌}
use Rattle.std.proofs.lemmas.List.{drop_all, drop_more}

module _ (pick : ℤ → List ℤ → ℤ) (test : ℤ → ℤ → Bool) (steps : (a b : ℤ) (bs : List ℤ) → pick a (b ∷ bs) ≡ pick (if test a b then b else a) bs) where
  next : (a b : ℤ) (bs : List ℤ) (i : ℕ) (whole : ℤ) (passed : Bool) → i < length bs → b ≡ get_or bs i (pos 0) → test a b ≡ passed → pick a (drop i bs) ≡ whole → pick (if passed then b else a) (drop (i + 1) bs) ≡ whole
  next a b bs i whole passed h is tested so_far =
      ap (λ (p : Bool). pick (if p then b else a) (drop (i + 1) bs)) (sym tested)
      ∙ sym (steps a b (drop (i + 1) bs))
      ∙ ap (λ (d : ℤ). pick a (d ∷ drop (i + 1) bs)) is
      ∙ sym (ap (λ (l : List ℤ). pick a l) (drop_more bs i (pos 0) h))
      ∙ so_far

  -- the next number is the one, or isn't
  pub taken : (a b x : ℤ) (bs : List ℤ) (i : ℕ) (whole : ℤ) → i < length bs → b ≡ get_or bs i (pos 0) → test a b ≡ true → x ≡ b → pick a (drop i bs) ≡ whole → pick x (drop (i + 1) bs) ≡ whole
  taken a b x bs i whole h is tested same so_far = ap (λ (y : ℤ). pick y (drop (i + 1) bs)) same ∙ next a b bs i whole true h is tested so_far

  pub kept : (a b x : ℤ) (bs : List ℤ) (i : ℕ) (whole : ℤ) → i < length bs → b ≡ get_or bs i (pos 0) → test a b ≡ false → x ≡ a → pick a (drop i bs) ≡ whole → pick x (drop (i + 1) bs) ≡ whole
  kept a b x bs i whole h is tested same so_far = ap (λ (y : ℤ). pick y (drop (i + 1) bs)) same ∙ next a b bs i whole false h is tested so_far

pub picked : (pick : ℤ → List ℤ → ℤ) (a : ℤ) (bs : List ℤ) (i : ℕ) (whole : ℤ) → pick a [] ≡ a → length bs ≤ i → pick a (drop i bs) ≡ whole → a ≡ whole
picked pick a bs i whole none h so_far = sym none ∙ sym (ap (λ (l : List ℤ). pick a l) (drop_all i bs h)) ∙ so_far
