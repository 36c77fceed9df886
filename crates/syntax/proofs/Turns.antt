-- A turn of the loop over the bytes of a text.
use Rattle.std.proofs.Common.{◌≡◌, ◌∙◌, ◌+◌, ◌<◌, ℕ, suc, List, ◌∷◌, length, drop, get_or, sym, ap, add-one, drop-cons}

module _ {X : Type 0} (old new : List ℕ → X) (text : List ℕ) (i : ℕ) where
  pub next_byte : (d : ℕ) → i < length text → ((t : List ℕ) → new t ≡ old (get_or text i d ∷ t)) → new (drop (i + 1) text) ≡ old (drop i text)
  next_byte d h took =
      ap (λ (n : ℕ). new (drop n text)) (add-one i)
      ∙ took (drop (suc i) text)
      ∙ ap old (sym (drop-cons text i d h))
