-- Texts that are put together of several.
use Rattle.std.proofs.Common.{◌≡◌, ◌∙◌, ◌++◌, List, ap, ℕ}
use Rattle.std.proofs.lemmas.List.{append_assoc}

-- four texts appended one after another
pub appended : (x a b c d y₁ y₂ y₃ y₄ : List ℕ) → y₁ ≡ x ++ a → y₂ ≡ y₁ ++ b → y₃ ≡ y₂ ++ c → y₄ ≡ y₃ ++ d → y₄ ≡ x ++ (((a ++ b) ++ c) ++ d)
appended x a b c d y₁ y₂ y₃ y₄ first second third fourth =
    let two : y₂ ≡ x ++ (a ++ b) = second ∙ ap (λ (xs : List ℕ). xs ++ b) first ∙ append_assoc x a b in
    let three : y₃ ≡ x ++ ((a ++ b) ++ c) = third ∙ ap (λ (xs : List ℕ). xs ++ c) two ∙ append_assoc x (a ++ b) c in
    fourth ∙ ap (λ (xs : List ℕ). xs ++ d) three ∙ append_assoc x ((a ++ b) ++ c) d
