-- Tests that fail.
use Rattle.std.proofs.Common.{◌≡◌, refl}
use Rattle.std.specs.Prelude.{Bool, true, false, not}

pub not_from_never : (b : Bool) → (b ≡ true → ⊥) → not b ≡ true
not_from_never true h = absurd (h refl)
not_from_never false h = refl
