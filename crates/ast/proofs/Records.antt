-- Records: what is kept of them, and the pieces that PRINT shows.
use Rattle.std.proofs.Common.{◌∙◌, ℕ, List, sym, ap, length, take, arith, ◌≡◌, Bool, true, false, ◌∷◌, ◌++◌, refl, []}
use Rattle.std.proofs.lemmas.List.{take-take}
use Rattle.ast.specs.Record.{Keeps, Printed, all_shown, rest_printed, shown}

pub keeps_on : (old mid new : List ℕ) → Keeps old mid → Keeps mid new → Keeps old new
keeps_on old mid new h g = (
  omega (arith, h.0, g.0),
  sym (take-take (length old) (length mid) new h.0) ∙ ap (λ (l : List ℕ). take (length old) l) g.1 ∙ h.1,
)

pub shown_on : (first : Bool) (p : Printed) (ps : List Printed) → all_shown first (p ∷ ps) ≡ shown first p ++ rest_printed ps
shown_on true p ps = refl
shown_on false p ps = refl

pub nothing_shown : (first : Bool) → all_shown first [] ≡ []
nothing_shown true = refl
nothing_shown false = refl
