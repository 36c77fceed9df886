-- Lines of loops.
use Rattle.std.proofs.Common.{◌≡◌, ◌∙◌, ◌<◌, ℕ, List, [], ◌∷◌, ◌++◌, append_assoc, append-nil, ap, arith, length, refl, sym}
use Rattle.std.specs.Prelude.{Result, Ok, Err, OnOk}
use Rattle.std.specs.declared.alloc.AllocError.{AllocError}
use Rattle.model_time.specs.declared.figures.Figures.{Figures}
use Rattle.modelled.specs.Lines.{loop_lines}
use Rattle.modelled.specs.declared.heads.Head.{Head}

no_lines : (hs : List Head) → loop_lines hs [] ≡ []
no_lines [] = refl
no_lines (h ∷ hs) = refl

-- where no figures are left there are no further lines
pub all_listed : (out all : List ℕ) (hs : List Head) (fs : List Figures) → length fs < 1 → out ++ loop_lines hs fs ≡ all → out ≡ all
all_listed out all hs [] few h = sym (append-nil out) ∙ ap (λ xs. out ++ xs) (sym (no_lines hs)) ∙ h
all_listed out all hs (f ∷ fs) few h = absurd (omega (arith, few))

-- one text was appended, and then another one
pub appended : {A : Type 0} (r : Result A AllocError) (a b c d e : List ℕ) → OnOk r (a ≡ b ++ e) → b ≡ c ++ d → OnOk r (a ≡ c ++ (d ++ e))
appended (Ok u) a b c d e h k = h ∙ ap (λ xs. xs ++ e) k ∙ append_assoc c d e
appended (Err x) a b c d e h k = h
