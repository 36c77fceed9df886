-- Escaped text holds nothing that marks up.
use Rattle.std.proofs.Common.{◌≡◌, ◌∙◌, Bool, List, [], ◌∷◌, ap, false, refl, true, ℕ}
use Rattle.std.specs.Prelude.{◌==◌, ◌&&◌, codes, if◌then◌else◌}
use Rattle.std.specs.List.{list_all}
use Rattle.std.proofs.lemmas.List.Folds.{list_all-append}
use Rattle.arrows.specs.Escaped.{escape, escaped, is_harmless, is_printable}

-- a character that passes the tests before it
picked : (a b d e f g : Bool) (c : ℕ) →
    (c == 60) ≡ b → (c == 62) ≡ d → (c == 34) ≡ e → (c == 39) ≡ f → is_printable c ≡ g →
    list_all is_harmless
    (if a then codes "&amp;" else
    if b then codes "&lt;" else
    if d then codes "&gt;" else
    if e then codes "&quot;" else
    if f then codes "&#39;" else
    if g then c ∷ [] else 63 ∷ []) ≡ true
picked true b d e f g c b_is d_is e_is f_is g_is = refl
picked false true d e f g c b_is d_is e_is f_is g_is = refl
picked false false true e f g c b_is d_is e_is f_is g_is = refl
picked false false false true f g c b_is d_is e_is f_is g_is = refl
picked false false false false true g c b_is d_is e_is f_is g_is = refl
picked false false false false false false c b_is d_is e_is f_is g_is = refl
picked false false false false false true c b_is d_is e_is f_is g_is =
    rw (g_is, b_is, d_is, e_is, f_is) refl

escape_harmless : (c : ℕ) → list_all is_harmless (escape c) ≡ true
escape_harmless c = picked (c == 38) (c == 60) (c == 62) (c == 34) (c == 39) (is_printable c) c refl refl refl refl refl

pub all_harmless : (text : List ℕ) → list_all is_harmless (escaped text) ≡ true
all_harmless [] = refl
all_harmless (c ∷ cs) =
    list_all-append is_harmless (escape c) (escaped cs)
    ∙ ap (λ x. x && list_all is_harmless (escaped cs)) (escape_harmless c)
    ∙ all_harmless cs
