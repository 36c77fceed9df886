-- How many expressions a list has.
use Rattle.std.proofs.Common.{◌≡◌, suc, List, [], ◌∷◌, map, length, refl, ap, ◌∙◌}
use Rattle.ast.specs.Tree.{terms}
use Rattle.ast.specs.View.{term}
use Rattle.ast.specs.declared.expression.Expr.{Expr}
use Rattle.ast.proofs.Numbers.{one_more}
use Rattle.profile_check.specs.Uses.{count_of}

pub count_terms : (es : List Expr) → count_of (terms (map term es)) ≡ length es
count_terms [] = refl
count_terms (e ∷ es) = one_more (count_of (terms (map term es))) ∙ ap suc (count_terms es)
