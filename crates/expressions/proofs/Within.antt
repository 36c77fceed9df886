-- A turn of the loop that looks how deep the next tree is.
use Rattle.std.proofs.Common.{◌≡◌, ◌∙◌, ◌+◌, ◌<◌, ℕ, suc, Bool, true, false, leb, List, ◌∷◌, length, drop, get_or, map, sym, ap, add-one, drop-cons}
use Rattle.ast.specs.Tree.{deepest, depth, terms}
use Rattle.ast.specs.View.{term}
use Rattle.ast.specs.declared.expression.Expr.{Expr}
use Rattle.ast.proofs.Numbers.{depth_within, depth_beyond}

module _ (trees : List Expr) (i : ℕ) (tree : Expr) (room : ℕ) (target : Bool) where
  next_tree : i < length trees → tree ≡ get_or trees i tree → map term (drop i trees) ≡ term tree ∷ map term (drop (i + 1) trees)
  next_tree h is =
      ap (λ (l : List Expr). map term l) (drop-cons trees i tree h)
      ∙ ap (λ (y : Expr). term y ∷ map term (drop (suc i) trees)) (sym is)
      ∙ ap (λ (n : ℕ). term tree ∷ map term (drop n trees)) (sym (add-one i))

  pub within_on : i < length trees → tree ≡ get_or trees i tree → leb (depth (term tree)) room ≡ true
      → leb (deepest (terms (map term (drop i trees)))) room ≡ target → leb (deepest (terms (map term (drop (i + 1) trees)))) room ≡ target
  within_on h is fits w =
      depth_within (depth (term tree)) (deepest (terms (map term (drop (i + 1) trees)))) room fits
      ∙ ap (λ ts. leb (deepest (terms ts)) room) (sym (next_tree h is))
      ∙ w

  pub too_deep : i < length trees → tree ≡ get_or trees i tree → leb (depth (term tree)) room ≡ false
      → leb (deepest (terms (map term (drop i trees)))) room ≡ target → false ≡ target
  too_deep h is deep w =
      depth_beyond (depth (term tree)) (deepest (terms (map term (drop (i + 1) trees)))) room deep
      ∙ ap (λ ts. leb (deepest (terms ts)) room) (sym (next_tree h is))
      ∙ w
