-- The weight of an expression: what resolving goes down by.
use Rattle.std.proofs.Common.{◌≡◌, ℕ, zero, suc, ◌+◌, ◌<◌, ◌≤◌, List, [], ◌∷◌, map, length, drop, get_or, refl, ap, arith}
use Rattle.ast.specs.Tree.{Term, Terms, terms, element, call, parentheses, unary, binary, no_terms, then_term}
use Rattle.ast.specs.View.{term}
use Rattle.ast.specs.declared.expression.Expr.{Expr}

abbrev mutual
  pub weight : Term → ℕ
  weight (element r es) = weight_terms es + 6
  weight (call f es) = weight_terms es + 6
  weight (parentheses e) = weight e + 2
  weight (unary p e) = weight e + 2
  weight (binary o a b) = weight a + weight b + 2
  weight e = 1

  pub weight_terms : Terms → ℕ
  weight_terms no_terms = 0
  weight_terms (then_term e es) = weight e + weight_terms es

abbrev pub weight_all : List Term → ℕ
weight_all [] = 0
weight_all (e ∷ es) = weight e + weight_all es

pub weight_law : (es : List Term) → weight_terms (terms es) ≡ weight_all es
weight_law [] = refl
weight_law (e ∷ es) = ap (λ (m : ℕ). weight e + m) (weight_law es)

pub weight_at : (xs : List Expr) (i : ℕ) (d : Expr) → i < length xs → weight (term (get_or xs i d)) ≤ weight_all (map term (drop i xs))
weight_at [] i d h = absurd (omega (arith, h))
weight_at (x ∷ xs) zero d h = omega arith
weight_at (x ∷ xs) (suc i) d h = weight_at xs i d (omega (arith, h))

pub weight_drop : (xs : List Expr) (i : ℕ) → weight_all (map term (drop i xs)) ≤ weight_all (map term xs)
weight_drop [] zero = omega arith
weight_drop [] (suc i) = omega arith
weight_drop (x ∷ xs) zero = omega arith
weight_drop (x ∷ xs) (suc i) = let more = weight_drop xs i in omega (arith, more)
