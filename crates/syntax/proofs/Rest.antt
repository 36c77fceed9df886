-- The statement of a logical IF is shorter than the whole.
use Rattle.std.proofs.Common.{◌≡◌, ℕ, ◌<◌, ◌≤◌, cond, eqb, ◌&&◌, List, [], ◌∷◌, ◌++◌, length, Option, Some, None, refl, ap, arith}
use Rattle.std.specs.Prelude.{codes}
use Rattle.std.proofs.lemmas.List.{length-append}
use Rattle.expressions.specs.Characters.{begins_with, after}
use Rattle.expressions.proofs.Tools.{some_is, on_true, on_false, choice, after_law}
use Rattle.ast.specs.Tree.{Kind, program, logical_if}
use Rattle.syntax.specs.declared.class.Keyword.{Keyword}
use Rattle.syntax.specs.declared.class.Keyword.TheVariants.{LeftOut}
use Rattle.syntax.specs.Classes as classes
use Rattle.syntax.specs.Classes.{Class, worded, assignment, unclosed, level_after, enclosed_from, enclosed, is_word, are_labels, if_class, is_do, stands_at_level_zero, keywords, first_keyword, class_by_keyword, simple_class, other_class, class_behind_if, class_of}
use Rattle.syntax.specs.Statements.{IsKind}
use Rattle.syntax.proofs.StatementComplete.{nested}

enclosed_shorter : (level : ℕ) (u t : List ℕ) (x : List ℕ × List ℕ) → enclosed_from level u t ≡ Some x → length x.1 < length t
enclosed_shorter level u [] x e = absurd cc
enclosed_shorter level u (c ∷ cs) x e =
    elim (choice (eqb level 0 && eqb c 41) (Some (u, cs)) (enclosed_from (level_after level c) (u ++ c ∷ []) cs) (Some x) e) [
      | on_true closes is ↦ omega (arith, ap (λ (y : List ℕ × List ℕ). length y.1) (some_is (u, cs) x is))
      | on_false more is ↦ omega (arith, enclosed_shorter (level_after level c) (u ++ c ∷ []) cs x is)
    ]

no_keyword : (ks : List (List ℕ × Keyword)) (t u v : List ℕ) → first_keyword ks t ≡ classes.logical_if u v → ⊥
no_keyword [] t u v e = cc
no_keyword (k ∷ ks) t u v e = go (after k.0 t) e (λ f. no_keyword ks t u v f)
  where
    go : (o : Option (List ℕ)) → ◌≡◌ {A = Class} (elim o [ Some w ↦ worded k.1 w | None ↦ first_keyword ks t ]) (classes.logical_if u v) → (first_keyword ks t ≡ classes.logical_if u v → ⊥) → ⊥
    go None f more = more f
    go (Some w) f more = cc

no_word : (t u v : List ℕ) → class_by_keyword t ≡ classes.logical_if u v → ⊥
unfolding class_by_keyword
no_word t u v e = no_keyword keywords t u v e

no_simple : (t u v : List ℕ) → simple_class t ≡ classes.logical_if u v → ⊥
no_simple t u v e =
    elim (choice (stands_at_level_zero 61 t) (assignment t) (class_by_keyword t) (classes.logical_if u v) e) [
      | on_true assigned is ↦ cc
      | on_false other is ↦ no_word t u v is
    ]

no_other : (t u v : List ℕ) → other_class t ≡ classes.logical_if u v → ⊥
no_other t u v e = go (after (codes "DO") t) e
  where
    go : (o : Option (List ℕ)) → ◌≡◌ {A = Class} (elim o [ Some w ↦ cond (is_do w) (classes.do_loop w) (simple_class t) | None ↦ simple_class t ]) (classes.logical_if u v) → ⊥
    go None f = no_simple t u v f
    go (Some w) f =
        elim (choice (is_do w) (classes.do_loop w) (simple_class t) (classes.logical_if u v) f) [
          | on_true loops is ↦ cc
          | on_false other is ↦ no_simple t u v is
        ]

if_rest : (condition rest u v : List ℕ) → if_class condition rest ≡ classes.logical_if u v → rest ≡ v
if_rest condition rest u v e =
    elim (choice (is_word (codes "THEN") rest) (classes.block_if condition) (cond (are_labels rest) (worded LeftOut rest) (classes.logical_if condition rest)) (classes.logical_if u v) e) [
      | on_true block is ↦ absurd cc
      | on_false other f ↦ elim (choice (are_labels rest) (worded LeftOut rest) (classes.logical_if condition rest) (classes.logical_if u v) f) [
        | on_true labels is ↦ absurd cc
        | on_false statement is ↦ cc
      ]
    ]

behind_shorter : (t r u v : List ℕ) → class_behind_if t r ≡ classes.logical_if u v → length v < length r
behind_shorter t r u v e = go (enclosed r) refl e
  where
    go : (o : Option (List ℕ × List ℕ)) → enclosed r ≡ o
        → ◌≡◌ {A = Class} (elim o [ Some x ↦ cond (begins_with 61 x.1) (other_class t) (if_class x.0 x.1) | None ↦ unclosed ]) (classes.logical_if u v) → length v < length r
    go None is f = absurd cc
    go (Some x) is f =
        elim (choice (begins_with 61 x.1) (other_class t) (if_class x.0 x.1) (classes.logical_if u v) f) [
          | on_true assigned g ↦ absurd (no_other t u v g)
          | on_false other g ↦ omega (arith, enclosed_shorter 0 [] r x is, ap length (if_rest x.0 x.1 u v g))
        ]

pub rest_shorter : (t u v : List ℕ) → class_of t ≡ classes.logical_if u v → length v < length t
rest_shorter t u v e = go (after (codes "IF(") t) refl e
  where
    go : (o : Option (List ℕ)) → after (codes "IF(") t ≡ o → ◌≡◌ {A = Class} (elim o [ Some r ↦ class_behind_if t r | None ↦ other_class t ]) (classes.logical_if u v) → length v < length t
    go None is f = absurd (no_other t u v f)
    go (Some r) is f = omega (arith, behind_shorter t r u v f, ap length (after_law (codes "IF(") t r is), length-append (codes "IF(") r)

pub nested_short : (k : Kind) (t : List ℕ) (cs : List (List ℕ)) → IsKind k t cs → nested k ≤ length t
nested_short (logical_if e k) t cs h = omega (arith, rest_shorter t h.0 h.1 h.2, nested_short k h.1 cs h.4)
nested_short (program x) t cs h = omega arith
nested_short k t cs h = omega arith
