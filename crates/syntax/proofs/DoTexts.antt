-- A text whose statement is a DO begins with a digit behind its keyword.
use Rattle.std.proofs.Common.{◌≡◌, ℕ, true, cond, List, [], ◌∷◌, drop, Option, Some, None, subst}
use Rattle.std.specs.Prelude.{codes}
use Rattle.std.specs.List.{prefix_len}
use Rattle.std.proofs.lemmas.Bool.{and_parts}
use Rattle.expressions.specs.Characters.{is_digit, begins_digit, begins_with, after}
use Rattle.expressions.proofs.Tools.{on_true, on_false, choice}
use Rattle.syntax.specs.declared.class.Keyword.{Keyword}
use Rattle.syntax.specs.declared.class.Keyword.TheVariants.{LeftOut}
use Rattle.syntax.specs.Classes as classes
use Rattle.syntax.specs.Classes.{Class, worded, assignment, unclosed, enclosed, is_word, are_labels, if_class, is_do, is_do_variable, without_comma, stands_at_level_zero, keywords, first_keyword, class_by_keyword, simple_class, other_class, class_behind_if, class_of}

no_keyword : (ks : List (List ℕ × Keyword)) (t u : List ℕ) → first_keyword ks t ≡ classes.do_loop u → ⊥
no_keyword [] t u e = cc
no_keyword (k ∷ ks) t u e = go (after k.0 t) e (λ f. no_keyword ks t u f)
  where
    go : (o : Option (List ℕ)) → ◌≡◌ {A = Class} (elim o [ Some w ↦ worded k.1 w | None ↦ first_keyword ks t ]) (classes.do_loop u) → (first_keyword ks t ≡ classes.do_loop u → ⊥) → ⊥
    go None f more = more f
    go (Some w) f more = cc

no_word : (t u : List ℕ) → class_by_keyword t ≡ classes.do_loop u → ⊥
unfolding class_by_keyword
no_word t u e = no_keyword keywords t u e

no_simple : (t u : List ℕ) → simple_class t ≡ classes.do_loop u → ⊥
no_simple t u e =
    elim (choice (stands_at_level_zero 61 t) (assignment t) (class_by_keyword t) (classes.do_loop u) e) [
      | on_true assigned is ↦ cc
      | on_false other is ↦ no_word t u is
    ]

other_begins : (t u : List ℕ) → other_class t ≡ classes.do_loop u → begins_digit u ≡ true
other_begins t u e = go (after (codes "DO") t) e
  where
    go : (o : Option (List ℕ)) → ◌≡◌ {A = Class} (elim o [ Some w ↦ cond (is_do w) (classes.do_loop w) (simple_class t) | None ↦ simple_class t ]) (classes.do_loop u) → begins_digit u ≡ true
    go None f = absurd (no_simple t u f)
    go (Some w) f =
        elim (choice (is_do w) (classes.do_loop w) (simple_class t) (classes.do_loop u) f) [
          | on_true loops is ↦
              let same : w ≡ u = cc in
              let digit : begins_digit w ≡ true = (and_parts (begins_digit w) (is_do_variable (without_comma (drop (prefix_len is_digit w) w))) loops).0 in
              subst (λ (x : List ℕ). begins_digit x ≡ true) same digit
          | on_false other is ↦ absurd (no_simple t u is)
        ]

no_if : (condition rest u : List ℕ) → if_class condition rest ≡ classes.do_loop u → ⊥
no_if condition rest u e =
    elim (choice (is_word (codes "THEN") rest) (classes.block_if condition) (cond (are_labels rest) (worded LeftOut rest) (classes.logical_if condition rest)) (classes.do_loop u) e) [
      | on_true block is ↦ cc
      | on_false other f ↦ elim (choice (are_labels rest) (worded LeftOut rest) (classes.logical_if condition rest) (classes.do_loop u) f) [
        | on_true labels is ↦ cc
        | on_false statement is ↦ cc
      ]
    ]

behind_begins : (t r u : List ℕ) → class_behind_if t r ≡ classes.do_loop u → begins_digit u ≡ true
behind_begins t r u e = go (enclosed r) e
  where
    go : (o : Option (List ℕ × List ℕ)) → ◌≡◌ {A = Class} (elim o [ Some x ↦ cond (begins_with 61 x.1) (other_class t) (if_class x.0 x.1) | None ↦ unclosed ]) (classes.do_loop u) → begins_digit u ≡ true
    go None f = absurd cc
    go (Some x) f =
        elim (choice (begins_with 61 x.1) (other_class t) (if_class x.0 x.1) (classes.do_loop u) f) [
          | on_true assigned g ↦ other_begins t u g
          | on_false other g ↦ absurd (no_if x.0 x.1 u g)
        ]

pub do_begins : (t u : List ℕ) → class_of t ≡ classes.do_loop u → begins_digit u ≡ true
do_begins t u e = go (after (codes "IF(") t) e
  where
    go : (o : Option (List ℕ)) → ◌≡◌ {A = Class} (elim o [ Some r ↦ class_behind_if t r | None ↦ other_class t ]) (classes.do_loop u) → begins_digit u ≡ true
    go None f = other_begins t u f
    go (Some r) f = behind_begins t r u f
