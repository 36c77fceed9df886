-- Statements one after another: those so far break no rule.
use Rattle.std.proofs.Common.{◌≡◌, ◌∙◌, ℕ, List, [], ◌∷◌, ◌++◌, refl, ap, sym, subst, Some, None, append_assoc, inl, inr, suc, ◌+◌, ◌<◌, length, map, drop, get_or, drop-cons, arith}
use Rattle.std.specs.Prelude.{◌⊎◌}
use Rattle.ast.specs.Tree.{Statement}
use Rattle.ast.specs.View.{statement}
use Rattle.ast.specs.declared.statement.Stmt.{Stmt}
use Rattle.ast.specs.declared.rule.Rule.{Rule}
use Rattle.ast.proofs.Lists.{not_empty}
use Rattle.structure.specs.Rules.{Keep, BreakFirst, checks, lowest_broken}
use Rattle.structure.specs.Standing.{Standing, standing_after, next, rule_by}
use Rattle.structure.proofs.Agreement.{agrees, one-more}

-- one of the statements with one more is that one, or one of those before
split : {X : Type 0} (xs : List X) (x : X) (front : List X) (y : X) (back : List X) → xs ++ x ∷ [] ≡ front ++ y ∷ back
    → ((front ≡ xs) × (y ≡ x)) ⊎ ((back' : List X) × (xs ≡ front ++ y ∷ back'))
split [] x [] y back e = inl (refl, cc)
split [] x (f ∷ front) y back e = absurd (not_empty front y back (let q : [] ≡ front ++ y ∷ back = cc in q))
split (z ∷ xs) x [] y back e = inr (xs, let q : z ≡ y = cc in ap (λ w. w ∷ xs) q)
split (z ∷ xs) x (f ∷ front) y back e =
    let q : z ≡ f = cc in
    elim (split xs x front y back (let r : xs ++ x ∷ [] ≡ front ++ y ∷ back = cc in r)) [
      | inl h ↦ inl ((let r : front ≡ xs = h.0 in let g : f ≡ z = sym q in cc), h.1)
      | inr h ↦ inr (h.0, (let r : xs ≡ front ++ y ∷ h.0 = h.1 in cc))
    ]

keep-more : (front : List Statement) (s : Statement) → Keep checks front → lowest_broken checks front s ≡ None → Keep checks (front ++ s ∷ [])
keep-more front s h k = record { each = λ f t b e. by f t b (split front s f t b e) }
  where
    by : (f : List Statement) (t : Statement) (b : List Statement) → ((f ≡ front) × (t ≡ s)) ⊎ ((b' : List Statement) × (front ≡ f ++ t ∷ b')) → lowest_broken checks f t ≡ None
    by f t b (inl p) = subst (λ (g : List Statement). lowest_broken checks g t ≡ None) (sym p.0) (subst (λ (u : Statement). lowest_broken checks front u ≡ None) (sym p.1) k)
    by f t b (inr p) = h.each f t p.0 p.1

-- the statements before those that are left keep the rules, and the code knows what it needs of
-- them
pub record Reached (t : Standing) (all left : List Statement) : Type 0 where
  pub front : List Statement
  pub cut : all ≡ front ++ left
  pub stands : t ≡ standing_after front
  pub kept : Keep checks front

pub reached-none : (t : Standing) (all : List Statement) → t ≡ standing_after [] → Reached t all all
reached-none t all e = record { front = []; cut = refl; stands = e; kept = record { each = λ f s b h. absurd (not_empty f s b h) } }

broken-by : (t : Standing) (front : List Statement) (s : Statement) → t ≡ standing_after front → rule_by t s ≡ lowest_broken checks front s
broken-by t front s e = ap (λ (u : Standing). rule_by u s) e ∙ agrees front s

pub reached-more : {t t' : Standing} {all left : List Statement} {s : Statement} → Reached t all (s ∷ left) → rule_by t s ≡ None → t' ≡ next t s → Reached t' all left
reached-more {t = t} {t' = t'} {all = all} {left = left} {s = s} h none e = record {
  front = h.front ++ s ∷ [];
  cut = h.cut ∙ sym (append_assoc h.front (s ∷ []) left);
  stands = e ∙ ap (λ (u : Standing). next u s) h.stands ∙ sym (one-more h.front s);
  kept = keep-more h.front s h.kept (sym (broken-by t h.front s h.stands) ∙ none);
}

pub reached-broken : {t : Standing} {all left : List Statement} {s : Statement} (rule : Rule) → Reached t all (s ∷ left) → rule_by t s ≡ Some rule → BreakFirst checks all rule s.line
reached-broken {t = t} {all = all} {left = left} {s = s} rule h e = record {
  front = h.front;
  statement = s;
  back = left;
  cut = h.cut;
  kept = h.kept;
  broken = sym (broken-by t h.front s h.stands) ∙ e;
  place = refl;
}

-- the statements from a place on
pub from-place : (stmts : List Stmt) (i : ℕ) (x : Stmt) → i < length stmts → x ≡ get_or stmts i x → map statement (drop i stmts) ≡ statement x ∷ map statement (drop (i + 1) stmts)
from-place stmts i x h e =
    ap (λ (ss : List Stmt). map statement ss) (drop-cons stmts i x h)
    ∙ ap (λ (y : Stmt). statement y ∷ map statement (drop (suc i) stmts)) (sym e)
    ∙ ap (λ (j : ℕ). statement x ∷ map statement (drop j stmts)) (let q : suc i ≡ i + 1 = omega arith in q)
