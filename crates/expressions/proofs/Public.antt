-- What the clauses say of an answer.
use Rattle.std.proofs.Common.{◌≡◌, ℕ, leb, List, Result, Ok, Err, refl, sym, subst, ◌∙◌}
use Rattle.std.specs.Prelude.{IfOk, IfErr}
use Rattle.std.proofs.lemmas.Bool.{leb-true, le-leb}
use Rattle.ast.specs.Answers.{Break, Gives, Says}
use Rattle.ast.specs.Tree.{Term, depth}
use Rattle.ast.specs.View.{term}
use Rattle.ast.specs.declared.expression.Expr.{Expr}
use Rattle.ast.specs.declared.refusal.Refusal.{Refusal}
use Rattle.ast.specs.declared.refusal.Refusal.TheVariants.{Memory, Refused}
use Rattle.ast.specs.declared.rule.Rule.TheVariants.{Deep}
use Rattle.expressions.specs.Answers.{refuse, IsOfStatement}
use Rattle.expressions.specs.Grammar.{IsExpression, depth_limit}
use Rattle.expressions.specs.Reading.{whole_at, shallow, expression_at}
use Rattle.expressions.proofs.Complete.{whole_again}
use Rattle.expressions.proofs.Numbered.{fault, expression_numbered}
use Rattle.expressions.proofs.Sound.{whole_sound}
use Rattle.expressions.proofs.Tools.{done, bind_ok, then_reads, ok_is, on_true, on_false, choice}

expression_sound : (line : ℕ) (t : List ℕ) (e : Term) → expression_at line t ≡ Ok e → IsExpression t e
expression_sound line t e h =
    let b = bind_ok (whole_at line t) (shallow line) e h in
    elim (choice (leb (depth b.0) depth_limit) (Ok b.0) (refuse line Deep) (Ok e) b.2) [
      | on_true low f ↦ subst (λ (x : Term). IsExpression t x) (ok_is b.0 e f) (whole_sound line t b.0 b.1, leb-true (depth b.0) depth_limit low)
      | on_false deep f ↦ absurd cc
    ]

expression_again : (line : ℕ) (t : List ℕ) (e : Term) → IsExpression t e → expression_at line t ≡ Ok e
expression_again line t e h = then_reads (whole_at line t) (shallow line) e (whole_again line t e h.0) ∙ rw (le-leb (depth e) depth_limit h.1) refl

pub expression_found : (line : ℕ) (t : List ℕ) (r : Result Expr Refusal) → Gives term r (expression_at line t) → IfOk r (λ e. IsExpression t (term e))
expression_found line t (Ok e) h = expression_sound line t (term e) h
expression_found line t (Err f) h = tt

pub expression_only : (line : ℕ) (t : List ℕ) (r : Result Expr Refusal) → Gives term r (expression_at line t) → (e : Term) → IsExpression t e → Gives term r (Ok e)
expression_only line t r h e is = subst (λ (x : Result Term Break). Gives term r x) (expression_again line t e is) h

pub expression_refused : (line : ℕ) (t : List ℕ) (r : Result Expr Refusal) → Gives term r (expression_at line t) → IfErr r (Says (λ rule at. (at ≡ line) × IsOfStatement rule × ((e : Term) → IsExpression t e → ⊥)))
expression_refused line t (Ok e) h = tt
expression_refused line t (Err Memory) h = tt
expression_refused line t (Err (Refused rule at)) h =
    let f = fault line (expression_at line t) (record { rule = rule; line = at }) (expression_numbered line t) h in
    (f.at, (f.low, f.high), λ e is. let both : done e ≡ Err (record { rule = rule; line = at }) = sym (expression_again line t e is) ∙ h in absurd cc)
