use Rattle.std.proofs.Common.{ap, map, refl, sym}
use Rattle.ast.specs.Tree.{terms}
use Rattle.ast.specs.View.{term}
use Rattle.loop_tree.specs.Occurrences.{term_occurrences, terms_occurrences, used_at}
use Rattle.loop_tree.proofs.Occurring.{all_occurred, element_more, next_occurs, no_answer, no_more, of_tree}
use Rattle.ast.proofs.Terms.{binary_of, call_of, element_of, parentheses_of, unary_of}
use Rattle.ast.proofs.Calls.{behind}
use Rattle.loop_tree.proofs.occurrence.+occurrences.Goals as goal

pub add_element-returns-in_err-add_terms : goal.add_element-returns-in_err-add_terms
add_element-returns-in_err-add_terms t c = no_answer _ _ c.from_residual.ensures.0

pub add_element-returns : goal.add_element-returns
add_element-returns t c =
    element_more _ (used_at c.args.statement) c.args.access.now c.args.statement _ _ _ _ _ c.deref.ensures.value c.deref-2.ensures.value c.in_ok-add_terms.ensures c.add_place.ensures

pub add_term-returns-in_err-add_term-in-Binary : goal.add_term-returns-in_err-add_term-in-Binary
add_term-returns-in_err-add_term-in-Binary t c = no_answer _ _ c.from_residual.ensures.0

pub add_term-returns-in-Element : goal.add_term-returns-in-Element
add_term-returns-in-Element t c = of_tree _ _ _ _ _ _ (element_of _ _ c.in-Element.is) c.add_element.ensures

pub add_term-returns-in-Call : goal.add_term-returns-in-Call
add_term-returns-in-Call t c = of_tree _ _ _ _ _ _ (call_of _ _ _ _ c.in-Call.is c.deref.ensures.value) c.add_terms.ensures

pub add_term-returns-in-Parentheses : goal.add_term-returns-in-Parentheses
add_term-returns-in-Parentheses t c = of_tree _ _ _ _ _ _ (parentheses_of _ _ _ c.in-Parentheses.is c.deref-in-Parentheses.ensures) c.add_term.ensures

pub add_term-returns-in-Unary : goal.add_term-returns-in-Unary
add_term-returns-in-Unary t c = of_tree _ _ _ _ _ _ (unary_of _ _ _ _ c.in-Unary.is c.deref-in-Unary.ensures) c.add_term-in-Unary.ensures

pub add_term-returns-in_ok-add_term-in-Binary : goal.add_term-returns-in_ok-add_term-in-Binary
add_term-returns-in_ok-add_term-in-Binary t c =
    behind _ _ _ _ _ _ _ c.in_ok-add_term-in-Binary.ensures
    (sym (ap (term_occurrences c.args.statement) (binary_of _ _ _ _ _ _ c.in-Binary.is c.deref-in-Binary.ensures c.deref-in-Binary-2.ensures)))
    c.add_term-in-Binary-2.ensures

pub add_term-returns-in-Constant : goal.add_term-returns-in-Constant
add_term-returns-in-Constant t c = no_more _ _ _ c.in-Constant.is

pub add_term-returns-in-Constant-2 : goal.add_term-returns-in-Constant-2
add_term-returns-in-Constant-2 t c = no_more _ _ _ c.in-Constant.is

pub add_term-returns-in-Constant-3 : goal.add_term-returns-in-Constant-3
add_term-returns-in-Constant-3 t c = no_more _ _ _ c.in-Constant.is

pub add_terms-loop-expression-init : goal.add_terms-loop-expression-init
add_terms-loop-expression-init t c = refl

pub add_terms-returns-in_err-add_term : goal.add_terms-returns-in_err-add_term
add_terms-returns-in_err-add_term t c = no_answer _ _ c.from_residual.ensures.0

pub add_terms-loop-expression-preserved : goal.add_terms-loop-expression-preserved
add_terms-loop-expression-preserved t c =
    next_occurs (λ e. term_occurrences c.args.statement (term e)) (λ es. terms_occurrences c.args.statement (terms (map term es))) (λ e es. refl) c.args.expressions.now c.loop-expression.expression-index c.expression-item.result _ _ _ c.loop-expression-test.true c.expression-item.is c.in_ok-add_term.ensures c.loop-expression.invariant

pub add_terms-returns : goal.add_terms-returns
add_terms-returns t c =
    all_occurred (λ e. term_occurrences c.args.statement (term e)) (λ es. terms_occurrences c.args.statement (terms (map term es))) refl c.args.expressions.now c.loop-expression.expression-index _ _ c.loop-expression-test.false c.loop-expression.invariant
