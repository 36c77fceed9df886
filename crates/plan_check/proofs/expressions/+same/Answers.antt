use Rattle.std.proofs.Common.{◌≡◌, ◌∙◌, ◌<◌, true, false, length, map, refl, rules, sym}
use Rattle.ast.specs.View.{term}
use Rattle.ast.proofs.Terms.{binary_of, call_of, element_of, parameter_of, parentheses_of, unary_of}
use Rattle.plan_check.proofs.Comparing.{access_by, elements, in_parentheses, no_binary, no_call, no_constant, no_element, no_parameter, no_parentheses, no_truth, no_unary, other_call, other_left, other_operator, other_parameter, other_reference, other_unary, same_binary, same_call, same_reference, same_unary, seen}
use Rattle.plan_check.proofs.Equal.{all_same, expressions_law, item_differs, item_same, lengths_differ}
use Rattle.plan_check.proofs.expressions.+same.Goals as goal
use Rattle.plan_check.proofs.expressions.+same.Goals.{is_same_expression-then-is_same_operator, is_same_expression-else-is_same_operator}

pub are_same_one_by_one-returns-then-not-is_same_expression : goal.are_same_one_by_one-returns-then-not-is_same_expression
are_same_one_by_one-returns-then-not-is_same_expression t c =
    let within : c.loop-i.i < length c.args.b.now = search rules in
    item_differs term term c.args.a.now c.args.b.now c.loop-i.i c.index-a-i.result c.index-b-i.result c.is_same_expression.result c.loop-i-test.true within c.index-a-i.is c.index-b-i.is c.if-not-is_same_expression.true c.is_same_expression.ensures

pub are_same_expressions-returns : goal.are_same_expressions-returns
are_same_expressions-returns t c = expressions_law (map term c.args.a.now) (map term c.args.b.now) c.are_same_one_by_one.result c.are_same_one_by_one.ensures

pub are_same_one_by_one-returns-then-a-b : goal.are_same_one_by_one-returns-then-a-b
are_same_one_by_one-returns-then-a-b t c = lengths_differ term term c.args.a.now c.args.b.now c.if-a-b.true

pub are_same_one_by_one-loop-i-preserved : goal.are_same_one_by_one-loop-i-preserved
are_same_one_by_one-loop-i-preserved t c =
    let within : c.loop-i.i < length c.args.b.now = search rules in
    item_same term term c.args.a.now c.args.b.now c.loop-i.i c.index-a-i.result c.index-b-i.result c.is_same_expression.result c.loop-i-test.true within c.index-a-i.is c.index-b-i.is c.if-not-is_same_expression.false c.is_same_expression.ensures c.loop-i.invariant

pub are_same_one_by_one-returns : goal.are_same_one_by_one-returns
are_same_one_by_one-returns t c = all_same term term c.args.a.now c.args.b.now c.loop-i.i c.loop-i-test.false c.if-a-b.false c.loop-i.invariant

pub is_same_access-returns-then-is_same_reference : goal.is_same_access-returns-then-is_same_reference
is_same_access-returns-then-is_same_reference t c = seen _ _ _ _ _ (access_by c.args.a.now _ c.deref.ensures.value) (access_by c.args.b.now _ c.deref-then-is_same_reference.ensures.value) (same_reference _ _ _ _ _ _ c.if-is_same_reference.true c.is_same_reference.ensures c.are_same_expressions.ensures)

pub is_same_access-returns-else-is_same_reference : goal.is_same_access-returns-else-is_same_reference
is_same_access-returns-else-is_same_reference t c = seen _ _ _ _ _ (access_by c.args.a.now _ refl) (access_by c.args.b.now _ refl) (other_reference _ _ _ _ _ c.if-is_same_reference.false c.is_same_reference.ensures)

pub is_same_expression-returns-in_default : goal.is_same_expression-returns-in_default
is_same_expression-returns-in_default t c = no_constant _ _ _ c.in-Constant.is c.in_default.not-Constant

pub is_same_expression-returns-in_default-b : goal.is_same_expression-returns-in_default-b
is_same_expression-returns-in_default-b t c = no_truth _ _ _ c.in-Truth.is c.in_default-b.not-Truth

pub is_same_expression-returns-in_default-b-2 : goal.is_same_expression-returns-in_default-b-2
is_same_expression-returns-in_default-b-2 t c = no_parameter _ _ _ _ c.in-Parameter.is c.in_default-b-2.not-Parameter

pub is_same_expression-returns-in_default-b-3 : goal.is_same_expression-returns-in_default-b-3
is_same_expression-returns-in_default-b-3 t c = no_element _ _ _ c.in-Element.is c.in_default-b-3.not-Element

pub is_same_expression-returns-in_default-b-4 : goal.is_same_expression-returns-in_default-b-4
is_same_expression-returns-in_default-b-4 t c = no_call _ _ _ _ c.in-Call.is c.in_default-b-4.not-Call

pub is_same_expression-returns-in_default-b-5 : goal.is_same_expression-returns-in_default-b-5
is_same_expression-returns-in_default-b-5 t c = no_parentheses _ _ _ c.in-Parentheses.is c.in_default-b-5.not-Parentheses

pub is_same_expression-returns-in_default-b-6 : goal.is_same_expression-returns-in_default-b-6
is_same_expression-returns-in_default-b-6 t c = no_unary _ _ _ _ c.in-Unary.is c.in_default-b-6.not-Unary

pub is_same_expression-returns-in_default-b-7 : goal.is_same_expression-returns-in_default-b-7
is_same_expression-returns-in_default-b-7 t c = no_binary _ _ _ _ _ c.in-Binary.is c.in_default-b-7.not-Binary

pub is_same_expression-returns-in-Element-b : goal.is_same_expression-returns-in-Element-b
is_same_expression-returns-in-Element-b t c = seen _ _ _ _ _ (element_of _ _ c.in-Element.is) (element_of _ _ c.in-Element-b.is) (elements _ _ _ c.is_same_access.ensures)

pub is_same_expression-returns-in-Parentheses-b : goal.is_same_expression-returns-in-Parentheses-b
is_same_expression-returns-in-Parentheses-b t c = seen _ _ _ _ _ (parentheses_of _ _ _ c.in-Parentheses.is c.deref-in-Parentheses-b.ensures) (parentheses_of _ _ _ c.in-Parentheses-b.is c.deref-in-Parentheses-b-2.ensures) (in_parentheses _ _ _ c.is_same_expression.ensures)

pub is_same_expression-returns-else-is_same_name : goal.is_same_expression-returns-else-is_same_name
is_same_expression-returns-else-is_same_name t c = seen _ _ _ _ _ (parameter_of _ _ _ c.in-Parameter.is) (parameter_of _ _ _ c.in-Parameter-b.is) (other_parameter _ _ _ _ _ c.if-is_same_name.false c.is_same_name.ensures)

pub is_same_expression-returns-then-is_same_intrinsic : goal.is_same_expression-returns-then-is_same_intrinsic
is_same_expression-returns-then-is_same_intrinsic t c = seen _ _ _ _ _ (call_of _ _ _ _ c.in-Call.is c.deref.ensures.value) (call_of _ _ _ _ c.in-Call-b.is c.deref-then-is_same_intrinsic.ensures.value) (same_call _ _ _ _ _ _ c.if-is_same_intrinsic.true c.is_same_intrinsic.ensures c.are_same_expressions.ensures)

pub is_same_expression-returns-else-is_same_intrinsic : goal.is_same_expression-returns-else-is_same_intrinsic
is_same_expression-returns-else-is_same_intrinsic t c = seen _ _ _ _ _ (call_of _ _ _ _ c.in-Call.is refl) (call_of _ _ _ _ c.in-Call-b.is refl) (other_call _ _ _ _ _ c.if-is_same_intrinsic.false c.is_same_intrinsic.ensures)

pub is_same_expression-returns-then-is_same_prefix : goal.is_same_expression-returns-then-is_same_prefix
is_same_expression-returns-then-is_same_prefix t c = seen _ _ _ _ _ (unary_of _ _ _ _ c.in-Unary.is c.deref-then-is_same_prefix.ensures) (unary_of _ _ _ _ c.in-Unary-b.is c.deref-then-is_same_prefix-2.ensures) (same_unary _ _ _ _ _ _ c.if-is_same_prefix.true c.is_same_prefix.ensures c.is_same_expression-then-is_same_prefix.ensures)

pub is_same_expression-returns-else-is_same_prefix : goal.is_same_expression-returns-else-is_same_prefix
is_same_expression-returns-else-is_same_prefix t c = seen _ _ _ _ _ (unary_of _ _ _ _ c.in-Unary.is refl) (unary_of _ _ _ _ c.in-Unary-b.is refl) (other_unary _ _ _ _ _ c.if-is_same_prefix.false c.is_same_prefix.ensures)

pub is_same_expression-returns-then-is_same_expression : goal.is_same_expression-returns-then-is_same_expression
is_same_expression-returns-then-is_same_expression t c =
    elim c.if-is_same_operator.branch [
      | is_same_expression-then-is_same_operator w ↦
          seen _ _ _ _ _
          (binary_of _ _ _ _ _ _ c.in-Binary.is w.deref-then-is_same_operator.ensures c.deref-then-is_same_expression.ensures)
          (binary_of _ _ _ _ _ _ c.in-Binary-b.is w.deref-then-is_same_operator-2.ensures c.deref-then-is_same_expression-2.ensures)
          (same_binary _ _ _ _ _ _ _ _ _ w.if-is_same_operator.true (sym w.value-is ∙ c.if-is_same_expression.true) c.is_same_operator.ensures w.is_same_expression-then-is_same_operator.ensures c.is_same_expression-then-is_same_expression.ensures)
      | is_same_expression-else-is_same_operator w ↦ let q : false ≡ true = sym (w.value-is ∙ w.if-is_same_operator.false) ∙ c.if-is_same_expression.true in cc
    ]

pub is_same_expression-returns-else-is_same_expression : goal.is_same_expression-returns-else-is_same_expression
is_same_expression-returns-else-is_same_expression t c =
    elim c.if-is_same_operator.branch [
      | is_same_expression-then-is_same_operator w ↦
          seen _ _ _ _ _
          (binary_of _ _ _ _ _ _ c.in-Binary.is w.deref-then-is_same_operator.ensures refl)
          (binary_of _ _ _ _ _ _ c.in-Binary-b.is w.deref-then-is_same_operator-2.ensures refl)
          (other_left _ _ _ _ _ _ _ _ w.value-is c.if-is_same_expression.false w.is_same_expression-then-is_same_operator.ensures)
      | is_same_expression-else-is_same_operator w ↦
          seen _ _ _ _ _
          (binary_of _ _ _ _ _ _ c.in-Binary.is refl refl)
          (binary_of _ _ _ _ _ _ c.in-Binary-b.is refl refl)
          (other_operator _ _ _ _ _ _ _ _ w.value-is c.if-is_same_expression.false c.is_same_operator.ensures)
    ]
