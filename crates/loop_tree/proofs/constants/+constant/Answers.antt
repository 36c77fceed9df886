use Rattle.std.proofs.Common.{◌≡◌, ◌∙◌, Some, ap, map, sym, rules, to_z, of_z, w64}
use Rattle.ast.specs.Tree.{terms}
use Rattle.ast.specs.View.{access, term}
use Rattle.loop_tree.specs.Constants.{constant_value, constant_values}
use Rattle.loop_tree.specs.ConstantsView.{listed}
use Rattle.loop_tree.proofs.ConstantValues.{all_in, behind, called, element_law, from_none, none_in, not_called, not_prefixed, of_tree, operation_law, prefixed, some_in}
use Rattle.loop_tree.proofs.Occurring.{no_answer}
use Rattle.ast.proofs.Terms.{binary_of, call_of, constant_of, element_of, parameter_of, parentheses_of, truth_of, unary_of}
use Rattle.loop_tree.proofs.constants.+constant.Goals as goal

pub call_value-returns-in_err-values : goal.call_value-returns-in_err-values
call_value-returns-in_err-values t c = no_answer _ _ c.from_residual.ensures.0

pub call_value-returns-in-Some : goal.call_value-returns-in-Some
call_value-returns-in-Some t c =
    called c.args.intrinsic (terms (map term c.args.arguments.now)) c.deref.result.now c.intrinsic_value.result c.ok.result c.ok.ensures.value c.intrinsic_value.ensures
    (ap Some c.deref.ensures.value ∙ sym (ap listed c.in-Some.is) ∙ c.in_ok-values.ensures)

pub call_value-returns-in-None : goal.call_value-returns-in-None
call_value-returns-in-None t c = not_called c.args.intrinsic (terms (map term c.args.arguments.now)) (sym (ap listed c.in-None.is) ∙ c.in_ok-values.ensures)

pub constant_value-returns-in_err-a-in-Unary : goal.constant_value-returns-in_err-a-in-Unary
constant_value-returns-in_err-a-in-Unary t c = no_answer _ _ c.from_residual.ensures.0

pub constant_value-returns-in_err-a-in-Binary : goal.constant_value-returns-in_err-a-in-Binary
constant_value-returns-in_err-a-in-Binary t c = no_answer _ _ c.from_residual-in_err-a-in-Binary.ensures.0

pub constant_value-returns-in_err-b-in-Binary : goal.constant_value-returns-in_err-b-in-Binary
constant_value-returns-in_err-b-in-Binary t c = no_answer _ _ c.from_residual-in_err-b-in-Binary.ensures.0

pub constant_value-returns-in-Constant : goal.constant_value-returns-in-Constant
constant_value-returns-in-Constant t c =
    let n = c.in-Constant.number in
    let back : to_z w64 (of_z w64 n) ≡ n = search rules in
    ap Some back ∙ ap constant_value (sym (constant_of _ _ c.in-Constant.is))

pub constant_value-returns-in-Truth : goal.constant_value-returns-in-Truth
constant_value-returns-in-Truth t c =
    let n = c.truth.result in
    let back : to_z w64 (of_z w64 n) ≡ n = search rules in
    ap Some (back ∙ c.truth.ensures) ∙ ap constant_value (sym (truth_of _ _ c.in-Truth.is))

pub constant_value-returns-in-Parameter : goal.constant_value-returns-in-Parameter
constant_value-returns-in-Parameter t c =
    let n = c.in-Parameter.number in
    let back : to_z w64 (of_z w64 n) ≡ n = search rules in
    ap Some back ∙ ap constant_value (sym (parameter_of _ _ _ c.in-Parameter.is))

pub constant_value-returns-in-Element : goal.constant_value-returns-in-Element
constant_value-returns-in-Element t c = sym (ap constant_value (element_of _ _ c.in-Element.is) ∙ element_law (access c.in-Element.field-0).ref (access c.in-Element.field-0).subscripts)

pub constant_value-returns-in-Call : goal.constant_value-returns-in-Call
constant_value-returns-in-Call t c = of_tree _ _ _ (call_of _ _ _ _ c.in-Call.is c.deref.ensures.value) c.call_value.ensures

pub constant_value-returns-in-Parentheses : goal.constant_value-returns-in-Parentheses
constant_value-returns-in-Parentheses t c =
    of_tree _ _ _ (parentheses_of _ _ _ c.in-Parentheses.is c.deref-in-Parentheses.ensures) c.constant_value.ensures

pub constant_value-returns-in-Some : goal.constant_value-returns-in-Some
constant_value-returns-in-Some t c =
    let a = c.in-Some.a in
    let back : to_z w64 (of_z w64 a) ≡ a = search rules in
    prefixed _ _ _ _ _ _ (unary_of _ _ _ _ c.in-Unary.is c.deref-in-Unary.ensures) c.ok.ensures.value c.apply_prefix.ensures (ap Some back ∙ sym c.in-Some.is ∙ c.in_ok-a-in-Unary.ensures)

pub constant_value-returns-in-None : goal.constant_value-returns-in-None
constant_value-returns-in-None t c =
    not_prefixed _ _ _ (unary_of _ _ _ _ c.in-Unary.is c.deref-in-Unary.ensures) (sym c.in-None.is ∙ c.in_ok-a-in-Unary.ensures)

pub constant_value-returns-in_ok-b-in-Binary : goal.constant_value-returns-in_ok-b-in-Binary
constant_value-returns-in_ok-b-in-Binary t c =
    operation_law _ _ _ _ _ _ _
    (binary_of _ _ _ _ _ _ c.in-Binary.is c.deref-in-Binary.ensures c.deref-in-Binary-2.ensures)
    c.in_ok-a-in-Binary.ensures c.in_ok-b-in-Binary.ensures c.operation_value.ensures

pub values_of-loop-argument-init : goal.values_of-loop-argument-init
values_of-loop-argument-init t c =
    let all = constant_values (terms (map term c.args.arguments.now)) in
    ap (λ l. behind l all) c.new-values.ensures.items ∙ from_none all

pub values_of-returns-in_err-value : goal.values_of-returns-in_err-value
values_of-returns-in_err-value t c = no_answer _ _ c.from_residual.ensures.0

pub values_of-returns-in_err-push-in-Some : goal.values_of-returns-in_err-push-in-Some
values_of-returns-in_err-push-in-Some t c = no_answer _ _ c.from_residual-in_err-push-in-Some.ensures.0

pub values_of-returns-in-None : goal.values_of-returns-in-None
values_of-returns-in-None t c =
    none_in c.loop-argument.values.items c.args.arguments.now c.loop-argument.argument-index c.argument-item.result _ c.loop-argument-test.true c.argument-item.is (sym c.in-None.is ∙ c.in_ok-value.ensures) c.loop-argument.invariant

pub values_of-loop-argument-preserved : goal.values_of-loop-argument-preserved
values_of-loop-argument-preserved t c =
    let y = c.in-Some.value in
    let back : to_z w64 (of_z w64 y) ≡ y = search rules in
    some_in c.loop-argument.values.items _ c.args.arguments.now c.loop-argument.argument-index c.argument-item.result _ _ c.loop-argument-test.true c.argument-item.is (ap Some back ∙ sym c.in-Some.is ∙ c.in_ok-value.ensures)
    c.in_ok-push-in-Some.ensures.items c.loop-argument.invariant

pub values_of-returns : goal.values_of-returns
values_of-returns t c = all_in c.loop-argument.values.items c.args.arguments.now c.loop-argument.argument-index _ c.loop-argument-test.false c.loop-argument.invariant
