use Rattle.std.proofs.Common.{◌≡◌, ◌∙◌, ap, map, refl, rules, sym, to_z, of_z, w64}
use Rattle.ast.specs.Tree.{constant, parameter, terms}
use Rattle.ast.specs.View.{ref, term}
use Rattle.ast.specs.declared.expression.Intrinsic.TheVariants.{Abs, Iabs, Max, Max0, Min, Min0, Mod}
use Rattle.ast.proofs.Terms.{binary_of, call_of, constant_of, element_of, parameter_of, parentheses_of, unary_of}
use Rattle.ast.proofs.Calls.{no_answer, behind, behind_two}
use Rattle.expr_code.specs.Emitted.{term_code}
use Rattle.expr_code.specs.PlacesView.{places_of}
use Rattle.expr_code.proofs.Accesses.{element_code_law}
use Rattle.expr_code.proofs.Appending.{all_further, all_kept, applied_of, chosen_none, chosen_some, element_by, next_further, of_call, of_either, of_tree, same_code}
use Rattle.expr_code.proofs.Beginnings.{begins_more, begins_same}
use Rattle.expr_code.proofs.emitting.+expression.Goals as goal

pub all-returns-clause-begins : goal.all-returns-clause-begins
all-returns-clause-begins t c = begins_more _ _ _ c.in_ok-kept.ensures.begins c.put.ensures.begins

pub chosen-returns-in_ok-term_of-in-len1-up-clause-begins : goal.chosen-returns-in_ok-term_of-in-len1-up-clause-begins
chosen-returns-in_ok-term_of-in-len1-up-clause-begins t c = begins_more _ _ _ c.in_ok-term_of-in-len1-up.ensures.begins c.further.ensures.begins

pub element_of-returns-clause-begins : goal.element_of-returns-clause-begins
element_of-returns-clause-begins t c = begins_more _ _ _ c.in_ok-kept.ensures.begins c.reached.ensures.begins

pub further-returns-in_err-term_of-clause-begins : goal.further-returns-in_err-term_of-clause-begins
further-returns-in_err-term_of-clause-begins t c = begins_more _ _ _ c.loop-i.invariant.1 c.in_err-term_of.ensures.begins

pub further-returns-in_err-put-clause-begins : goal.further-returns-in_err-put-clause-begins
further-returns-in_err-put-clause-begins t c =
    begins_more _ _ _ (begins_more _ _ _ c.loop-i.invariant.1 c.in_ok-term_of.ensures.begins) c.in_err-put.ensures.begins

pub kept-returns-in_err-term_of-clause-begins : goal.kept-returns-in_err-term_of-clause-begins
kept-returns-in_err-term_of-clause-begins t c = begins_more _ _ _ c.loop-operand.invariant.1 c.in_err-term_of.ensures.begins

pub kept-returns-in_err-put-clause-begins : goal.kept-returns-in_err-put-clause-begins
kept-returns-in_err-put-clause-begins t c =
    begins_more _ _ _ (begins_more _ _ _ c.loop-operand.invariant.1 c.in_ok-term_of.ensures.begins) c.in_err-put.ensures.begins

pub term_of-returns-in_err-term_of-in-Binary-2-clause-begins : goal.term_of-returns-in_err-term_of-in-Binary-2-clause-begins
term_of-returns-in_err-term_of-in-Binary-2-clause-begins t c =
    begins_more _ _ _ c.in_ok-term_of-in-Binary.ensures.begins c.in_err-term_of-in-Binary-2.ensures.begins

pub term_of-returns-in_ok-term_of-in-Unary-clause-begins : goal.term_of-returns-in_ok-term_of-in-Unary-clause-begins
term_of-returns-in_ok-term_of-in-Unary-clause-begins t c = begins_more _ _ _ c.in_ok-term_of-in-Unary.ensures.begins c.put-in-Unary.ensures.begins

pub term_of-returns-in_ok-term_of-in-Binary-2-clause-begins : goal.term_of-returns-in_ok-term_of-in-Binary-2-clause-begins
term_of-returns-in_ok-term_of-in-Binary-2-clause-begins t c =
    begins_more _ _ _ (begins_more _ _ _ c.in_ok-term_of-in-Binary.ensures.begins c.in_ok-term_of-in-Binary-2.ensures.begins) c.put-in-Binary.ensures.begins

pub all-returns-in_err-kept-clause-exactly : goal.all-returns-in_err-kept-clause-exactly
all-returns-in_err-kept-clause-exactly t c = no_answer _ _ c.from_residual.ensures.0

pub all-returns-clause-exactly : goal.all-returns-clause-exactly
all-returns-clause-exactly t c = behind _ _ _ _ _ _ _ c.in_ok-kept.ensures.exactly (sym (applied_of (places_of c.args.places.now) (terms (map term c.args.arguments.now)) c.args.wanted c.arguments_kept-operands.result c.args.act c.applied.result c.arguments_kept-operands.ensures c.applied.ensures)) c.put.ensures.exactly

pub call-returns-in-Mod-clause-exactly : goal.call-returns-in-Mod-clause-exactly
call-returns-in-Mod-clause-exactly t c = of_call _ _ _ (places_of c.args.places.now) (terms (map term c.args.arguments.now)) c.args.intrinsic Mod c.in-Mod.is c.all.ensures.exactly

pub call-returns-in-Abs-clause-exactly : goal.call-returns-in-Abs-clause-exactly
call-returns-in-Abs-clause-exactly t c = of_either _ _ _ (places_of c.args.places.now) (terms (map term c.args.arguments.now)) c.args.intrinsic Abs Iabs c.in-Abs.is c.all-in-Abs.ensures.exactly c.all-in-Abs.ensures.exactly

pub call-returns-in-Max-clause-exactly : goal.call-returns-in-Max-clause-exactly
call-returns-in-Max-clause-exactly t c = of_either _ _ _ (places_of c.args.places.now) (terms (map term c.args.arguments.now)) c.args.intrinsic Max Max0 c.in-Max.is c.chosen.ensures.exactly c.chosen.ensures.exactly

pub call-returns-in-Min-clause-exactly : goal.call-returns-in-Min-clause-exactly
call-returns-in-Min-clause-exactly t c = of_either _ _ _ (places_of c.args.places.now) (terms (map term c.args.arguments.now)) c.args.intrinsic Min Min0 c.in-Min.is c.chosen-in-Min.ensures.exactly c.chosen-in-Min.ensures.exactly

pub chosen-returns-in_err-term_of-in-len1-up-clause-exactly : goal.chosen-returns-in_err-term_of-in-len1-up-clause-exactly
chosen-returns-in_err-term_of-in-len1-up-clause-exactly t c = no_answer _ _ c.from_residual.ensures.0

pub chosen-returns-in-empty-clause-exactly : goal.chosen-returns-in-empty-clause-exactly
chosen-returns-in-empty-clause-exactly t c = same_code _ _ _ _ _ (chosen_none (places_of c.args.places.now) c.args.arguments.now c.args.act c.in-empty.len_below) c.put.ensures.exactly

pub chosen-returns-in_ok-term_of-in-len1-up-clause-exactly : goal.chosen-returns-in_ok-term_of-in-len1-up-clause-exactly
chosen-returns-in_ok-term_of-in-len1-up-clause-exactly t c = behind _ _ _ _ _ _ _ c.in_ok-term_of-in-len1-up.ensures.exactly (sym (chosen_some (places_of c.args.places.now) c.args.arguments.now c.first-item.result c.args.act c.in-len1-up.len_at_least c.first-item.is)) c.further.ensures.exactly

pub element-returns-clause-exactly : goal.element-returns-clause-exactly
element-returns-clause-exactly t c = same_code _ _ _ _ _ (sym (element_code_law (places_of c.args.places.now) c.args.access.now c.deref.result.now c.deref.ensures.value)) c.element_of.ensures.exactly

pub element_of-returns-in_err-kept-clause-exactly : goal.element_of-returns-in_err-kept-clause-exactly
element_of-returns-in_err-kept-clause-exactly t c = no_answer _ _ c.from_residual.ensures.0

pub element_of-returns-clause-exactly : goal.element_of-returns-clause-exactly
element_of-returns-clause-exactly t c = behind _ _ _ _ _ _ _ c.in_ok-kept.ensures.exactly (sym (element_by (places_of c.args.places.now) (ref c.args.reference.now) _ c.dimensions-dimensions.result.now _ c.dimensions-dimensions.ensures.dimensions c.subscripts_kept-operands.ensures)) c.reached.ensures.exactly

pub further-loop-i-init : goal.further-loop-i-init
further-loop-i-init t c = (refl, begins_same _ _ refl)

pub further-returns-in_err-term_of-clause-exactly : goal.further-returns-in_err-term_of-clause-exactly
further-returns-in_err-term_of-clause-exactly t c = no_answer _ _ c.from_residual.ensures.0

pub further-returns-in_err-put-clause-exactly : goal.further-returns-in_err-put-clause-exactly
further-returns-in_err-put-clause-exactly t c = no_answer _ _ c.from_residual-in_err-put.ensures.0

pub further-loop-i-preserved : goal.further-loop-i-preserved
further-loop-i-preserved t c = (
  next_further (places_of c.args.places.now) c.args.act c.args.arguments.now c.loop-i.i c.index-arguments-i.result _ _ _ _ c.loop-i-test.true c.index-arguments-i.is c.in_ok-term_of.ensures.exactly c.in_ok-put.ensures.exactly c.loop-i.invariant.0,
  begins_more _ _ _ (begins_more _ _ _ c.loop-i.invariant.1 c.in_ok-term_of.ensures.begins) c.in_ok-put.ensures.begins,
)

pub further-returns-clause-exactly : goal.further-returns-clause-exactly
further-returns-clause-exactly t c = all_further (places_of c.args.places.now) c.args.act c.args.arguments.now c.loop-i.i _ _ c.loop-i-test.false c.loop-i.invariant.0

pub further-returns-clause-begins : goal.further-returns-clause-begins
further-returns-clause-begins t c = c.loop-i.invariant.1

pub kept-loop-operand-init : goal.kept-loop-operand-init
kept-loop-operand-init t c = (refl, begins_same _ _ refl)

pub kept-returns-in_err-term_of-clause-exactly : goal.kept-returns-in_err-term_of-clause-exactly
kept-returns-in_err-term_of-clause-exactly t c = no_answer _ _ c.from_residual.ensures.0

pub kept-returns-in_err-put-clause-exactly : goal.kept-returns-in_err-put-clause-exactly
kept-returns-in_err-put-clause-exactly t c = no_answer _ _ c.from_residual-in_err-put.ensures.0

pub kept-returns-clause-exactly : goal.kept-returns-clause-exactly
kept-returns-clause-exactly t c = all_kept (places_of c.args.places.now) c.args.expressions.now c.loop-operand.operand-index _ _ _ c.loop-operand-test.false c.loop-operand.invariant.0

pub kept-returns-clause-begins : goal.kept-returns-clause-begins
kept-returns-clause-begins t c = c.loop-operand.invariant.1

pub term_of-returns-in_err-term_of-in-Unary-clause-exactly : goal.term_of-returns-in_err-term_of-in-Unary-clause-exactly
term_of-returns-in_err-term_of-in-Unary-clause-exactly t c = no_answer _ _ c.from_residual.ensures.0

pub term_of-returns-in_err-term_of-in-Binary-clause-exactly : goal.term_of-returns-in_err-term_of-in-Binary-clause-exactly
term_of-returns-in_err-term_of-in-Binary-clause-exactly t c = no_answer _ _ c.from_residual-in_err-term_of-in-Binary.ensures.0

pub term_of-returns-in_err-term_of-in-Binary-2-clause-exactly : goal.term_of-returns-in_err-term_of-in-Binary-2-clause-exactly
term_of-returns-in_err-term_of-in-Binary-2-clause-exactly t c = no_answer _ _ c.from_residual-in_err-term_of-in-Binary-2.ensures.0

pub term_of-returns-in-Element-clause-exactly : goal.term_of-returns-in-Element-clause-exactly
term_of-returns-in-Element-clause-exactly t c = of_tree _ _ _ (places_of c.args.places.now) _ _ (element_of _ _ c.in-Element.is) c.element.ensures.exactly

pub term_of-returns-in-Call-clause-exactly : goal.term_of-returns-in-Call-clause-exactly
term_of-returns-in-Call-clause-exactly t c = of_tree _ _ _ (places_of c.args.places.now) _ _ (call_of _ _ _ _ c.in-Call.is c.deref.ensures.value) c.call.ensures.exactly

pub term_of-returns-in-Parentheses-clause-exactly : goal.term_of-returns-in-Parentheses-clause-exactly
term_of-returns-in-Parentheses-clause-exactly t c = of_tree _ _ _ (places_of c.args.places.now) _ _ (parentheses_of _ _ _ c.in-Parentheses.is c.deref-in-Parentheses.ensures) c.term_of.ensures.exactly

pub term_of-returns-in_ok-term_of-in-Unary-clause-exactly : goal.term_of-returns-in_ok-term_of-in-Unary-clause-exactly
term_of-returns-in_ok-term_of-in-Unary-clause-exactly t c = behind _ _ _ _ _ _ _ c.in_ok-term_of-in-Unary.ensures.exactly (sym (ap (term_code (places_of c.args.places.now)) (unary_of _ _ _ _ c.in-Unary.is c.deref-in-Unary.ensures))) c.put-in-Unary.ensures.exactly

pub term_of-returns-in_ok-term_of-in-Binary-2-clause-exactly : goal.term_of-returns-in_ok-term_of-in-Binary-2-clause-exactly
term_of-returns-in_ok-term_of-in-Binary-2-clause-exactly t c = behind_two _ _ _ _ _ _ _ _ _ c.in_ok-term_of-in-Binary.ensures.exactly c.in_ok-term_of-in-Binary-2.ensures.exactly (sym (ap (term_code (places_of c.args.places.now)) (binary_of _ _ _ _ _ _ c.in-Binary.is c.deref-in-Binary.ensures c.deref-in-Binary-2.ensures))) c.put-in-Binary.ensures.exactly

pub term_of-returns-in-Constant-clause-exactly : goal.term_of-returns-in-Constant-clause-exactly
term_of-returns-in-Constant-clause-exactly t c =
    let n = c.in-Constant.number in
    let back : to_z w64 (of_z w64 n) ≡ n = search rules in
    of_tree _ _ _ (places_of c.args.places.now) _ _ (constant_of _ _ c.in-Constant.is ∙ ap constant (sym back)) c.put.ensures.exactly

pub term_of-returns-in-Parameter-clause-exactly : goal.term_of-returns-in-Parameter-clause-exactly
term_of-returns-in-Parameter-clause-exactly t c =
    let n = c.in-Parameter.number in
    let back : to_z w64 (of_z w64 n) ≡ n = search rules in
    of_tree _ _ _ (places_of c.args.places.now) _ _ (parameter_of _ _ _ c.in-Parameter.is ∙ ap (parameter c.in-Parameter.field-0.letters) (sym back)) c.put-in-Parameter.ensures.exactly
