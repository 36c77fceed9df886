use Rattle.std.proofs.Common.{◌≡◌, ◌∙◌, ◌+◌, ◌-◌, ◌<◌, pos, refl, drop, take, subst, ap, length, sym, List, Ok, Err, map, rules, to_z, of_z, w64}
use Rattle.std.specs.Prelude.{IfOk}
use Rattle.ast.proofs.Terms.{binary_of, reference_of, subscripts_of, unary_of}
use Rattle.ast.specs.Exact.{absolute, greater, less, remainder}
use Rattle.ast.specs.Meaning.{target, value}
use Rattle.ast.specs.Symbols.{Extent, dimensions_in, elements}
use Rattle.ast.specs.Tree.{Ref, Terms, terms}
use Rattle.ast.specs.View.{extent, term, access as access_of}
use Rattle.ast.specs.declared.expression.Expr.{Expr}
use Rattle.ast.specs.declared.expression.Intrinsic.TheVariants.{Abs}
use Rattle.tree_run.specs.Steps.{call_at, evaluated, greatest_at, least_at, opening, place_at, remainder_at, room, stepped}
use Rattle.tree_run.specs.View.{look, store_in, symbols_in, way}
use Rattle.tree_run.proofs.Evaluating.{absolute_called, called, ends_in, failed, goes_at, goes_in, greater_first, greater_second, greatest_called, least_called, less_first, less_second, no_value, nothing_called, only_term, placed_on, remainder_called, stops_at, stops_in}
use Rattle.tree_run.proofs.Offsets.{room_kept}
use Rattle.tree_run.proofs.TermValues.{binary_value, call_value, constant_value, element_value, parameter_value, parentheses_value, second_value, truth_value_of, unary_value}
use Rattle.tree_run.proofs.Values.{abs_other, call_law, element_law, mod_other, mod_zero, place_law}
use Rattle.tree_run.proofs.expressions.+value.Goals as goal
use Rattle.tree_run.proofs.expressions.+value.Goals.{greatest-then-best-x, greatest-else-best-x, least-then-x-best, least-else-x-best}

pub place-loop-subscript-preserved : goal.place-loop-subscript-preserved
place-loop-subscript-preserved t c =
    let m = c.args.memory.now in
    let es = c.args.subscripts.now in
    let i = c.loop-subscript.subscript-index in
    let e = c.subscript-item.result in
    let w = way c.loop-subscript.walk in
    let n = c.in_ok-value.field-0 in
    let rest = terms (map term (drop (i + 1) es)) in
    let back : to_z w64 (of_z w64 n) ≡ n = search rules in
    record {
      room = ap room c.step-walk.ensures ∙ room_kept w _ ∙ c.loop-subscript.invariant.room;
      at =
          ap (λ v. place_at (look m) v rest) (c.step-walk.ensures ∙ ap (λ x. stepped w x) back)
          ∙ goes_in (λ (ts : Terms). place_at (look m) w ts) (λ x. place_at (look m) (stepped w x) rest) es i e (value (look m) (term e)) n (place_at (look m) (opening (map extent c.args.dimensions.now)) (terms (map term es))) c.loop-subscript-test.true c.subscript-item.is refl c.loop-subscript.invariant.at (sym c.value.ensures ∙ c.in_ok-value.was {u = tt});
      placed = (placed_on (symbols_in m) es i e c.loop-subscript-test.true c.subscript-item.is c.loop-subscript.invariant.placed).1;
    }

pub target-returns-clause-at : goal.target-returns-clause-at
target-returns-clause-at t c =
    let m = c.args.memory.now in
    let a = c.args.access.now in
    let named = ap (λ (r : Ref). dimensions_in (symbols_in m) r.name) (sym (reference_of a)) in
    let seen : terms (map term c.deref.result.now) ≡ terms (map term a.subscripts.items) = ap (λ (es : List Expr). terms (map term es)) c.deref.ensures.value in
    c.place.ensures.at
    ∙ ap (λ (ds : List Extent). place_at (look m) (opening ds) (terms (map term c.deref.result.now))) (c.dimensions.ensures.dimensions ∙ named)
    ∙ ap (λ (es : Terms). place_at (look m) (opening (dimensions_in (symbols_in m) (access_of a).ref.name)) es) (seen ∙ sym (subscripts_of a))
    ∙ place_law (look m) (dimensions_in (symbols_in m) (access_of a).ref.name) (access_of a).subscripts

pub remainder-returns-in_ok-evaluate : goal.remainder-returns-in_ok-evaluate
remainder-returns-in_ok-evaluate t c =
    let others : length c.args.others.now ≡ 1 → ⊥ = search rules in
    mod_zero (look c.args.memory.now) c.args.a c.args.others.now c.in_ok-evaluate.field-0 others (sym (c.in_ok-evaluate.was {u = tt}) ∙ c.evaluate.ensures)

pub value-returns-in_ok-value-in-Unary : goal.value-returns-in_ok-value-in-Unary
value-returns-in_ok-value-in-Unary t c =
    let e = c.args.expression.now in
    let inner = c.deref-in-Unary.result.now in
    let n = c.in_ok-value-in-Unary.field-0 in
    let back : to_z w64 (of_z w64 n) ≡ n = search rules in
    c.apply_prefix.ensures
    ∙ unary_value (look c.args.memory.now) (term e) (term inner) c.in-Unary.prefix (Ok (to_z w64 (of_z w64 n)))
    (unary_of e c.in-Unary.prefix c.in-Unary.operand inner c.in-Unary.is c.deref-in-Unary.ensures)
    (sym c.value-in-Unary.ensures ∙ c.in_ok-value-in-Unary.was {u = tt} ∙ ap Ok (sym back))

pub value-returns-in_err-value-in-Unary : goal.value-returns-in_err-value-in-Unary
value-returns-in_err-value-in-Unary t c =
    let e = c.args.expression.now in
    let inner = c.deref-in-Unary.result.now in
    let failed : c.from_residual.result ≡ Err c.in_err-value-in-Unary.field-0.0 = search rules in
    failed
    ∙ unary_value (look c.args.memory.now) (term e) (term inner) c.in-Unary.prefix (Err c.in_err-value-in-Unary.field-0.0)
    (unary_of e c.in-Unary.prefix c.in-Unary.operand inner c.in-Unary.is c.deref-in-Unary.ensures)
    (sym c.value-in-Unary.ensures ∙ c.in_err-value-in-Unary.was {u = tt})

pub value-returns-in_ok-b-in-Binary : goal.value-returns-in_ok-b-in-Binary
value-returns-in_ok-b-in-Binary t c =
    let e = c.args.expression.now in
    let left = c.deref-in-Binary.result.now in
    let right = c.deref-in-Binary-2.result.now in
    let m = c.in_ok-a-in-Binary.a in
    let n = c.in_ok-b-in-Binary.b in
    let first : to_z w64 (of_z w64 m) ≡ m = search rules in
    let second : to_z w64 (of_z w64 n) ≡ n = search rules in
    c.apply_operator.ensures
    ∙ second_value (look c.args.memory.now) (term e) (term left) (term right) c.in-Binary.operator (to_z w64 (of_z w64 m)) (Ok (to_z w64 (of_z w64 n)))
    (binary_of e c.in-Binary.operator c.in-Binary.left c.in-Binary.right left right c.in-Binary.is c.deref-in-Binary.ensures c.deref-in-Binary-2.ensures)
    (sym c.value-in-Binary.ensures ∙ c.in_ok-a-in-Binary.was {u = tt} ∙ ap Ok (sym first))
    (sym c.value-in-Binary-2.ensures ∙ c.in_ok-b-in-Binary.was {u = tt} ∙ ap Ok (sym second))

pub evaluate-loop-expression-init : goal.evaluate-loop-expression-init
evaluate-loop-expression-init t c = (refl, c.requires)

pub evaluate-returns-in_err-value : goal.evaluate-returns-in_err-value
evaluate-returns-in_err-value t c =
    let m = c.args.memory.now in
    let es = c.args.expressions.now in
    let i = c.loop-expression.expression-index in
    let e = c.expression-item.result in
    stops_in (λ (ts : Terms). evaluated (look m) ts) (λ x. evaluated (look m) (terms (map term (drop (i + 1) es)))) es i e c.from_residual.result (value (look m) (term e)) c.in_err-value.field-0.0 (evaluated (look m) (terms (map term es))) c.loop-expression-test.true c.expression-item.is refl c.loop-expression.invariant.0 (sym c.value.ensures ∙ c.in_err-value.was {u = tt}) c.from_residual.ensures.1

pub evaluate-loop-expression-preserved : goal.evaluate-loop-expression-preserved
evaluate-loop-expression-preserved t c =
    let m = c.args.memory.now in
    let es = c.args.expressions.now in
    let i = c.loop-expression.expression-index in
    let e = c.expression-item.result in (
      goes_in (λ (ts : Terms). evaluated (look m) ts) (λ x. evaluated (look m) (terms (map term (drop (i + 1) es)))) es i e (value (look m) (term e)) c.in_ok-value.field-0 (evaluated (look m) (terms (map term es))) c.loop-expression-test.true c.expression-item.is refl c.loop-expression.invariant.0 (sym c.value.ensures ∙ c.in_ok-value.was {u = tt}),
      (placed_on (symbols_in m) es i e c.loop-expression-test.true c.expression-item.is c.loop-expression.invariant.1).1,
    )

pub evaluate-returns : goal.evaluate-returns
evaluate-returns t c =
    let m = c.args.memory.now in
    let es = c.args.expressions.now in
    ends_in (λ (ts : Terms). evaluated (look m) ts) es c.loop-expression.expression-index (evaluated (look m) (terms (map term es))) c.loop-expression-test.false c.loop-expression.invariant.0

pub greatest-loop-other-init : goal.greatest-loop-other-init
greatest-loop-other-init t c = (refl, c.requires)

pub greatest-returns-in_err-x : goal.greatest-returns-in_err-x
greatest-returns-in_err-x t c =
    let m = c.args.memory.now in
    let es = c.args.others.now in
    let i = c.loop-other.other-index in
    let e = c.other-item.result in
    let best = to_z w64 c.loop-other.best-bits in
    let back : to_z w64 (of_z w64 c.args.first) ≡ c.args.first = search rules in
    stops_in (λ (ts : Terms). greatest_at (look m) best ts) (λ x. greatest_at (look m) (greater best x) (terms (map term (drop (i + 1) es)))) es i e c.from_residual.result (value (look m) (term e)) c.in_err-x.field-0.0 (greatest_at (look m) (to_z w64 (of_z w64 c.args.first)) (terms (map term es))) c.loop-other-test.true c.other-item.is refl c.loop-other.invariant.0 (sym c.value.ensures ∙ c.in_err-x.was {u = tt}) c.from_residual.ensures.1
    ∙ ap (λ n. greatest_at (look m) n (terms (map term es))) back

pub greatest-returns : goal.greatest-returns
greatest-returns t c =
    let m = c.args.memory.now in
    let es = c.args.others.now in
    let back : to_z w64 (of_z w64 c.args.first) ≡ c.args.first = search rules in
    ends_in (λ (ts : Terms). greatest_at (look m) (to_z w64 c.loop-other.best-bits) ts) es c.loop-other.other-index (greatest_at (look m) (to_z w64 (of_z w64 c.args.first)) (terms (map term es))) c.loop-other-test.false c.loop-other.invariant.0
    ∙ ap (λ n. greatest_at (look m) n (terms (map term es))) back

pub least-loop-other-init : goal.least-loop-other-init
least-loop-other-init t c = (refl, c.requires)

pub least-returns-in_err-x : goal.least-returns-in_err-x
least-returns-in_err-x t c =
    let m = c.args.memory.now in
    let es = c.args.others.now in
    let i = c.loop-other.other-index in
    let e = c.other-item.result in
    let best = to_z w64 c.loop-other.best-bits in
    let back : to_z w64 (of_z w64 c.args.first) ≡ c.args.first = search rules in
    stops_in (λ (ts : Terms). least_at (look m) best ts) (λ x. least_at (look m) (less best x) (terms (map term (drop (i + 1) es)))) es i e c.from_residual.result (value (look m) (term e)) c.in_err-x.field-0.0 (least_at (look m) (to_z w64 (of_z w64 c.args.first)) (terms (map term es))) c.loop-other-test.true c.other-item.is refl c.loop-other.invariant.0 (sym c.value.ensures ∙ c.in_err-x.was {u = tt}) c.from_residual.ensures.1
    ∙ ap (λ n. least_at (look m) n (terms (map term es))) back

pub least-returns : goal.least-returns
least-returns t c =
    let m = c.args.memory.now in
    let es = c.args.others.now in
    let back : to_z w64 (of_z w64 c.args.first) ≡ c.args.first = search rules in
    ends_in (λ (ts : Terms). least_at (look m) (to_z w64 c.loop-other.best-bits) ts) es c.loop-other.other-index (least_at (look m) (to_z w64 (of_z w64 c.args.first)) (terms (map term es))) c.loop-other-test.false c.loop-other.invariant.0
    ∙ ap (λ n. least_at (look m) n (terms (map term es))) back

pub place-returns-in_err-value-clause-at : goal.place-returns-in_err-value-clause-at
place-returns-in_err-value-clause-at t c =
    let m = c.args.memory.now in
    let es = c.args.subscripts.now in
    let i = c.loop-subscript.subscript-index in
    let e = c.subscript-item.result in
    let w = way c.loop-subscript.walk in
    stops_in (λ (ts : Terms). place_at (look m) w ts) (λ x. place_at (look m) (stepped w x) (terms (map term (drop (i + 1) es)))) es i e c.from_residual.result (value (look m) (term e)) c.in_err-value.field-0.0 (place_at (look m) (opening (map extent c.args.dimensions.now)) (terms (map term es))) c.loop-subscript-test.true c.subscript-item.is refl c.loop-subscript.invariant.at (sym c.value.ensures ∙ c.in_err-value.was {u = tt}) c.from_residual.ensures.1

pub place-returns-clause-at : goal.place-returns-clause-at
place-returns-clause-at t c =
    let m = c.args.memory.now in
    let es = c.args.subscripts.now in
    c.place.ensures.at
    ∙ ends_in (λ (ts : Terms). place_at (look m) (way c.loop-subscript.walk) ts) es c.loop-subscript.subscript-index (place_at (look m) (opening (map extent c.args.dimensions.now)) (terms (map term es))) c.loop-subscript-test.false c.loop-subscript.invariant.at

pub remainder-returns-in_err-value : goal.remainder-returns-in_err-value
remainder-returns-in_err-value t c =
    let m = c.args.memory.now in
    let e = c.b-item.result in
    stops_at c.from_residual.result (value (look m) (term e)) c.in_err-value.field-0.0 (λ y. remainder c.args.a y) (sym c.value.ensures ∙ c.in_err-value.was {u = tt}) c.from_residual.ensures.1
    ∙ ap (λ (ts : Terms). remainder_at (look m) c.args.a ts) (sym (only_term c.args.others.now e c.in-len1.len_at_least c.in-len1.len_below c.b-item.is))

pub absolute-returns-in_err-value : goal.absolute-returns-in_err-value
absolute-returns-in_err-value t c =
    let m = c.args.memory.now in
    let e = c.a-item.result in
    stops_at c.from_residual.result (value (look m) (term e)) c.in_err-value.field-0.0 (λ y. absolute y) (sym c.value.ensures ∙ c.in_err-value.was {u = tt}) c.from_residual.ensures.1
    ∙ ap (λ (ts : Terms). call_at (look m) Abs ts) (sym (only_term c.args.arguments.now e c.in-len1.len_at_least c.in-len1.len_below c.a-item.is))

pub value-returns-in_err-a-in-Binary : goal.value-returns-in_err-a-in-Binary
value-returns-in_err-a-in-Binary t c =
    let e = c.args.expression.now in
    let left = c.deref-in-Binary.result.now in
    let right = c.in-Binary.right.value in
    failed c.from_residual-in_err-a-in-Binary.result c.in_err-a-in-Binary.field-0.0 c.from_residual-in_err-a-in-Binary.ensures.1
    ∙ binary_value (look c.args.memory.now) (term e) (term left) (term right) c.in-Binary.operator (Err c.in_err-a-in-Binary.field-0.0)
    (binary_of e c.in-Binary.operator c.in-Binary.left c.in-Binary.right left right c.in-Binary.is c.deref-in-Binary.ensures refl)
    (sym c.value-in-Binary.ensures ∙ c.in_err-a-in-Binary.was {u = tt})

pub value-returns-in_err-b-in-Binary : goal.value-returns-in_err-b-in-Binary
value-returns-in_err-b-in-Binary t c =
    let e = c.args.expression.now in
    let left = c.deref-in-Binary.result.now in
    let right = c.deref-in-Binary-2.result.now in
    failed c.from_residual-in_err-b-in-Binary.result c.in_err-b-in-Binary.field-0.0 c.from_residual-in_err-b-in-Binary.ensures.1
    ∙ second_value (look c.args.memory.now) (term e) (term left) (term right) c.in-Binary.operator c.in_ok-a-in-Binary.a (Err c.in_err-b-in-Binary.field-0.0)
    (binary_of e c.in-Binary.operator c.in-Binary.left c.in-Binary.right left right c.in-Binary.is c.deref-in-Binary.ensures c.deref-in-Binary-2.ensures)
    (sym c.value-in-Binary.ensures ∙ c.in_ok-a-in-Binary.was {u = tt})
    (sym c.value-in-Binary-2.ensures ∙ c.in_err-b-in-Binary.was {u = tt})

pub greatest-loop-other-preserved : goal.greatest-loop-other-preserved
greatest-loop-other-preserved t c =
    let m = c.args.memory.now in
    let es = c.args.others.now in
    let i = c.loop-other.other-index in
    let e = c.other-item.result in
    let best = to_z w64 c.loop-other.best-bits in
    let rest = terms (map term (drop (i + 1) es)) in
    let back : to_z w64 (of_z w64 c.in_ok-x.x) ≡ c.in_ok-x.x = search rules in
    let picked : to_z w64 c.if-best-x.best-bits ≡ greater best (to_z w64 (of_z w64 c.in_ok-x.x)) = elim c.if-best-x.branch [ greatest-then-best-x w ↦ w.best-is ∙ greater_second best (to_z w64 (of_z w64 c.in_ok-x.x)) w.if-best-x.true | greatest-else-best-x w ↦ w.best-is ∙ greater_first best (to_z w64 (of_z w64 c.in_ok-x.x)) w.if-best-x.false ] in (
      ap (λ n. greatest_at (look m) n rest) (picked ∙ ap (λ x. greater best x) back)
          ∙ goes_in (λ (ts : Terms). greatest_at (look m) best ts) (λ x. greatest_at (look m) (greater best x) rest) es i e (value (look m) (term e)) c.in_ok-x.x (greatest_at (look m) (to_z w64 (of_z w64 c.args.first)) (terms (map term es))) c.loop-other-test.true c.other-item.is refl c.loop-other.invariant.0 (sym c.value.ensures ∙ c.in_ok-x.was {u = tt}),
      (placed_on (symbols_in m) es i e c.loop-other-test.true c.other-item.is c.loop-other.invariant.1).1,
    )

pub least-loop-other-preserved : goal.least-loop-other-preserved
least-loop-other-preserved t c =
    let m = c.args.memory.now in
    let es = c.args.others.now in
    let i = c.loop-other.other-index in
    let e = c.other-item.result in
    let best = to_z w64 c.loop-other.best-bits in
    let rest = terms (map term (drop (i + 1) es)) in
    let back : to_z w64 (of_z w64 c.in_ok-x.x) ≡ c.in_ok-x.x = search rules in
    let picked : to_z w64 c.if-x-best.best-bits ≡ less best (to_z w64 (of_z w64 c.in_ok-x.x)) = elim c.if-x-best.branch [ least-then-x-best w ↦ w.best-is ∙ less_second best (to_z w64 (of_z w64 c.in_ok-x.x)) w.if-x-best.true | least-else-x-best w ↦ w.best-is ∙ less_first best (to_z w64 (of_z w64 c.in_ok-x.x)) w.if-x-best.false ] in (
      ap (λ n. least_at (look m) n rest) (picked ∙ ap (λ x. less best x) back)
          ∙ goes_in (λ (ts : Terms). least_at (look m) best ts) (λ x. least_at (look m) (less best x) rest) es i e (value (look m) (term e)) c.in_ok-x.x (least_at (look m) (to_z w64 (of_z w64 c.args.first)) (terms (map term es))) c.loop-other-test.true c.other-item.is refl c.loop-other.invariant.0 (sym c.value.ensures ∙ c.in_ok-x.was {u = tt}),
      (placed_on (symbols_in m) es i e c.loop-other-test.true c.other-item.is c.loop-other.invariant.1).1,
    )

pub call_by_name-returns-in_err-value-in-len1-up : goal.call_by_name-returns-in_err-value-in-len1-up
call_by_name-returns-in_err-value-in-len1-up t c =
    let m = c.args.memory.now in
    let es = c.args.arguments.now in
    let e = c.first-item.result in
    let rest = terms (map term (take (length es - 1) (drop 1 es))) in
    stops_at c.from_residual.result (value (look m) (term e)) (c.in_err-value-in-len1-up).field-0.0 (λ x. remainder_at (look m) x rest) (sym c.value.ensures ∙ (c.in_err-value-in-len1-up).was {u = tt}) c.from_residual.ensures.1
    ∙ called (look m) c.args.intrinsic es e (λ x. remainder_at (look m) x rest) c.in-len1-up.len_at_least c.first-item.is (remainder_called (look m) c.args.intrinsic (term e) rest c.in-Mod.is)

pub call_by_name-returns-in_ok-value-in-len1-up : goal.call_by_name-returns-in_ok-value-in-len1-up
call_by_name-returns-in_ok-value-in-len1-up t c =
    let m = c.args.memory.now in
    let es = c.args.arguments.now in
    let e = c.first-item.result in
    let n = (c.in_ok-value-in-len1-up).field-0 in
    let rest = terms (map term (take (length es - 1) (drop 1 es))) in
    let back : to_z w64 (of_z w64 n) ≡ n = search rules in
    c.remainder.ensures
    ∙ ap (λ x. remainder_at (look m) x rest) back
    ∙ goes_at (value (look m) (term e)) n (λ x. remainder_at (look m) x rest) (sym c.value.ensures ∙ (c.in_ok-value-in-len1-up).was {u = tt})
    ∙ called (look m) c.args.intrinsic es e (λ x. remainder_at (look m) x rest) c.in-len1-up.len_at_least c.first-item.is (remainder_called (look m) c.args.intrinsic (term e) rest c.in-Mod.is)

pub call_by_name-returns-in_err-value-in-len1-up-arguments : goal.call_by_name-returns-in_err-value-in-len1-up-arguments
call_by_name-returns-in_err-value-in-len1-up-arguments t c =
    let m = c.args.memory.now in
    let es = c.args.arguments.now in
    let e = c.first-item-in-Max.result in
    let rest = terms (map term (take (length es - 1) (drop 1 es))) in
    stops_at c.from_residual-in_err-value-in-len1-up-arguments.result (value (look m) (term e)) (c.in_err-value-in-len1-up-arguments).field-0.0 (λ x. greatest_at (look m) x rest) (sym c.value-in-len1-up-arguments.ensures ∙ (c.in_err-value-in-len1-up-arguments).was {u = tt}) c.from_residual-in_err-value-in-len1-up-arguments.ensures.1
    ∙ called (look m) c.args.intrinsic es e (λ x. greatest_at (look m) x rest) c.in-len1-up-arguments.len_at_least c.first-item-in-Max.is (greatest_called (look m) c.args.intrinsic (term e) rest c.in-Max.is)

pub call_by_name-returns-in_ok-value-in-len1-up-arguments : goal.call_by_name-returns-in_ok-value-in-len1-up-arguments
call_by_name-returns-in_ok-value-in-len1-up-arguments t c =
    let m = c.args.memory.now in
    let es = c.args.arguments.now in
    let e = c.first-item-in-Max.result in
    let n = (c.in_ok-value-in-len1-up-arguments).field-0 in
    let rest = terms (map term (take (length es - 1) (drop 1 es))) in
    let back : to_z w64 (of_z w64 n) ≡ n = search rules in
    c.greatest.ensures
    ∙ ap (λ x. greatest_at (look m) x rest) back
    ∙ goes_at (value (look m) (term e)) n (λ x. greatest_at (look m) x rest) (sym c.value-in-len1-up-arguments.ensures ∙ (c.in_ok-value-in-len1-up-arguments).was {u = tt})
    ∙ called (look m) c.args.intrinsic es e (λ x. greatest_at (look m) x rest) c.in-len1-up-arguments.len_at_least c.first-item-in-Max.is (greatest_called (look m) c.args.intrinsic (term e) rest c.in-Max.is)

pub call_by_name-returns-in_err-value-in-len1-up-arguments-2 : goal.call_by_name-returns-in_err-value-in-len1-up-arguments-2
call_by_name-returns-in_err-value-in-len1-up-arguments-2 t c =
    let m = c.args.memory.now in
    let es = c.args.arguments.now in
    let e = c.first-item-in-Min.result in
    let rest = terms (map term (take (length es - 1) (drop 1 es))) in
    stops_at c.from_residual-in_err-value-in-len1-up-arguments-2.result (value (look m) (term e)) (c.in_err-value-in-len1-up-arguments-2).field-0.0 (λ x. least_at (look m) x rest) (sym c.value-in-len1-up-arguments-2.ensures ∙ (c.in_err-value-in-len1-up-arguments-2).was {u = tt}) c.from_residual-in_err-value-in-len1-up-arguments-2.ensures.1
    ∙ called (look m) c.args.intrinsic es e (λ x. least_at (look m) x rest) c.in-len1-up-arguments-2.len_at_least c.first-item-in-Min.is (least_called (look m) c.args.intrinsic (term e) rest c.in-Min.is)

pub call_by_name-returns-in_ok-value-in-len1-up-arguments-2 : goal.call_by_name-returns-in_ok-value-in-len1-up-arguments-2
call_by_name-returns-in_ok-value-in-len1-up-arguments-2 t c =
    let m = c.args.memory.now in
    let es = c.args.arguments.now in
    let e = c.first-item-in-Min.result in
    let n = (c.in_ok-value-in-len1-up-arguments-2).field-0 in
    let rest = terms (map term (take (length es - 1) (drop 1 es))) in
    let back : to_z w64 (of_z w64 n) ≡ n = search rules in
    c.least.ensures
    ∙ ap (λ x. least_at (look m) x rest) back
    ∙ goes_at (value (look m) (term e)) n (λ x. least_at (look m) x rest) (sym c.value-in-len1-up-arguments-2.ensures ∙ (c.in_ok-value-in-len1-up-arguments-2).was {u = tt})
    ∙ called (look m) c.args.intrinsic es e (λ x. least_at (look m) x rest) c.in-len1-up-arguments-2.len_at_least c.first-item-in-Min.is (least_called (look m) c.args.intrinsic (term e) rest c.in-Min.is)

pub call_by_name-returns-in-empty : goal.call_by_name-returns-in-empty
call_by_name-returns-in-empty t c = nothing_called (look c.args.memory.now) c.args.intrinsic c.args.arguments.now c.in-empty.len_below

pub call_by_name-returns-in-empty-arguments : goal.call_by_name-returns-in-empty-arguments
call_by_name-returns-in-empty-arguments t c = nothing_called (look c.args.memory.now) c.args.intrinsic c.args.arguments.now c.in-empty-arguments.len_below

pub call_by_name-returns-in-empty-arguments-2 : goal.call_by_name-returns-in-empty-arguments-2
call_by_name-returns-in-empty-arguments-2 t c = nothing_called (look c.args.memory.now) c.args.intrinsic c.args.arguments.now c.in-empty-arguments-2.len_below

pub call_by_name-returns-in-Abs : goal.call_by_name-returns-in-Abs
call_by_name-returns-in-Abs t c = c.absolute.ensures ∙ absolute_called (look c.args.memory.now) c.args.intrinsic (terms (map term c.args.arguments.now)) c.in-Abs.is

pub call-returns : goal.call-returns
call-returns t c = c.call_by_name.ensures ∙ call_law (look c.args.memory.now) c.args.intrinsic (terms (map term c.args.arguments.now))

pub remainder-returns-in_ok-value : goal.remainder-returns-in_ok-value
remainder-returns-in_ok-value t c =
    let m = c.args.memory.now in
    let e = c.b-item.result in
    let n = c.in_ok-value.field-0 in
    let first : to_z w64 (of_z w64 c.args.a) ≡ c.args.a = search rules in
    let second : to_z w64 (of_z w64 n) ≡ n = search rules in
    c.modulo.ensures
    ∙ ap (λ x. remainder x (to_z w64 (of_z w64 n))) first
    ∙ ap (λ y. remainder c.args.a y) second
    ∙ goes_at (value (look m) (term e)) n (λ y. remainder c.args.a y) (sym c.value.ensures ∙ c.in_ok-value.was {u = tt})
    ∙ ap (λ (ts : Terms). remainder_at (look m) c.args.a ts) (sym (only_term c.args.others.now e c.in-len1.len_at_least c.in-len1.len_below c.b-item.is))

pub remainder-returns-in_err-evaluate : goal.remainder-returns-in_err-evaluate
remainder-returns-in_err-evaluate t c =
    let m = c.args.memory.now in
    let es = c.args.others.now in
    let others : length es ≡ 1 → ⊥ = search rules in
    stops_at c.from_residual-in_err-evaluate.result (evaluated (look m) (terms (map term es))) c.in_err-evaluate.field-0.0 (λ done. Ok (pos 0)) (sym c.evaluate.ensures ∙ c.in_err-evaluate.was {u = tt}) c.from_residual-in_err-evaluate.ensures.1
    ∙ sym (mod_other (look m) c.args.a es others)

pub absolute-returns-in_ok-value : goal.absolute-returns-in_ok-value
absolute-returns-in_ok-value t c =
    let m = c.args.memory.now in
    let e = c.a-item.result in
    let n = c.in_ok-value.field-0 in
    let back : to_z w64 (of_z w64 n) ≡ n = search rules in
    c.abs.ensures
    ∙ ap (λ y. absolute y) back
    ∙ goes_at (value (look m) (term e)) n (λ y. absolute y) (sym c.value.ensures ∙ c.in_ok-value.was {u = tt})
    ∙ ap (λ (ts : Terms). call_at (look m) Abs ts) (sym (only_term c.args.arguments.now e c.in-len1.len_at_least c.in-len1.len_below c.a-item.is))

pub absolute-returns-in_err-evaluate : goal.absolute-returns-in_err-evaluate
absolute-returns-in_err-evaluate t c =
    let m = c.args.memory.now in
    let es = c.args.arguments.now in
    let others : length es ≡ 1 → ⊥ = search rules in
    stops_at c.from_residual-in_err-evaluate.result (evaluated (look m) (terms (map term es))) c.in_err-evaluate.field-0.0 (λ done. Ok (pos 0)) (sym c.evaluate.ensures ∙ c.in_err-evaluate.was {u = tt}) c.from_residual-in_err-evaluate.ensures.1
    ∙ sym (abs_other (look m) es others)

pub absolute-returns-in_ok-evaluate : goal.absolute-returns-in_ok-evaluate
absolute-returns-in_ok-evaluate t c =
    let m = c.args.memory.now in
    let es = c.args.arguments.now in
    let others : length es ≡ 1 → ⊥ = search rules in
    goes_at (evaluated (look m) (terms (map term es))) c.in_ok-evaluate.field-0 (λ done. Ok (pos 0)) (sym c.evaluate.ensures ∙ c.in_ok-evaluate.was {u = tt})
    ∙ sym (abs_other (look m) es others)

pub place-returns-in_err-value-clause-within : goal.place-returns-in_err-value-clause-within
place-returns-in_err-value-clause-within t c = no_value (λ p. p < elements (map extent c.args.dimensions.now)) c.from_residual.result c.in_err-value.field-0.0 c.from_residual.ensures.1

pub place-returns-clause-within : goal.place-returns-clause-within
place-returns-clause-within t c = subst (λ n. IfOk c.place.result (λ p. p < n)) c.loop-subscript.invariant.room c.place.ensures.within

pub target-returns-clause-within : goal.target-returns-clause-within
target-returns-clause-within t c = subst (λ (ds : List Extent). IfOk c.place.result (λ p. p < elements ds)) c.dimensions.ensures.dimensions c.place.ensures.within

pub element-returns : goal.element-returns
element-returns t c =
    let m = c.args.memory.now in
    let a = c.args.access.now in
    let p = c.in_ok-place.place in
    let back : to_z w64 (of_z w64 c.load.result) ≡ c.load.result = search rules in
    ap Ok (back ∙ c.load.ensures ∙ ap (λ (r : Ref). store_in m r.name p) (sym (reference_of a)))
    ∙ goes_at (target (symbols_in m) (store_in m) (access_of a)) p (λ q. Ok (store_in m (access_of a).ref.name q)) (sym c.target.ensures.at ∙ c.in_ok-place.was {u = tt})
    ∙ sym (element_law (symbols_in m) (store_in m) (access_of a))

pub element-returns-in_err-place : goal.element-returns-in_err-place
element-returns-in_err-place t c =
    let m = c.args.memory.now in
    let a = c.args.access.now in
    stops_at c.from_residual.result (target (symbols_in m) (store_in m) (access_of a)) c.in_err-place.field-0.0 (λ q. Ok (store_in m (access_of a).ref.name q)) (sym c.target.ensures.at ∙ c.in_err-place.was {u = tt}) c.from_residual.ensures.1
    ∙ sym (element_law (symbols_in m) (store_in m) (access_of a))

pub value-returns-in-Constant : goal.value-returns-in-Constant
value-returns-in-Constant t c =
    let back : to_z w64 (of_z w64 c.in-Constant.number) ≡ c.in-Constant.number = search rules in
    ap Ok back ∙ constant_value (look c.args.memory.now) c.args.expression.now c.in-Constant.number c.in-Constant.is

pub value-returns-in-Truth : goal.value-returns-in-Truth
value-returns-in-Truth t c =
    let back : to_z w64 (of_z w64 c.truth.result) ≡ c.truth.result = search rules in
    ap Ok (back ∙ c.truth.ensures) ∙ truth_value_of (look c.args.memory.now) c.args.expression.now c.in-Truth.holds c.in-Truth.is

pub value-returns-in-Parameter : goal.value-returns-in-Parameter
value-returns-in-Parameter t c =
    let back : to_z w64 (of_z w64 c.in-Parameter.number) ≡ c.in-Parameter.number = search rules in
    ap Ok back ∙ parameter_value (look c.args.memory.now) c.args.expression.now c.in-Parameter.field-0 c.in-Parameter.number c.in-Parameter.is

pub value-returns-in-Element : goal.value-returns-in-Element
value-returns-in-Element t c = c.element.ensures ∙ element_value (look c.args.memory.now) c.args.expression.now c.in-Element.access c.in-Element.is

pub value-returns-in-Call : goal.value-returns-in-Call
value-returns-in-Call t c = c.call.ensures ∙ call_value (look c.args.memory.now) c.args.expression.now c.in-Call.intrinsic c.in-Call.arguments c.deref.result.now c.in-Call.is c.deref.ensures.value

pub value-returns-in-Parentheses : goal.value-returns-in-Parentheses
value-returns-in-Parentheses t c = c.value.ensures ∙ parentheses_value (look c.args.memory.now) c.args.expression.now c.in-Parentheses.inner c.deref-in-Parentheses.result.now c.in-Parentheses.is c.deref-in-Parentheses.ensures
