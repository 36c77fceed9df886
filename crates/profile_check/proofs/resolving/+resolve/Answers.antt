use Rattle.std.proofs.Common.{◌∙◌, ap, map, ℕ, List, ◌+◌, ◌++◌, length, take, drop, ◌<◌, subst, sym, arith}
use Rattle.std.proofs.Math.ListN.{set}
use Rattle.ast.specs.declared.expression.Expr.{Expr}
use Rattle.profile_check.proofs.Weights.{weight_all, weight_at, weight_drop}
use Rattle.profile_check.proofs.Turns.{count_at, tree_turn, count_turn, rest_turn, bound_turn}
use Rattle.std.proofs.lemmas.List.{length-map}
use Rattle.ast.specs.Spelling.{intrinsic_named}
use Rattle.ast.specs.Tree.{Terms, terms}
use Rattle.ast.specs.View.{ref, term}
use Rattle.profile_check.specs.Resolving as spec
use Rattle.profile_check.specs.ResolvingView.{table_of}
use Rattle.profile_check.proofs.Positions.{list_element}
use Rattle.profile_check.proofs.resolving.+resolve.Goals as goal

pub resolve_listed-returns-clause-tree : goal.resolve_listed-returns-clause-tree
resolve_listed-returns-clause-tree t c =
    let table = table_of c.args.declarations.now in
    let access = c.args.access.now in
    let r = ref access.reference in
    let f = intrinsic_named access.reference.name.letters in
    let es = terms (map term c.resolve_terms-after.new.list.items) in
    let some : 0 < length (map term access.subscripts.items) = subst (λ (n : ℕ). 0 < n) (sym (length-map access.subscripts.items term)) c.requires.some in
    c.resolve_name.ensures.tree
    ∙ ap (λ (n : ℕ). spec.list_at table n r es f) c.resolve_terms-after.ensures.after
    ∙ ap (λ (xs : Terms). spec.with_list table c.args.next r xs f) c.resolve_terms-after.ensures.tree
    ∙ list_element table c.args.next r (map term access.subscripts.items) some

pub resolve_all-loop-place-preserved : goal.resolve_all-loop-place-preserved
resolve_all-loop-place-preserved t c =
    let xs = c.loop-place.list in
    let i = c.loop-place.place-index in
    let y = c.resolve-after.new.expression in
    let here : i < length xs = omega (arith, c.loop-place-test.true, c.loop-place.auto.list) in
    let table = table_of c.args.declarations.now in
    record {
      tree = ap (λ (n : ℕ). map term (take (i + 1) (set xs i y)) ++ spec.list_resolved table n (map term (drop (i + 1) (set xs i y)))) c.resolve-after.ensures.after ∙ tree_turn term spec.count (λ m e. spec.resolved table m e) c.loop-place.after xs i y c.place-item.result here c.resolve-after.ensures.tree ∙ c.loop-place.invariant.tree;
      after = omega (arith, c.resolve-after.ensures.after, c.loop-place.invariant.after, count_turn term spec.count xs i y here);
      rest = rest_turn xs c.args.list.now i y c.loop-place.invariant.rest;
      bound = omega (arith, c.resolve-after.ensures.bound, c.loop-place.invariant.bound, bound_turn term spec.count xs i y, count_at term spec.count xs i c.place-item.result here);
    }

pub resolve_all-resolve-after-requires : goal.resolve_all-resolve-after-requires
resolve_all-resolve-after-requires t c =
    let xs = c.loop-place.list in
    let i = c.loop-place.place-index in
    let here : i < length xs = omega (arith, c.loop-place-test.true, c.loop-place.auto.list) in
    let rest = ap (λ (ys : List Expr). weight_all (map term ys)) c.loop-place.invariant.rest in (
      omega (arith, weight_at xs i c.place-item.result here, rest, weight_drop c.args.list.now i),
      omega (arith, c.requires, c.loop-place.invariant.bound, count_at term spec.count xs i c.place-item.result here),
    )
