use Rattle.std.proofs.Common.{◌≡◌, List, map, subst, None}
use Rattle.ast.specs.Tree.{Statement}
use Rattle.ast.specs.View.{statement}
use Rattle.structure.specs.Standing.{standing, rule_by}
use Rattle.structure.proofs.Broken.{Reached, reached-none, reached-more, reached-broken, from-place}
use Rattle.structure.proofs.whole.keep_rules.Goals as goal

pub loop-stmt-init : goal.loop-stmt-init
loop-stmt-init c = reached-none _ _ c.new-structure.ensures

pub returns-in-Some-clause-refused : goal.returns-in-Some-clause-refused
returns-in-Some-clause-refused c =
    let place = from-place c.args.statements.now c.loop-stmt.stmt-index c.stmt-item.result c.loop-stmt-test.true c.stmt-item.is in
    let at = subst (λ (left : List Statement). Reached (standing c.loop-stmt.structure) (map statement c.args.statements.now) left) place c.loop-stmt.invariant in
    let broken = c.in_ok-rule.ensures.rule in
    reached-broken c.in-Some.rule at cc

pub loop-stmt-preserved : goal.loop-stmt-preserved
loop-stmt-preserved c =
    let place = from-place c.args.statements.now c.loop-stmt.stmt-index c.stmt-item.result c.loop-stmt-test.true c.stmt-item.is in
    let at = subst (λ (left : List Statement). Reached (standing c.loop-stmt.structure) (map statement c.args.statements.now) left) place c.loop-stmt.invariant in
    let rule = c.in_ok-rule.ensures.rule in
    let none = c.in_default.is in
    reached-more {s = statement c.stmt-item.result} at (let q : rule_by (standing c.loop-stmt.structure) (statement c.stmt-item.result) ≡ None = cc in q) (c.in_ok-rule.ensures.kept none)
