use Rattle.std.proofs.Common.{map, refl, subst, Option}
use Rattle.ast.specs.View.{letters}
use Rattle.loop_tree.specs.TreeView.{seen}
use Rattle.placement.specs.Looked.{IsAllFound, all_found}
use Rattle.placement.specs.declared.analysis.Analysis.{Analysis}
use Rattle.placement.proofs.Analysing.{is_analysed, is_none}
use Rattle.placement.proofs.analysis.analyse.Goals as goal

pub returns-in-None : goal.returns-in-None
returns-in-None c =
    let l = seen c.args.view.now in
    let p = c.in_ok-pairs.pairs in
    is_none l (map letters c.args.privates.now) p c.in_ok-pairs.ensures
    (subst (λ (o : Option Analysis). IsAllFound (all_found l p) o) c.in-None.is c.in_ok-look_at_each.ensures)

pub returns : goal.returns
returns c =
    let l = seen c.args.view.now in
    let p = c.in_ok-pairs.pairs in
    let a : Analysis = c.in-Some.analysis in
    let b : Analysis = record { sources = a.sources; kept = c.put_in_order.new.kept; relations = a.relations } in
    is_analysed l (map letters c.args.privates.now) p c.in_ok-pairs.ensures a b
    (subst (λ (o : Option Analysis). IsAllFound (all_found l p) o) c.in-Some.is c.in_ok-look_at_each.ensures)
    refl refl c.put_in_order.ensures.sorted c.put_in_order.ensures.same
