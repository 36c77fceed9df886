use Rattle.std.proofs.Common.{◌∙◌, ◌++◌, [], ◌∷◌, ap, sym, ℕ}
use Rattle.dependence.specs.Runs.{relation_at, runs}
use Rattle.dependence.specs.declared.relation.Relation.{Relation}
use Rattle.dependence.proofs.Runs.{last_run}
use Rattle.dependence.proofs.run.put.Goals as goal

pub returns-clause-pairs : goal.returns-clause-pairs
returns-clause-pairs c ks =
    let pair : ℕ × ℕ × Relation = (c.args.first, c.args.second, relation_at ks c.args.relation) in
    ap (λ rs. runs ks rs) c.in_ok-push-2.ensures.items
    ∙ last_run ks c.pop.new.self.items c.in-Some-longer.longer c.in-Some.last (pair ∷ []) (c.in-Some-longer.ensures.longer ks)
    ∙ ap (λ rs. runs ks rs ++ pair ∷ []) (sym c.in-Some.ensures.items)
