use Rattle.std.proofs.Common.{◌∙◌, ap}
use Rattle.dependence.specs.Runs.{runs}
use Rattle.dependence.specs.declared.run.Run.{Run}
use Rattle.dependence.proofs.Runs.{runs_more}
use Rattle.dependence.proofs.run.begin.Goals as goal

pub returns-clause-pairs : goal.returns-clause-pairs
returns-clause-pairs c ks =
    let one : Run = record { first = c.args.first; second = c.args.second; step = 1; count = 1; relation = c.args.relation } in
    ap (λ rs. runs ks rs) c.in_ok-push.ensures.items ∙ runs_more ks c.args.runs.now.items one
