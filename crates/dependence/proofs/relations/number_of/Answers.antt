use Rattle.std.proofs.Common.{◌∙◌, ap}
use Rattle.dependence.specs.Runs.{runs}
use Rattle.dependence.proofs.Runs.{runs_kept}
use Rattle.dependence.proofs.relations.number_of.Goals as goal

pub returns-clause-kept : goal.returns-clause-kept
returns-clause-kept c rs numbered = ap (λ ks. runs ks rs) c.in_ok-push.ensures.items ∙ runs_kept c.args.different.now.items c.args.relation rs numbered
