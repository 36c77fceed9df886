use Rattle.std.proofs.Common.{◌∙◌, ap}
use Rattle.loop_tree.specs.Occurrences.{numbered}
use Rattle.loop_tree.specs.TreeView.{seen}
use Rattle.dependence.specs.Tests.{verified}
use Rattle.dependence.proofs.Agreed.{agreed}
use Rattle.dependence.proofs.relating.relate.Goals as goal

pub returns-clause-agreed : goal.returns-clause-agreed
returns-clause-agreed c =
    let l = seen c.args.view.now in
    ap (λ r. verified l c.args.a.0 c.args.b.0 r) c.found.ensures ∙ agreed l (numbered l.references c.args.a.0) (numbered l.references c.args.b.0)
