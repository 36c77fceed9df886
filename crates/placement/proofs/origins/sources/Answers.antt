use Rattle.std.proofs.Common.{map}
use Rattle.std.proofs.lemmas.Result.{IfOk-weaker}
use Rattle.ast.specs.View.{letters}
use Rattle.loop_tree.specs.TreeView.{seen}
use Rattle.placement.proofs.Many.{are_sources}
use Rattle.placement.proofs.origins.sources.Goals as goal

pub returns : goal.returns
returns c =
    IfOk-weaker c.sources_among.result _ _
    (λ v is privates. are_sources (seen c.args.view.now) (map letters c.args.privates.now) c.in_ok-pairs.pairs v.items c.in_ok-pairs.ensures is privates)
    c.sources_among.ensures
