use Rattle.std.proofs.Common.{◌∙◌, ap, map, sym, Some}
use Rattle.loop_tree.specs.Collecting.{loop_by}
use Rattle.loop_tree.specs.CollectedView.{span}
use Rattle.loop_tree.specs.TreeView.{loops_seen}
use Rattle.loop_tree.specs.View.{occurrence}
use Rattle.loop_tree.specs.declared.collecting.Info.{Info}
use Rattle.loop_tree.proofs.Ends.{loop_found, told_at}
use Rattle.loop_tree.proofs.tree.LoopTree.view.Goals as goal

pub shown-requires : goal.shown-requires
shown-requires c =
    let os = map occurrence c.args.self.now.collected.references.items in
    let is = c.args.self.now.collected.loops.items in
    let info = c.index.result.now in
    told_at (loops_seen c.args.self.now) c.args.number (loop_by os (span info)) c.args.self.now.told
    (loop_found os is c.args.number info c.requires.above c.requires.within ∙ ap (λ (i : Info). Some (loop_by os (span i))) (sym c.index.ensures))
