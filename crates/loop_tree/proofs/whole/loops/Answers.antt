use Rattle.std.proofs.Common.{◌∙◌, ap, map, subst, sym}
use Rattle.std.specs.Prelude.{None}
use Rattle.ast.specs.View.{block_view, symbol}
use Rattle.loop_tree.specs.Collecting.{after_block, loops_in, no_collected}
use Rattle.loop_tree.specs.CollectedView.{collected}
use Rattle.loop_tree.specs.Loops.{AreWhole}
use Rattle.loop_tree.specs.declared.collecting.Collected.{Collected}
use Rattle.loop_tree.proofs.Gathered.{lines_gathered, loops_gathered, references_gathered}
use Rattle.loop_tree.proofs.Program.{numbered_whole, told_whole}
use Rattle.loop_tree.proofs.Ranges.{loops_whole}
use Rattle.loop_tree.proofs.whole.loops.Goals as goal

pub new-requires-clause-numbered : goal.new-requires-clause-numbered
new-requires-clause-numbered c =
    numbered_whole (collected c.in_ok-collected.collected) (block_view c.args.program.now.body.items)
    (c.in_ok-collected.ensures ∙ ap (λ ns. after_block None (block_view ns) no_collected) c.deref.ensures.value)
    c.args.program.now.numbered

pub new-requires-clause-told : goal.new-requires-clause-told
new-requires-clause-told c =
    told_whole (collected c.in_ok-collected.collected) (block_view c.args.program.now.body.items) (map symbol c.args.program.now.symbols.items)
    (c.in_ok-collected.ensures ∙ ap (λ ns. after_block None (block_view ns) no_collected) c.deref.ensures.value)
    c.args.program.now.distinct c.args.program.now.placed

pub returns-clause-all : goal.returns-clause-all
returns-clause-all c =
    ap (λ (x : Collected). loops_in (collected x)) c.new.ensures
    ∙ loops_gathered (collected c.in_ok-collected.collected) (block_view c.args.program.now.body.items)
    (c.in_ok-collected.ensures ∙ ap (λ ns. after_block None (block_view ns) no_collected) c.deref.ensures.value)

pub returns-clause-references : goal.returns-clause-references
returns-clause-references c =
    ap (λ (x : Collected). (collected x).references) c.new.ensures
    ∙ references_gathered (collected c.in_ok-collected.collected) (block_view c.args.program.now.body.items)
    (c.in_ok-collected.ensures ∙ ap (λ ns. after_block None (block_view ns) no_collected) c.deref.ensures.value)

pub returns-clause-lines : goal.returns-clause-lines
returns-clause-lines c =
    ap (λ (x : Collected). (collected x).lines) c.new.ensures
    ∙ lines_gathered (collected c.in_ok-collected.collected) (block_view c.args.program.now.body.items)
    (c.in_ok-collected.ensures ∙ ap (λ ns. after_block None (block_view ns) no_collected) c.deref.ensures.value)

pub returns-clause-whole : goal.returns-clause-whole
returns-clause-whole c =
    subst (λ (x : Collected). AreWhole (loops_in (collected x))) (sym c.new.ensures)
    (loops_whole (collected c.in_ok-collected.collected) (block_view c.args.program.now.body.items)
    (c.in_ok-collected.ensures ∙ ap (λ ns. after_block None (block_view ns) no_collected) c.deref.ensures.value))
