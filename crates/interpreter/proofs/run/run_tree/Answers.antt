use Rattle.std.proofs.Common.{List, map, sym, subst}
use Rattle.ast.specs.Symbols.{Symbol}
use Rattle.ast.specs.View.{block_view, symbol}
use Rattle.ast.specs.declared.tree.Node.{Node}
use Rattle.tree_run.specs.Placed.{PlacedBlock}
use Rattle.tree_run.proofs.Placing.{placed}
use Rattle.interpreter.proofs.run.run_tree.Goals as goal

pub exec_block-answered-requires : goal.exec_block-answered-requires
exec_block-answered-requires c =
    let p = c.args.program.now in
    let ss = map symbol p.symbols.items in
    record {
      placed =
          subst (λ (symbols : List Symbol). PlacedBlock symbols (block_view c.deref.result.now)) (sym c.in_ok-machine.ensures.symbols)
          (subst (λ (nodes : List Node). PlacedBlock ss (block_view nodes)) (sym c.deref.ensures.value) (placed ss (block_view p.body.items) p.placed));
    }
