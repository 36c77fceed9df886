use Rattle.std.proofs.Common.{◌∙◌, sym, ap, arith, length}
use Rattle.std.specs.Prelude.{pos}
use Rattle.activities.proofs.Turning.{cell_within}
use Rattle.activities.proofs.main_turn.store_last.Goals as goal

pub set_cell-requires : goal.set_cell-requires
set_cell-requires c =
    record { cell = omega (arith, cell_within c.args.code.now.variables.items c.args.variable (pos 0) c.in-Some.cell c.args.code.now.laid c.args.code.now.distinct (sym c.cell_at.ensures ∙ c.in-Some.is), c.requires.cells, ap (λ xs. length xs) c.deref_mut.ensures.value) }
