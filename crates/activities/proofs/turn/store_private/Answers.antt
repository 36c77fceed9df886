use Rattle.std.proofs.Common.{◌∙◌, ◌<◌, sym, arith, rules, length}
use Rattle.std.specs.Prelude.{pos}
use Rattle.activities.proofs.Turning.{cell_within}
use Rattle.activities.proofs.turn.store_private.Goals as goal

pub bounds-cells-cell : goal.bounds-cells-cell
bounds-cells-cell c =
    omega (arith, cell_within c.args.code.now.variables.items c.args.variable (pos 0) c.in-Some-cell.cell c.args.code.now.laid c.args.code.now.distinct (sym c.cell.ensures ∙ c.in-Some-cell.is), c.requires.cells)

pub offset_bounds-cells-cell : goal.offset_bounds-cells-cell
offset_bounds-cells-cell c =
    let h : c.in-Some-cell.cell < length c.args.cells.now = omega (arith, cell_within c.args.code.now.variables.items c.args.variable (pos 0) c.in-Some-cell.cell c.args.code.now.laid c.args.code.now.distinct (sym c.cell.ensures ∙ c.in-Some-cell.is), c.requires.cells) in
    search rules
