use Rattle.std.proofs.Common.{◌≡◌, drop}
use Rattle.ast.specs.Store.{value_at}
use Rattle.ast.specs.View.{cells}
use Rattle.ast.proofs.store.Store.value.Given as goal

abbrev pub invariant-loop-cell : goal.invariant-loop-cell
invariant-loop-cell l = value_at (drop l.cell (cells l.self)) l.name.letters l.place ≡ value_at (cells l.self) l.name.letters l.place
