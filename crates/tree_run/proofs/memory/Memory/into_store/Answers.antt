use Rattle.ast.specs.View.{cells}
use Rattle.tree_run.specs.View.{symbols_in}
use Rattle.tree_run.proofs.Cells.{told}
use Rattle.tree_run.proofs.memory.Memory.into_store.Goals as goal

pub returns : goal.returns
returns c =
    let m = c.args.self in
    told (cells m.store) (symbols_in m) m.fits m.distinct
