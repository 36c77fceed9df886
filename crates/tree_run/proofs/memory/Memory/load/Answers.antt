use Rattle.std.proofs.Common.{◌≡◌, ◌∙◌, sym, arith, w64, to_z, of_z, rules}
use Rattle.ast.specs.View.{cells, ref}
use Rattle.tree_run.specs.View.{symbols_in}
use Rattle.tree_run.proofs.Cells.{loaded}
use Rattle.tree_run.proofs.Seats.{seat}
use Rattle.tree_run.proofs.memory.Memory.load.Goals as goal

pub load-requires : goal.load-requires
load-requires c =
    let m = c.args.self.now in
    let s = seat (symbols_in m) (cells m.store) (ref c.args.reference.now) m.fits m.distinct c.requires.placed in
    omega (arith, c.requires.within, s.room)

pub returns : goal.returns
returns c =
    let m = c.args.self.now in
    let r = ref c.args.reference.now in
    let s = seat (symbols_in m) (cells m.store) r m.fits m.distinct c.requires.placed in
    let exact : to_z w64 (of_z w64 c.load.result) ≡ c.load.result = search rules in
    exact ∙ c.load.ensures ∙ sym (loaded (cells m.store) r.cell c.args.place r.name s.distinct s.within s.named)
