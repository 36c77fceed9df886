use Rattle.std.proofs.Common.{◌≡◌, ◌∙◌, ap, arith, List, ℕ, w64, to_z, of_z, rules}
use Rattle.std.specs.Prelude.{ℤ}
use Rattle.ast.specs.Store.{store_of, put}
use Rattle.ast.specs.View.{cells, ref}
use Rattle.tree_run.specs.Shapes.{shapes_in}
use Rattle.tree_run.specs.View.{symbols_in}
use Rattle.tree_run.proofs.Cells.{written, shapes_kept}
use Rattle.tree_run.proofs.Seats.{seat}
use Rattle.tree_run.proofs.memory.Memory.set.Goals as goal

pub set-requires : goal.set-requires
set-requires c =
    let m = c.args.self.now in
    let s = seat (symbols_in m) (cells m.store) (ref c.args.reference.now) m.fits m.distinct c.requires.placed in
    omega (arith, c.requires.within, s.room)

pub invariant_of-self : goal.invariant_of-self
invariant_of-self c =
    let m = c.args.self.now in
    record {
      fits = ap (λ (cs : List (List ℕ × List ℤ)). shapes_in cs) c.set.ensures ∙ shapes_kept (cells m.store) c.args.reference.now.cell c.args.place (to_z w64 (of_z w64 c.args.value)) ∙ m.fits;
      distinct = m.distinct;
      sized = m.sized;
    }

pub returns-clause-store : goal.returns-clause-store
returns-clause-store c =
    let m = c.args.self.now in
    let r = ref c.args.reference.now in
    let s = seat (symbols_in m) (cells m.store) r m.fits m.distinct c.requires.placed in
    let v = to_z w64 (of_z w64 c.args.value) in
    let exact : v ≡ c.args.value = search rules in
    ap (λ (cs : List (List ℕ × List ℤ)). store_of cs) c.set.ensures
    ∙ written (cells m.store) r.cell c.args.place v r.name s.distinct s.within s.named (omega (arith, c.requires.within, s.room))
    ∙ ap (λ (z : ℤ). put (store_of (cells m.store)) r.name c.args.place z) exact
