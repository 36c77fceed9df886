use Rattle.std.proofs.Common.{arith, ap, length}
use Rattle.std.proofs.lemmas.List.{length-map}
use Rattle.std.proofs.lemmas.Option.{slice_get_within}
use Rattle.machine.specs.CodeView.{code_of, loop_of}
use Rattle.machine.proofs.Naming.{cells_below}
use Rattle.std.proofs.lemmas.Grind.{common_steps}
use Rattle.activities.proofs.turn.iteration_turn.Goals as goal

pub load-requires-clause-cell : goal.load-requires-clause-cell
load-requires-clause-cell c =
    let t = rw c.in-Load.is at c.requires.tells in
    omega (arith, cells_below c.args.code.now.variables.items t.0.name t.0.place c.in-Load.cell c.args.code.now.laid t.1, c.requires.may.cells, ap (λ xs. length xs) c.deref.ensures.value)

pub store-requires-clause-cell : goal.store-requires-clause-cell
store-requires-clause-cell c =
    let t = rw c.in-Store.is at c.requires.tells in
    omega (arith, cells_below c.args.code.now.variables.items t.0.name t.0.place c.in-Store.cell c.args.code.now.laid t.1, c.requires.may.cells, ap (λ xs. length xs) c.deref_mut-in-Store-2.ensures.value)

pub retire-requires-clause-number : goal.retire-requires-clause-number
retire-requires-clause-number c =
    let t = rw c.in-Retire.is at c.requires.tells in
    omega (arith, slice_get_within (code_of c.args.code.now).loops c.in-Retire.number t.0 t.1, length-map c.args.code.now.loops.items loop_of)

pub returns-in-Await-clause-ok : goal.returns-in-Await-clause-ok
returns-in-Await-clause-ok c = rw c.in-Await.is (c.await_event.ensures.after (code_of c.args.code.now))

pub returns-in-Advance-clause-ok : goal.returns-in-Advance-clause-ok
returns-in-Advance-clause-ok c = rw c.in-Advance.is (c.advance.ensures.after (code_of c.args.code.now) c.args.slot)

pub returns-in-Store-clause-ok : goal.returns-in-Store-clause-ok
returns-in-Store-clause-ok c = grind (arith, common_steps)
