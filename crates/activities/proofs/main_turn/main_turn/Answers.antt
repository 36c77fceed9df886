use Rattle.std.proofs.Common.{arith, ap, length}
use Rattle.machine.specs.CodeView.{code_of}
use Rattle.machine.proofs.Naming.{cells_below}
use Rattle.std.proofs.lemmas.Grind.{common_steps}
use Rattle.activities.proofs.main_turn.main_turn.Goals as goal

pub load-requires-clause-cell : goal.load-requires-clause-cell
load-requires-clause-cell c =
    let t = rw c.in-Load.is at c.requires.tells in
    omega (arith, cells_below c.args.code.now.variables.items t.0.name t.0.place c.in-Load.cell c.args.code.now.laid t.1, c.requires.may.cells, ap (λ xs. length xs) c.deref.ensures.value)

pub store-requires-clause-cell : goal.store-requires-clause-cell
store-requires-clause-cell c =
    let t = rw c.in-Store.is at c.requires.tells in
    omega (arith, cells_below c.args.code.now.variables.items t.0.name t.0.place c.in-Store.cell c.args.code.now.laid t.1, c.requires.may.cells, ap (λ xs. length xs) c.deref_mut.ensures.value)

pub returns-in-Opens-clause-ok : goal.returns-in-Opens-clause-ok
returns-in-Opens-clause-ok c xs hs h = rw c.in-Opens.is (c.open.ensures.after (code_of c.args.code.now) xs hs h)

pub returns-in-Store-clause-ok : goal.returns-in-Store-clause-ok
returns-in-Store-clause-ok c = grind (arith, common_steps)
