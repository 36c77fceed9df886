use Rattle.std.proofs.Common.{◌<◌, ◌+◌, length, arith, rules}
use Rattle.ast.specs.View.{shapes}
use Rattle.ast.proofs.Cells.{within}
use Rattle.ast.proofs.store.Store.set.Goals as goal

pub overflow_add-at : goal.overflow_add-at
overflow_add-at c =
    let k = within (shapes c.args.self.now.table) c.args.self.now.numbers.items c.args.cell c.args.place c.requires in
    let s = c.start.ensures in
    let near : c.start.result + c.args.place < length c.args.self.now.numbers.items = omega (arith, k.1, s) in
    search (arith, near)

pub index_mut-requires : goal.index_mut-requires
index_mut-requires c =
    let k = within (shapes c.args.self.now.table) c.args.self.now.numbers.items c.args.cell c.args.place c.requires in
    let s = c.start.ensures in
    let near : c.start.result + c.args.place < length c.args.self.now.numbers.items = omega (arith, k.1, s) in
    search (rules, near)
