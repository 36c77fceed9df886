use Rattle.std.proofs.Common.{◌<◌, ◌+◌, length, arith, rules}
use Rattle.ast.specs.View.{shapes}
use Rattle.ast.proofs.Cells.{within}
use Rattle.ast.proofs.store.Store.load.Goals as goal

pub overflow_add-start : goal.overflow_add-start
overflow_add-start c =
    let k = within (shapes c.args.self.now.table) c.args.self.now.numbers.items c.args.cell c.args.place c.requires in
    let s = c.start.ensures in
    let near : c.start.result + c.args.place < length c.args.self.now.numbers.items = omega (arith, k.1, s) in
    search (arith, near)

pub index-requires : goal.index-requires
index-requires c =
    let k = within (shapes c.args.self.now.table) c.args.self.now.numbers.items c.args.cell c.args.place c.requires in
    let s = c.start.ensures in
    let near : c.start.result + c.args.place < length c.args.self.now.numbers.items = omega (arith, k.1, s) in
    search (rules, near)
