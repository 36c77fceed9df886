use Rattle.ready_list.proofs.Fresh.{fresh_after}
use Rattle.ready_list.proofs.links.Links.new.Goals as goal

pub invariant_of-result : goal.invariant_of-result
invariant_of-result c =
    (fresh_after c.in_ok-table.table.items c.add_heads.new.table.items c.args.slots c.args.lists c.ranges.slots.fits c.in_ok-table.ensures c.in_ok-add_heads.ensures).holds

pub returns-clause-lists : goal.returns-clause-lists
returns-clause-lists c =
    (fresh_after c.in_ok-table.table.items c.add_heads.new.table.items c.args.slots c.args.lists c.ranges.slots.fits c.in_ok-table.ensures c.in_ok-add_heads.ensures).is

pub returns-clause-linked : goal.returns-clause-linked
returns-clause-linked c =
    (fresh_after c.in_ok-table.table.items c.add_heads.new.table.items c.args.slots c.args.lists c.ranges.slots.fits c.in_ok-table.ensures c.in_ok-add_heads.ensures).linked
