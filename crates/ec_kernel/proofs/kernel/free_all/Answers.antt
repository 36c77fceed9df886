use Rattle.ec_kernel.proofs.Beginning.{nowhere_yet, stepped}
use Rattle.ec_kernel.proofs.kernel.free_all.Goals as goal

pub push_back-requires-clause-in_no_list : goal.push_back-requires-clause-in_no_list
push_back-requires-clause-in_no_list c =
    nowhere_yet c.args.links.now c.loop-slot.links c.loop-slot.slot c.requires.list_in_range c.requires.in_no_list c.loop-slot.invariant

pub loop-slot-preserved : goal.loop-slot-preserved
loop-slot-preserved c =
    stepped c.args.links.now c.loop-slot.links c.push_back.new.self c.loop-slot.slot c.requires.list_in_range c.loop-slot.invariant c.push_back.ensures.linked c.push_back.ensures.lists
