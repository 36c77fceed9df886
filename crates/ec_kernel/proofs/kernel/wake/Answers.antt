use Rattle.std.proofs.Common.{◌<◌, length, arith}
use Rattle.ec_kernel.proofs.Waking.{begun, is_out, is_slot, stepped}
use Rattle.ec_kernel.proofs.kernel.wake.Goals as goal

pub loop-slot-init : goal.loop-slot-init
loop-slot-init c = begun c.args.links.now c.args.list c.args.count c.requires.was_linked c.requires.list_in_range

pub push_back-requires-clause-slot_in_range : goal.push_back-requires-clause-slot_in_range
push_back-requires-clause-slot_in_range c =
    is_slot c.loop-slot.links c.pop_front.new.self c.args.list c.args.count c.in-Some.slot c.loop-slot.invariant.linked c.in-Some.ensures c.pop_front.ensures.lists

pub push_back-requires-clause-in_no_list : goal.push_back-requires-clause-in_no_list
push_back-requires-clause-in_no_list c =
    let ll : c.args.list < length c.loop-slot.links.lists = omega (arith, c.loop-slot.invariant.lists, c.requires.list_in_range) in
    is_out c.loop-slot.links c.pop_front.new.self c.args.list c.args.count c.in-Some.slot c.loop-slot.invariant.linked ll c.in-Some.ensures c.pop_front.ensures.lists

pub loop-slot-preserved : goal.loop-slot-preserved
loop-slot-preserved c =
    stepped c.args.links.now c.loop-slot.links c.pop_front.new.self c.push_back.new.self c.args.list c.args.count c.loop-slot.woken c.in-Some.slot c.loop-slot.invariant c.requires.list_in_range c.requires.not_ready c.in-Some.ensures c.pop_front.ensures.lists c.push_back.ensures.lists c.push_back.ensures.linked
