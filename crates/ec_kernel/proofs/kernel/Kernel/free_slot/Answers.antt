use Rattle.ec_kernel.proofs.Steps.{free_slot, stands_nowhere}
use Rattle.ec_kernel.proofs.kernel.Kernel.free_slot.Goals as goal

pub push_back-requires-clause-in_no_list : goal.push_back-requires-clause-in_no_list
push_back-requires-clause-in_no_list c =
    stands_nowhere c.self.inside.links c.self.inside.counts.items c.self.inside.next _ c.args.slot c.self.invariant c.self.view_is c.requires.nowhere

pub returns-clause-kept : goal.returns-clause-kept
returns-clause-kept c =
    (free_slot c.self.inside.links c.push_back.new.self c.self.inside.counts.items c.self.inside.next _ c.args.slot _ c.self.invariant c.self.view_is c.push_back.ensures.linked c.push_back.ensures.lists).kernel
