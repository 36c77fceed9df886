use Rattle.ec_kernel.proofs.Steps.{take_ready, taken_gone, stands_somewhere}
use Rattle.ec_kernel.proofs.kernel.Kernel.take_ready.Goals as goal

pub remove-requires : goal.remove-requires
remove-requires c =
    stands_somewhere c.self.inside.links c.self.inside.counts.items c.self.inside.next _ c.args.slot c.self.view_is c.requires

pub invariant_of-self : goal.invariant_of-self
invariant_of-self c =
    (take_ready c.self.inside.links c.remove.new.self c.self.inside.counts.items c.self.inside.next _ c.args.slot c.self.invariant c.self.view_is c.requires c.remove.ensures.linked c.remove.ensures.lists).kept

pub returns-clause-kernel : goal.returns-clause-kernel
returns-clause-kernel c =
    (take_ready c.self.inside.links c.remove.new.self c.self.inside.counts.items c.self.inside.next _ c.args.slot c.self.invariant c.self.view_is c.requires c.remove.ensures.linked c.remove.ensures.lists).is

pub returns-clause-kept : goal.returns-clause-kept
returns-clause-kept c =
    (take_ready c.self.inside.links c.remove.new.self c.self.inside.counts.items c.self.inside.next _ c.args.slot c.self.invariant c.self.view_is c.requires c.remove.ensures.linked c.remove.ensures.lists).kernel

pub returns-clause-nowhere : goal.returns-clause-nowhere
returns-clause-nowhere c =
    taken_gone c.self.inside.links c.remove.new.self c.self.inside.counts.items c.self.inside.next _ c.args.slot c.self.invariant c.self.view_is c.requires c.remove.ensures.linked c.remove.ensures.lists
