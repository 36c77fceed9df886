use Rattle.ec_kernel.proofs.Steps.{next_ready, ready_gone}
use Rattle.ec_kernel.proofs.kernel.Kernel.next_ready.Goals as goal

pub returns-clause-kept : goal.returns-clause-kept
returns-clause-kept c =
    (next_ready c.self.inside.links c.pop_front.new.self c.self.inside.counts.items c.self.inside.next _ c.self.invariant c.self.view_is c.pop_front.ensures.linked c.pop_front.ensures.lists).kernel

pub returns-clause-nowhere : goal.returns-clause-nowhere
returns-clause-nowhere c =
    ready_gone c.self.inside.links c.pop_front.new.self c.self.inside.counts.items c.self.inside.next c.pop_front.result c.self.invariant c.pop_front.ensures.slot c.pop_front.ensures.linked c.pop_front.ensures.lists
