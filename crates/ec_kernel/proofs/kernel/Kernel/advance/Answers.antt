use Rattle.ec_kernel.proofs.Steps.{advance_read, wakes_read}
use Rattle.ec_kernel.proofs.kernel.Kernel.advance.Goals as goal

pub invariant_of-self : goal.invariant_of-self
invariant_of-self c =
    (advance_read c.self.inside.links c.wake.new.links c.self.inside.counts.items c.self.inside.next _ c.args.event c.index.result.now c.self.invariant c.self.view_is c.requires.event_in_range c.index.ensures c.wake.ensures.linked c.wake.ensures.lists).kept

pub returns-clause-kernel : goal.returns-clause-kernel
returns-clause-kernel c =
    (advance_read c.self.inside.links c.wake.new.links c.self.inside.counts.items c.self.inside.next _ c.args.event c.index.result.now c.self.invariant c.self.view_is c.requires.event_in_range c.index.ensures c.wake.ensures.linked c.wake.ensures.lists).is

pub returns-clause-kept : goal.returns-clause-kept
returns-clause-kept c =
    (advance_read c.self.inside.links c.wake.new.links c.self.inside.counts.items c.self.inside.next _ c.args.event c.index.result.now c.self.invariant c.self.view_is c.requires.event_in_range c.index.ensures c.wake.ensures.linked c.wake.ensures.lists).kernel

pub returns-clause-number : goal.returns-clause-number
returns-clause-number c =
    wakes_read c.self.inside.links c.self.inside.counts.items c.self.inside.next _ c.args.event c.index.result.now _ c.self.view_is c.requires.event_in_range c.index.ensures c.wake.ensures.number
