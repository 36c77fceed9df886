use Rattle.ec_kernel.proofs.Steps.{park, stands_nowhere}
use Rattle.ec_kernel.proofs.kernel.Kernel.park.Goals as goal

pub insert_by_value-requires-clause-in_no_list : goal.insert_by_value-requires-clause-in_no_list
insert_by_value-requires-clause-in_no_list c =
    stands_nowhere c.self.inside.links c.self.inside.counts.items c.self.inside.next _ c.args.slot c.self.invariant c.self.view_is c.requires.nowhere

pub invariant_of-self : goal.invariant_of-self
invariant_of-self c =
    (park c.self.inside.links c.insert_by_value.new.self c.self.inside.counts.items c.self.inside.next _ c.args.event c.args.value c.args.slot c.self.invariant c.self.view_is c.requires.event_in_range c.requires.not_reached c.insert_by_value.ensures.linked c.insert_by_value.ensures.lists).kept

pub returns-clause-kernel : goal.returns-clause-kernel
returns-clause-kernel c =
    (park c.self.inside.links c.insert_by_value.new.self c.self.inside.counts.items c.self.inside.next _ c.args.event c.args.value c.args.slot c.self.invariant c.self.view_is c.requires.event_in_range c.requires.not_reached c.insert_by_value.ensures.linked c.insert_by_value.ensures.lists).is

pub returns-clause-kept : goal.returns-clause-kept
returns-clause-kept c =
    (park c.self.inside.links c.insert_by_value.new.self c.self.inside.counts.items c.self.inside.next _ c.args.event c.args.value c.args.slot c.self.invariant c.self.view_is c.requires.event_in_range c.requires.not_reached c.insert_by_value.ensures.linked c.insert_by_value.ensures.lists).kernel
