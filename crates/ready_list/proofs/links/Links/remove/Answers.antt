use Rattle.std.proofs.Common.{subst, sym, length, ◌<◌}
use Rattle.ready_list.proofs.Closing.{removed, slot_within, before_within, after_within}
use Rattle.ready_list.proofs.links.Links.remove.Goals as goal

pub index-requires : goal.index-requires
index-requires c =
    subst (λ a. c.args.slot < a) (sym c.self.inside.table.ok.0) (slot_within c.self.inside.table.items c.self.inside.slots c.args.slot _ c.self.invariant c.self.view_is c.requires)

pub take_from_between-requires-clause-before_in_range : goal.take_from_between-requires-clause-before_in_range
take_from_between-requires-clause-before_in_range c =
    before_within c.self.inside.table.items c.deref_mut.result.now c.self.inside.slots c.args.slot c.index.result.now c.self.invariant c.deref_mut.ensures.value (slot_within c.self.inside.table.items c.self.inside.slots c.args.slot _ c.self.invariant c.self.view_is c.requires) c.index.ensures

pub take_from_between-requires-clause-after_in_range : goal.take_from_between-requires-clause-after_in_range
take_from_between-requires-clause-after_in_range c =
    after_within c.self.inside.table.items c.deref_mut.result.now c.self.inside.slots c.args.slot c.index.result.now c.self.invariant c.deref_mut.ensures.value (slot_within c.self.inside.table.items c.self.inside.slots c.args.slot _ c.self.invariant c.self.view_is c.requires) c.index.ensures

pub take_from_between-requires-clause-slot_in_range : goal.take_from_between-requires-clause-slot_in_range
take_from_between-requires-clause-slot_in_range c =
    subst (λ a. c.args.slot < length a) (sym c.deref_mut.ensures.value) (slot_within c.self.inside.table.items c.self.inside.slots c.args.slot _ c.self.invariant c.self.view_is c.requires)

pub invariant_of-self : goal.invariant_of-self
invariant_of-self c =
    (removed c.self.inside.table c.self.inside.slots c.args.slot _ _ _ c.self.invariant c.self.view_is c.requires c.deref_mut.ensures.value c.index.result.now c.index.ensures c.take_from_between.ensures).holds

pub returns-clause-lists : goal.returns-clause-lists
returns-clause-lists c =
    (removed c.self.inside.table c.self.inside.slots c.args.slot _ _ _ c.self.invariant c.self.view_is c.requires c.deref_mut.ensures.value c.index.result.now c.index.ensures c.take_from_between.ensures).is

pub returns-clause-linked : goal.returns-clause-linked
returns-clause-linked c =
    (removed c.self.inside.table c.self.inside.slots c.args.slot _ _ _ c.self.invariant c.self.view_is c.requires c.deref_mut.ensures.value c.index.result.now c.index.ensures c.take_from_between.ensures).linked
