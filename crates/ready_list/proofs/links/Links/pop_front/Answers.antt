use Rattle.std.proofs.Common.{refl}
use Rattle.ready_list.proofs.Closing.{popped, first_answered, linked_still}
use Rattle.ready_list.proofs.links.Links.pop_front.Goals as goal

pub invariant_of-self : goal.invariant_of-self
invariant_of-self c =
    (popped c.self.inside.table c.self.inside.slots c.args.list _ _ _ _ _ c.self.invariant c.self.view_is c.requires c.index.result.now c.index.ensures refl c.if-first-self.true c.deref_mut.ensures.value c.index-then-first-self.result.now c.index-then-first-self.ensures refl c.take_from_between.ensures).holds

pub returns-then-first-self-clause-slot : goal.returns-then-first-self-clause-slot
returns-then-first-self-clause-slot c =
    first_answered c.self.inside.table.items c.self.inside.slots c.args.list _ _ c.index.result.now c.self.invariant c.self.view_is c.requires c.index.ensures refl c.if-first-self.true

pub returns-then-first-self-clause-lists : goal.returns-then-first-self-clause-lists
returns-then-first-self-clause-lists c =
    (popped c.self.inside.table c.self.inside.slots c.args.list _ _ _ _ _ c.self.invariant c.self.view_is c.requires c.index.result.now c.index.ensures refl c.if-first-self.true c.deref_mut.ensures.value c.index-then-first-self.result.now c.index-then-first-self.ensures refl c.take_from_between.ensures).is

pub returns-then-first-self-clause-linked : goal.returns-then-first-self-clause-linked
returns-then-first-self-clause-linked c =
    (popped c.self.inside.table c.self.inside.slots c.args.list _ _ _ _ _ c.self.invariant c.self.view_is c.requires c.index.result.now c.index.ensures refl c.if-first-self.true c.deref_mut.ensures.value c.index-then-first-self.result.now c.index-then-first-self.ensures refl c.take_from_between.ensures).linked

pub returns-else-first-self-clause-linked : goal.returns-else-first-self-clause-linked
returns-else-first-self-clause-linked c =
    linked_still c.self.inside.table.items c.self.inside.slots _ c.self.invariant c.self.view_is
