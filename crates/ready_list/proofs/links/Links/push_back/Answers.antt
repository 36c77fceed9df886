use Rattle.std.proofs.Common.{refl}
use Rattle.ready_list.proofs.Closing.{pushed_back}
use Rattle.ready_list.proofs.links.Links.push_back.Goals as goal

pub invariant_of-self : goal.invariant_of-self
invariant_of-self c =
    (pushed_back c.self.inside.table c.self.inside.slots c.args.list c.args.slot _ _ _ _ c.self.invariant c.self.view_is c.requires.list_in_range c.requires.slot_in_range c.requires.in_no_list c.deref_mut.ensures.value c.index.result.now c.index.ensures refl c.put_between.ensures).holds

pub returns-clause-lists : goal.returns-clause-lists
returns-clause-lists c =
    (pushed_back c.self.inside.table c.self.inside.slots c.args.list c.args.slot _ _ _ _ c.self.invariant c.self.view_is c.requires.list_in_range c.requires.slot_in_range c.requires.in_no_list c.deref_mut.ensures.value c.index.result.now c.index.ensures refl c.put_between.ensures).is

pub returns-clause-linked : goal.returns-clause-linked
returns-clause-linked c =
    (pushed_back c.self.inside.table c.self.inside.slots c.args.list c.args.slot _ _ _ _ c.self.invariant c.self.view_is c.requires.list_in_range c.requires.slot_in_range c.requires.in_no_list c.deref_mut.ensures.value c.index.result.now c.index.ensures refl c.put_between.ensures).linked
