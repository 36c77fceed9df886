use Rattle.std.proofs.Common.{subst, sym, ap, length, ◌<◌}
use Rattle.ready_list.specs.Places.{IsPlaceFor}
use Rattle.ready_list.proofs.Closing.{put_by_value, found_in, after_within, read_node}
use Rattle.ready_list.proofs.links.Links.insert_by_value.Goals as goal

pub index-requires : goal.index-requires
index-requires c =
    subst (λ a. c.place_for-place.result < a) (sym c.self.inside.table.ok.0) (found_in c.self.inside.table.items c.deref.result.now c.self.inside.slots c.args.list c.args.value _ _ c.self.invariant c.self.view_is c.requires.list_in_range c.deref.ensures.value c.place_for-place.ensures)

pub put_between-requires-clause-before_in_range : goal.put_between-requires-clause-before_in_range
put_between-requires-clause-before_in_range c =
    subst (λ a. c.place_for-place.result < length a) (sym c.deref_mut.ensures.value) (found_in c.self.inside.table.items c.deref.result.now c.self.inside.slots c.args.list c.args.value _ _ c.self.invariant c.self.view_is c.requires.list_in_range c.deref.ensures.value c.place_for-place.ensures)

pub put_between-requires-clause-after_in_range : goal.put_between-requires-clause-after_in_range
put_between-requires-clause-after_in_range c =
    after_within c.self.inside.table.items c.deref_mut.result.now c.self.inside.slots c.place_for-place.result c.index.result.now c.self.invariant c.deref_mut.ensures.value (found_in c.self.inside.table.items c.deref.result.now c.self.inside.slots c.args.list c.args.value _ _ c.self.invariant c.self.view_is c.requires.list_in_range c.deref.ensures.value c.place_for-place.ensures) c.index.ensures

pub invariant_of-self : goal.invariant_of-self
invariant_of-self c =
    (put_by_value c.self.inside.table c.self.inside.slots c.args.list c.args.slot c.args.value c.place_for-place.result c.index.result.now.next _ _ _ c.self.invariant c.self.view_is c.requires.list_in_range c.requires.slot_in_range c.requires.in_no_list c.ranges.value.fits c.deref_mut.ensures.value (subst (λ a. IsPlaceFor a c.self.inside.slots c.args.list c.args.value c.place_for-place.result) c.deref.ensures.value c.place_for-place.ensures) (ap (λ a. a.next) (read_node c.self.inside.table.items c.place_for-place.result c.index.result.now (found_in c.self.inside.table.items c.deref.result.now c.self.inside.slots c.args.list c.args.value _ _ c.self.invariant c.self.view_is c.requires.list_in_range c.deref.ensures.value c.place_for-place.ensures) c.index.ensures)) c.put_between.ensures).holds

pub returns-clause-lists : goal.returns-clause-lists
returns-clause-lists c =
    (put_by_value c.self.inside.table c.self.inside.slots c.args.list c.args.slot c.args.value c.place_for-place.result c.index.result.now.next _ _ _ c.self.invariant c.self.view_is c.requires.list_in_range c.requires.slot_in_range c.requires.in_no_list c.ranges.value.fits c.deref_mut.ensures.value (subst (λ a. IsPlaceFor a c.self.inside.slots c.args.list c.args.value c.place_for-place.result) c.deref.ensures.value c.place_for-place.ensures) (ap (λ a. a.next) (read_node c.self.inside.table.items c.place_for-place.result c.index.result.now (found_in c.self.inside.table.items c.deref.result.now c.self.inside.slots c.args.list c.args.value _ _ c.self.invariant c.self.view_is c.requires.list_in_range c.deref.ensures.value c.place_for-place.ensures) c.index.ensures)) c.put_between.ensures).is

pub returns-clause-linked : goal.returns-clause-linked
returns-clause-linked c =
    (put_by_value c.self.inside.table c.self.inside.slots c.args.list c.args.slot c.args.value c.place_for-place.result c.index.result.now.next _ _ _ c.self.invariant c.self.view_is c.requires.list_in_range c.requires.slot_in_range c.requires.in_no_list c.ranges.value.fits c.deref_mut.ensures.value (subst (λ a. IsPlaceFor a c.self.inside.slots c.args.list c.args.value c.place_for-place.result) c.deref.ensures.value c.place_for-place.ensures) (ap (λ a. a.next) (read_node c.self.inside.table.items c.place_for-place.result c.index.result.now (found_in c.self.inside.table.items c.deref.result.now c.self.inside.slots c.args.list c.args.value _ _ c.self.invariant c.self.view_is c.requires.list_in_range c.deref.ensures.value c.place_for-place.ensures) c.index.ensures)) c.put_between.ensures).linked
