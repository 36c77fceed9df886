use Rattle.ready_list.proofs.Searching.{begun, stepped, ended}
use Rattle.ready_list.proofs.table.place_for.Goals as goal

pub loop-place-init : goal.loop-place-init
loop-place-init c =
    begun c.args.table.now c.args.slots c.args.list c.args.value c.requires.holds c.requires.list_in_range

pub loop-place-smaller : goal.loop-place-smaller
loop-place-smaller c =
    (stepped c.args.table.now c.args.slots c.args.list c.args.value c.loop-place.place c.requires.holds c.requires.list_in_range c.loop-place.invariant c.loop-place-test.true).less

pub loop-place-preserved : goal.loop-place-preserved
loop-place-preserved c =
    (stepped c.args.table.now c.args.slots c.args.list c.args.value c.loop-place.place c.requires.holds c.requires.list_in_range c.loop-place.invariant c.loop-place-test.true).tried

pub returns : goal.returns
returns c =
    ended c.args.table.now c.args.slots c.args.list c.args.value c.loop-place.place c.requires.holds c.requires.list_in_range c.loop-place.invariant c.loop-place-test.false
