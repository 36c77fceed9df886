use Rattle.std.proofs.Common.{◌≡◌, map, drop}
use Rattle.ast.specs.View.{letters, item}
use Rattle.plan_check.specs.KnownView.{known as known_of}
use Rattle.plan_check.specs.SeenView.{seen as seen_of}
use Rattle.plan_check.specs.Walking as spec
use Rattle.plan_check.proofs.terms.pass_items.Given as goal

abbrev pub invariant-loop-item : goal.invariant-loop-item
invariant-loop-item l =
    spec.seen_items (map letters l.privates) (map item (drop l.item-index l.items)) (known_of l.known) (seen_of l.seen)
    ≡ spec.seen_items (map letters l.privates) (map item l.items) (known_of l.known) (seen_of l.fn.seen)
