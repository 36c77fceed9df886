use Rattle.std.proofs.Common.{◌≡◌, ◌-◌, ◌+◌, ◌<◌, ℕ, List, nat_eq, map, reverse, drop, subst, sym, length, arith}
use Rattle.indexmap.specs.IndexMap.{get}
use Rattle.ast.specs.Tree.{Statement}
use Rattle.ast.specs.View.{statement}
use Rattle.structure.specs.Backward.{spans_kept}
use Rattle.structure.proofs.Behind.{Gathered, gathered-more}
use Rattle.structure.proofs.Broken.{from-place}
use Rattle.structure.proofs.whole.spans.Goals as goal

pub loop-place-preserved : goal.loop-place-preserved
loop-place-preserved c =
    let before : c.loop-place.place - 1 + 1 ≡ c.loop-place.place = omega (arith, c.loop-place-test.true) in
    let within : c.loop-place.place - 1 < length c.args.statements.now = omega (arith, c.loop-place-test.true, c.loop-place.invariant.within) in
    let item = c.index-statements-place.result in
    let old = c.loop-place.gathered in
    let new = c.note.new.self in
    let cut = from-place c.args.statements.now (c.loop-place.place - 1) item within c.index-statements-place.is in
    let held = subst (λ (n : ℕ). Gathered (get nat_eq old.labels) (reverse old.ends.items) (spans_kept old.spans.items) n (length c.args.statements.now) (map statement (drop n c.args.statements.now))) (sym before) c.loop-place.invariant in
    let all = gathered-more (get nat_eq old.labels) (get nat_eq new.labels) (reverse old.ends.items) (reverse new.ends.items) (spans_kept old.spans.items) (spans_kept new.spans.items)
    (c.loop-place.place - 1) (length c.args.statements.now) (statement item) (map statement (drop (c.loop-place.place - 1 + 1) c.args.statements.now))
    held c.in_ok-note.ensures.labels c.in_ok-note.ensures.ends c.in_ok-note.ensures.spans in
    subst (λ (ss : List Statement). Gathered (get nat_eq new.labels) (reverse new.ends.items) (spans_kept new.spans.items) (c.loop-place.place - 1) (length c.args.statements.now) ss) (sym cut) all
