use Rattle.std.proofs.Common.{◌≡◌, ◌+◌, ◌<◌, drop, get_or, length, map, subst, arith}
use Rattle.std.proofs.lemmas.Grind.{common_steps}
use Rattle.std.specs.Prelude.{List}
use Rattle.loop_tree.specs.TreeView.{seen}
use Rattle.placement.specs.Looked.{found_in, occurrence_in}
use Rattle.placement.specs.declared.pairs.Shared.{Shared}
use Rattle.placement.proofs.Analysing.{cut_first, many}
use Rattle.placement.proofs.analysis.look_at_each.Goals as goal

pub returns-then-len-gt-MOST_EVENTS : goal.returns-then-len-gt-MOST_EVENTS
returns-then-len-gt-MOST_EVENTS c =
    let items : List Shared = c.args.pairs.now.shared.items in
    let at = c.loop-first.first-index in
    let x : Shared = c.first-item.result in
    let size = c.len.ensures in
    let big = c.if-len-gt-MOST_EVENTS.true in
    let same = c.deref-first-items.ensures.value in
    many (seen c.args.view.now) c.args.pairs.now 64 (map occurrence_in (drop at items)) (map occurrence_in (drop (at + 1) items)) (occurrence_in x) (found_in c.loop-first.analysis) (found_in c.look.new.analysis)
    (cut_first items at x (subst (λ (xs : List Shared). at < length xs) same c.loop-first-test.true) (subst (λ (xs : List Shared). x ≡ get_or xs at x) same c.first-item.is))
    c.loop-first.invariant.found c.in_ok-look.ensures.found (omega (arith, size, big))

pub loop-first-preserved : goal.loop-first-preserved
loop-first-preserved c = grind (arith, common_steps)
