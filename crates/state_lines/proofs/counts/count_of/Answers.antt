use Rattle.std.proofs.Common.{◌∙◌, ◌≤◌, ◌<◌, arith, length}
use Rattle.state_lines.proofs.Seen.{beyond, counted, not_counted}
use Rattle.state_lines.proofs.counts.count_of.Goals as goal
use Rattle.state_lines.proofs.counts.count_of.Goals.{then-event-eq0-via-then-event-eq0, then-event-eq0-via-else-event-eq0+then-event-gt-MOST_EVENTS}

pub returns-then-event-eq0 : goal.returns-then-event-eq0
returns-then-event-eq0 c =
    let xs = c.args.activities.now.shared.kernel.counts in
    elim c.then-event-eq0.branch [
      | then-event-eq0-via-then-event-eq0 w ↦ not_counted xs c.args.event (omega (arith, w.if-event-eq0))
      | then-event-eq0-via-else-event-eq0+then-event-gt-MOST_EVENTS w ↦ beyond xs c.args.event (omega (arith, w.if-event-gt-MOST_EVENTS, c.requires.stand.core.counts))
    ]

pub returns : goal.returns
returns c =
    let some : 0 < c.args.event = omega (arith, c.if-event-eq0.false) in
    c.read.ensures ∙ counted c.args.activities.now.shared.kernel.counts c.args.event some
