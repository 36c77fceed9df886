use Rattle.machine.proofs.Actions.{count_out_law}
use Rattle.machine.proofs.acting.count_down.Goals as goal

pub returns-then-counter-eq0-clause-next : goal.returns-then-counter-eq0-clause-next
returns-then-counter-eq0-clause-next c line xs ps number index =
    let e = c.in-Some.ensures {u = tt} in
    rw c.skip.ensures (count_out_law c.args.cursor c.args.n c.in-Some.counter xs ps c.args.counters.now number index e.counter e.within c.if-counter-eq0.true)
