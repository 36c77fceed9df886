use Rattle.std.proofs.Common.{rules, ◌≡◌, w64, to_z, of_z}
use Rattle.machine.proofs.Actions.{nonzero_law, set_up_law}
use Rattle.machine.proofs.acting.set_up.Goals as goal

pub returns-in-Some-push_counter-clause-next : goal.returns-in-Some-push_counter-clause-next
returns-in-Some-push_counter-clause-next c line ps number index =
    let e = c.in-Some.ensures {u = tt} in
    let p = c.in-Some-push_counter.ensures {u = tt} in
    let r1 : to_z w64 (of_z w64 c.in-Some.m1) ≡ c.in-Some.m1 = search rules in
    let r2 : to_z w64 (of_z w64 c.in-Some.m2) ≡ c.in-Some.m2 = search rules in
    let r3 : to_z w64 (of_z w64 c.in-Some.m3) ≡ c.in-Some.m3 = search rules in
    set_up_law c.args.cursor line c.in-Some-push_counter.inner c.in-Some.m1 c.in-Some.m2 c.in-Some.m3 c.trips.result c.args.slots.now ps c.args.counters.now c.push_counter.new.counters number index e.operands e.within (nonzero_law c.in-Some.m3 c.if-m3-eq0.false) (rw (r1, r2, r3) at c.trips.ensures) (rw r3 at p.stack)
