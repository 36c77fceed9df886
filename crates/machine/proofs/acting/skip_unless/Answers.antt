use Rattle.std.proofs.Common.{rules, ◌≡◌, w64, to_z, of_z}
use Rattle.machine.proofs.Actions.{skip_unless_law}
use Rattle.machine.proofs.acting.skip_unless.Goals as goal

pub returns-in-Some : goal.returns-in-Some
returns-in-Some c line ps cs number index =
    let e = c.in-Some.ensures {u = tt} in
    let r : to_z w64 (of_z w64 c.in-Some.value) ≡ c.in-Some.value = search rules in
    rw c.skip.ensures (skip_unless_law c.args.cursor c.args.n c.skipped.result c.in-Some.value c.args.slots.now ps cs number index e.operand e.within (rw r at c.skipped.ensures))
