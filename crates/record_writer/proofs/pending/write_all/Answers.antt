use Rattle.std.proofs.Common.{arith, ◌≡◌, ◌≤◌, ◌+◌, ◌-◌, ◌++◌, take, drop, length}
use Rattle.std.proofs.lemmas.Grind.{common_steps}
use Rattle.std.proofs.Math.Seq.{take-add}
use Rattle.std.proofs.KnownBytes.{Appends-trans}
use Rattle.record_writer.proofs.pending.write_all.Goals as goal

pub loop-done-preserved : goal.loop-done-preserved
loop-done-preserved g c =
    let text = c.args.text.now in
    let done = c.loop-done.done in
    let taken = c.in_ok-taken.taken in
    let rest : take (length text - done) (drop done text) ≡ drop done text = grind (arith, common_steps) in
    let bound : taken ≤ length (drop done text) = rw rest at c.in_ok-taken.ensures.bound in
    let bytes = rw rest at c.in_ok-taken.ensures.bytes in
    let joined = Appends-trans (g.W.Write.contents c.args.writer.now) (g.W.Write.contents c.loop-done.writer) (g.W.Write.contents c.write.new.self) (take done text) (take taken (drop done text)) c.loop-done.invariant.1 bytes in
    let whole : take (done + taken) text ≡ take done text ++ take taken (drop done text) = take-add done taken text in
    (grind (arith, common_steps, bound, c.loop-done.invariant.0), rw whole joined)
