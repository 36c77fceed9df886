use Rattle.std.proofs.Common.{ap, sym, map, arith}
use Rattle.std.proofs.lemmas.List.{length-map}
use Rattle.loop_tree.specs.Collecting.{with_end}
use Rattle.loop_tree.specs.CollectedView.{span}
use Rattle.loop_tree.specs.declared.collecting.Info.{Info}
use Rattle.loop_tree.proofs.Ends.{set_end, no_end}
use Rattle.loop_tree.proofs.collecting.end.Goals as goal

pub returns-then-place-len : goal.returns-then-place-len
returns-then-place-len c =
    set_end c.args.loops.now.items c.args.place c.args.last _ c.index_mut.result.now
    (ap (λ (i : Info). with_end c.args.last (span i)) c.index_mut.ensures.value)
    (let h = c.if-place-len.true in let k = c.len.ensures in omega (arith, h, k))

pub returns-else-place-len : goal.returns-else-place-len
returns-else-place-len c =
    let h = c.if-place-len.false in
    let k = c.len.ensures in
    let m = length-map c.args.loops.now.items span in
    sym (no_end (map span c.args.loops.now.items) c.args.place c.args.last (omega (arith, h, k, m)))
