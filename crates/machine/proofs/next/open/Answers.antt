use Rattle.std.proofs.Common.{◌≡◌, ◌∙◌, ◌<◌, Some, ap, sym, arith, length, rules, w64, to_z, of_z}
use Rattle.std.specs.Prelude.{map, slice_get}
use Rattle.std.proofs.lemmas.List.{length-drop}
use Rattle.machine.specs.CodeView.{code_of, loop_of}
use Rattle.machine.specs.FrameView.{frame_of}
use Rattle.machine.proofs.Actions.{nonzero_law}
use Rattle.machine.proofs.Telling.{mapped_get, open_law}
use Rattle.machine.proofs.next.open.Goals as goal

pub returns-in-Some : goal.returns-in-Some
returns-in-Some c =
    let f = c.args.frame.now in
    let l = c.index-loops-at.result in
    let e = c.in-Some.ensures {u = tt} in
    let w = rw c.as_slice.ensures at e.within in
    let r : to_z w64 (of_z w64 c.in-Some.first) ≡ c.in-Some.first = search rules in
    let r2 : to_z w64 (of_z w64 c.in-Some.last) ≡ c.in-Some.last = search rules in
    let v = c.as_slice-loops.ensures.value in
    let k = rw v at c.index-loops-at.is in
    let r3 : to_z w64 (of_z w64 l.step) ≡ l.step = search rules in
    let h : c.args.number < length c.args.code.now.loops.items = omega (arith, ap (λ xs. length xs) v) in
    let g : slice_get (map loop_of c.args.code.now.loops.items) c.args.number ≡ Some (loop_of l) = mapped_get loop_of c.args.code.now.loops.items c.args.number l h ∙ ap (λ x. Some (loop_of x)) (sym k) in
    let t = rw (v, ← k, r, r2, r3) at c.trips.ensures in (
      rw r (open_law (code_of c.args.code.now) c.args.number c.trips.result (loop_of l) (frame_of f) c.in-Some.first c.in-Some.last g (sym (rw c.as_slice.ensures at e.operands)) (nonzero_law l.step (rw (v, ← k) at c.if-step-eq0.false)) t),
      (c.requires.place, omega (arith, w, length-drop f.top f.slots.items)),
    )
