use Rattle.std.proofs.Common.{◌≡◌, ◌∙◌, ◌+◌, ◌-◌, ◌<◌, List, length, slice_index_or, slice_set, take, sym, ap, rules, arith, w64, to_z, of_z}
use Rattle.std.specs.Prelude.{ℤ, pos}
use Rattle.stretches.specs.Notes.{undone}
use Rattle.stretches.specs.declared.note.Note.{Note}
use Rattle.stretches.proofs.Appending.{before_none, undone_more}
use Rattle.stretches.proofs.comparing.undo.Goals as goal

pub loop-left-preserved-then-note-cells : goal.loop-left-preserved-then-note-cells
loop-left-preserved-then-note-cells c =
    let i = c.loop-left.left - 1 in
    let ns = c.args.notes.now in
    let d : Note = record { cell = 0; was = pos 0; is = pos 0 } in
    let n : Note = slice_index_or ns i d in
    let v = c.loop-left.invariant in
    let e : c.loop-left.left ≡ i + 1 = omega arith in
    let h : i < length ns = omega (arith, v.0) in
    let r : to_z w64 (of_z w64 n.was) ≡ n.was = search rules in (
      omega (arith, v.0),
      ap (λ (x : ℤ). undone (take i ns) (slice_set c.loop-left.cells n.cell x)) r
          ∙ sym (undone_more ns i c.loop-left.left d c.loop-left.cells e h)
          ∙ v.1,
    )

pub loop-left-preserved : goal.loop-left-preserved
loop-left-preserved c =
    let i = c.loop-left.left - 1 in
    let ns = c.args.notes.now in
    let d : Note = record { cell = 0; was = pos 0; is = pos 0 } in
    let n : Note = slice_index_or ns i d in
    let v = c.loop-left.invariant in
    let e : c.loop-left.left ≡ i + 1 = omega arith in
    let h : i < length ns = omega (arith, v.0) in
    let far = before_none n c.loop-left.cells (search rules) in (
      omega (arith, v.0),
      ap (λ (ds : List ℤ). undone (take i ns) ds) (sym far)
          ∙ sym (undone_more ns i c.loop-left.left d c.loop-left.cells e h)
          ∙ v.1,
    )
