use Rattle.std.proofs.Common.{◌≡◌, ◌∙◌, false, List, slice_index_or, sym, ap, rules, arith}
use Rattle.std.specs.Prelude.{ℤ, pos, true}
use Rattle.stretches.specs.Notes.{holds}
use Rattle.stretches.specs.declared.note.Note.{Note}
use Rattle.stretches.proofs.Appending.{by_more, hold_more, stops}
use Rattle.stretches.proofs.comparing.make.Goals as goal

pub returns-then-not-is_right-clause-stops : goal.returns-then-not-is_right-clause-stops
returns-then-not-is_right-clause-stops c h =
    let i = c.loop-made.made in
    let ns = c.args.notes.now in
    let d : Note = record { cell = 0; was = pos 0; is = pos 0 } in
    let n : Note = slice_index_or ns i d in
    let wrong : holds n c.loop-made.cells ≡ false = search rules in
    stops ns i d c.args.cells.now h (ap (λ (ds : List ℤ). holds n ds) (sym c.loop-made.invariant.2) ∙ wrong)

pub loop-made-preserved : goal.loop-made-preserved
loop-made-preserved c =
    let i = c.loop-made.made in
    let ns = c.args.notes.now in
    let cells = c.args.cells.now in
    let d : Note = record { cell = 0; was = pos 0; is = pos 0 } in
    let n : Note = slice_index_or ns i d in
    let v = c.loop-made.invariant in
    let right : holds n c.loop-made.cells ≡ true = sym c.is_right.ensures ∙ c.if-not-is_right.false in (
      omega arith,
      hold_more ns i d cells c.loop-made.cells c.loop-made-test.true v.1 v.2 right,
      c.settle.ensures
          ∙ by_more ns i d cells c.loop-made.cells c.loop-made-test.true v.2,
    )
