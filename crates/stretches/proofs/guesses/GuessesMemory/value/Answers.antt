use Rattle.std.proofs.Common.{◌<◌, length, refl, rules, w64, to_z, of_z}
use Rattle.std.specs.Prelude.{ℤ}
use Rattle.stretches.specs.declared.note.Note.{Note}
use Rattle.stretches.proofs.Noting.{looks_more, value_more}
use Rattle.stretches.proofs.guesses.GuessesMemory.value.Goals as goal

pub returns-clause-looks : goal.returns-clause-looks
returns-clause-looks c =
    let v = c.in_ok-guess.guess in
    let x : ℤ = to_z w64 (of_z w64 v) in
    let n : Note = record { cell = c.args.cell; was = x; is = x } in
    let g = c.args.self.now in
    let h : g.made < length g.notes.items = search rules in
    looks_more g.notes.items g.made n h refl

pub returns-clause-value : goal.returns-clause-value
returns-clause-value c =
    let v = c.in_ok-guess.guess in
    let x : ℤ = to_z w64 (of_z w64 v) in
    let n : Note = record { cell = c.args.cell; was = x; is = x } in
    let g = c.args.self.now in
    let h : g.made < length g.notes.items = search rules in
    value_more g.notes.items g.made n h refl
