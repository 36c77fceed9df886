use Rattle.std.proofs.Common.{◌≡◌, rules}
use Rattle.stretches.specs.declared.note.Note.{Note}
use Rattle.stretches.proofs.Appending.{settled}
use Rattle.stretches.proofs.comparing.settle.Goals as goal

pub returns-else-note : goal.returns-else-note
returns-else-note c =
    let n : Note = c.args.note.now in
    let e : n.is ≡ n.was = search rules in
    settled n c.args.cells.now c.requires e
