use Rattle.std.proofs.Common.{◌∙◌, List, take, ap}
use Rattle.std.specs.Prelude.{ℤ}
use Rattle.stretches.specs.Notes.{undone}
use Rattle.stretches.proofs.Appending.{undoes}
use Rattle.stretches.proofs.comparing.make_all.Goals as goal

pub returns-clause-made : goal.returns-clause-made
returns-clause-made c =
    let made = take c.make-made.result c.args.notes.now in
    c.undo.ensures
    ∙ ap (λ (ds : List ℤ). undone made ds) c.make-made.ensures.made
    ∙ undoes made c.args.cells.now c.make-made.ensures.hold
