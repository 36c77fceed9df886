use Rattle.std.proofs.Common.{◌≡◌, ◌∙◌, ap, refl}
use Rattle.std.proofs.lemmas.Bool.Decides.{Decides-eqb}
use Rattle.std.specs.Prelude.{Bool, true, if◌then◌else◌}
use Rattle.loop_tree.specs.TreeView.{seen}
use Rattle.subscripts.specs.Forms.{is_variable, other_form, total_of, variable_form}
use Rattle.subscripts.specs.View.{form}
use Rattle.subscripts.proofs.Propers.{left_same, plain_total}
use Rattle.subscripts.proofs.adding.add_scalar.Goals as goal

pub returns-then-cell-head-clause-left : goal.returns-then-cell-head-clause-left
returns-then-cell-head-clause-left c =
    let l = seen c.args.view.now in
    let f = form c.args.form.now in
    let same : is_variable l c.args.cell ≡ true = (Decides-eqb c.args.cell l.head.variable.cell).1 (c.if-cell-head.true ∙ ap (λ h. h.variable.cell) c.head.ensures) in
    left_same c.add_variable.result _ _ _
    (ap (λ (b : Bool). total_of l c.args.minus f (if b then variable_form else other_form c.args.cell)) same ∙ plain_total l c.args.minus f variable_form refl)
    c.add_variable.ensures.left
