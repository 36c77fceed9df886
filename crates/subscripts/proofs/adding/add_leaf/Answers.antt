use Rattle.std.proofs.Common.{◌≡◌, ◌∙◌, ap, of_z, refl, rules, sym, to_z, w64}
use Rattle.loop_tree.specs.TreeView.{seen}
use Rattle.subscripts.specs.Forms.{number_form, total_of}
use Rattle.subscripts.specs.Leaves.{leaf_form}
use Rattle.subscripts.specs.View.{form}
use Rattle.subscripts.proofs.Propers.{left_same, plain_total}
use Rattle.subscripts.proofs.adding.add_leaf.Goals as goal

pub returns-in-Number-clause-left : goal.returns-in-Number-clause-left
returns-in-Number-clause-left c =
    let l = seen c.args.view.now in
    let f = form c.args.form.now in
    let read : to_z w64 (of_z w64 c.in-Number.number) ≡ c.in-Number.number = search rules in
    left_same c.add_number.result _ _ _
    (ap (λ x. total_of l c.args.minus f (leaf_form l x)) c.in-Number.is ∙ ap (λ n. total_of l c.args.minus f (number_form n)) (sym read) ∙ plain_total l c.args.minus f (number_form (to_z w64 (of_z w64 c.in-Number.number))) refl)
    c.add_number.ensures.left
