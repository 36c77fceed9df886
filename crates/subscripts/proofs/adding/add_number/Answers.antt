use Rattle.std.proofs.Common.{◌≡◌, ◌∙◌, Some, ap, of_z, rules, sym, to_z, w64}
use Rattle.loop_tree.specs.Constants.{if_some}
use Rattle.subscripts.specs.Forms.{total}
use Rattle.subscripts.specs.Steps.{fitted, form_by}
use Rattle.subscripts.specs.View.{form}
use Rattle.subscripts.proofs.Propers.{number_law}
use Rattle.subscripts.proofs.adding.add_number.Goals as goal

pub returns-clause-left : goal.returns-clause-left
returns-clause-left c =
    let f = form c.args.form.now in
    let old : to_z w64 (of_z w64 c.args.form.now.constant) ≡ c.args.form.now.constant = search rules in
    let number : to_z w64 (of_z w64 c.args.number) ≡ c.args.number = search rules in
    let new : to_z w64 (of_z w64 c.in_ok-form.field-0) ≡ c.in_ok-form.field-0 = search rules in
    let is : fitted (total c.args.minus f.constant c.args.number) ≡ Some c.in_ok-form.field-0 =
    sym (c.total.ensures ∙ ap (λ n. fitted (total c.args.minus n (to_z w64 (of_z w64 c.args.number)))) old ∙ ap (λ n. fitted (total c.args.minus f.constant n)) number) ∙ c.in_ok-form.was in
    number_law c.args.minus f c.args.number c.requires.proper
    ∙ ap (λ o. if_some o (λ n. Some (form_by n f.coefficient f.shares))) is
    ∙ ap (λ n. Some (form_by n f.coefficient f.shares)) (sym new)
