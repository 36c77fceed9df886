use Rattle.std.proofs.Common.{◌≡◌, ◌∙◌, ap, map, of_z, rules, sym, to_z, w64}
use Rattle.std.specs.Prelude.{false}
use Rattle.loop_tree.specs.TreeView.{seen}
use Rattle.subscripts.specs.Forms.{has_share}
use Rattle.subscripts.specs.SharesView.{share}
use Rattle.subscripts.specs.Steps.{form_by, put}
use Rattle.subscripts.specs.View.{form}
use Rattle.subscripts.proofs.Propers.{left_same, left_then, other_law}
use Rattle.subscripts.proofs.adding.add_other.Goals as goal

pub returns-else-has_share-clause-left : goal.returns-else-has_share-clause-left
returns-else-has_share-clause-left c =
    let f = form c.args.form.now in
    let lacks : has_share c.args.cell f.shares ≡ false = sym (c.has_share.ensures ∙ ap (λ ss. has_share c.args.cell (map share ss)) c.as_slice.ensures) ∙ c.if-has_share.false in
    let read : to_z w64 (of_z w64 c.once.result) ≡ c.once.result = search rules in
    left_same c.put.result _ _ _
    (other_law (seen c.args.view.now) c.args.minus f c.args.cell c.requires.proper lacks)
    (left_then c.put.result _ _ (λ ss. form_by f.constant f.coefficient ss)
    (left_same c.put.result _ _ _ (sym (ap (λ n. put f.shares c.args.cell n) (read ∙ c.once.ensures))) c.put.ensures.left))
