-- Statements and arms of an IF, seen as trees.
use Rattle.std.proofs.Common.{◌≡◌, ◌∙◌, List, Result, sym, ap, subst, rules}
use Rattle.std.specs.Prelude.{OnOk}
use Rattle.ast.specs.Tree as tree
use Rattle.ast.specs.Tree.{Block, Term}
use Rattle.ast.specs.View.{arm as arm_of, arm_step, block_view, node_step}
use Rattle.ast.specs.declared.tree.Arm.{Arm, fold_out-Arm}
use Rattle.ast.specs.declared.tree.Node.{Node}

-- what is so of a statement's tree
pub of_node : {S X E : Type 0} (does : tree.Node → S) (r : Result X E) (new : S) (t u : tree.Node) → t ≡ u → OnOk r (new ≡ does u) → OnOk r (new ≡ does t)
of_node does r new t u is h = subst (λ (x : tree.Node). OnOk r (new ≡ does x)) (sym is) h

-- the statements of an arm
pub body_of : (a : Arm) (ns : List Node) → ns ≡ a.body.items → (arm_of a).body ≡ block_view ns
body_of a ns same =
    ap (λ (b : tree.Arm). b.body) (fold_out-Arm tree.Node tree.Arm node_step arm_step a) ∙ parts a ∙ ap block_view (sym same) where
      parts : (a : Arm) → block_view a.body.items ≡ block_view a.body.items
      parts a = search rules
