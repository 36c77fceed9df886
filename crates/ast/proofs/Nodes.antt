-- Statements and arms of an IF, seen as trees.
use Rattle.std.proofs.Common.{◌≡◌, ◌∙◌, sym, ap, ℕ, Vec, Global, List, map, rules}
use Rattle.ast.specs.Tree as tree
use Rattle.ast.specs.Tree.{plain, loop, arms as arms_of, choose}
use Rattle.ast.specs.View.{arm_step, node as node_of, node_step, plain_statement, block_view, head as head_of, arm as arm_of, optional_term}
use Rattle.ast.specs.declared.statement.DoHead.{DoHead}
use Rattle.ast.specs.declared.plain.PlainStatement.{PlainStatement}
use Rattle.ast.specs.declared.tree.Arm.{Arm, fold_out-Arm}
use Rattle.ast.specs.declared.tree.Node.{Node, Node-F, fold-roll-Node}
use Rattle.ast.specs.declared.tree.Node.TheVariants.{Plain, rolls-Plain, Loop, rolls-Loop, Choice, rolls-Choice}

pub plain_of : (n : Node) (s : PlainStatement) → n ≡ Plain s → node_of n ≡ plain (plain_statement s)
plain_of n s is = ap node_of is ∙ ap node_of (sym (rolls-Plain s)) ∙ fold-roll-Node tree.Node tree.Arm node_step arm_step (Node-F.Plain s)

-- the same with parts that stand elsewhere
pub loop_of : (n : Node) (l : ℕ) (h : DoHead) (range : Vec Node Global) (ns : List Node) → n ≡ Loop l h range → ns ≡ range.items → node_of n ≡ loop l (head_of h) (block_view ns)
loop_of n l h range ns is same =
    ap node_of is
    ∙ ap node_of (sym (rolls-Loop l h range))
    ∙ fold-roll-Node tree.Node tree.Arm node_step arm_step (Node-F.Loop l h range)
    ∙ ap (λ (ms : List Node). loop l (head_of h) (block_view ms)) (sym same)

pub choice_of : (n : Node) (all : Vec Arm Global) (xs : List Arm) → n ≡ Choice all → xs ≡ all.items → node_of n ≡ choose (arms_of (map arm_of xs))
choice_of n all xs is same =
    ap node_of is
    ∙ ap node_of (sym (rolls-Choice all))
    ∙ fold-roll-Node tree.Node tree.Arm node_step arm_step (Node-F.Choice all)
    ∙ ap (λ (ys : List Arm). choose (arms_of (map arm_of ys))) (sym same)

-- the parts of an arm
pub line_of : (a : Arm) → (arm_of a).line ≡ a.line
line_of a = ap (λ (b : tree.Arm). b.line) (fold_out-Arm tree.Node tree.Arm node_step arm_step a) ∙ search rules

pub condition_of : (a : Arm) → (arm_of a).condition ≡ optional_term a.condition
condition_of a = ap (λ (b : tree.Arm). b.condition) (fold_out-Arm tree.Node tree.Arm node_step arm_step a) ∙ search rules

pub body_of : (a : Arm) → (arm_of a).body ≡ block_view a.body.items
body_of a = ap (λ (b : tree.Arm). b.body) (fold_out-Arm tree.Node tree.Arm node_step arm_step a) ∙ search rules
