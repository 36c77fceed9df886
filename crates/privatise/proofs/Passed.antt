-- What a pass through statements comes to, by what its calls came to.
use Rattle.std.proofs.Common.{◌≡◌, ◌∙◌, ◌+◌, ◌<◌, ◌≤◌, ℕ, List, ◌∷◌, Option, None, Some, Result, ap, sym, subst, length, map, drop, get_or}
use Rattle.std.specs.Prelude.{OnOk}
use Rattle.std.proofs.lemmas.List.{drop_all, drop_more}
use Rattle.ast.specs.Tree as tree
use Rattle.ast.specs.Tree.{Arms, Block, Term, arms as arms_of, then_arm}
use Rattle.ast.specs.View.{arm as arm_of, block_view, node as node_of, optional_term, plain_statement, term}
use Rattle.ast.specs.declared.expression.Expr.{Expr}
use Rattle.ast.specs.declared.plain.PlainStatement.{PlainStatement}
use Rattle.ast.specs.declared.tree.Arm.{Arm}
use Rattle.ast.specs.declared.tree.Node.{Node}
use Rattle.ast.specs.declared.tree.Node.TheVariants.{Plain}
use Rattle.ast.proofs.Nodes.{plain_of, line_of, condition_of, body_of}
use Rattle.privatise.specs.Cells.{joined}
use Rattle.privatise.specs.Flow.{after_arms, after_block, after_head, after_kind, after_node, after_term}
use Rattle.privatise.specs.declared.walk.Walk.{Walk}

pub of_tree : {X E : Type 0} (r : Result X E) (new old : List Walk) (t u : tree.Node) → t ≡ u → OnOk r (new ≡ after_node u old) → OnOk r (new ≡ after_node t old)
of_tree r new old t u is h = subst (λ (x : tree.Node). OnOk r (new ≡ after_node x old)) (sym is) h

pub plain_passed : (n : Node) (s : PlainStatement) (old new : List Walk) → n ≡ Plain s → new ≡ after_kind (plain_statement s).kind old → new ≡ after_node (node_of n) old
plain_passed n s old new is done = done ∙ ap (λ (t : tree.Node). after_node t old) (sym (plain_of n s is))

-- a loop's range may be left out
pub looped : (h : tree.DoHead) (b : Block) (old headed before inner new : List Walk) → headed ≡ after_head h old → before ≡ headed → inner ≡ after_block b headed → new ≡ joined inner before
    → new ≡ joined (after_block b (after_head h old)) (after_head h old)
looped h b old headed before inner new first same second is =
    is
    ∙ ap (λ (ws : List Walk). joined ws before) second
    ∙ ap (λ (ws : List Walk). joined (after_block b headed) ws) same
    ∙ ap (λ (ws : List Walk). joined (after_block b ws) ws) first

-- statement by statement
pub node_passed : (ns : List Node) (i : ℕ) (n : Node) (old new whole : List Walk) → i < length ns → n ≡ get_or ns i n → new ≡ after_node (node_of n) old → after_block (block_view (drop i ns)) old ≡ whole → after_block (block_view (drop (i + 1) ns)) new ≡ whole
node_passed ns i n old new whole h is done so_far =
    let rest = block_view (drop (i + 1) ns) in
    ap (λ (ws : List Walk). after_block rest ws) done
    ∙ ap (λ (m : Node). after_block rest (after_node (node_of m) old)) is
    ∙ sym (ap (λ (ms : List Node). after_block (block_view ms) old) (drop_more ns i n h))
    ∙ so_far

pub all_passed : (ns : List Node) (i : ℕ) (walks whole : List Walk) → length ns ≤ i → after_block (block_view (drop i ns)) walks ≡ whole → walks ≡ whole
all_passed ns i walks whole h so_far = sym (ap (λ (ms : List Node). after_block (block_view ms) walks) (drop_all i ns h)) ∙ so_far

-- arm by arm
arm_here : (xs : List Arm) (i : ℕ) (a : Arm) (c : Option Expr) (ns : List Node) → i < length xs → a ≡ get_or xs i a → a.condition ≡ c → ns ≡ a.body.items
    → arms_of (map arm_of (drop i xs)) ≡ then_arm a.line (optional_term c) (block_view ns) (arms_of (map arm_of (drop (i + 1) xs)))
arm_here xs i a c ns h is tested same =
    let others = arms_of (map arm_of (drop (i + 1) xs)) in
    ap (λ (ys : List Arm). arms_of (map arm_of ys)) (drop_more xs i a h ∙ ap (λ (y : Arm). y ∷ drop (i + 1) xs) (sym is))
    ∙ ap (λ (n : ℕ). then_arm n (arm_of a).condition (arm_of a).body others) (line_of a)
    ∙ ap (λ (o : Option Term). then_arm a.line o (arm_of a).body others) (condition_of a ∙ ap optional_term tested)
    ∙ ap (λ (b : Block). then_arm a.line (optional_term c) b others) (body_of a ∙ ap block_view (sym same))

pub else_passed : (xs : List Arm) (i : ℕ) (a : Arm) (ns : List Node) (ended old inner new whole : List Walk) → i < length xs → a ≡ get_or xs i a → a.condition ≡ None → ns ≡ a.body.items
    → inner ≡ after_block (block_view ns) old → new ≡ joined inner ended → after_arms (arms_of (map arm_of (drop i xs))) ended old ≡ whole → new ≡ whole
else_passed xs i a ns ended old inner new whole h is tested same done is_new so_far =
    is_new
    ∙ ap (λ (ws : List Walk). joined ws ended) done
    ∙ sym (ap (λ (x : Arms). after_arms x ended old) (arm_here xs i a None ns h is tested same))
    ∙ so_far

pub arm_passed : (xs : List Arm) (i : ℕ) (a : Arm) (e : Expr) (ns : List Node) (ended old passed branch inner both whole : List Walk) → i < length xs → a ≡ get_or xs i a → a.condition ≡ Some e → ns ≡ a.body.items
    → passed ≡ after_term (term e) old → branch ≡ passed → inner ≡ after_block (block_view ns) branch → both ≡ joined ended inner
    → after_arms (arms_of (map arm_of (drop i xs))) ended old ≡ whole → after_arms (arms_of (map arm_of (drop (i + 1) xs))) both passed ≡ whole
arm_passed xs i a e ns ended old passed branch inner both whole h is tested same first copied done joins so_far =
    let rest = arms_of (map arm_of (drop (i + 1) xs)) in
    ap (λ (ws : List Walk). after_arms rest ws passed) (joins ∙ ap (λ (ws : List Walk). joined ended ws) (done ∙ ap (λ (ws : List Walk). after_block (block_view ns) ws) copied))
    ∙ ap (λ (ws : List Walk). after_arms rest (joined ended (after_block (block_view ns) ws)) ws) first
    ∙ sym (ap (λ (x : Arms). after_arms x ended old) (arm_here xs i a (Some e) ns h is tested same))
    ∙ so_far

pub arms_passed : (xs : List Arm) (i : ℕ) (ended walks new whole : List Walk) → length xs ≤ i → new ≡ joined walks ended → after_arms (arms_of (map arm_of (drop i xs))) ended walks ≡ whole → new ≡ whole
arms_passed xs i ended walks new whole h is so_far = is ∙ sym (ap (λ (ys : List Arm). after_arms (arms_of (map arm_of ys)) ended walks) (drop_all i xs h)) ∙ so_far
