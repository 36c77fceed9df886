-- Statements of a plan, seen as trees, and the events that they add to a list.
use Rattle.std.proofs.Common.{◌≡◌, ◌∙◌, ◌+◌, ◌<◌, ◌≤◌, ℕ, List, Vec, Global, Option, Some, None, Result, length, map, drop, get_or, ap, refl, sym}
use Rattle.std.specs.Prelude.{OnOk}
use Rattle.std.proofs.lemmas.List.{drop_all, drop_more}
use Rattle.std.proofs.lemmas.Result.{on_ok_weaker}
use Rattle.ast.specs.Tree.{Term}
use Rattle.ast.specs.View.{head, plain_statement}
use Rattle.ast.specs.declared.statement.DoHead.{DoHead}
use Rattle.ast.specs.declared.plain.PlainStatement.{PlainStatement}
use Rattle.dependence.specs.Plan.{PlanNode, PlanBlock, PlanArms, awaits, advances, plain, loop, choose, no_arms, made_else, then_arm}
use Rattle.dependence.specs.PlanView.{ArmOf, arm_step, arm_view, arms, node_step, plan_block, plan_node}
use Rattle.dependence.specs.declared.plan.PlanArm.{PlanArm}
use Rattle.dependence.specs.declared.plan.PlanStmt.{PlanStmt, PlanStmt-F, fold-roll-PlanStmt}
use Rattle.dependence.specs.declared.plan.PlanStmt.TheVariants.{Await, Advance, Plain, Loop, Choice, rolls-Await, rolls-Advance, rolls-Plain, rolls-Loop, rolls-Choice}
use Rattle.plan_check.specs.Listing.{with_arms, with_block, with_node}

pub await_of : (n : PlanStmt) (e d : ℕ) → n ≡ Await e d → plan_node n ≡ awaits e d
await_of n e d is = ap plan_node is ∙ ap plan_node (sym (rolls-Await e d)) ∙ fold-roll-PlanStmt PlanNode ArmOf node_step arm_step (PlanStmt-F.Await e d)

pub advance_of : (n : PlanStmt) (e : ℕ) → n ≡ Advance e → plan_node n ≡ advances e
advance_of n e is = ap plan_node is ∙ ap plan_node (sym (rolls-Advance e)) ∙ fold-roll-PlanStmt PlanNode ArmOf node_step arm_step (PlanStmt-F.Advance e)

pub plain_of : (n : PlanStmt) (s : PlainStatement) → n ≡ Plain s → plan_node n ≡ plain (plain_statement s)
plain_of n s is = ap plan_node is ∙ ap plan_node (sym (rolls-Plain s)) ∙ fold-roll-PlanStmt PlanNode ArmOf node_step arm_step (PlanStmt-F.Plain s)

pub loop_of : (n : PlanStmt) (l : ℕ) (h : DoHead) (b : Vec PlanStmt Global) (ns : List PlanStmt) → n ≡ Loop l h b → ns ≡ b.items → plan_node n ≡ loop l (head h) (plan_block ns)
loop_of n l h b ns is same =
    ap plan_node is
    ∙ ap plan_node (sym (rolls-Loop l h b))
    ∙ fold-roll-PlanStmt PlanNode ArmOf node_step arm_step (PlanStmt-F.Loop l h b)
    ∙ ap (λ (xs : List PlanStmt). loop l (head h) (plan_block xs)) (sym same)

-- an IF without an ELSE that was made for it, and one with such an ELSE
pub choice_of : (n : PlanStmt) (cs : Vec PlanArm Global) (made : Option (Vec PlanStmt Global)) (others : List PlanArm) → n ≡ Choice cs made → made ≡ None → others ≡ cs.items → plan_node n ≡ choose (arms (map arm_view others) no_arms)
choice_of n cs made others is none same =
    ap plan_node (is ∙ ap (λ (m : Option (Vec PlanStmt Global)). Choice cs m) none)
    ∙ ap plan_node (sym (rolls-Choice cs None))
    ∙ fold-roll-PlanStmt PlanNode ArmOf node_step arm_step (PlanStmt-F.Choice cs None)
    ∙ ap (λ (xs : List PlanArm). choose (arms (map arm_view xs) no_arms)) (sym same)

pub made_of : (n : PlanStmt) (cs : Vec PlanArm Global) (made : Option (Vec PlanStmt Global)) (b : Vec PlanStmt Global) (others : List PlanArm) (ns : List PlanStmt) → n ≡ Choice cs made → made ≡ Some b → others ≡ cs.items → ns ≡ b.items → plan_node n ≡ choose (arms (map arm_view others) (made_else (plan_block ns)))
made_of n cs made b others ns is some same body =
    ap plan_node (is ∙ ap (λ (m : Option (Vec PlanStmt Global)). Choice cs m) some)
    ∙ ap plan_node (sym (rolls-Choice cs (Some b)))
    ∙ fold-roll-PlanStmt PlanNode ArmOf node_step arm_step (PlanStmt-F.Choice cs (Some b))
    ∙ ap (λ (xs : List PlanArm). choose (arms (map arm_view xs) (made_else (plan_block b.items)))) (sym same)
    ∙ ap (λ (xs : List PlanStmt). choose (arms (map arm_view others) (made_else (plan_block xs)))) (sym body)

-- an IF, whatever ELSE was made for it
pub some_choice : (n : PlanStmt) (cs : Vec PlanArm Global) (made : Option (Vec PlanStmt Global)) (others : List PlanArm) → n ≡ Choice cs made → others ≡ cs.items → (last : PlanArms) × (plan_node n ≡ choose (arms (map arm_view others) last))
some_choice n cs None others is same = (no_arms, choice_of n cs None others is refl same)
some_choice n cs (Some b) others is same = (made_else (plan_block b.items), made_of n cs (Some b) b others b.items is refl same refl)

-- ---- the events that statements add to a list

pub as_node : (new old : List (ℕ × ℕ)) (n m : PlanNode) → n ≡ m → new ≡ with_node m old → new ≡ with_node n old
as_node new old n m is h = h ∙ ap (λ (x : PlanNode). with_node x old) (sym is)

pub as_loop : {X E : Type 0} (r : Result X E) (new old : List (ℕ × ℕ)) (n m : PlanNode) → n ≡ m → OnOk r (new ≡ with_node m old) → OnOk r (new ≡ with_node n old)
as_loop r new old n m is = on_ok_weaker {P = new ≡ with_node m old} {Q = new ≡ with_node n old} r (as_node new old n m is)

pub as_choice : (new old : List (ℕ × ℕ)) (n : PlanNode) (cs : List ArmOf) → n ≡ choose (arms cs no_arms) → ((last : PlanArms) → with_arms (arms cs last) old ≡ with_arms last new) → new ≡ with_node n old
as_choice new old n cs is each = as_node new old n (choose (arms cs no_arms)) is (sym (each no_arms))

pub as_made : {X E : Type 0} (r : Result X E) (new mid old : List (ℕ × ℕ)) (n : PlanNode) (cs : List ArmOf) (b : PlanBlock) → n ≡ choose (arms cs (made_else b)) → ((last : PlanArms) → with_arms (arms cs last) old ≡ with_arms last mid) → OnOk r (new ≡ with_block b mid) → OnOk r (new ≡ with_node n old)
as_made r new mid old n cs b is each =
    on_ok_weaker {P = new ≡ with_block b mid} {Q = new ≡ with_node n old} r (λ h. as_node new old n (choose (arms cs (made_else b))) is (h ∙ sym (each (made_else b))))

pub next_listed : (ns : List PlanStmt) (i : ℕ) (n : PlanStmt) (before after whole : List (ℕ × ℕ)) → i < length ns → n ≡ get_or ns i n → after ≡ with_node (plan_node n) before
    → with_block (plan_block (drop i ns)) before ≡ whole → with_block (plan_block (drop (i + 1) ns)) after ≡ whole
next_listed ns i n before after whole h is more so_far =
    ap (λ (l : List (ℕ × ℕ)). with_block (plan_block (drop (i + 1) ns)) l) more
    ∙ ap (λ (x : PlanStmt). with_block (plan_block (drop (i + 1) ns)) (with_node (plan_node x) before)) is
    ∙ sym (ap (λ (l : List PlanStmt). with_block (plan_block l) before) (drop_more ns i n h))
    ∙ so_far

pub all_listed : (ns : List PlanStmt) (i : ℕ) (list whole : List (ℕ × ℕ)) → length ns ≤ i → with_block (plan_block (drop i ns)) list ≡ whole → list ≡ whole
all_listed ns i list whole h so_far = sym (ap (λ (l : List PlanStmt). with_block (plan_block l) list) (drop_all i ns h)) ∙ so_far

pub arm_listed : (line : ℕ) (c : Option Term) (b : PlanBlock) (others all : PlanArms) (old new whole : List (ℕ × ℕ)) → all ≡ then_arm line c b others → new ≡ with_block b old → whole ≡ with_arms all old → whole ≡ with_arms others new
arm_listed line c b others all old new whole e f w = w ∙ ap (λ (x : PlanArms). with_arms x old) e ∙ ap (λ (l : List (ℕ × ℕ)). with_arms others l) (sym f)

pub arms_listed : (xs : List PlanArm) (i : ℕ) (list whole : List (ℕ × ℕ)) (last : PlanArms) → length xs ≤ i → whole ≡ with_arms (arms (map arm_view (drop i xs)) last) list → whole ≡ with_arms last list
arms_listed xs i list whole last h w = w ∙ ap (λ (l : List PlanArm). with_arms (arms (map arm_view l) last) list) (drop_all i xs h)
