-- Awaits and advances behind other statements, and what is left of arms.
use Rattle.std.proofs.Common.{◌≡◌, ◌∙◌, ◌+◌, ◌<◌, ℕ, Bool, List, [], ◌∷◌, ◌++◌, append_assoc, length, map, drop, get_or, arith, sym, ap}
use Rattle.std.specs.Prelude.{◌&&◌}
use Rattle.std.proofs.lemmas.List.{drop_more, length-append, map-append}
use Rattle.ast.specs.Tree.{Arms, Block, then_arm, arms}
use Rattle.ast.specs.View.{arm as arm_of, block_view}
use Rattle.ast.specs.declared.tree.Arm.{Arm}
use Rattle.ast.specs.declared.tree.Node.{Node}
use Rattle.ast.proofs.Nodes.{body_of}
use Rattle.dependence.specs.Plan.{PlanNode, awaits, advances}
use Rattle.dependence.specs.PlanView.{ArmOf, arm_step, arm_view, node_step, plan_node}
use Rattle.dependence.specs.declared.plan.PlanArm.{PlanArm}
use Rattle.dependence.specs.declared.plan.PlanStmt.{PlanStmt, PlanStmt-F, fold-roll-PlanStmt}
use Rattle.dependence.specs.declared.plan.PlanStmt.TheVariants.{Advance, Await, rolls-Advance, rolls-Await}
use Rattle.placement.specs.Listed.{advance_nodes_of, await_nodes, inner_arm, inner_listed_arms, is_some, listed_arm, listed_arms}
use Rattle.loop_tree.specs.Occurrences.{arms_lines, block_lines}
use Rattle.placement.specs.Placing.{arms_size, block_size}

await_is : (e d : ℕ) → plan_node (Await e d) ≡ awaits e d
await_is e d = ap plan_node (sym (rolls-Await e d)) ∙ fold-roll-PlanStmt PlanNode ArmOf node_step arm_step (PlanStmt-F.Await e d)

advance_is : (e : ℕ) → plan_node (Advance e) ≡ advances e
advance_is e = ap plan_node (sym (rolls-Advance e)) ∙ fold-roll-PlanStmt PlanNode ArmOf node_step arm_step (PlanStmt-F.Advance e)

-- one statement more
one_more : (old new : List PlanStmt) (s : PlanStmt) (n : PlanNode) → new ≡ old ++ s ∷ [] → plan_node s ≡ n → map plan_node new ≡ map plan_node old ++ n ∷ []
one_more old new s n e f = ap (λ (ss : List PlanStmt). map plan_node ss) e ∙ map-append plan_node old (s ∷ []) ∙ ap (λ (m : PlanNode). map plan_node old ++ m ∷ []) f

-- the first of the awaits that are left has been appended
pub await_next : (old new : List PlanStmt) (ws : List (ℕ × ℕ)) (i : ℕ) (d : ℕ × ℕ) (target : List PlanNode) → i < length ws → new ≡ old ++ Await (get_or ws i d).0 (get_or ws i d).1 ∷ [] → map plan_node old ++ await_nodes (drop i ws) ≡ target → map plan_node new ++ await_nodes (drop (i + 1) ws) ≡ target
await_next old new ws i d target l g h =
    let w = get_or ws i d in
    ap (λ (ns : List PlanNode). ns ++ await_nodes (drop (i + 1) ws)) (one_more old new (Await w.0 w.1) (awaits w.0 w.1) g (await_is w.0 w.1))
    ∙ append_assoc (map plan_node old) (awaits w.0 w.1 ∷ []) (await_nodes (drop (i + 1) ws))
    ∙ ap (λ (vs : List (ℕ × ℕ)). map plan_node old ++ await_nodes vs) (sym (drop_more ws i d l))
    ∙ h

pub advanced : (old mid new : List PlanStmt) (e : ℕ) → mid ≡ old ++ Await e 1 ∷ [] → new ≡ mid ++ Advance e ∷ [] → map plan_node new ≡ map plan_node old ++ advance_nodes_of e
advanced old mid new e f g =
    one_more mid new (Advance e) (advances e) g (advance_is e)
    ∙ ap (λ (ns : List PlanNode). ns ++ advances e ∷ []) (one_more old mid (Await e 1) (awaits e 1) f (await_is e 1))
    ∙ append_assoc (map plan_node old) (awaits e 1 ∷ []) (advances e ∷ [])

-- an arm is the first of those that are left
pub arm_here : (xs : List Arm) (i : ℕ) (a : Arm) → i < length xs → a ≡ get_or xs i a
    → arms (map arm_of (drop i xs)) ≡ then_arm (arm_of a).line (arm_of a).condition (arm_of a).body (arms (map arm_of (drop (i + 1) xs)))
arm_here xs i a l e = ap (λ (as_list : List Arm). arms (map arm_of as_list)) (drop_more xs i a l ∙ ap (λ (y : Arm). y ∷ drop (i + 1) xs) (sym e))

-- one placed arm more
one_arm : (old new : List PlanArm) (s : PlanArm) (a : ArmOf) (rest target : List ArmOf) → new ≡ old ++ s ∷ [] → arm_view s ≡ a → map arm_view old ++ a ∷ rest ≡ target → map arm_view new ++ rest ≡ target
one_arm old new s a rest target e f w =
    ap (λ (as_list : List PlanArm). map arm_view as_list ++ rest) e
    ∙ ap (λ (vs : List ArmOf). vs ++ rest) (map-append arm_view old (s ∷ []) ∙ ap (λ (v : ArmOf). map arm_view old ++ v ∷ []) f)
    ∙ append_assoc (map arm_view old) (a ∷ []) rest
    ∙ w

-- the number behind an arm
behind : (a : Arm) (ns : List Node) (o n m : ℕ) → a.body.items ≡ ns → n ≡ block_size (block_view ns) → m ≡ o + n → m ≡ o + block_size (arm_of a).body
behind a ns o n m e f g =
    g ∙ ap (λ (k : ℕ). o + k) (f ∙ ap (λ (b : Block). block_size b) (ap block_view (sym e) ∙ sym (body_of a)))

-- one arm's statements more are counted
pub counted_next : (xs : List Arm) (i : ℕ) (a : Arm) (ns : List Node) (o n m target : ℕ) → i < length xs → a ≡ get_or xs i a → a.body.items ≡ ns → n ≡ block_size (block_view ns) → m ≡ o + n → o + arms_size (arms (map arm_of (drop i xs))) ≡ target → m + arms_size (arms (map arm_of (drop (i + 1) xs))) ≡ target
counted_next xs i a ns o n m target l e b f g w =
    let others = arms (map arm_of (drop (i + 1) xs)) in
    let next = behind a ns o n m b f g in
    let sizes = length-append (block_lines (arm_of a).body) (arms_lines others) in
    let here = ap (λ (x : Arms). o + arms_size x) (sym (arm_here xs i a l e)) ∙ w in
    omega (arith, next, sizes, here)

module _ (sources : List ℕ) (before : ℕ → List (ℕ × ℕ)) where
  pub inner_next : (old new : List PlanArm) (s : PlanArm) (xs : List Arm) (i : ℕ) (a : Arm) (ns : List Node) (o n m : ℕ) (target : List ArmOf) → i < length xs → a ≡ get_or xs i a → a.body.items ≡ ns → new ≡ old ++ s ∷ []
      → arm_view s ≡ inner_arm sources before o (arm_of a).line (arm_of a).condition (arm_of a).body → n ≡ block_size (block_view ns) → m ≡ o + n
      → map arm_view old ++ inner_listed_arms sources before o (arms (map arm_of (drop i xs))) ≡ target
      → map arm_view new ++ inner_listed_arms sources before m (arms (map arm_of (drop (i + 1) xs))) ≡ target
  inner_next old new s xs i a ns o n m target l e b g h f k w =
      let others = arms (map arm_of (drop (i + 1) xs)) in
      let made = inner_arm sources before o (arm_of a).line (arm_of a).condition (arm_of a).body in
      one_arm old new s made (inner_listed_arms sources before m others) target g h
      (ap (λ (j : ℕ). map arm_view old ++ made ∷ inner_listed_arms sources before j others) (behind a ns o n m b f k)
      ∙ ap (λ (x : Arms). map arm_view old ++ inner_listed_arms sources before o x) (sym (arm_here xs i a l e))
      ∙ w)

  pub placed_next : (low high : ℕ) (old new : List PlanArm) (s : PlanArm) (xs : List Arm) (i : ℕ) (a : Arm) (ns : List Node) (is_open stays : Bool) (o n m : ℕ) (target : List ArmOf) → i < length xs → a ≡ get_or xs i a → a.body.items ≡ ns → new ≡ old ++ s ∷ []
      → arm_view s ≡ listed_arm sources before is_open low high o (arm_of a).line (arm_of a).condition (arm_of a).body → stays ≡ (is_open && is_some (arm_of a).condition) → n ≡ block_size (block_view ns) → m ≡ o + n
      → map arm_view old ++ listed_arms sources before is_open low high o (arms (map arm_of (drop i xs))) ≡ target
      → map arm_view new ++ listed_arms sources before stays low high m (arms (map arm_of (drop (i + 1) xs))) ≡ target
  placed_next low high old new s xs i a ns is_open stays o n m target l e b g h r f k w =
      let others = arms (map arm_of (drop (i + 1) xs)) in
      let made = listed_arm sources before is_open low high o (arm_of a).line (arm_of a).condition (arm_of a).body in
      one_arm old new s made (listed_arms sources before stays low high m others) target g h
      (ap (λ (j : ℕ). map arm_view old ++ made ∷ listed_arms sources before stays low high j others) (behind a ns o n m b f k)
      ∙ ap (λ (q : Bool). map arm_view old ++ made ∷ listed_arms sources before q low high (o + block_size (arm_of a).body) others) r
      ∙ ap (λ (x : Arms). map arm_view old ++ listed_arms sources before is_open low high o x) (sym (arm_here xs i a l e))
      ∙ w)
