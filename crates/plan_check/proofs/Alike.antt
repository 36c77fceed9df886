-- Statements of a plan's body are compared with those of a range.
use Rattle.std.proofs.Common.{◌≡◌, ◌∙◌, ◌+◌, ◌<◌, ◌≤◌, ℕ, Bool, true, false, List, Option, Some, None, Vec, Global, ◌⊎◌, inl, inr, refl, sym, ap, subst, length, map, drop, get_or, rules}
use Rattle.std.proofs.lemmas.List.{drop_all, drop_more}
use Rattle.std.specs.Bool.{Decides}
use Rattle.ast.specs.Tree as tree
use Rattle.ast.specs.Tree.{Term}
use Rattle.ast.specs.View.{arm as arm_of, arm_step, block_view, head, node as node_of, node_step, optional_term, plain_statement}
use Rattle.ast.specs.declared.statement.DoHead.{DoHead}
use Rattle.ast.specs.declared.plain.PlainStatement.{PlainStatement}
use Rattle.ast.specs.declared.tree.Arm.{Arm, fold_out-Arm}
use Rattle.ast.specs.declared.tree.Node.{Node, Node-F, out-Node, roll-Node, roll-out-Node}
use Rattle.ast.specs.declared.tree.Node.TheVariants as tree_node
use Rattle.ast.specs.declared.tree.Node.TheVariants.{rolls-Choice, rolls-Loop, rolls-Plain}
use Rattle.dependence.specs.Plan.{PlanNode, PlanBlock, awaits, advances, plain, loop, choose, no_nodes, then_node}
use Rattle.dependence.specs.PlanView.{arm_view, arms, last_arm, plan_block, plan_node}
use Rattle.dependence.specs.declared.plan.PlanArm.{PlanArm}
use Rattle.dependence.specs.declared.plan.PlanStmt.{PlanStmt}
use Rattle.dependence.specs.declared.plan.PlanStmt.TheVariants.{Advance, Await, Choice, Loop, Plain}
use Rattle.dependence.proofs.PlanArms.{line_of, condition_of, body_of}
use Rattle.ast.proofs.Nodes.{choice_of as node_choice, loop_of as node_loop, plain_of as node_plain}
use Rattle.plan_check.specs.GoodPlan.{only_events, stripped, stripped_arms}
use Rattle.plan_check.specs.Stripping.{IsNode, stripped_arm}
use Rattle.plan_check.proofs.Equal.{part_differs}
use Rattle.plan_check.proofs.Nodes.{advance_of, await_of, choice_of, loop_of, made_of, plain_of, some_choice}
use Rattle.plan_check.proofs.Comparing.{seen}

-- an await or an advance leaves nothing
skipped : (n : PlanNode) (b : PlanBlock) → only_events (then_node n no_nodes) ≡ true → stripped (then_node n b) ≡ stripped b
skipped (awaits e d) b h = refl
skipped (advances e) b h = refl
skipped (plain s) b h = cc
skipped (loop l x c) b h = cc
skipped (choose a) b h = cc

one_node : (x y : tree.Node) (b c : tree.Block) → tree.then_node x b ≡ tree.then_node y c → x ≡ y
one_node x y b c h = cc

the_rest : (x y : tree.Node) (b c : tree.Block) → tree.then_node x b ≡ tree.then_node y c → b ≡ c
the_rest x y b c h = cc

-- any other statement is left in front of the rest
in_front : (n : PlanNode) (b : PlanBlock) (m : tree.Node) → IsNode n m → stripped (then_node n b) ≡ tree.then_node m (stripped b)
in_front (awaits e d) b m h = cc
in_front (advances e) b m h = cc
in_front (plain s) b m h = ap (λ (x : tree.Node). tree.then_node x (stripped b)) (one_node _ _ _ _ h)
in_front (loop l x c) b m h = ap (λ (y : tree.Node). tree.then_node y (stripped b)) (one_node _ _ _ _ h)
in_front (choose a) b m h = ap (λ (x : tree.Node). tree.then_node x (stripped b)) (one_node _ _ _ _ h)

the_first : (n : PlanNode) (b : PlanBlock) (m : tree.Node) (c : tree.Block) → only_events (then_node n no_nodes) ≡ false → stripped (then_node n b) ≡ tree.then_node m c → IsNode n m
the_first (awaits e d) b m c h w = cc
the_first (advances e) b m c h w = cc
the_first (plain s) b m c h w = ap (λ (x : tree.Node). tree.then_node x tree.no_nodes) (one_node _ _ _ _ w)
the_first (loop l x d) b m c h w = ap (λ (y : tree.Node). tree.then_node y tree.no_nodes) (one_node _ _ _ _ w)
the_first (choose a) b m c h w = ap (λ (x : tree.Node). tree.then_node x tree.no_nodes) (one_node _ _ _ _ w)

not_empty : (n : PlanNode) (b : PlanBlock) → only_events (then_node n no_nodes) ≡ false → stripped (then_node n b) ≡ tree.no_nodes → ⊥
not_empty (awaits e d) b h w = cc
not_empty (advances e) b h w = cc
not_empty (plain s) b h w = cc
not_empty (loop l x d) b h w = cc
not_empty (choose a) b h w = cc

-- what is left of a plan's body and of a range tells of the whole
module _ (ns : List PlanStmt) (range : List Node) (i place : ℕ) (n : PlanStmt) (l : i < length ns) (is : n ≡ get_or ns i n) where
  here : stripped (plan_block (drop i ns)) ≡ stripped (then_node (plan_node n) (plan_block (drop (i + 1) ns)))
  here =
      ap (λ (xs : List PlanStmt). stripped (plan_block xs)) (drop_more ns i n l)
      ∙ sym (ap (λ (x : PlanStmt). stripped (then_node (plan_node x) (plan_block (drop (i + 1) ns)))) is)

  module _ (event : Bool) (told : event ≡ only_events (then_node (plan_node n) no_nodes)) where
    gone : event ≡ true → stripped (plan_block (drop i ns)) ≡ stripped (plan_block (drop (i + 1) ns))
    gone w = here ∙ skipped (plan_node n) (plan_block (drop (i + 1) ns)) (sym told ∙ w)

    pub skip_forth : event ≡ true → (stripped (plan_block (drop i ns)) ≡ block_view (drop place range) → stripped (plan_block ns) ≡ block_view range) → stripped (plan_block (drop (i + 1) ns)) ≡ block_view (drop place range) → stripped (plan_block ns) ≡ block_view range
    skip_forth w forth h = forth (gone w ∙ h)

    pub skip_back : event ≡ true → (stripped (plan_block ns) ≡ block_view range → stripped (plan_block (drop i ns)) ≡ block_view (drop place range)) → stripped (plan_block ns) ≡ block_view range → stripped (plan_block (drop (i + 1) ns)) ≡ block_view (drop place range)
    skip_back w back h = sym (gone w) ∙ back h

    -- the range has ended before the body
    pub too_long : event ≡ false → length range ≤ place → (stripped (plan_block ns) ≡ block_view range → stripped (plan_block (drop i ns)) ≡ block_view (drop place range)) → Decides false (stripped (plan_block ns) ≡ block_view range)
    too_long w h back = (
      (λ f. cc),
      (λ s. absurd (not_empty (plan_node n) (plan_block (drop (i + 1) ns)) (sym told ∙ w) (sym here ∙ back s ∙ ap (λ (xs : List Node). block_view xs) (drop_all place range h)))),
    )

    module _ (m : Node) (k : place < length range) (at : m ≡ get_or range place m) (same : Bool) (tested : Decides same (IsNode (plan_node n) (node_of m))) where
      there : block_view (drop place range) ≡ tree.then_node (node_of m) (block_view (drop (place + 1) range))
      there =
          ap (λ (xs : List Node). block_view xs) (drop_more range place m k)
          ∙ sym (ap (λ (x : Node). tree.then_node (node_of x) (block_view (drop (place + 1) range))) at)

      pub differs : event ≡ false → same ≡ false → (stripped (plan_block ns) ≡ block_view range → stripped (plan_block (drop i ns)) ≡ block_view (drop place range)) → Decides false (stripped (plan_block ns) ≡ block_view range)
      differs w v back = (
        (λ f. cc),
        (λ s. sym v ∙ tested.1 (the_first (plan_node n) (plan_block (drop (i + 1) ns)) (node_of m) (block_view (drop (place + 1) range)) (sym told ∙ w) (sym here ∙ back s ∙ there))),
      )

      front : same ≡ true → stripped (plan_block (drop i ns)) ≡ tree.then_node (node_of m) (stripped (plan_block (drop (i + 1) ns)))
      front v = here ∙ in_front (plan_node n) (plan_block (drop (i + 1) ns)) (node_of m) (tested.0 v)

      pub same_forth : same ≡ true → (stripped (plan_block (drop i ns)) ≡ block_view (drop place range) → stripped (plan_block ns) ≡ block_view range) → stripped (plan_block (drop (i + 1) ns)) ≡ block_view (drop (place + 1) range) → stripped (plan_block ns) ≡ block_view range
      same_forth v forth h = forth (front v ∙ ap (λ (b : tree.Block). tree.then_node (node_of m) b) h ∙ sym there)

      pub same_back : same ≡ true → (stripped (plan_block ns) ≡ block_view range → stripped (plan_block (drop i ns)) ≡ block_view (drop place range)) → stripped (plan_block ns) ≡ block_view range → stripped (plan_block (drop (i + 1) ns)) ≡ block_view (drop (place + 1) range)
      same_back v back h = the_rest (node_of m) (node_of m) _ _ (sym (front v) ∙ back h ∙ there)

-- ---- one statement

-- what is compared, by what it stands for
by_trees : (n p : PlanNode) (m o : tree.Node) (b : Bool) → n ≡ p → m ≡ o → Decides b (IsNode p o) → Decides b (IsNode n m)
by_trees n p m o b e f d = (
  (λ h. ap (λ (x : PlanNode). stripped (then_node x no_nodes)) e ∙ d.0 h ∙ sym (ap (λ (x : tree.Node). tree.then_node x tree.no_nodes) f)),
  (λ h. d.1 (sym (ap (λ (x : PlanNode). stripped (then_node x no_nodes)) e) ∙ h ∙ ap (λ (x : tree.Node). tree.then_node x tree.no_nodes) f)),
)

pub not_event : (n : PlanStmt) (m : Node) → ((e : ℕ) × (d : ℕ) × (n ≡ Await e d)) ⊎ ((e : ℕ) × (n ≡ Advance e)) → Decides false (IsNode (plan_node n) (node_of m))
not_event n m (inl (e, d, is)) = by_trees _ _ _ _ false (await_of n e d is) refl ((λ h. cc), (λ h. cc))
not_event n m (inr (e, is)) = by_trees _ _ _ _ false (advance_of n e is) refl ((λ h. cc), (λ h. cc))

-- a node of a range, told by what it stands for
abbrev Told : Node → tree.Node → Type 0
Told m (tree.plain s) = (x : PlainStatement) × (m ≡ tree_node.Plain x)
Told m (tree.loop l h b) = (k : ℕ) × (x : DoHead) × (y : Vec Node Global) × (m ≡ tree_node.Loop k x y)
Told m (tree.choose a) = (x : Vec Arm Global) × (m ≡ tree_node.Choice x)

told_as : (m : Node) (t : tree.Node) → node_of m ≡ t → Told m t → Told m (node_of m)
told_as m t is h = subst (λ z. Told m z) (sym is) h

told_by : (m : Node) (o : Node-F Node Arm) → m ≡ roll-Node o → Told m (node_of m)
told_by m (Node-F.Plain s) h = let is = h ∙ rolls-Plain s in told_as m _ (node_plain m s is) (s, is)
told_by m (Node-F.Loop l x b) h = let is = h ∙ rolls-Loop l x b in told_as m _ (node_loop m l x b b.items is refl) (l, x, b, is)
told_by m (Node-F.Choice a) h = let is = h ∙ rolls-Choice a in told_as m _ (node_choice m a a.items is refl) (a, is)

told_of : (m : Node) (t : tree.Node) → node_of m ≡ t → Told m t
told_of m t is = subst (λ z. Told m z) is (told_by m (out-Node m) (sym (roll-out-Node m)))

-- a node that isn't of the kind of the plan's statement
pub no_plain : (n : PlanStmt) (m : Node) (s : PlainStatement) → n ≡ Plain s → ((x : PlainStatement) → m ≡ tree_node.Plain x → ⊥) → Decides false (IsNode (plan_node n) (node_of m))
no_plain n m s is other = by_trees _ _ _ _ false (plain_of n s is) refl (
  (λ h. cc),
  (λ h. let o = told_of m (tree.plain (plain_statement s)) (sym (one_node _ _ _ _ h)) in absurd (other o.0 o.1)),
)

pub no_loop : (n : PlanStmt) (m : Node) (l : ℕ) (x : DoHead) (b : Vec PlanStmt Global) → n ≡ Loop l x b → ((k : ℕ) (y : DoHead) (c : Vec Node Global) → m ≡ tree_node.Loop k y c → ⊥) → Decides false (IsNode (plan_node n) (node_of m))
no_loop n m l x b is other = by_trees _ _ _ _ false (loop_of n l x b b.items is refl) refl (
  (λ h. cc),
  (λ h. let o = told_of m (tree.loop l (head x) (stripped (plan_block b.items))) (sym (one_node _ _ _ _ h)) in absurd (other o.0 o.1 o.2 o.3)),
)

pub no_choice : (n : PlanStmt) (m : Node) (cs : Vec PlanArm Global) (made : Option (Vec PlanStmt Global)) → n ≡ Choice cs made → ((x : Vec Arm Global) → m ≡ tree_node.Choice x → ⊥) → Decides false (IsNode (plan_node n) (node_of m))
no_choice n m cs made is other =
    let choice = some_choice n cs made cs.items is refl in
    by_trees _ _ _ _ false choice.1 refl (
      (λ h. cc),
      (λ h. let o = told_of m (tree.choose (stripped_arms (arms (map arm_view cs.items) choice.0))) (sym (one_node _ _ _ _ h)) in absurd (other o.0 o.1)),
    )

pub same_plain : (n : PlanStmt) (m : Node) (s o : PlainStatement) (b : Bool) → n ≡ Plain s → m ≡ tree_node.Plain o → Decides b (plain_statement s ≡ plain_statement o) → Decides b (IsNode (plan_node n) (node_of m))
same_plain n m s o b e f d =
    by_trees _ _ _ _ b (plain_of n s e) (node_plain m o f) (
      (λ h. ap (λ (x : tree.Statement). tree.then_node (tree.plain x) tree.no_nodes) (d.0 h)),
      (λ h. d.1 cc),
    )

same_made : (a b : tree.Arms) (t : Bool) → Decides t (a ≡ b) → Decides t (tree.then_node (tree.choose a) tree.no_nodes ≡ tree.then_node (tree.choose b) tree.no_nodes)
same_made a b t d = ((λ h. ap (λ (x : tree.Arms). tree.then_node (tree.choose x) tree.no_nodes) (d.0 h)), (λ h. d.1 cc))

pub same_choice : (n : PlanStmt) (m : Node) (cs : Vec PlanArm Global) (made : Option (Vec PlanStmt Global)) (bs : Vec Arm Global) (xs : List PlanArm) (ys : List Arm) (b : Bool) → n ≡ Choice cs made → xs ≡ cs.items → m ≡ tree_node.Choice bs → ys ≡ bs.items
    → ((last : Option (List PlanNode)) → Decides b (stripped_arms (arms (map arm_view xs) (last_arm last)) ≡ tree.arms (map arm_of ys))) → Decides b (IsNode (plan_node n) (node_of m))
same_choice n m cs None bs xs ys b e x f y d = by_trees _ _ _ _ b (choice_of n cs None xs e refl x) (node_choice m bs ys f y) (same_made _ _ b (d None))
same_choice n m cs (Some v) bs xs ys b e x f y d = by_trees _ _ _ _ b (made_of n cs (Some v) v xs v.items e refl x refl) (node_choice m bs ys f y) (same_made _ _ b (d (Some (map plan_node v.items))))

same_loop : (l k : ℕ) (x y : tree.DoHead) (b c : tree.Block) (s t : Bool) → s ≡ true → Decides s ((l ≡ k) × (x ≡ y)) → Decides t (b ≡ c) → Decides t (tree.then_node (tree.loop l x b) tree.no_nodes ≡ tree.then_node (tree.loop k y c) tree.no_nodes)
same_loop l k x y b c s t w d e =
    let one = d.0 w in
    let first : l ≡ k = one.0 in
    let second : x ≡ y = one.1 in
    ((λ h. let third = e.0 h in cc), (λ h. e.1 cc))

other_loop : (l k : ℕ) (x y : tree.DoHead) (b c : tree.Block) (s : Bool) → s ≡ false → Decides s ((l ≡ k) × (x ≡ y)) → Decides s (tree.then_node (tree.loop l x b) tree.no_nodes ≡ tree.then_node (tree.loop k y c) tree.no_nodes)
other_loop l k x y b c s w d = part_differs s s refl w d (λ h. let first : l ≡ k = cc in let second : x ≡ y = cc in (first, second))

pub same_do : (n : PlanStmt) (m : Node) (l k : ℕ) (x y : DoHead) (b : Vec PlanStmt Global) (c : Vec Node Global) (ns : List PlanStmt) (ms : List Node) (s t : Bool) → n ≡ Loop l x b → ns ≡ b.items → m ≡ tree_node.Loop k y c → ms ≡ c.items
    → s ≡ true → Decides s ((l ≡ k) × (head x ≡ head y)) → Decides t (stripped (plan_block ns) ≡ block_view ms) → Decides t (IsNode (plan_node n) (node_of m))
same_do n m l k x y b c ns ms s t e f g h w d r = by_trees _ _ _ _ t (loop_of n l x b ns e f) (node_loop m k y c ms g h) (same_loop l k (head x) (head y) (stripped (plan_block ns)) (block_view ms) s t w d r)

pub other_do : (n : PlanStmt) (m : Node) (l k : ℕ) (x y : DoHead) (b : Vec PlanStmt Global) (c : Vec Node Global) (s : Bool) → n ≡ Loop l x b → m ≡ tree_node.Loop k y c → s ≡ false → Decides s ((l ≡ k) × (head x ≡ head y)) → Decides s (IsNode (plan_node n) (node_of m))
other_do n m l k x y b c s e g w d = by_trees _ _ _ _ s (loop_of n l x b b.items e refl) (node_loop m k y c c.items g refl) (other_loop l k (head x) (head y) (stripped (plan_block b.items)) (block_view c.items) s w d)

-- ---- arms

built : (k l : ℕ) (c d : Option Term) (x y : tree.Block) → k ≡ l → c ≡ d → x ≡ y → ◌≡◌ {A = tree.Arm} (record { line = k; condition = c; body = x }) (record { line = l; condition = d; body = y })
built k l c d x y e f g = cc

stripped_is : (a : PlanArm) (ns : List PlanStmt) → ns ≡ a.body.items → stripped_arm a ≡ record { line = a.line; condition = optional_term a.condition; body = stripped (plan_block ns) }
stripped_is a ns same = built _ _ _ _ _ _ (line_of a) (condition_of a) (ap stripped (body_of a) ∙ ap (λ (xs : List PlanStmt). stripped (plan_block xs)) (sym same))

arm_is : (b : Arm) (ms : List Node) → ms ≡ b.body.items → arm_of b ≡ record { line = b.line; condition = optional_term b.condition; body = block_view ms }
arm_is b ms same = out b ∙ built _ _ _ _ _ _ refl refl (ap block_view (sym same))
  where
    out : (b : Arm) → arm_of b ≡ record { line = b.line; condition = optional_term b.condition; body = block_view b.body.items }
    out b = fold_out-Arm tree.Node tree.Arm node_step arm_step b ∙ search rules

pub same_opening : (a : PlanArm) (b : Arm) (ns : List PlanStmt) (ms : List Node) (s t : Bool) → ns ≡ a.body.items → ms ≡ b.body.items → s ≡ true → Decides s ((a.line ≡ b.line) × (optional_term a.condition ≡ optional_term b.condition))
    → Decides t (stripped (plan_block ns) ≡ block_view ms) → Decides t (stripped_arm a ≡ arm_of b)
same_opening a b ns ms s t e f w d r = seen _ _ _ _ t (stripped_is a ns e) (arm_is b ms f) (
  (λ h. built _ _ _ _ _ _ (d.0 w).0 (d.0 w).1 (r.0 h)),
  (λ h. r.1 (ap (λ (x : tree.Arm). x.body) h)),
)

pub other_opening : (a : PlanArm) (b : Arm) (s : Bool) → s ≡ false → Decides s ((a.line ≡ b.line) × (optional_term a.condition ≡ optional_term b.condition)) → Decides s (stripped_arm a ≡ arm_of b)
other_opening a b s w d = seen _ _ _ _ s (stripped_is a a.body.items refl) (arm_is b b.body.items refl) (part_differs s s refl w d (λ h. (ap (λ (x : tree.Arm). x.line) h, ap (λ (x : tree.Arm). x.condition) h)))
