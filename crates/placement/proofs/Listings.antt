-- The account in lists gives what is to be placed.
use Rattle.std.proofs.Common.{◌≡◌, subst, ◌∙◌, ap, sym, refl, ℕ, List, [], ◌∷◌}
use Rattle.std.specs.Prelude.{◌+◌, ◌++◌, nat_le, nat_lt, ◌&&◌, Bool, true, false, if◌then◌else◌, Option, Some, None}
use Rattle.ast.specs.Tree as tree
use Rattle.ast.specs.Tree.{DoHead, Node, Block, Arms}
use Rattle.dependence.specs.Plan.{PlanNode, loop, choose, awaits, advances, PlanBlock, then_node, no_nodes, no_arms, made_else, then_arm}
use Rattle.std.proofs.lemmas.List.{append_assoc, append-nil}
use Rattle.dependence.specs.PlanView.{ArmOf, block, arms, last_arm}
use Rattle.placement.specs.Listed as listed
use Rattle.placement.specs.Listed.{await_nodes, advance_nodes, anchors, inner_nodes, placed_nodes, listed_arms, listed_else, has_else, made_of}
use Rattle.placement.specs.Placing.{with_awaits, with_advances, made_for, events_from, anchored, node_size, block_size, arms_size, inner_node, inner_block, inner_arms, placed_node, placed_block, placed_arms}

pub awaits_block : (ws : List (ℕ × ℕ)) (ns : List PlanNode) → block (await_nodes ws ++ ns) ≡ with_awaits ws (block ns)
awaits_block [] ns = refl
awaits_block (a ∷ more) ns = ap (λ b. then_node (awaits a.0 a.1) b) (awaits_block more ns)

pub advances_block : (k : ℕ) (ss : List ℕ) (low high : ℕ) (ns : List PlanNode) → block (advance_nodes k ss low high ++ ns) ≡ with_advances (events_from k ss low high) (block ns)
advances_block k [] low high ns = refl
advances_block k (s ∷ ss) low high ns = by (nat_le low s && nat_lt s high) (advances_block (k + 1) ss low high ns)
  where
    by : (b : Bool) → block (advance_nodes (k + 1) ss low high ++ ns) ≡ with_advances (events_from (k + 1) ss low high) (block ns)
        → block (((if b then listed.advance_nodes_of k else []) ++ advance_nodes (k + 1) ss low high) ++ ns) ≡ with_advances (if b then k ∷ events_from (k + 1) ss low high else events_from (k + 1) ss low high) (block ns)
    by true h = ap (λ b. then_node (awaits k 1) (then_node (advances k) b)) h
    by false h = h

is_empty : PlanBlock → Type 0
is_empty no_nodes = Unit {0}
is_empty (then_node n b) = ⊥

is_nothing : {n : PlanNode} {b : PlanBlock} → no_nodes ≡ then_node n b → ⊥
unfolding is_empty
is_nothing e = subst (λ b. is_empty b) e tt

pub made_arms : (ns : List PlanNode) (es : List ℕ) → block (ns ++ []) ≡ with_advances es no_nodes → last_arm (made_of ns) ≡ made_for es
made_arms [] [] h = refl
made_arms [] (e ∷ es) h = absurd (is_nothing h)
made_arms (n ∷ ns) [] h = absurd (is_nothing (sym h))
made_arms (n ∷ ns) (e ∷ es) h = ap made_else (ap block (sym (append-nil (n ∷ ns))) ∙ h)

module _ (sources : List ℕ) (before : ℕ → List (ℕ × ℕ)) where
  pub inner_listed : (o : ℕ) (b : Block) → block (inner_nodes sources before o b) ≡ inner_block sources before o b
  inner_listed o tree.no_nodes = refl
  inner_listed o (tree.then_node n b) = awaits_block (before o) (inner_node sources before o n ∷ inner_nodes sources before (o + node_size n) b) ∙ ap (λ r. with_awaits (before o) (then_node (inner_node sources before o n) r)) (inner_listed (o + node_size n) b)

  pub anchored_listed : (o : ℕ) (n : Node) (ns : List PlanNode) → block (anchors sources o n ++ ns) ≡ with_advances (anchored sources before o n) (block ns)
  anchored_listed o (tree.plain s) ns = advances_block 1 sources o (o + 1) ns
  anchored_listed o (tree.loop l h b) ns = advances_block 1 sources o (o + node_size (tree.loop l h b)) ns
  anchored_listed o (tree.choose a) ns = advances_block 1 sources o (o + 1) ns

  pub placed_listed : (o : ℕ) (b : Block) → block (placed_nodes sources before o b) ≡ placed_block sources before o b
  placed_listed o tree.no_nodes = refl
  placed_listed o (tree.then_node n b) =
      awaits_block (before o) (placed_node sources before o n ∷ (anchors sources o n ++ placed_nodes sources before (o + node_size n) b))
      ∙ ap (λ r. with_awaits (before o) (then_node (placed_node sources before o n) r))
      (anchored_listed o n (placed_nodes sources before (o + node_size n) b) ∙ ap (λ r. with_advances (anchored sources before o n) r) (placed_listed (o + node_size n) b))

  pub opening_listed : (low high o : ℕ) (b : Block) → block (listed.opening sources low high o b ++ placed_nodes sources before o b)
      ≡ with_advances (events_from 1 sources low o) (with_advances (events_from 1 sources (o + block_size b) high) (placed_block sources before o b))
  opening_listed low high o b =
      ap block (append_assoc (advance_nodes 1 sources low o) (advance_nodes 1 sources (o + block_size b) high) (placed_nodes sources before o b))
      ∙ advances_block 1 sources low o (advance_nodes 1 sources (o + block_size b) high ++ placed_nodes sources before o b)
      ∙ ap (λ r. with_advances (events_from 1 sources low o) r)
      (advances_block 1 sources (o + block_size b) high (placed_nodes sources before o b) ∙ ap (λ r. with_advances (events_from 1 sources (o + block_size b) high) r) (placed_listed o b))

  pub inner_arms_listed : (o : ℕ) (a : Arms) → arms (listed.inner_listed_arms sources before o a) no_arms ≡ inner_arms sources before o a
  inner_arms_listed o tree.no_arms = refl
  inner_arms_listed o (tree.then_arm l c b more) =
      ap (λ r. then_arm l c r (arms (listed.inner_listed_arms sources before (o + block_size b) more) no_arms)) (inner_listed o b)
      ∙ ap (λ r. then_arm l c (inner_block sources before o b) r) (inner_arms_listed (o + block_size b) more)

  pub behind_else : (low high o : ℕ) (a : Arms) → arms (listed_arms sources before false low high o a) no_arms ≡ inner_arms sources before o a
  behind_else low high o tree.no_arms = refl
  behind_else low high o (tree.then_arm l c b more) =
      ap (λ r. then_arm l c r (arms (listed_arms sources before false low high (o + block_size b) more) no_arms)) (inner_listed o b)
      ∙ ap (λ r. then_arm l c (inner_block sources before o b) r) (behind_else low high (o + block_size b) more)

  pub placed_arms_listed : (low high o : ℕ) (a : Arms) → arms (listed_arms sources before true low high o a) (last_arm (listed_else sources (has_else a) low high)) ≡ placed_arms sources before low high o a
  placed_arms_listed low high o tree.no_arms = made_arms (advance_nodes 1 sources low high) (events_from 1 sources low high) (advances_block 1 sources low high [])
  placed_arms_listed low high o (tree.then_arm l None b more) =
      ap (λ r. then_arm l None r (arms (listed_arms sources before false low high (o + block_size b) more) no_arms)) (opening_listed low high o b)
      ∙ ap (λ r. then_arm l None (with_advances (events_from 1 sources low o) (with_advances (events_from 1 sources (o + block_size b) high) (placed_block sources before o b))) r) (behind_else low high (o + block_size b) more)
  placed_arms_listed low high o (tree.then_arm l (Some c) b more) =
      ap (λ r. then_arm l (Some c) r (arms (listed_arms sources before true low high (o + block_size b) more) (last_arm (listed_else sources (has_else more) low high)))) (opening_listed low high o b)
      ∙ ap (λ r. then_arm l (Some c) (with_advances (events_from 1 sources low o) (with_advances (events_from 1 sources (o + block_size b) high) (placed_block sources before o b))) r) (placed_arms_listed low high (o + block_size b) more)

  -- ---- as the code has it

  pub inner_loop : (l : ℕ) (h k : DoHead) (o m : ℕ) (b : Block) (ns : List PlanNode) → h ≡ k → m ≡ o + 1 → ns ≡ inner_nodes sources before m b → loop l h (block ns) ≡ inner_node sources before o (tree.loop l k b)
  inner_loop l h k o m b ns e f g =
      ap (λ x. loop l x (block ns)) e
      ∙ ap (λ r. loop l k r) (ap block g ∙ inner_listed m b ∙ ap (λ n. inner_block sources before n b) f)

  pub inner_choice : (o m : ℕ) (a : Arms) (made : List ArmOf) → m ≡ o + 1 → made ≡ listed.inner_listed_arms sources before m a → choose (arms made no_arms) ≡ inner_node sources before o (tree.choose a)
  inner_choice o m a made f g =
      ap (λ x. choose (arms x no_arms)) g ∙ ap choose (inner_arms_listed m a ∙ ap (λ n. inner_arms sources before n a) f)

  pub placed_choice : (o m n : ℕ) (a : Arms) (made : List ArmOf) (last : Option (List PlanNode)) → m ≡ o + 1 → n ≡ m + arms_size a → made ≡ listed_arms sources before true m n m a → last ≡ listed_else sources (has_else a) m n → choose (arms made (last_arm last)) ≡ placed_node sources before o (tree.choose a)
  placed_choice o m n a made last f e g h =
      ap (λ x. choose (arms x (last_arm last))) g
      ∙ ap (λ x. choose (arms (listed_arms sources before true m n m a) (last_arm x))) h
      ∙ ap choose (placed_arms_listed m n m a ∙ ap (λ x. placed_arms sources before m x m a) e ∙ ap (λ x. placed_arms sources before x (x + arms_size a) x a) f)

  pub placed_is : (o : ℕ) (b : Block) (ns : List PlanNode) → ns ≡ placed_nodes sources before o b → block ns ≡ placed_block sources before o b
  placed_is o b ns e = ap block e ∙ placed_listed o b
