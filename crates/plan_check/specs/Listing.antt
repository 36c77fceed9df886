-- An account of the code: events, and behind them those that a plan names.
use Rattle.std.specs.Prelude.{ℕ, List, [], ◌∷◌, ◌++◌}
use Rattle.dependence.specs.Plan.{PlanNode, awaits, advances, plain, loop, choose, PlanBlock}
use Rattle.dependence.specs.Plan.{no_nodes, then_node, PlanArms, no_arms, made_else, then_arm}

abbrev mutual
  pub with_node : PlanNode → List (ℕ × ℕ) → List (ℕ × ℕ)
  with_node (awaits e d) ns = ns ++ (e, d) ∷ []
  with_node (advances e) ns = ns ++ (e, 1) ∷ []
  with_node (plain x) ns = ns
  with_node (loop l h b) ns = with_block b ns
  with_node (choose a) ns = with_arms a ns

  pub with_block : PlanBlock → List (ℕ × ℕ) → List (ℕ × ℕ)
  with_block no_nodes ns = ns
  with_block (then_node n b) ns = with_block b (with_node n ns)

  pub with_arms : PlanArms → List (ℕ × ℕ) → List (ℕ × ℕ)
  with_arms no_arms ns = ns
  with_arms (made_else b) ns = with_block b ns
  with_arms (then_arm l c b more) ns = with_arms more (with_block b ns)
