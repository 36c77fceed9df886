-- The events that are listed are those that the plan names.
use Rattle.std.proofs.Common.{◌≡◌, ◌∙◌, ℕ, List, [], ◌∷◌, ◌++◌, ap, sym, append_assoc}
use Rattle.std.proofs.lemmas.List.{append-nil}
use Rattle.dependence.specs.Plan.{awaits, advances, plain, loop, choose, PlanBlock, no_nodes, then_node, PlanArms, no_arms, made_else, then_arm}
use Rattle.plan_check.specs.GoodPlan.{named, named_arms}
use Rattle.plan_check.specs.Listing.{with_arms, with_block}

mutual
  block_listed : (b : PlanBlock) (ns : List (ℕ × ℕ)) → with_block b ns ≡ ns ++ named b
  block_listed no_nodes ns = sym (append-nil ns)
  block_listed (then_node (awaits e d) b) ns = block_listed b (ns ++ (e, d) ∷ []) ∙ append_assoc ns ((e, d) ∷ []) (named b)
  block_listed (then_node (advances e) b) ns = block_listed b (ns ++ (e, 1) ∷ []) ∙ append_assoc ns ((e, 1) ∷ []) (named b)
  block_listed (then_node (plain x) b) ns = block_listed b ns
  block_listed (then_node (loop l h c) b) ns = block_listed b (with_block c ns) ∙ ap (λ ms. ms ++ named b) (block_listed c ns) ∙ append_assoc ns (named c) (named b)
  block_listed (then_node (choose a) b) ns = block_listed b (with_arms a ns) ∙ ap (λ ms. ms ++ named b) (arms_listed a ns) ∙ append_assoc ns (named_arms a) (named b)

  arms_listed : (a : PlanArms) (ns : List (ℕ × ℕ)) → with_arms a ns ≡ ns ++ named_arms a
  arms_listed no_arms ns = sym (append-nil ns)
  arms_listed (made_else b) ns = block_listed b ns
  arms_listed (then_arm l c b more) ns = arms_listed more (with_block b ns) ∙ ap (λ ms. ms ++ named_arms more) (block_listed b ns) ∙ append_assoc ns (named b) (named_arms more)

pub listed : (b : PlanBlock) → with_block b [] ≡ named b
listed b = block_listed b []
