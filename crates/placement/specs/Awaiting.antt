-- What is awaited in a plan, and before which statements.
use Rattle.std.specs.Prelude.{◌≡◌, ◌↔◌, ◌==◌, ◌+◌, ℕ, Bool, true, false, ◌&&◌, ◌||◌}
use Rattle.std.specs.Prelude.{List, [], ◌∷◌, ◌++◌, Option, Some, None, if◌then◌else◌}
use Rattle.std.specs.List.{Contains}
use Rattle.dependence.specs.Kept.{Kept}
use Rattle.dependence.specs.Plan.{awaits, advances, plain, loop, choose, PlanBlock, no_nodes}
use Rattle.dependence.specs.Plan.{then_node, PlanArms, no_arms, made_else, then_arm, PlanTree}
use Rattle.loop_tree.specs.Loops.{IsWhole, Loop}
use Rattle.placement.specs.Placement.{IsEvent, IsPlacedBody}
use Rattle.placement.specs.Placing.{arms_size, block_size}
use Rattle.plan_check.specs.GoodPlan.{stripped, stripped_arms}

-- An await of an event at distance 1, directly before an advance of it, is the order await of that.
abbrev pub is_order_await : ℕ → ℕ → PlanBlock → Bool
is_order_await e d (then_node (advances x) b) = (e == x) && (d == 1)
is_order_await e d _ = false

-- The other awaits: the event, the distance and the number of the statement that they stand before;
-- the statements have numbers from n on.
abbrev mutual
  pub awaited_in : ℕ → PlanBlock → List (ℕ × ℕ × ℕ)
  awaited_in n no_nodes = []
  awaited_in n (then_node (awaits e d) b) =
      (if is_order_await e d b then [] else (e, d, n) ∷ []) ++ awaited_in n b
  awaited_in n (then_node (advances e) b) = awaited_in n b
  awaited_in n (then_node (plain s) b) = awaited_in (n + 1) b
  awaited_in n (then_node (loop l h c) b) =
      awaited_in (n + 1) c ++ awaited_in (n + 1 + block_size (stripped c)) b
  awaited_in n (then_node (choose a) b) =
      awaited_in_arms (n + 1) a ++ awaited_in (n + 1 + arms_size (stripped_arms a)) b

  pub awaited_in_arms : ℕ → PlanArms → List (ℕ × ℕ × ℕ)
  awaited_in_arms n no_arms = []
  awaited_in_arms n (made_else b) = awaited_in n b
  awaited_in_arms n (then_arm l c b more) =
      awaited_in n b ++ awaited_in_arms (n + block_size (stripped b)) more

-- what was awaited at distance 1 directly before is the event
abbrev pub is_awaited : Option ℕ → ℕ → Bool
is_awaited None e = false
is_awaited (Some x) e = x == e

-- Each advance has its order await.
abbrev mutual
  pub are_ordered : Option ℕ → PlanBlock → Bool
  are_ordered last no_nodes = true
  are_ordered last (then_node (awaits e d) b) = are_ordered (if d == 1 then Some e else None) b
  are_ordered last (then_node (advances e) b) = is_awaited last e && are_ordered None b
  are_ordered last (then_node (plain s) b) = are_ordered None b
  are_ordered last (then_node (loop l h c) b) = are_ordered None c && are_ordered None b
  are_ordered last (then_node (choose a) b) = are_ordered_arms a && are_ordered None b

  pub are_ordered_arms : PlanArms → Bool
  are_ordered_arms no_arms = true
  are_ordered_arms (made_else b) = are_ordered None b
  are_ordered_arms (then_arm l c b more) = are_ordered None b && are_ordered_arms more

-- a statement comes next, but for awaits
abbrev pub leads_to_statement : PlanBlock → Bool
leads_to_statement no_nodes = false
leads_to_statement (then_node (awaits e d) b) = leads_to_statement b
leads_to_statement (then_node (advances e) b) = false
leads_to_statement (then_node n b) = true

-- Each await is an order await, or stands directly before a statement, with others perhaps.
abbrev mutual
  pub are_before : PlanBlock → Bool
  are_before no_nodes = true
  are_before (then_node (awaits e d) b) =
      (leads_to_statement b || is_order_await e d b) && are_before b
  are_before (then_node (advances e) b) = are_before b
  are_before (then_node (plain s) b) = are_before b
  are_before (then_node (loop l h c) b) = are_before c && are_before b
  are_before (then_node (choose a) b) = are_before_arms a && are_before b

  pub are_before_arms : PlanArms → Bool
  are_before_arms no_arms = true
  are_before_arms (made_else b) = are_before b
  are_before_arms (then_arm l c b more) = are_before b && are_before_arms more

-- The awaits of a plan: order awaits, one of each advance, and before each statement those of what
-- is kept and has it as its sink.
pub record AwaitsKept (l : Loop) (p : PlanTree) (sources : List ℕ) : Type 0 where
  pub ordered : are_ordered None p.body ≡ true
  pub before : are_before p.body ≡ true
  pub kept : (e d t : ℕ) → Contains (awaited_in (l.statement + 1) p.body) (e, d, t)
      ↔ ((s : ℕ) × IsEvent 1 sources e s × Kept l s t d)

-- A law: each plan that opens a loop has these awaits.
abbrev pub AreKept : Type 0
AreKept =
    (l : Loop) (p : PlanTree) → IsWhole l → (placed : IsPlacedBody l p)
    → AwaitsKept l p placed.sources
