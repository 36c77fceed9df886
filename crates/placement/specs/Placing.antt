-- Where awaits and advances are put in the range of a loop (placement for known distances, after
-- Midkiff and Padua): statements have numbers, those of the range from one on.
use Rattle.std.specs.Prelude.{◌+◌, nat_le, nat_lt, ℕ, ◌&&◌, List, []}
use Rattle.std.specs.Prelude.{◌∷◌, length, Some, None, if◌then◌else◌}
use Rattle.ast.specs.Tree as tree
use Rattle.ast.specs.Tree.{Node, Block, Arms}
use Rattle.loop_tree.specs.Occurrences.{node_lines, block_lines, arms_lines}
use Rattle.dependence.specs.Plan.{PlanNode, awaits, advances, plain, loop, choose, PlanBlock}
use Rattle.dependence.specs.Plan.{no_nodes, then_node, PlanArms, no_arms, made_else, then_arm}

-- how many statements a node is, with those that it holds
abbrev pub node_size : Node → ℕ
node_size n = length (node_lines n)

-- how many statements a block has, at any depth
abbrev pub block_size : Block → ℕ
block_size b = length (block_lines b)

-- how many statements all arms have, at any depth
abbrev pub arms_size : Arms → ℕ
arms_size a = length (arms_lines a)

-- the events whose sources stand from one number on and before another; sources in order, the first
-- of those that are left has event k
abbrev pub events_from : ℕ → List ℕ → ℕ → ℕ → List ℕ
events_from k [] low high = []
events_from k (s ∷ ss) low high =
    if nat_le low s && nat_lt s high then k ∷ events_from (k + 1) ss low high
    else events_from (k + 1) ss low high

-- awaits in front of statements
abbrev pub with_awaits : List (ℕ × ℕ) → PlanBlock → PlanBlock
with_awaits [] b = b
with_awaits (a ∷ more) b = then_node (awaits a.0 a.1) (with_awaits more b)

-- each with an order await before it
abbrev pub with_advances : List ℕ → PlanBlock → PlanBlock
with_advances [] b = b
with_advances (e ∷ more) b = then_node (awaits e 1) (then_node (advances e) (with_advances more b))

-- an ELSE is made where an event is advanced in an arm
abbrev pub made_for : List ℕ → PlanArms
made_for [] = no_arms
made_for (e ∷ es) = made_else (with_advances (e ∷ es) no_nodes)

-- sources: in order; before: what is awaited before a statement, by event and distance
module _ (sources : List ℕ) (before : ℕ → List (ℕ × ℕ)) where
  -- the events whose sources stand from number low on and before high
  abbrev pub events : ℕ → ℕ → List ℕ
  events low high = events_from 1 sources low high

  -- the events that are advanced behind a statement, which is statement o
  abbrev pub anchored : ℕ → Node → List ℕ
  anchored o (tree.plain s) = events o (o + 1)
  anchored o (tree.loop l h b) = events o (o + node_size (tree.loop l h b))
  anchored o (tree.choose a) = events o (o + 1)

  -- in an inner loop: awaits alone
  abbrev mutual
    pub inner_node : ℕ → Node → PlanNode
    inner_node o (tree.plain s) = plain s
    inner_node o (tree.loop l h b) = loop l h (inner_block (o + 1) b)
    inner_node o (tree.choose a) = choose (inner_arms (o + 1) a)

    pub inner_block : ℕ → Block → PlanBlock
    inner_block o tree.no_nodes = no_nodes
    inner_block o (tree.then_node n b) =
        with_awaits (before o) (then_node (inner_node o n) (inner_block (o + node_size n) b))

    pub inner_arms : ℕ → Arms → PlanArms
    inner_arms o tree.no_arms = no_arms
    inner_arms o (tree.then_arm l c b more) =
        then_arm l c (inner_block o b) (inner_arms (o + block_size b) more)

  abbrev mutual
    pub placed_node : ℕ → Node → PlanNode
    placed_node o (tree.plain s) = plain s
    placed_node o (tree.loop l h b) = loop l h (inner_block (o + 1) b)
    placed_node o (tree.choose a) = choose (placed_arms (o + 1) (o + 1 + arms_size a) (o + 1) a)

    -- a block that begins with statement o: before each statement what it awaits, behind it the
    -- advances of the events that are anchored there
    pub placed_block : ℕ → Block → PlanBlock
    placed_block o tree.no_nodes = no_nodes
    placed_block o (tree.then_node n b) =
        with_awaits (before o) (then_node (placed_node o n)
        (with_advances (anchored o n) (placed_block (o + node_size n) b)))

    -- low and high: the numbers between which the arms of the IF stand
    pub placed_arms : ℕ → ℕ → ℕ → Arms → PlanArms
    placed_arms low high o tree.no_arms = made_for (events low high)
    placed_arms low high o (tree.then_arm l None b more) =
        then_arm l None (with_advances (events low o)
        (with_advances (events (o + block_size b) high) (placed_block o b)))
        (inner_arms (o + block_size b) more)
    placed_arms low high o (tree.then_arm l (Some c) b more) =
        then_arm l (Some c) (with_advances (events low o)
        (with_advances (events (o + block_size b) high) (placed_block o b)))
        (placed_arms low high (o + block_size b) more)
