-- Where the events of a plan's body are advanced.
use Rattle.std.specs.Prelude.{ℕ, Bool, true, false, List, [], ◌∷◌, ◌++◌}
use Rattle.dependence.specs.Plan.{PlanNode, awaits, advances, plain, loop, choose, PlanBlock}
use Rattle.dependence.specs.Plan.{no_nodes, then_node, PlanArms, no_arms, made_else, then_arm}
use Rattle.engines.specs.declared.spots.Spot.{Spot}
use Rattle.engines.specs.declared.spots.Spot.TheVariants.{Behind, Arm, Made}

abbrev pub is_behind : Spot → Bool
is_behind (Behind line) = true
is_behind spot = false

-- the line of an IF is that of its first arm
abbrev pub first_line : PlanArms → ℕ
first_line (then_arm line condition body more) = line
first_line arms = 0

-- Behind a statement the spot is behind it; awaits and advances leave it where it is.
abbrev pub moved : Spot → PlanNode → Spot
moved here (awaits e d) = here
moved here (advances e) = here
moved here (plain s) = Behind s.line
moved here (loop line h range) = Behind line
moved here (choose a) = Behind (first_line a)

-- Each advance in source order: its event and its spot, which is behind the last statement before
-- it or, where there is none, at the beginning of its arm or made ELSE.
abbrev mutual
  pub spots : Spot → PlanBlock → List (ℕ × Spot)
  spots here no_nodes = []
  spots here (then_node n b) = node_spots here n ++ spots (moved here n) b

  pub node_spots : Spot → PlanNode → List (ℕ × Spot)
  node_spots here (awaits e d) = []
  node_spots here (advances e) = (e, here) ∷ []
  node_spots here (plain s) = []
  node_spots here (loop line h range) = []
  node_spots here (choose a) = arm_spots (first_line a) a

  -- the IF has this line
  pub arm_spots : ℕ → PlanArms → List (ℕ × Spot)
  arm_spots line no_arms = []
  arm_spots line (made_else b) = spots (Made line) b
  arm_spots line (then_arm l condition b more) = spots (Arm l) b ++ arm_spots line more
