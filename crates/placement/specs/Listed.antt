-- An account of the code: what is placed, in lists.
use Rattle.std.specs.Prelude.{◌+◌, nat_le, nat_lt, ℕ, Bool, true, false, not, ◌&&◌, ◌||◌, List}
use Rattle.std.specs.Prelude.{[], ◌∷◌, ◌++◌, Option, Some, None, Vec, if◌then◌else◌, slice_get}
use Rattle.std.specs.Global.{Global}
use Rattle.ast.specs.Tree as tree
use Rattle.ast.specs.Tree.{Node, Block, Arms, Term}
use Rattle.dependence.specs.Plan.{PlanNode, awaits, advances}
use Rattle.dependence.specs.PlanView as plan_view
use Rattle.dependence.specs.PlanView.{ArmOf}
use Rattle.placement.specs.Placing.{node_size, block_size, placed_node, inner_node}
use Rattle.placement.specs.declared.placing.Spots.{Spots}

abbrev pub await_nodes : List (ℕ × ℕ) → List PlanNode
await_nodes [] = []
await_nodes (a ∷ more) = awaits a.0 a.1 ∷ await_nodes more

abbrev pub items_if : {X Y : Type 0} → (X → List Y) → Option X → List Y
items_if items None = []
items_if items (Some v) = items v

-- the list of a number, empty beyond the end
abbrev pub list_at : {X : Type 0} → List (Vec X Global) → ℕ → List X
list_at lists n = items_if (λ v. v.items) (slice_get lists n)

-- what is awaited before a statement
abbrev pub awaited : Spots → ℕ → List (ℕ × ℕ)
awaited s t = list_at s.awaits.items t

abbrev pub advance_nodes_of : ℕ → List PlanNode
advance_nodes_of e = awaits e 1 ∷ advances e ∷ []

-- of the events whose sources stand from one number on and before another; the first source has
-- event k
abbrev pub advance_nodes : ℕ → List ℕ → ℕ → ℕ → List PlanNode
advance_nodes k [] low high = []
advance_nodes k (s ∷ ss) low high =
    (if nat_le low s && nat_lt s high then advance_nodes_of k else [])
    ++ advance_nodes (k + 1) ss low high

abbrev pub is_some : Option Term → Bool
is_some None = false
is_some (Some e) = true

abbrev pub has_else : Arms → Bool
has_else tree.no_arms = false
has_else (tree.then_arm l c b more) = not (is_some c) || has_else more

abbrev pub made_of : List PlanNode → Option (List PlanNode)
made_of [] = None
made_of (n ∷ ns) = Some (n ∷ ns)

module _ (sources : List ℕ) where
  abbrev pub anchors : ℕ → Node → List PlanNode
  anchors o (tree.plain s) = advance_nodes 1 sources o (o + 1)
  anchors o (tree.loop l h b) = advance_nodes 1 sources o (o + node_size (tree.loop l h b))
  anchors o (tree.choose a) = advance_nodes 1 sources o (o + 1)

  -- the beginning of an arm from number o on: the advances of the other arms' events
  abbrev pub opening : ℕ → ℕ → ℕ → Block → List PlanNode
  opening low high o b =
      advance_nodes 1 sources low o ++ advance_nodes 1 sources (o + block_size b) high

  abbrev pub listed_else : Bool → ℕ → ℕ → Option (List PlanNode)
  listed_else true low high = None
  listed_else false low high = made_of (advance_nodes 1 sources low high)

module _ (sources : List ℕ) (before : ℕ → List (ℕ × ℕ)) where
  abbrev pub inner_nodes : ℕ → Block → List PlanNode
  inner_nodes o tree.no_nodes = []
  inner_nodes o (tree.then_node n b) =
      await_nodes (before o) ++ (inner_node sources before o n ∷ inner_nodes (o + node_size n) b)

  abbrev pub placed_nodes : ℕ → Block → List PlanNode
  placed_nodes o tree.no_nodes = []
  placed_nodes o (tree.then_node n b) =
      await_nodes (before o) ++ (placed_node sources before o n
      ∷ (anchors sources o n ++ placed_nodes (o + node_size n) b))

  -- an arm of an IF of an inner loop, from number o on
  abbrev pub inner_arm : ℕ → ℕ → Option Term → Block → ArmOf
  inner_arm o l c b = record { line = l; condition = c; body = plan_view.block (inner_nodes o b) }

  abbrev pub inner_listed_arms : ℕ → Arms → List ArmOf
  inner_listed_arms o tree.no_arms = []
  inner_listed_arms o (tree.then_arm l c b more) =
      inner_arm o l c b ∷ inner_listed_arms (o + block_size b) more

  -- an arm of an IF whose arms stand between low and high: its events and those of the other arms
  -- are advanced in it, unless it stands behind an ELSE
  abbrev pub listed_arm : Bool → ℕ → ℕ → ℕ → ℕ → Option Term → Block → ArmOf
  listed_arm true low high o l c b = record {
    line = l;
    condition = c;
    body = plan_view.block (opening sources low high o b ++ placed_nodes o b);
  }
  listed_arm false low high o l c b = inner_arm o l c b

  abbrev pub listed_arms : Bool → ℕ → ℕ → ℕ → Arms → List ArmOf
  listed_arms is_open low high o tree.no_arms = []
  listed_arms is_open low high o (tree.then_arm l c b more) =
      listed_arm is_open low high o l c b
      ∷ listed_arms (is_open && is_some c) low high (o + block_size b) more
