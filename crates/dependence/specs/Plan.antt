-- Plans as plain data, and their paths.
use Rattle.std.specs.Prelude.{ℕ, List, [], ◌∷◌, Option, Some, None}
use Rattle.ast.specs.Tree.{Term, DoHead, Statement}
use Rattle.dependence.specs.declared.relation.Relation.{Relation}
use Rattle.loop_tree.specs.Paths.{await, advance, PathSet, Just, Then, Either}
use Rattle.loop_tree.specs.Paths.{AnyTimes, KindPaths, head_tokens, term_tokens}

mutual
  -- a statement of a plan; an IF without an ELSE may have a made one
  pub data PlanNode : Type 0 where
    awaits : ℕ → ℕ → PlanNode
    advances : ℕ → PlanNode
    plain : Statement → PlanNode
    loop : ℕ → DoHead → PlanBlock → PlanNode
    choose : PlanArms → PlanNode

  pub data PlanBlock : Type 0 where
    no_nodes : PlanBlock
    then_node : PlanNode → PlanBlock → PlanBlock

  pub data PlanArms : Type 0 where
    no_arms : PlanArms
    made_else : PlanBlock → PlanArms
    then_arm : ℕ → Option Term → PlanBlock → PlanArms → PlanArms

-- The paths of a plan: as those of a program, with what is awaited and advanced.
abbrev mutual
  pub PlanNodePaths : PlanNode → PathSet
  PlanNodePaths (awaits e d) = Just (await e d ∷ [])
  PlanNodePaths (advances e) = Just (advance e ∷ [])
  PlanNodePaths (plain s) = KindPaths s.kind
  PlanNodePaths (loop l h b) = Then (Just (head_tokens h)) (AnyTimes (PlanPaths b))
  PlanNodePaths (choose a) = PlanArmsPaths a

  pub PlanPaths : PlanBlock → PathSet
  PlanPaths no_nodes = Just []
  PlanPaths (then_node n b) = Then (PlanNodePaths n) (PlanPaths b)

  pub PlanArmsPaths : PlanArms → PathSet
  PlanArmsPaths no_arms = Just []
  PlanArmsPaths (made_else b) = PlanPaths b
  PlanArmsPaths (then_arm l None b more) = PlanPaths b
  PlanArmsPaths (then_arm l (Some e) b more) =
      Then (Just (term_tokens e)) (Either (PlanPaths b) (PlanArmsPaths more))

-- a plan with a body: private names, and what is claimed of pairs of references
pub record PlanTree : Type 0 where
  pub body : PlanBlock
  pub privates : List (List ℕ)
  pub relations : List (ℕ × ℕ × Relation)
