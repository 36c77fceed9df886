-- When iterations of a loop may be run at once by a plan.
use Rattle.std.specs.Prelude.{◌≡◌, ◌+◌, ◌<◌, ◌≤◌, ℕ, Bool, true, false, ◌&&◌}
use Rattle.std.specs.Prelude.{◌||◌, List, [], ◌∷◌, ◌++◌, if◌then◌else◌}
use Rattle.std.specs.List.{Contains}
use Rattle.ast.specs.Tree as tree
use Rattle.ast.specs.Tree.{Ref, Block, Arms}
use Rattle.loop_tree.specs.Loops.{Loop}
use Rattle.loop_tree.specs.Occurrences.{Occurrence}
use Rattle.loop_tree.specs.Paths.{Token, uses, defines, await, advance, Ending, at_end}
use Rattle.dependence.specs.Kept.{IsNonzero, block_reads, block_variables, most_events}
use Rattle.dependence.specs.Meets.{Meets, IsWithin}
use Rattle.dependence.specs.Plan.{awaits, advances, plain, loop, choose, PlanBlock}
use Rattle.dependence.specs.Plan.{no_nodes, then_node, PlanArms, no_arms}
use Rattle.dependence.specs.Plan.{made_else, then_arm, PlanPaths, PlanTree}

-- ---- the plan's body without awaits, advances and made ELSEs

abbrev mutual
  -- a body without awaits, advances and made ELSEs
  pub stripped : PlanBlock → Block
  stripped no_nodes = tree.no_nodes
  stripped (then_node (awaits e d) b) = stripped b
  stripped (then_node (advances e) b) = stripped b
  stripped (then_node (plain s) b) = tree.then_node (tree.plain s) (stripped b)
  stripped (then_node (loop l h c) b) = tree.then_node (tree.loop l h (stripped c)) (stripped b)
  stripped (then_node (choose a) b) = tree.then_node (tree.choose (stripped_arms a)) (stripped b)

  pub stripped_arms : PlanArms → Arms
  stripped_arms no_arms = tree.no_arms
  stripped_arms (made_else b) = tree.no_arms
  stripped_arms (then_arm l c b more) = tree.then_arm l c (stripped b) (stripped_arms more)

-- awaits and advances alone
abbrev pub only_events : PlanBlock → Bool
only_events no_nodes = true
only_events (then_node (awaits e d) b) = only_events b
only_events (then_node (advances e) b) = only_events b
only_events (then_node n b) = false

-- made ELSEs hold awaits and advances alone
abbrev mutual
  pub made_bare : PlanBlock → Bool
  made_bare no_nodes = true
  made_bare (then_node (loop l h c) b) = made_bare c && made_bare b
  made_bare (then_node (choose a) b) = made_bare_arms a && made_bare b
  made_bare (then_node n b) = made_bare b

  pub made_bare_arms : PlanArms → Bool
  made_bare_arms no_arms = true
  made_bare_arms (made_else b) = only_events b
  made_bare_arms (then_arm l c b more) = made_bare b && made_bare_arms more

-- A plan's body without what was put in is the loop's range.
pub record SameBody (l : Loop) (p : PlanTree) : Type 0 where
  pub same : stripped p.body ≡ l.body
  pub bare : made_bare p.body ≡ true

-- ---- good plans

-- the events that are awaited, each with its distance, or advanced, as at distance 1
abbrev mutual
  pub named : PlanBlock → List (ℕ × ℕ)
  named no_nodes = []
  named (then_node (awaits e d) b) = (e, d) ∷ named b
  named (then_node (advances e) b) = (e, 1) ∷ named b
  named (then_node (plain s) b) = named b
  named (then_node (loop l h c) b) = named c ++ named b
  named (then_node (choose a) b) = named_arms a ++ named b

  pub named_arms : PlanArms → List (ℕ × ℕ)
  named_arms no_arms = []
  named_arms (made_else b) = named b
  named_arms (then_arm l c b more) = named b ++ named_arms more

-- the plan's body names an event, at a distance (an advance counts as 1)
abbrev pub Names : PlanTree → ℕ → ℕ → Type 0
Names p e d = Contains (named p.body) (e, d)

-- some path of the plan's body begins so
abbrev pub Begins : PlanTree → List Token → Type 0
Begins p u = (e : Ending) × (t : List Token) × PlanPaths p.body e (u ++ t)

-- what a path has where a reference stands
abbrev pub token_of : Occurrence → Token
token_of a = if a.defines then defines a.ref else uses a.ref

-- the plan names this scalar as private
abbrev pub IsPrivate : PlanTree → List ℕ → Type 0
IsPrivate p name = Contains p.privates name

-- A reference, and one in a later iteration, of one name that isn't private nor the loop's
-- variable; one of them gives it a value.
pub record Together (l : Loop) (p : PlanTree) (a b : Occurrence) : Type 0 where
  pub a_in : Contains l.references a
  pub b_in : Contains l.references b
  pub name : a.ref.name ≡ b.ref.name
  pub shared : IsPrivate p a.ref.name → ⊥
  pub other : a.ref.name ≡ l.head.variable.name → ⊥
  pub defining : (a.defines || b.defines) ≡ true

-- The event keeps a, in an iteration, before b, so many iterations later: no path has a behind an
-- advance of it, and each path that comes to b has awaited it, no further back than that.
pub record Keeps (p : PlanTree) (a b : Occurrence) (k j e : ℕ) : Type 0 where
  pub source : (u : List Token) → Begins p (u ++ token_of a ∷ []) → Contains u (advance e) → ⊥
  pub sink : (u : List Token) → Begins p (u ++ token_of b ∷ [])
      → (d : ℕ) × (k + d ≤ j) × Contains u (await e d)

-- What a plan must be, on all paths of its body, for iterations of the loop to run at once. The
-- loop's step is a constant other than 0; its range has no READ; the variables of the loops inside
-- are private; private names are scalars that the range gives values; events have numbers from 1
-- to 64, and distances are at least 1. The numbered conditions are those on paths.
pub record GoodPlan (l : Loop) (p : PlanTree) : Type 0 where
  pub step : IsNonzero l.step
  pub no_read : block_reads l.body ≡ false
  pub inner : (r : Ref) → Contains (block_variables l.body) r → IsPrivate p r.name
  pub scalars : (name : List ℕ) → IsPrivate p name
      → (r : Ref) × Contains l.assigned r × (r.name ≡ name)
  pub events : (e d : ℕ) → Names p e d → (1 ≤ e) × (e ≤ most_events) × (1 ≤ d)
  -- 1: a private scalar is defined before it is used
  pub defined : (u : List Token) (r : Ref) → IsPrivate p r.name → Begins p (u ++ uses r ∷ [])
      → (q : Ref) × (q.name ≡ r.name) × Contains u (defines q)
  -- 2: an event is advanced once, behind an await of the iteration before; at least where the end
  -- is reached
  pub once : (u : List Token) (e : ℕ) → Begins p (u ++ advance e ∷ []) → Contains u (advance e) → ⊥
  pub behind : (u : List Token) (e : ℕ) → Begins p (u ++ advance e ∷ []) → Contains u (await e 1)
  pub each : (t : List Token) (e d : ℕ) → Names p e d → PlanPaths p.body at_end t
      → Contains t (advance e)
  -- 3 and 4
  pub kept : (a b : Occurrence) (k j : ℕ) → Together l p a b → k < j → IsWithin l.trips j
      → Meets l a b k j → (e : ℕ) × Keeps p a b k j e
