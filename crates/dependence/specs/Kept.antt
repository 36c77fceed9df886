-- Which dependences are kept, and which loops may be open.
use Rattle.std.specs.Prelude.{◌≡◌, ◌≤◌, ℕ, ℤ, pos, Bool, true, false, ◌||◌, List}
use Rattle.std.specs.Prelude.{[], ◌∷◌, ◌++◌, length, map, Option, Some, None, ⊤}
use Rattle.std.specs.List.{Contains, list_any}
use Rattle.std.specs.Ordering.{int_eq}
use Rattle.ast.specs.Store.{same_name}
use Rattle.ast.specs.Tree.{Ref, Kind, read, Node, plain, loop, choose, Block}
use Rattle.ast.specs.Tree.{no_nodes, then_node, Arms, no_arms, then_arm}
use Rattle.dependence.specs.Tests.{relation}
use Rattle.dependence.specs.declared.relation.Relation.{Relation}
use Rattle.dependence.specs.declared.relation.Relation.TheVariants.{Apart, Distance, Any}
use Rattle.loop_tree.specs.Loops.{Loop, loops_of}
use Rattle.loop_tree.specs.Occurrences.{Occurrence}
use Rattle.loop_tree.specs.Private.{Private}

-- the distance at which a relation is kept: 1 where it says nothing
abbrev pub KeptAt : Relation → ℕ → Type 0
KeptAt (Apart n reason) d = ⊥
KeptAt (Distance n e) d = d ≡ e
KeptAt Any d = d ≡ 1

-- A reference and one in a later iteration are looked at: they have one name, which isn't the
-- loop's variable, and one of them gives it a value.
pub record LookedAt (l : Loop) (a b : Occurrence) : Type 0 where
  pub a_in : Contains l.references a
  pub b_in : Contains l.references b
  pub name : same_name a.ref.name b.ref.name ≡ true
  pub other : same_name a.ref.name l.head.variable.name ≡ false
  pub defining : (a.defines || b.defines) ≡ true

-- Statement s is the source, and statement t the sink, of a dependence over d iterations that the
-- tests don't refute. A name is hidden where each iteration has a variable of its own.
pub record KeptBut (hidden : List ℕ → Type 0) (l : Loop) (s t d : ℕ) : Type 0 where
  pub a : Occurrence
  pub b : Occurrence
  pub looked_at : LookedAt l a b
  pub shared : hidden a.ref.name → ⊥
  pub source : a.statement ≡ s
  pub sink : b.statement ≡ t
  pub at : KeptAt (relation l a b) d

-- a name of a private scalar
pub record PrivateName (l : Loop) (name : List ℕ) : Type 0 where
  pub ref : Ref
  pub among : Contains l.assigned ref
  pub is : ref.name ≡ name
  pub private : Private l ref.cell

-- From statement s to statement t there is a dependence at distance d that the tests leave; private
-- scalars don't count.
abbrev pub Kept : Loop → ℕ → ℕ → ℕ → Type 0
Kept l s t d = KeptBut (PrivateName l) l s t d

-- a READ
abbrev pub is_read : Kind → Bool
is_read (read elements) = true
is_read _ = false

-- what the statements do that hold no others, in order
abbrev mutual
  pub node_kinds : Node → List Kind
  node_kinds (plain s) = s.kind ∷ []
  node_kinds (loop l h b) = block_kinds b
  node_kinds (choose a) = arms_kinds a

  pub block_kinds : Block → List Kind
  block_kinds no_nodes = []
  block_kinds (then_node n b) = node_kinds n ++ block_kinds b

  pub arms_kinds : Arms → List Kind
  arms_kinds no_arms = []
  arms_kinds (then_arm l c b more) = block_kinds b ++ arms_kinds more

-- whether a READ stands among statements, at any depth
abbrev pub block_reads : Block → Bool
block_reads b = list_any is_read (block_kinds b)

-- the variables of the loops inside, at any depth
abbrev pub block_variables : Block → List Ref
block_variables b = map (λ (l : Loop). l.head.variable) (loops_of b)

-- a plan has at most so many events
abbrev pub most_events : ℕ
most_events = 64

-- a step that is known and isn't 0
abbrev pub IsNonzero : Option ℤ → Type 0
IsNonzero None = ⊥
IsNonzero (Some s) = int_eq s (pos 0) ≡ false

-- What a loop is by itself: its step is a constant other than 0, it has no READ, each variable of a
-- loop inside is private, and at most 64 statements are sources of what is kept.
pub record Suits (l : Loop) : Type 0 where
  pub step : IsNonzero l.step
  pub no_read : block_reads l.body ≡ false
  pub inner : (r : Ref) → Contains (block_variables l.body) r → Private l r.cell
  pub sources : List ℕ
  pub few : length sources ≤ most_events
  pub all : (s t d : ℕ) → Kept l s t d → Contains sources s

-- A loop may be open: it suits, and no loop around it may be. The loops around it are given from
-- the innermost on.
abbrev mutual
  pub EligibleIn : Loop → List Loop → Type 0
  EligibleIn l [] = Suits l
  EligibleIn l (m ∷ around) = Suits l × (EligibleIn m around → ⊥) × NoneEligible around

  pub NoneEligible : List Loop → Type 0
  NoneEligible [] = ⊤
  NoneEligible (m ∷ around) = (EligibleIn m around → ⊥) × NoneEligible around
