-- What is known of all paths that come to a place of a plan: an account of the code.
use Rattle.std.specs.Prelude.{nat_le, ℕ, min, max, Bool, true, false, ◌&&◌, List, [], ◌∷◌}
use Rattle.std.specs.Prelude.{◌++◌, replicate, Option, Some, None, get_or, slice_set}
use Rattle.ast.specs.References.{expressions_references, items_expressions}
use Rattle.ast.specs.Tree.{Kind, assign, print, read, stop}
use Rattle.loop_tree.specs.Paths.{Token, uses, defines, await, advance, used, term_tokens}
use Rattle.loop_tree.specs.Paths.{target_tokens, targets_tokens, head_tokens}
use Rattle.dependence.specs.Plan.{PlanNode, awaits, advances, plain, loop, choose, PlanBlock}
use Rattle.dependence.specs.Plan.{no_nodes, then_node, PlanArms, no_arms, made_else, then_arm}

-- the least distance at which an event was awaited; None where one path hasn't
abbrev pub Near : Type 0
Near = Option ℕ

-- defined: the scalars, by their cells, that each path has defined. By the events' numbers, near:
-- how near each path has awaited them; free: no path has advanced them; advanced: each path has.
pub record Known : Type 0 where
  pub defined : List Bool
  pub near : List Near
  pub free : List Bool
  pub advanced : List Bool

-- a list with one of its values replaced
abbrev pub put : {A : Type 0} → List A → ℕ → A → List A
put xs n v = slice_set xs n v

-- a list of as many values, each of them v
abbrev pub all : {A : Type 0} → A → List A → List A
all v [] = []
all v (x ∷ xs) = v ∷ all v xs

-- one more await
abbrev pub nearer : ℕ → Near → Near
nearer d None = Some d
nearer d (Some n) = Some (min n d)

-- a mark by its number; false where there is none
abbrev pub flag_at : List Bool → ℕ → Bool
flag_at xs n = get_or xs n false

-- how near an event has been awaited
abbrev pub near_at : List Near → ℕ → Near
near_at xs n = get_or xs n None

-- with an event awaited at distance d
abbrev pub with_await : List Near → ℕ → ℕ → List Near
with_await ns e d = slice_set ns e (nearer d (near_at ns e))

-- paths of two kinds come to one place
abbrev pub zipped : {A : Type 0} → (A → A → A) → A → List A → List A → List A
zipped f d [] ys = []
zipped f d (x ∷ xs) [] = f x d ∷ zipped f d xs []
zipped f d (x ∷ xs) (y ∷ ys) = f x y ∷ zipped f d xs ys

-- what both kinds of paths have done
abbrev pub both : List Bool → List Bool → List Bool
both xs ys = zipped (λ a b. a && b) false xs ys

-- the further of two distances; None where one is
abbrev pub further : Near → Near → Near
further (Some m) (Some n) = Some (max m n)
further m n = None

-- how near both kinds of paths have awaited each event
abbrev pub both_near : List Near → List Near → List Near
both_near xs ys = zipped (λ a b. further a b) None xs ys

-- what is known where paths of two kinds come together
abbrev pub joined : Known → Known → Known
joined s r = record {
  defined = both s.defined r.defined;
  near = both_near s.near r.near;
  free = both s.free r.free;
  advanced = both s.advanced r.advanced;
}

-- no path comes here
abbrev pub nowhere : Known → Known
nowhere s = record {
  defined = all true s.defined;
  near = all (Some 0) s.near;
  free = all true s.free;
  advanced = all true s.advanced;
}

-- the beginning, for so many cells and events
abbrev pub beginning : ℕ → ℕ → Known
beginning cells events = record {
  defined = replicate cells false;
  near = replicate events None;
  free = replicate events true;
  advanced = replicate events false;
}

-- what is known behind a token
abbrev pub step : Token → Known → Known
step (uses r) s = s
step (defines r) s = record s { defined = put s.defined r.cell true }
step (await e d) s = record s { near = with_await s.near e d }
step (advance e) s = record s { free = put s.free e false; advanced = put s.advanced e true }

-- a scalar is defined as well, by its cell
abbrev pub defined_too : Known → ℕ → Known
defined_too s c = record s { defined = put s.defined c true }

-- what is known behind tokens
abbrev pub after : List Token → Known → Known
after [] s = s
after (x ∷ t) s = after t (step x s)

-- a token, and what is known before it
abbrev pub Point : Type 0
Point = Token × Known

-- each of these tokens, with what is known before it
abbrev pub points : List Token → Known → List Point
points [] s = []
points (x ∷ t) s = (x, s) ∷ points t (step x s)

-- ---- over the tree

-- the tokens of a statement that holds no others
abbrev pub kind_tokens : Kind → List Token
kind_tokens (assign a e) = term_tokens e ++ target_tokens a
kind_tokens (print items) = used (expressions_references (items_expressions items))
kind_tokens (read elements) = targets_tokens elements
kind_tokens _ = []

-- what is known behind such a statement: behind a STOP there is no path
abbrev pub after_kind : Kind → Known → Known
after_kind stop s = nowhere s
after_kind k s = after (kind_tokens k) s

-- An inner loop may be left out, and gone through again: no event is advanced in it.
abbrev mutual
  pub after_node : PlanNode → Known → Known
  after_node (awaits e d) s = step (await e d) s
  after_node (advances e) s = step (advance e) s
  after_node (plain x) s = after_kind x.kind s
  after_node (loop l h b) s = after (head_tokens h) s
  after_node (choose a) s = after_arms a (nowhere s) s

  -- what is known on all paths to the end of a body
  pub after_block : PlanBlock → Known → Known
  after_block no_nodes s = s
  after_block (then_node n b) s = after_block b (after_node n s)

  -- by the arms that are left, or by those before, of which this is known
  pub after_arms : PlanArms → Known → Known → Known
  after_arms no_arms ended s = joined s ended
  after_arms (made_else b) ended s = joined (after_block b s) ended
  after_arms (then_arm l None b more) ended s =
      after_arms more (joined ended (after_block b s)) (nowhere s)
  after_arms (then_arm l (Some c) b more) ended s =
      after_arms more (joined ended (after_block b (after (term_tokens c) s)))
      (after (term_tokens c) s)

abbrev mutual
  -- each token of a body, in the order of the text, with what is known before it
  pub node_points : PlanNode → Known → List Point
  node_points (awaits e d) s = (await e d, s) ∷ []
  node_points (advances e) s = (advance e, s) ∷ []
  node_points (plain x) s = points (kind_tokens x.kind) s
  node_points (loop l h b) s = points (head_tokens h) s ++ block_points b (after (head_tokens h) s)
  node_points (choose a) s = arms_points a s

  pub block_points : PlanBlock → Known → List Point
  block_points no_nodes s = []
  block_points (then_node n b) s = node_points n s ++ block_points b (after_node n s)

  -- behind an ELSE there is no path
  pub arms_points : PlanArms → Known → List Point
  arms_points no_arms s = []
  arms_points (made_else b) s = block_points b s
  arms_points (then_arm l None b more) s = block_points b s ++ arms_points more (nowhere s)
  arms_points (then_arm l (Some c) b more) s =
      points (term_tokens c) s
      ++ (block_points b (after (term_tokens c) s) ++ arms_points more (after (term_tokens c) s))

-- no event is advanced
abbrev mutual
  pub no_advance : PlanBlock → Bool
  no_advance no_nodes = true
  no_advance (then_node (advances e) b) = false
  no_advance (then_node (loop l h c) b) = no_advance c && no_advance b
  no_advance (then_node (choose a) b) = no_advance_arms a && no_advance b
  no_advance (then_node n b) = no_advance b

  pub no_advance_arms : PlanArms → Bool
  no_advance_arms no_arms = true
  no_advance_arms (made_else b) = no_advance b
  no_advance_arms (then_arm l c b more) = no_advance b && no_advance_arms more

-- none is advanced in a loop
abbrev mutual
  pub outside : PlanBlock → Bool
  outside no_nodes = true
  outside (then_node (loop l h c) b) = no_advance c && outside b
  outside (then_node (choose a) b) = outside_arms a && outside b
  outside (then_node n b) = outside b

  pub outside_arms : PlanArms → Bool
  outside_arms no_arms = true
  outside_arms (made_else b) = outside b
  outside_arms (then_arm l c b more) = outside b && outside_arms more

-- ---- what is asked

-- an event has been awaited on each path, no further back than d
abbrev pub is_near : Near → ℕ → Bool
is_near None d = false
is_near (Some n) d = nat_le n d

-- each path has defined the scalar with this cell
abbrev pub is_defined : Known → ℕ → Bool
is_defined s c = get_or s.defined c false

-- each path has awaited the event, no further back than d
abbrev pub has_awaited : Known → ℕ → ℕ → Bool
has_awaited s e d = is_near (get_or s.near e None) d

-- no path has advanced the event
abbrev pub is_free : Known → ℕ → Bool
is_free s e = get_or s.free e false

-- each path has advanced the event
abbrev pub has_advanced : Known → ℕ → Bool
has_advanced s e = get_or s.advanced e false
