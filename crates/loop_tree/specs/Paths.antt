-- The ways that a part of a program may be gone through, told by what they use and define in order
-- of evaluation.
use Rattle.std.specs.Prelude.{◌≡◌, ◌⊎◌, ℕ, zero, suc, List, [], ◌∷◌, ◌++◌, map, Some, None}
use Rattle.ast.specs.References.{term_references, terms_references, optional}
use Rattle.ast.specs.References.{expressions_references, items_expressions}
use Rattle.ast.specs.Tree.{Ref, Term, Access, DoHead, Kind, assign, print, read, stop, Node, plain}
use Rattle.ast.specs.Tree.{loop, choose, Block, no_nodes, then_node, Arms, no_arms, then_arm}

-- what a path says of one step: a reference is read, or is given a value; an event is awaited, so
-- many iterations back, or advanced
pub data Token : Type 0 where
  uses : Ref → Token
  defines : Ref → Token
  await : ℕ → ℕ → Token
  advance : ℕ → Token

-- how a path of a part of a program ends: at the part's end, or at a STOP
pub data Ending : Type 0 where
  at_end : Ending
  at_stop : Ending

-- a set of paths
abbrev pub PathSet : Type 1
PathSet = Ending → List Token → Type 0

-- the one path of these tokens
abbrev pub Just : List Token → PathSet
Just ts at_end t = t ≡ ts
Just ts at_stop t = ⊥

-- the one path to a STOP
abbrev pub Stop : PathSet
Stop at_end t = ⊥
Stop at_stop t = t ≡ []

-- a path of one part to its end, and then one of the other
abbrev pub Joined : PathSet → PathSet → PathSet
Joined P Q e t = (u : List Token) × (v : List Token) × (t ≡ u ++ v) × P at_end u × Q e v

-- one part after another; after a STOP no path goes on
abbrev pub Then : PathSet → PathSet → PathSet
Then P Q at_end t = Joined P Q at_end t
Then P Q at_stop t = P at_stop t ⊎ Joined P Q at_stop t

-- the paths of both
abbrev pub Either : PathSet → PathSet → PathSet
Either P Q e t = P e t ⊎ Q e t

-- n times in a row
abbrev pub Times : ℕ → PathSet → PathSet
Times zero P = Just []
Times (suc n) P = Then P (Times n P)

-- any number of times, none included
abbrev pub AnyTimes : PathSet → PathSet
AnyTimes P e t = (n : ℕ) × Times n P e t

-- these references are read, one after another
abbrev pub used : List Ref → List Token
used rs = map (λ r. uses r) rs

-- what an expression reads, in order of evaluation
abbrev pub term_tokens : Term → List Token
term_tokens e = used (term_references e)

-- an element that is given a value: its subscripts are evaluated before it
abbrev pub target_tokens : Access → List Token
target_tokens a = used (terms_references a.subscripts) ++ defines a.ref ∷ []

-- elements that are given values, one after another
abbrev pub targets_tokens : List Access → List Token
targets_tokens [] = []
targets_tokens (a ∷ more) = target_tokens a ++ targets_tokens more

-- the parameters of a DO, then its variable, which gets the first of them
abbrev pub head_tokens : DoHead → List Token
head_tokens h =
    used (expressions_references (h.first ∷ h.last ∷ optional h.step)) ++ defines h.variable ∷ []

-- the paths of a statement that holds no others
abbrev pub KindPaths : Kind → PathSet
KindPaths (assign a e) = Just (term_tokens e ++ target_tokens a)
KindPaths (print items) = Just (used (expressions_references (items_expressions items)))
KindPaths (read elements) = Just (targets_tokens elements)
KindPaths stop = Stop
KindPaths _ = Just []

-- Each branch is taken either way, and each inner loop is gone through any number of times.
abbrev mutual
  pub NodePaths : Node → PathSet
  NodePaths (plain s) = KindPaths s.kind
  NodePaths (loop l h b) = Then (Just (head_tokens h)) (AnyTimes (Paths b))
  NodePaths (choose a) = ArmsPaths a

  pub Paths : Block → PathSet
  Paths no_nodes = Just []
  Paths (then_node n b) = Then (NodePaths n) (Paths b)

  pub ArmsPaths : Arms → PathSet
  ArmsPaths no_arms = Just []
  ArmsPaths (then_arm l None b more) = Paths b
  ArmsPaths (then_arm l (Some c) b more) =
      Then (Just (term_tokens c)) (Either (Paths b) (ArmsPaths more))
