-- What lays out as statements has their texts and their expressions.
use Rattle.std.proofs.Common.{◌≡◌, ◌∙◌, ℕ, true, List, [], ◌∷◌, ◌++◌, refl, ap, sym, map, append_assoc, Option, Some, None, inl, inr}
use Rattle.std.specs.Prelude.{option_map}
use Rattle.std.proofs.lemmas.List.{append-nil, map-append}
use Rattle.ast.specs.References.{kind_expressions, block_expressions, node_expressions, arms_expressions, optional}
use Rattle.ast.specs.Tree.{Term, Statement, Kind, do_loop, block_if, else_if, else_arm, end_if, logical_if, program, integer, dimension, parameters, assign, go_on, print, read, stop, end, Node, plain, loop, choose, Block, no_nodes, then_node, Arms, no_arms, then_arm}
use Rattle.profile_check.specs.Erasure.{erased, kind_erased, node_erased, block_erased, arms_erased}
use Rattle.profile_check.specs.Layout.{stands_alone, EndsWith, arm_head, Lays, LaysNode, LaysIf, LaysArms, LaysLogicalIf}
use Rattle.profile_check.proofs.Parts.{own_expressions, expressions_in, own_text, text_of}

-- ---- a statement that stands alone

alone-text : (k : Kind) → stands_alone k ≡ true → own_text k ≡ kind_erased k
alone-text (program x) h = refl
alone-text (integer ds) h = refl
alone-text (dimension ds) h = refl
alone-text (parameters ds) h = refl
alone-text (assign a e) h = refl
alone-text (do_loop d) h = absurd cc
alone-text go_on h = refl
alone-text (block_if e) h = absurd cc
alone-text (else_if e) h = absurd cc
alone-text else_arm h = absurd cc
alone-text end_if h = absurd cc
alone-text (logical_if e k) h = absurd cc
alone-text (print items) h = refl
alone-text (read elements) h = refl
alone-text stop h = refl
alone-text end h = refl

alone-erased : (k : Kind) → stands_alone k ≡ true → stands_alone (kind_erased k) ≡ true
alone-erased (program x) h = refl
alone-erased (integer ds) h = refl
alone-erased (dimension ds) h = refl
alone-erased (parameters ds) h = refl
alone-erased (assign a e) h = refl
alone-erased (do_loop d) h = h
alone-erased go_on h = refl
alone-erased (block_if e) h = h
alone-erased (else_if e) h = h
alone-erased else_arm h = h
alone-erased end_if h = h
alone-erased (logical_if e k) h = h
alone-erased (print items) h = refl
alone-erased (read elements) h = refl
alone-erased stop h = refl
alone-erased end h = refl

alone-expressions : (k : Kind) → stands_alone k ≡ true → own_expressions k ≡ kind_expressions k
alone-expressions (program x) h = refl
alone-expressions (integer ds) h = refl
alone-expressions (dimension ds) h = refl
alone-expressions (parameters ds) h = refl
alone-expressions (assign a e) h = refl
alone-expressions (do_loop d) h = absurd cc
alone-expressions go_on h = refl
alone-expressions (block_if e) h = absurd cc
alone-expressions (else_if e) h = absurd cc
alone-expressions else_arm h = absurd cc
alone-expressions end_if h = absurd cc
alone-expressions (logical_if e k) h = absurd cc
alone-expressions (print items) h = refl
alone-expressions (read elements) h = refl
alone-expressions stop h = refl
alone-expressions end h = refl

-- ---- texts

abbrev texts : List Statement → List Statement
texts ss = map text_of ss

texts-append : (u v : List Statement) → texts (u ++ v) ≡ texts u ++ texts v
texts-append u v = simp map-append

ends-erased : (label : ℕ) (ss : List Statement) → EndsWith label ss → EndsWith label (texts ss)
ends-erased label ss h = (texts h.0, text_of h.1, ap texts h.2 ∙ texts-append h.0 (h.1 ∷ []), h.3)

-- a statement and those of two parts behind it
two-parts : (ss : List Statement) (s : Statement) (u v : List Statement) → ss ≡ s ∷ (u ++ v) → texts ss ≡ text_of s ∷ (texts u ++ texts v)
two-parts ss s u v e = ap texts e ∙ ap (λ (xs : List Statement). text_of s ∷ xs) (texts-append u v)

head-text : (line : ℕ) (label : Option ℕ) (c : Option Term) → text_of (record { line = line; label = label; kind = arm_head c }) ≡ record { line = line; label = label; kind = arm_head (option_map erased c) }
head-text line label None = refl
head-text line label (Some c) = refl

mutual
  pub block-text : (b : Block) (ss : List Statement) → Lays b ss → Lays (block_erased b) (texts ss)
  block-text no_nodes ss h = ap texts h
  block-text (then_node n b) ss h = (texts h.0, texts h.1, ap texts h.2 ∙ texts-append h.0 h.1, node-text n h.0 h.3, block-text b h.1 h.4)

  node-text : (n : Node) (ss : List Statement) → LaysNode n ss → LaysNode (node_erased n) (texts ss)
  node-text (plain s) ss h =
      (ap texts h.0 ∙ ap (λ (k : Kind). record { line = s.line; label = s.label; kind = k } ∷ []) (alone-text s.kind h.1), alone-erased s.kind h.1)
  node-text (loop line d b) ss h =
      (h.0, texts h.1, ap texts h.2, block-text b h.1 h.3, ends-erased d.terminal h.1 h.4)
  node-text (choose a) ss (inl h) = inl (if-text a ss h)
  node-text (choose a) ss (inr h) = inr (logical-text a ss h)

  if-text : (a : Arms) (ss : List Statement) → LaysIf a ss → LaysIf (arms_erased a) (texts ss)
  if-text no_arms ss h = absurd h
  if-text (then_arm line None b more) ss h = absurd h
  if-text (then_arm line (Some c) b more) ss h =
      (h.0, texts h.1, texts h.2, two-parts ss _ h.1 h.2 h.3, block-text b h.1 h.4, arms-text more h.2 h.5)

  arms-text : (a : Arms) (ss : List Statement) → LaysArms a ss → LaysArms (arms_erased a) (texts ss)
  arms-text no_arms ss h = (h.0, h.1, ap texts h.2)
  arms-text (then_arm line c b more) ss h =
      (h.0, texts h.1, texts h.2, two-parts ss _ h.1 h.2 h.3 ∙ ap (λ (s : Statement). s ∷ (texts h.1 ++ texts h.2)) (head-text line h.0 c), block-text b h.1 h.4, arms-text more h.2 h.5)

  logical-text : (a : Arms) (ss : List Statement) → LaysLogicalIf a ss → LaysLogicalIf (arms_erased a) (texts ss)
  logical-text no_arms ss h = absurd h
  logical-text (then_arm line None b more) ss h = absurd h
  logical-text (then_arm line (Some c) no_nodes more) ss h = absurd h
  logical-text (then_arm line (Some c) (then_node (plain s) no_nodes) no_arms) ss h = (h.0, ap texts h.1, h.2, h.3)
  logical-text (then_arm line (Some c) (then_node (plain s) no_nodes) (then_arm l d b more)) ss h = absurd h
  logical-text (then_arm line (Some c) (then_node (plain s) (then_node n b)) more) ss h = absurd h
  logical-text (then_arm line (Some c) (then_node (loop l d b) body) more) ss h = absurd h
  logical-text (then_arm line (Some c) (then_node (choose a) body) more) ss h = absurd h

-- ---- expressions

expressions-append : (u v : List Statement) → expressions_in (u ++ v) ≡ expressions_in u ++ expressions_in v
expressions-append [] v = refl
expressions-append (s ∷ u) v = ap (λ (es : List Term). own_expressions s.kind ++ es) (expressions-append u v) ∙ sym (append_assoc (own_expressions s.kind) (expressions_in u) (expressions_in v))

arm-expressions : (line : ℕ) (label : Option ℕ) (c : Option Term) → own_expressions (arm_head c) ≡ optional c
arm-expressions line label None = refl
arm-expressions line label (Some c) = refl

-- an arm: its condition, its body and the arms behind it
arm-parts : (x b m : List Term) (ss : List Statement) (s : Statement) (u v : List Statement) → ss ≡ s ∷ (u ++ v) → x ≡ own_expressions s.kind → b ≡ expressions_in u → m ≡ expressions_in v
    → (x ++ b) ++ m ≡ expressions_in ss
arm-parts x b m ss s u v e f g k =
    (λ i. (f i ++ g i) ++ k i) ∙ append_assoc (own_expressions s.kind) (expressions_in u) (expressions_in v)
    ∙ ap (λ (es : List Term). own_expressions s.kind ++ es) (sym (expressions-append u v)) ∙ ap expressions_in (sym e)

mutual
  pub block-expressions : (b : Block) (ss : List Statement) → Lays b ss → block_expressions b ≡ expressions_in ss
  block-expressions no_nodes ss h = ap expressions_in (sym h)
  block-expressions (then_node n b) ss h =
      (λ i. node-expressions n h.0 h.3 i ++ block-expressions b h.1 h.4 i) ∙ sym (expressions-append h.0 h.1) ∙ ap expressions_in (sym h.2)

  node-expressions : (n : Node) (ss : List Statement) → LaysNode n ss → node_expressions n ≡ expressions_in ss
  node-expressions (plain s) ss h = sym (alone-expressions s.kind h.1) ∙ sym (append-nil (own_expressions s.kind)) ∙ ap expressions_in (sym h.0)
  node-expressions (loop line d b) ss h = (λ i. own_expressions (do_loop d) ++ block-expressions b h.1 h.3 i) ∙ ap expressions_in (sym h.2)
  node-expressions (choose a) ss (inl h) = if-expressions a ss h
  node-expressions (choose a) ss (inr h) = logical-expressions a ss h

  if-expressions : (a : Arms) (ss : List Statement) → LaysIf a ss → arms_expressions a ≡ expressions_in ss
  if-expressions no_arms ss h = absurd h
  if-expressions (then_arm line None b more) ss h = absurd h
  if-expressions (then_arm line (Some c) b more) ss h =
      arm-parts (c ∷ []) (block_expressions b) (arms_expressions more) ss _ h.1 h.2 h.3 refl (block-expressions b h.1 h.4) (further-expressions more h.2 h.5)

  further-expressions : (a : Arms) (ss : List Statement) → LaysArms a ss → arms_expressions a ≡ expressions_in ss
  further-expressions no_arms ss h = ap expressions_in (sym h.2)
  further-expressions (then_arm line c b more) ss h =
      arm-parts (optional c) (block_expressions b) (arms_expressions more) ss _ h.1 h.2 h.3 (sym (arm-expressions line h.0 c)) (block-expressions b h.1 h.4) (further-expressions more h.2 h.5)

  logical-expressions : (a : Arms) (ss : List Statement) → LaysLogicalIf a ss → arms_expressions a ≡ expressions_in ss
  logical-expressions no_arms ss h = absurd h
  logical-expressions (then_arm line None b more) ss h = absurd h
  logical-expressions (then_arm line (Some c) no_nodes more) ss h = absurd h
  logical-expressions (then_arm line (Some c) (then_node (plain s) no_nodes) no_arms) ss h =
      ap (λ (es : List Term). (c ∷ es) ++ []) (append-nil (kind_expressions s.kind)) ∙ ap expressions_in (sym h.1)
  logical-expressions (then_arm line (Some c) (then_node (plain s) no_nodes) (then_arm l d b more)) ss h = absurd h
  logical-expressions (then_arm line (Some c) (then_node (plain s) (then_node n b)) more) ss h = absurd h
  logical-expressions (then_arm line (Some c) (then_node (loop l d b) body) more) ss h = absurd h
  logical-expressions (then_arm line (Some c) (then_node (choose a) body) more) ss h = absurd h
