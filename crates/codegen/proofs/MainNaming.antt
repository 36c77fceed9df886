-- In a program that opens loops each reference of main is found by its name, and each opened loop
-- means what its DO does.
use Rattle.std.proofs.Common.{◌≡◌, ℕ, ℤ, Bool, true, List, [], ◌∷◌, ◌++◌, Option, Some, None, refl}
use Rattle.std.specs.Prelude.{map}
use Rattle.std.specs.List.{IsDistinct, list_all}
use Rattle.std.proofs.lemmas.Bool.{and_parts}
use Rattle.ast.specs.Program.{is_placed}
use Rattle.ast.specs.References.{arms_expressions, block_expressions, expressions_references, head_expressions, items_expressions, kind_expressions, node_expressions, optional, term_references, terms_references}
use Rattle.ast.specs.Store.{same_name}
use Rattle.ast.specs.Symbols.{Extent, Symbol, dimensions_in, names_of}
use Rattle.ast.specs.Tree as tree
use Rattle.ast.specs.Tree.{Ref, Access, accessed, Term, constant, truth, parameter, element, call, parentheses, unary, binary, Terms, no_terms, then_term, PrintItem, value_item, text_item, DoHead, Kind, assign, print, read, stop, program, integer, dimension, parameters, do_loop, go_on, block_if, else_if, else_arm, end_if, logical_if, end, Node, Block, Arms}
use Rattle.expr_code.specs.Places.{Home, loop_index, home, home_of}
use Rattle.expr_code.proofs.Finding.{dimensions_same}
use Rattle.expr_code.proofs.Meaning.{AllNamed, Named}
use Rattle.codegen.specs.Program.{main_places}
use Rattle.dependence.specs.Plan.{PlanBlock}
use Rattle.expr_code.specs.Places.{Places}
use Rattle.machine.specs.Code.{Cell}
use Rattle.machine.specs.Code.{Code}
use Rattle.machine.specs.declared.code.Open.{Open as Opened}
use Rattle.ast.specs.Meaning.{Run}
use Rattle.codegen.proofs.MainSteps.{main_doing}
use Rattle.codegen.proofs.Meant.{Acts, ArmsNamed, BlockNamed, Counts, ElementsNamed, HeadNamed, ItemsNamed, KindNamed, LoopNamed, NodeNamed, Sight, StepNamed}
use Rattle.codegen.proofs.OpenedLoop.{IsOpened}
use Rattle.codegen.proofs.ProgramSteps.{Main}

module _ (code : Code) (may : ℕ → ℤ → ℤ → Bool) (places : ℕ → Places) (bodies : ℕ → PlanBlock) (fixed : ℕ → Cell → Bool) (symbols : List Symbol) (distinct : IsDistinct same_name (names_of symbols)) (opens : ℕ → Option ℕ) where
  -- each loop that is opened is that of its number
  abbrev pub LoopRight : Option ℕ → DoHead → Block → Type 0 → Type 0
  LoopRight None h b inner = inner
  LoopRight (Some n) h b inner = IsOpened code may places bodies fixed symbols n h b

  abbrev mutual
    pub NodeRight : Node → Type 0
    NodeRight (tree.plain s) = Unit {0}
    NodeRight (tree.loop line h b) = LoopRight (opens h.variable.id) h b (BlockRight b)
    NodeRight (tree.choose a) = ArmsRight a

    pub BlockRight : Block → Type 0
    BlockRight tree.no_nodes = Unit {0}
    BlockRight (tree.then_node n b) = NodeRight n × BlockRight b

    pub ArmsRight : Arms → Type 0
    ArmsRight tree.no_arms = Unit {0}
    ArmsRight (tree.then_arm line None b more) = BlockRight b
    ArmsRight (tree.then_arm line (Some c) b more) = BlockRight b × ArmsRight more

module _ (symbols : List Symbol) (distinct : IsDistinct same_name (names_of symbols)) where
  abbrev placed : Ref → Bool
  placed r = is_placed symbols r

  abbrev All : List Ref → Type 0
  All rs = list_all placed rs ≡ true

  abbrev Every : List Term → Type 0
  Every es = All (expressions_references es)

  both : (xs ys : List Ref) → All (xs ++ ys) → All xs × All ys
  both [] ys h = (refl, h)
  both (r ∷ xs) ys h =
      let k = and_parts (placed r) (list_all placed (xs ++ ys)) h in
      let l = both xs ys k.1 in
      (rw (k.0, l.0) refl, l.1)

  pub apart : (es fs : List Term) → Every (es ++ fs) → Every es × Every fs
  apart [] fs h = (refl, h)
  apart (e ∷ es) fs h =
      let k = both (term_references e) (expressions_references (es ++ fs)) h in
      let l = apart es fs k.1 in
      (joined (term_references e) (expressions_references es) k.0 l.0, l.1)
    where
      joined : (xs ys : List Ref) → All xs → All ys → All (xs ++ ys)
      joined [] ys a b = b
      joined (r ∷ xs) ys a b = let k = and_parts (placed r) (list_all placed xs) a in rw (k.0, joined xs ys k.1 b) refl

  mutual
    pub named : (e : Term) → All (term_references e) → Named (main_places symbols) e
    named (element r es) h =
        let k = both (terms_references es) (r ∷ []) h in
        (dimensions_same symbols r distinct (and_parts (placed r) true k.1).0, all_named es k.0)
    named (call g es) h = all_named es h
    named (parentheses e) h = named e h
    named (unary o e) h = named e h
    named (binary o a b) h = let k = both (term_references a) (term_references b) h in (named a k.0, named b k.1)
    named (constant n) h = tt
    named (truth b) h = tt
    named (parameter y n) h = tt

    all_named : (es : Terms) → All (terms_references es) → AllNamed (main_places symbols) es
    all_named no_terms h = tt
    all_named (then_term e es) h = let k = both (term_references e) (terms_references es) h in (named e k.0, all_named es k.1)

  pub one : (e : Term) (es : List Term) → Every (e ∷ es) → Named (main_places symbols) e × Every es
  one e es h = let k = both (term_references e) (expressions_references es) h in (named e k.0, k.1)

-- seen: what is seen of main; opened: of the loops that it opens
module _ (code : Code) (may : ℕ → ℤ → ℤ → Bool) (places : ℕ → Places) (bodies : ℕ → PlanBlock) (fixed : ℕ → Cell → Bool) (symbols : List Symbol) (distinct : IsDistinct same_name (names_of symbols)) (opens : ℕ → Option ℕ)
    (O : Type 0) (W : Sight O) (seen : Main Opened → List ℤ → Run → O) (M : Acts O W (Main Opened) (main_doing code may) (main_places symbols) seen)
    (opened : (n line : ℕ) (d : DoHead) (b : Block) → IsOpened code may places bodies fixed symbols n d b → LoopNamed O W (Main Opened) (main_doing code may) (main_places symbols) seen M opens (Some n) line d b (Unit {0})) where
  abbrev AllPlaced : List Term → Type 0
  AllPlaced es = list_all (λ r. is_placed symbols r) (expressions_references es) ≡ true

  -- no variable is an open loop's
  abbrev Free : Home → Type 0
  Free loop_index = ⊥
  Free _ = Unit {0}

  free : (name : List ℕ) → Free (home_of (main_places symbols) name)
  free name = by (dimensions_in symbols name)
    where
      by : (ds : List Extent) → Free (home (main_places symbols) ds name)
      by [] = tt
      by (d ∷ ds) = tt

  counts : (r : Ref) → Counts O W (Main Opened) (main_doing code may) (main_places symbols) seen M r
  counts r = record { scalar = by (dimensions_in symbols r.name); free = tt }
    where
      by : (ds : List Extent) → home (main_places symbols) ds r.name ≡ home (main_places symbols) [] r.name
      by [] = refl
      by (d ∷ ds) = refl

  abbrev NodeIs : Node → Type 0
  NodeIs n = NodeNamed O W (Main Opened) (main_doing code may) (main_places symbols) seen M opens n

  abbrev BlockIs : Block → Type 0
  BlockIs b = BlockNamed O W (Main Opened) (main_doing code may) (main_places symbols) seen M opens b

  abbrev ArmsAre : Arms → Type 0
  ArmsAre a = ArmsNamed O W (Main Opened) (main_doing code may) (main_places symbols) seen M opens a

  items_named : (items : List PrintItem) → AllPlaced (items_expressions items) → ItemsNamed O W (Main Opened) (main_doing code may) (main_places symbols) seen M items
  items_named [] h = tt
  items_named (value_item e ∷ items) h = let k = one symbols distinct e (items_expressions items) h in (k.0, items_named items k.1)
  items_named (text_item t ∷ items) h = items_named items h

  elements_named : (xs : List Access) → AllPlaced (map accessed xs) → ElementsNamed O W (Main Opened) (main_doing code may) (main_places symbols) seen M xs
  elements_named [] h = tt
  elements_named (y ∷ xs) h = let k = one symbols distinct (accessed y) (map accessed xs) h in (k.0, free y.ref.name, elements_named xs k.1)

  kind_named : (k : Kind) → AllPlaced (kind_expressions k) → KindNamed O W (Main Opened) (main_doing code may) (main_places symbols) seen M k
  kind_named (assign y e) h = let k = one symbols distinct e (accessed y ∷ []) h in let l = one symbols distinct (accessed y) [] k.1 in (k.0, l.0, free y.ref.name)
  kind_named (print items) h = items_named items h
  kind_named (read xs) h = elements_named xs h
  kind_named stop h = tt
  kind_named (program y) h = tt
  kind_named (integer y) h = tt
  kind_named (dimension y) h = tt
  kind_named (parameters y) h = tt
  kind_named (do_loop y) h = tt
  kind_named go_on h = tt
  kind_named (block_if e) h = tt
  kind_named (else_if e) h = tt
  kind_named else_arm h = tt
  kind_named end_if h = tt
  kind_named (logical_if e k) h = tt
  kind_named end h = tt

  step_named : (e : Option Term) (es : List Term) → AllPlaced (optional e ++ es) → StepNamed O W (Main Opened) (main_doing code may) (main_places symbols) seen M e
  step_named None es h = tt
  step_named (Some e) es h = (one symbols distinct e es h).0

  head_named : (d : DoHead) (es : List Term) → AllPlaced (head_expressions d ++ es) → HeadNamed O W (Main Opened) (main_doing code may) (main_places symbols) seen M d
  head_named d es h =
      let k = apart symbols distinct (head_expressions d) es h in
      let a = one symbols distinct d.first (d.last ∷ optional d.step ++ element d.variable no_terms ∷ []) k.0 in
      let b = one symbols distinct d.last (optional d.step ++ element d.variable no_terms ∷ []) a.1 in
      (a.0, b.0, step_named d.step (element d.variable no_terms ∷ []) b.1, counts d.variable)

  loop_named : (o : Option ℕ) (line : ℕ) (d : DoHead) (b : Block) → LoopRight code may places bodies fixed symbols distinct opens o d b (BlockRight code may places bodies fixed symbols distinct opens b) → AllPlaced (head_expressions d ++ block_expressions b) → (BlockRight code may places bodies fixed symbols distinct opens b → AllPlaced (block_expressions b) → BlockIs b)
      → LoopNamed O W (Main Opened) (main_doing code may) (main_places symbols) seen M opens o line d b (BlockIs b)
  loop_named None line d b r h inner = (head_named d (block_expressions b) h, inner r (apart symbols distinct (head_expressions d) (block_expressions b) h).1)
  loop_named (Some n) line d b r h inner = opened n line d b r

  mutual
    node_named : (n : Node) → NodeRight code may places bodies fixed symbols distinct opens n → AllPlaced (node_expressions n) → NodeIs n
    node_named (tree.plain s) r h = kind_named s.kind h
    node_named (tree.loop line d b) r h = loop_named (opens d.variable.id) line d b r h (λ q k. block_named b q k)
    node_named (tree.choose a) r h = arms_named a r h

    pub block_named : (b : Block) → BlockRight code may places bodies fixed symbols distinct opens b → AllPlaced (block_expressions b) → BlockIs b
    block_named tree.no_nodes r h = tt
    block_named (tree.then_node n b) r h = let k = apart symbols distinct (node_expressions n) (block_expressions b) h in (node_named n r.0 k.0, block_named b r.1 k.1)

    arms_named : (a : Arms) → ArmsRight code may places bodies fixed symbols distinct opens a → AllPlaced (arms_expressions a) → ArmsAre a
    arms_named tree.no_arms r h = tt
    arms_named (tree.then_arm line None b more) r h = block_named b r (apart symbols distinct (block_expressions b) (arms_expressions more) h).0
    arms_named (tree.then_arm line (Some c) b more) r h =
        let k = one symbols distinct c (block_expressions b ++ arms_expressions more) h in
        let l = apart symbols distinct (block_expressions b) (arms_expressions more) k.1 in
        (k.0, block_named b r.0 l.0, arms_named more r.1 l.1)
