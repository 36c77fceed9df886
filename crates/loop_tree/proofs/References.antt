-- The references of statements, with the statements that they belong to or without.
use Rattle.std.proofs.Common.{◌≡◌, ◌∙◌, ap, sym, refl, ℕ, List, [], ◌∷◌}
use Rattle.std.proofs.lemmas.List.{append_assoc, append-nil, map-append}
use Rattle.std.specs.Prelude.{◌+◌, ◌++◌, length, Option, Some, None}
use Rattle.ast.specs.References.{term_references, terms_references, optional, items_expressions, kind_expressions, head_expressions, node_expressions, block_expressions, arms_expressions, expressions_references, block_references}
use Rattle.ast.specs.Tree.{Ref, Term, Terms, constant, truth, parameter, element, call, parentheses, unary, binary, no_terms, then_term, Access, accessed, PrintItem, value_item, text_item, DoHead, Kind, program, integer, dimension, parameters, assign, do_loop, go_on, block_if, else_if, else_arm, end_if, logical_if, print, read, stop, end, Node, plain, loop, choose, Block, no_nodes, then_node, Arms, no_arms, then_arm}
use Rattle.ast.proofs.References.{references_append}
use Rattle.loop_tree.specs.Occurrences.{Occurrence, used_at, defined_at, term_occurrences, terms_occurrences, optional_occurrences, target_occurrences, targets_occurrences, items_occurrences, kind_occurrences, head_occurrences, node_lines, block_lines, node_occurrences, block_occurrences, arms_occurrences}
use Rattle.loop_tree.specs.Told.{references}
use Rattle.loop_tree.specs.Paths.{Token, uses, used}

both : (os ps : List Occurrence) (rs ss : List Ref) → references os ≡ rs → references ps ≡ ss → references (os ++ ps) ≡ rs ++ ss
both os ps rs ss h k = map-append (λ (o : Occurrence). o.ref) os ps ∙ ap (λ xs. xs ++ references ps) h ∙ ap (λ xs. rs ++ xs) k

mutual
  term_same : (n : ℕ) (e : Term) → references (term_occurrences n e) ≡ term_references e
  term_same n (constant k) = refl
  term_same n (truth b) = refl
  term_same n (parameter x k) = refl
  term_same n (element r es) = both (terms_occurrences n es) (used_at n r es ∷ []) (terms_references es) (r ∷ []) (terms_same n es) refl
  term_same n (call f es) = terms_same n es
  term_same n (parentheses e) = term_same n e
  term_same n (unary p e) = term_same n e
  term_same n (binary o a b) = both (term_occurrences n a) (term_occurrences n b) (term_references a) (term_references b) (term_same n a) (term_same n b)

  terms_same : (n : ℕ) (es : Terms) → references (terms_occurrences n es) ≡ terms_references es
  terms_same n no_terms = refl
  terms_same n (then_term e es) = both (term_occurrences n e) (terms_occurrences n es) (term_references e) (terms_references es) (term_same n e) (terms_same n es)

optional_same : (n : ℕ) (e : Option Term) → references (optional_occurrences n e) ≡ expressions_references (optional e)
optional_same n None = refl
optional_same n (Some e) = term_same n e ∙ sym (append-nil (term_references e))

target_same : (n : ℕ) (a : Access) → references (target_occurrences n a) ≡ term_references (accessed a)
target_same n a = both (terms_occurrences n a.subscripts) (defined_at n a.ref a.subscripts ∷ []) (terms_references a.subscripts) (a.ref ∷ []) (terms_same n a.subscripts) refl

targets_same : (n : ℕ) (ts : List Access) → references (targets_occurrences n ts) ≡ expressions_references (kind_expressions (read ts))
targets_same n [] = refl
targets_same n (a ∷ ts) = both (target_occurrences n a) (targets_occurrences n ts) (term_references (accessed a)) (expressions_references (kind_expressions (read ts))) (target_same n a) (targets_same n ts)

items_same : (n : ℕ) (is : List PrintItem) → references (items_occurrences n is) ≡ expressions_references (items_expressions is)
items_same n [] = refl
items_same n (value_item e ∷ is) = both (term_occurrences n e) (items_occurrences n is) (term_references e) (expressions_references (items_expressions is)) (term_same n e) (items_same n is)
items_same n (text_item t ∷ is) = items_same n is

kind_same : (n : ℕ) (k : Kind) → references (kind_occurrences n k) ≡ expressions_references (kind_expressions k)
kind_same n (assign a e) =
    both (term_occurrences n e) (target_occurrences n a) (term_references e) (term_references (accessed a) ++ []) (term_same n e) (target_same n a ∙ sym (append-nil (term_references (accessed a))))
kind_same n (print is) = items_same n is
kind_same n (read ts) = targets_same n ts
kind_same n (program x) = refl
kind_same n (integer ds) = refl
kind_same n (dimension ds) = refl
kind_same n (parameters ds) = refl
kind_same n (do_loop h) = refl
kind_same n go_on = refl
kind_same n (block_if e) = refl
kind_same n (else_if e) = refl
kind_same n else_arm = refl
kind_same n end_if = refl
kind_same n (logical_if e k) = refl
kind_same n stop = refl
kind_same n end = refl

joined : (os ps : List Occurrence) (es fs : List Term) → references os ≡ expressions_references es → references ps ≡ expressions_references fs → references (os ++ ps) ≡ expressions_references (es ++ fs)
joined os ps es fs h k = both os ps (expressions_references es) (expressions_references fs) h k ∙ sym (references_append es fs)

head_same : (n : ℕ) (h : DoHead) → references (head_occurrences n h) ≡ expressions_references (head_expressions h)
head_same n h =
    let var = defined_at n h.variable no_terms ∷ [] in
    let vars = element h.variable no_terms ∷ [] in
    let step = joined (optional_occurrences n h.step) var (optional h.step) vars (optional_same n h.step) refl in
    let last = both (term_occurrences n h.last) (optional_occurrences n h.step ++ var) (term_references h.last) (expressions_references (optional h.step ++ vars)) (term_same n h.last) step in
    let apart = append_assoc (term_occurrences n h.first ++ term_occurrences n h.last) (optional_occurrences n h.step) var ∙ append_assoc (term_occurrences n h.first) (term_occurrences n h.last) (optional_occurrences n h.step ++ var) in
    ap references apart
    ∙ both (term_occurrences n h.first) (term_occurrences n h.last ++ (optional_occurrences n h.step ++ var)) (term_references h.first) (term_references h.last ++ expressions_references (optional h.step ++ vars)) (term_same n h.first) last

mutual
  node_same : (n : ℕ) (x : Node) → references (node_occurrences n x) ≡ expressions_references (node_expressions x)
  node_same n (plain s) = kind_same n s.kind
  node_same n (loop l h b) = joined (head_occurrences n h) (block_occurrences (n + 1) b) (head_expressions h) (block_expressions b) (head_same n h) (block_same (n + 1) b)
  node_same n (choose a) = arms_same n (n + 1) a

  -- The occurrences of statements are at their references, in order.
  pub block_same : (n : ℕ) (b : Block) → references (block_occurrences n b) ≡ block_references b
  block_same n no_nodes = refl
  block_same n (then_node x b) =
      joined (node_occurrences n x) (block_occurrences (n + length (node_lines x)) b) (node_expressions x) (block_expressions b) (node_same n x) (block_same (n + length (node_lines x)) b)

  arms_same : (i n : ℕ) (a : Arms) → references (arms_occurrences i n a) ≡ expressions_references (arms_expressions a)
  arms_same i n no_arms = refl
  arms_same i n (then_arm l c b more) =
      joined (optional_occurrences i c ++ block_occurrences n b) (arms_occurrences i (n + length (block_lines b)) more) (optional c ++ block_expressions b) (arms_expressions more)
      (joined (optional_occurrences i c) (block_occurrences n b) (optional c) (block_expressions b) (optional_same i c) (block_same n b))
      (arms_same i (n + length (block_lines b)) more)

-- the steps of references that are used
pub used_append : (xs ys : List Ref) → used (xs ++ ys) ≡ used xs ++ used ys
used_append [] ys = refl
used_append (x ∷ xs) ys = ap (λ (t : List Token). uses x ∷ t) (used_append xs ys)
