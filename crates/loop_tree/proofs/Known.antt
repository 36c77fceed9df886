-- What holds of all references of statements holds of those that their loops show.
use Rattle.std.proofs.Common.{◌≡◌, ◌∙◌, sym, refl, ℕ, List, [], ◌∷◌, subst}
use Rattle.std.proofs.lemmas.Bool.{and_parts, and_from}
use Rattle.std.proofs.lemmas.List.Folds.{list_all-append}
use Rattle.std.specs.Prelude.{◌+◌, ◌++◌, length, Bool, true, false, if◌then◌else◌, Option, Some, None}
use Rattle.std.specs.List.{list_all}
use Rattle.ast.specs.References.{term_references, terms_references, optional, kind_expressions, head_expressions, node_expressions, block_expressions, arms_expressions, expressions_references, block_references}
use Rattle.ast.specs.Tree.{Ref, Term, Terms, element, no_terms, then_term, Access, accessed, DoHead, Kind, program, integer, dimension, parameters, assign, do_loop, go_on, block_if, else_if, else_arm, end_if, logical_if, print, read, stop, end, Node, plain, loop, choose, Block, no_nodes, then_node, Arms, no_arms, then_arm}
use Rattle.ast.proofs.Lists.{all_joined, all_right, all_weaker}
use Rattle.ast.proofs.References.{references_append}
use Rattle.loop_tree.specs.Loops.{Loop, has_cell, with_scalar, with_named, with_target, with_targets, with_kind, with_node, with_block, with_arms, loop_at, node_loops, block_loops, arms_loops}
use Rattle.loop_tree.specs.Occurrences.{node_lines, block_lines, block_occurrences}
use Rattle.loop_tree.specs.Told.{references, is_told, are_told, known}
use Rattle.loop_tree.proofs.References.{block_same}

pub all_left : {X : Type 0} (p : X → Bool) (xs ys : List X) → list_all p (xs ++ ys) ≡ true → list_all p xs ≡ true
all_left p xs ys h = (and_parts (list_all p xs) (list_all p ys) (sym (list_all-append p xs ys) ∙ h)).0

-- ---- scalars that are given values

abbrev Holds : (Ref → Bool) → List Ref → Type 0
Holds p rs = list_all p rs ≡ true

abbrev HoldsIn : (Ref → Bool) → List Term → Type 0
HoldsIn p es = list_all p (expressions_references es) ≡ true

only : (p : Ref → Bool) (r : Ref) → p r ≡ true → Holds p (r ∷ [])
only p r h = and_from (p r) true h refl

with_one : (p : Ref → Bool) (rs : List Ref) (r : Ref) → Holds p rs → p r ≡ true → Holds p (with_scalar rs r)
with_one p rs r h k = by (has_cell r.cell rs)
  where
    by : (b : Bool) → Holds p (if b then rs else rs ++ r ∷ [])
    by true = h
    by false = all_joined p rs (r ∷ []) h (only p r k)

last_holds : (p : Ref → Bool) (rs : List Ref) (r : Ref) → Holds p (rs ++ r ∷ []) → p r ≡ true
last_holds p rs r h = (and_parts (p r) true (all_right p rs (r ∷ []) h)).0

target_holds : (p : Ref → Bool) (rs : List Ref) (a : Access) → Holds p rs → Holds p (term_references (accessed a)) → Holds p (with_target rs a)
target_holds p rs a h k = by a.subscripts
  where
    by : (es : Terms) → Holds p (with_named rs a.ref es)
    by no_terms = with_one p rs a.ref h (last_holds p (terms_references a.subscripts) a.ref k)
    by (then_term e es) = h

targets_hold : (p : Ref → Bool) (rs : List Ref) (ts : List Access) → Holds p rs → HoldsIn p (kind_expressions (read ts)) → Holds p (with_targets rs ts)
targets_hold p rs [] h k = h
targets_hold p rs (a ∷ ts) h k =
    let rest = expressions_references (kind_expressions (read ts)) in
    targets_hold p (with_target rs a) ts (target_holds p rs a h (all_left p (term_references (accessed a)) rest k)) (all_right p (term_references (accessed a)) rest k)

kind_holds : (p : Ref → Bool) (rs : List Ref) (k : Kind) → Holds p rs → HoldsIn p (kind_expressions k) → Holds p (with_kind rs k)
kind_holds p rs (assign a e) h k =
    target_holds p rs a h (all_left p (term_references (accessed a)) [] (all_right p (term_references e) (term_references (accessed a) ++ []) k))
kind_holds p rs (read ts) h k = targets_hold p rs ts h k
kind_holds p rs (print is) h k = h
kind_holds p rs (program x) h k = h
kind_holds p rs (integer ds) h k = h
kind_holds p rs (dimension ds) h k = h
kind_holds p rs (parameters ds) h k = h
kind_holds p rs (do_loop d) h k = h
kind_holds p rs go_on h k = h
kind_holds p rs (block_if e) h k = h
kind_holds p rs (else_if e) h k = h
kind_holds p rs else_arm h k = h
kind_holds p rs end_if h k = h
kind_holds p rs (logical_if e d) h k = h
kind_holds p rs stop h k = h
kind_holds p rs end h k = h

variable_holds : (p : Ref → Bool) (h : DoHead) → HoldsIn p (head_expressions h) → p h.variable ≡ true
variable_holds p h k =
    let vars = element h.variable no_terms ∷ [] in
    let rest = expressions_references (optional h.step ++ vars) in
    let behind = all_right p (term_references h.last) rest (all_right p (term_references h.first) (term_references h.last ++ rest) k) in
    let all = subst (λ rs. Holds p rs) (references_append (optional h.step) vars) behind in
    last_holds p (expressions_references (optional h.step)) h.variable all

in_left : (p : Ref → Bool) (es fs : List Term) → HoldsIn p (es ++ fs) → HoldsIn p es
in_left p es fs h = all_left p (expressions_references es) (expressions_references fs) (subst (λ rs. Holds p rs) (references_append es fs) h)

in_right : (p : Ref → Bool) (es fs : List Term) → HoldsIn p (es ++ fs) → HoldsIn p fs
in_right p es fs h = all_right p (expressions_references es) (expressions_references fs) (subst (λ rs. Holds p rs) (references_append es fs) h)

mutual
  node_holds : (p : Ref → Bool) (rs : List Ref) (x : Node) → Holds p rs → HoldsIn p (node_expressions x) → Holds p (with_node rs x)
  node_holds p rs (plain s) h k = kind_holds p rs s.kind h k
  node_holds p rs (loop l d b) h k =
      block_holds p (with_scalar rs d.variable) b (with_one p rs d.variable h (variable_holds p d (in_left p (head_expressions d) (block_expressions b) k))) (in_right p (head_expressions d) (block_expressions b) k)
  node_holds p rs (choose a) h k = arms_hold p rs a h k

  block_holds : (p : Ref → Bool) (rs : List Ref) (b : Block) → Holds p rs → HoldsIn p (block_expressions b) → Holds p (with_block rs b)
  block_holds p rs no_nodes h k = h
  block_holds p rs (then_node x b) h k =
      block_holds p (with_node rs x) b (node_holds p rs x h (in_left p (node_expressions x) (block_expressions b) k)) (in_right p (node_expressions x) (block_expressions b) k)

  arms_hold : (p : Ref → Bool) (rs : List Ref) (a : Arms) → Holds p rs → HoldsIn p (arms_expressions a) → Holds p (with_arms rs a)
  arms_hold p rs no_arms h k = h
  arms_hold p rs (then_arm l c b more) h k =
      let first = in_left p (optional c ++ block_expressions b) (arms_expressions more) k in
      arms_hold p (with_block rs b) more (block_holds p rs b h (in_right p (optional c) (block_expressions b) first)) (in_right p (optional c ++ block_expressions b) (arms_expressions more) k)

-- ---- loops

abbrev Shown : (Ref → Bool) → List Loop → Type 0
Shown p ls = list_all (λ (l : Loop). list_all p (known l)) ls ≡ true

loop_shows : (p : Ref → Bool) (around : Option ℕ) (n line : ℕ) (h : DoHead) (b : Block) → HoldsIn p (head_expressions h ++ block_expressions b) → list_all p (known (loop_at around n line h b)) ≡ true
loop_shows p around n line h b k =
    let inside = in_right p (head_expressions h) (block_expressions b) k in
    and_from (p h.variable) (list_all p (with_block [] b ++ references (block_occurrences (n + 1) b))) (variable_holds p h (in_left p (head_expressions h) (block_expressions b) k))
    (all_joined p (with_block [] b) (references (block_occurrences (n + 1) b)) (block_holds p [] b refl inside) (subst (λ rs. Holds p rs) (sym (block_same (n + 1) b)) inside))

mutual
  node_shows : (p : Ref → Bool) (around : Option ℕ) (k n : ℕ) (x : Node) → HoldsIn p (node_expressions x) → Shown p (node_loops around k n x)
  node_shows p around k n (plain s) h = refl
  node_shows p around k n (loop l d b) h =
      and_from (list_all p (known (loop_at around n l d b))) (list_all (λ (m : Loop). list_all p (known m)) (block_loops (Some (k + 1)) (k + 1) (n + 1) b))
      (loop_shows p around n l d b h)
      (block_shows p (Some (k + 1)) (k + 1) (n + 1) b (in_right p (head_expressions d) (block_expressions b) h))
  node_shows p around k n (choose a) h = arms_show p around k (n + 1) a h

  pub block_shows : (p : Ref → Bool) (around : Option ℕ) (k n : ℕ) (b : Block) → HoldsIn p (block_expressions b) → Shown p (block_loops around k n b)
  block_shows p around k n no_nodes h = refl
  block_shows p around k n (then_node x b) h =
      all_joined (λ (l : Loop). list_all p (known l)) (node_loops around k n x) (block_loops around (k + length (node_loops around k n x)) (n + length (node_lines x)) b)
      (node_shows p around k n x (in_left p (node_expressions x) (block_expressions b) h))
      (block_shows p around (k + length (node_loops around k n x)) (n + length (node_lines x)) b (in_right p (node_expressions x) (block_expressions b) h))

  arms_show : (p : Ref → Bool) (around : Option ℕ) (k n : ℕ) (a : Arms) → HoldsIn p (arms_expressions a) → Shown p (arms_loops around k n a)
  arms_show p around k n no_arms h = refl
  arms_show p around k n (then_arm l c b more) h =
      let first = in_left p (optional c ++ block_expressions b) (arms_expressions more) h in
      all_joined (λ (m : Loop). list_all p (known m)) (block_loops around k n b) (arms_loops around (k + length (block_loops around k n b)) (n + length (block_lines b)) more)
      (block_shows p around k n b (in_right p (optional c) (block_expressions b) first))
      (arms_show p around (k + length (block_loops around k n b)) (n + length (block_lines b)) more (in_right p (optional c ++ block_expressions b) (arms_expressions more) h))

-- ---- what cells tell

told_by : (rs : List Ref) (ls : List Loop) → are_told rs ≡ true → ((p : Ref → Bool) → list_all p rs ≡ true → Shown p ls) → list_all (λ (l : Loop). are_told (known l)) ls ≡ true
told_by rs [] h f = refl
told_by rs (l ∷ ls) h f =
    let first = λ (p : Ref → Bool) (k : list_all p rs ≡ true). and_parts (list_all p (known l)) (list_all (λ (m : Loop). list_all p (known m)) ls) (f p k) in
    and_from (are_told (known l)) (list_all (λ (m : Loop). are_told (known m)) ls)
    (first (λ r. list_all (λ s. is_told r s) (known l)) (all_weaker (λ r. list_all (λ s. is_told r s) rs) (λ r. list_all (λ s. is_told r s) (known l)) rs (λ r k. (first (λ s. is_told r s) k).0) h)).0
    (told_by rs ls h (λ p k. (first p k).1))

pub loops_told : (b : Block) → are_told (block_references b) ≡ true → list_all (λ (l : Loop). are_told (known l)) (block_loops None 0 0 b) ≡ true
loops_told b h = told_by (block_references b) (block_loops None 0 0 b) h (λ p k. block_shows p None 0 0 b k)
