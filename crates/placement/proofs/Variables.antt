-- The variable of a loop inside is a reference of the range.
use Rattle.std.proofs.Common.{◌≡◌, ◌∙◌, ◌+◌, ◌⊎◌, inl, inr, ℕ, List, [], ◌∷◌, ◌++◌, length, map, refl, sym, ⊎_elim, Option, Some}
use Rattle.ast.specs.Tree as tree
use Rattle.ast.specs.Tree.{Ref, Node, Block, Arms, DoHead}
use Rattle.loop_tree.specs.Loops.{Loop, arms_loops, block_loops, node_loops}
use Rattle.loop_tree.specs.Occurrences.{Occurrence, arms_occurrences, block_lines, block_occurrences, defined_at, head_occurrences, node_lines, node_occurrences, optional_occurrences, term_occurrences}
use Rattle.plan_check.proofs.Members.{In, in_left, in_right}

abbrev variables : List Loop → List Ref
variables ls = map (λ (l : Loop). l.head.variable) ls

either : (xs ys : List Loop) (r : Ref) → In r (variables (xs ++ ys)) → In r (variables xs) ⊎ In r (variables ys)
either [] ys r i = inr i
either (x ∷ xs) ys r (inl e) = inl (inl e)
either (x ∷ xs) ys r (inr i) = ⊎_elim (λ j. inl (inr j)) (λ j. inr j) (either xs ys r i)

abbrev Shows : List Occurrence → Ref → Type 0
Shows os r = (o : Occurrence) × In o os × (o.ref ≡ r)

left : (os ps : List Occurrence) (r : Ref) → Shows os r → Shows (os ++ ps) r
left os ps r s = (s.0, in_left s.0 os ps s.1, s.2)

right : (os ps : List Occurrence) (r : Ref) → Shows ps r → Shows (os ++ ps) r
right os ps r s = (s.0, in_right s.0 os ps s.1, s.2)

own : (m : ℕ) (h : DoHead) → Shows (head_occurrences m h) h.variable
own m h =
    let v = defined_at m h.variable tree.no_terms in
    (v, in_right v ((term_occurrences m h.first ++ term_occurrences m h.last) ++ optional_occurrences m h.step) (v ∷ []) (inl refl), refl)

mutual
  node_shows : (around : Option ℕ) (k n m : ℕ) (x : Node) (r : Ref) → In r (variables (node_loops around k n x)) → Shows (node_occurrences m x) r
  node_shows around k n m (tree.plain s) r i = absurd i
  node_shows around k n m (tree.loop l h b) r (inl e) =
      let o = own m h in
      let s = left (head_occurrences m h) (block_occurrences (m + 1) b) h.variable o in
      (s.0, s.1, s.2 ∙ sym e)
  node_shows around k n m (tree.loop l h b) r (inr i) = right (head_occurrences m h) (block_occurrences (m + 1) b) r (block_shows (Some (k + 1)) (k + 1) (n + 1) (m + 1) b r i)
  node_shows around k n m (tree.choose a) r i = arms_show around k (n + 1) m (m + 1) a r i

  pub block_shows : (around : Option ℕ) (k n m : ℕ) (b : Block) (r : Ref) → In r (variables (block_loops around k n b)) → Shows (block_occurrences m b) r
  block_shows around k n m tree.no_nodes r i = absurd i
  block_shows around k n m (tree.then_node x b) r i =
      let xs = node_loops around k n x in
      let k2 = k + length xs in
      let n2 = n + length (node_lines x) in
      let m2 = m + length (node_lines x) in
      ⊎_elim
      (λ j. left (node_occurrences m x) (block_occurrences m2 b) r (node_shows around k n m x r j))
      (λ j. right (node_occurrences m x) (block_occurrences m2 b) r (block_shows around k2 n2 m2 b r j))
      (either xs (block_loops around k2 n2 b) r i)

  arms_show : (around : Option ℕ) (k n i m : ℕ) (a : Arms) (r : Ref) → In r (variables (arms_loops around k n a)) → Shows (arms_occurrences i m a) r
  arms_show around k n i m tree.no_arms r j = absurd j
  arms_show around k n i m (tree.then_arm l c b more) r j =
      let xs = block_loops around k n b in
      let k2 = k + length xs in
      let n2 = n + length (block_lines b) in
      let m2 = m + length (block_lines b) in
      ⊎_elim
      (λ g. left (optional_occurrences i c ++ block_occurrences m b) (arms_occurrences i m2 more) r (right (optional_occurrences i c) (block_occurrences m b) r (block_shows around k n m b r g)))
      (λ g. right (optional_occurrences i c ++ block_occurrences m b) (arms_occurrences i m2 more) r (arms_show around k2 n2 i m2 more r g))
      (either xs (arms_loops around k2 n2 more) r j)
