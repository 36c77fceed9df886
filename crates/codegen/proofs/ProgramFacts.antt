-- What a program's type gives of each of its loops.
use Rattle.std.proofs.Common.{◌≡◌, ◌∙◌, ◌+◌, inl, inr, ℕ, Bool, true, List, [], ◌∷◌, ◌++◌, Option, Some, None, length, refl, sym, ap, subst, ⊎_elim, arith}
use Rattle.std.specs.Prelude.{◌==◌}
use Rattle.std.specs.List.{IsDistinct, list_all}
use Rattle.std.proofs.lemmas.Bool.{and_parts, eqb-true}
use Rattle.plan_check.proofs.Members.{all_in}
use Rattle.plan_check.proofs.Sound.{least, in_any}
use Rattle.ast.specs.Program.{ProgramTree, are_placed, is_placed}
use Rattle.ast.specs.References.{are_numbered, arms_expressions, block_expressions, block_references, expressions_references, head_expressions, node_expressions, optional}
use Rattle.ast.specs.Store.{same_name}
use Rattle.ast.specs.Symbols.{Symbol, names_of}
use Rattle.ast.specs.Tree as tree
use Rattle.ast.specs.Tree.{Ref, Term, Node, Block, Arms}
use Rattle.ast.proofs.Lists.{all_right}
use Rattle.ast.proofs.SameNames.{same_itself}
use Rattle.ast.proofs.References.{references_append}
use Rattle.loop_tree.specs.Loops.{Loop, arms_loops, block_loops, has_cell, loops_of, node_loops, with_block}
use Rattle.loop_tree.specs.Occurrences.{Occurrence, block_lines, block_occurrences, node_lines}
use Rattle.loop_tree.specs.Told.{known, references}
use Rattle.loop_tree.proofs.Known.{all_left, block_shows}
use Rattle.loop_tree.proofs.References.{block_same}
use Rattle.expr_code.specs.Places.{dimensions_at}
use Rattle.expr_code.specs.Process.{count}
use Rattle.codegen.proofs.IterationLaws.{in_which}
use Rattle.codegen.proofs.IterationSteps.{In}
use Rattle.codegen.proofs.AssignedScalars.{assigned_at, at_block}
use Rattle.codegen.proofs.LoopNumbers.{parts, size}
use Rattle.codegen.proofs.RegularPlans.{Regular}
use Rattle.codegen.proofs.RangeSound.{any_among, same_names}
use Rattle.codegen.proofs.RangeParts.{of_block}

-- a loop has its range's references and assigned scalars
abbrev Shape : Loop → Type 0
Shape l = (n : ℕ) × (l.references ≡ block_occurrences n l.body) × (l.assigned ≡ with_block [] l.body)

mutual
  node_shape : (x : Node) (around : Option ℕ) (k m : ℕ) (l : Loop) → In l (node_loops around k m x) → Shape l
  node_shape (tree.plain s) around k m l i = absurd i
  node_shape (tree.loop line h b) around k m l (inl e) = subst Shape (sym e) (m + 1, refl, refl)
  node_shape (tree.loop line h b) around k m l (inr i) = block_shape b (Some (k + 1)) (k + 1) (m + 1) l i
  node_shape (tree.choose a) around k m l i = arms_shape a around k (m + 1) l i

  block_shape : (b : Block) (around : Option ℕ) (k m : ℕ) (l : Loop) → In l (block_loops around k m b) → Shape l
  block_shape tree.no_nodes around k m l i = absurd i
  block_shape (tree.then_node x b) around k m l i =
      let us = node_loops around k m x in
      ⊎_elim (λ j. node_shape x around k m l j) (λ j. block_shape b around (k + length us) (m + length (node_lines x)) l j) (in_which l us (block_loops around (k + length us) (m + length (node_lines x)) b) i)

  arms_shape : (a : Arms) (around : Option ℕ) (k m : ℕ) (l : Loop) → In l (arms_loops around k m a) → Shape l
  arms_shape tree.no_arms around k m l i = absurd i
  arms_shape (tree.then_arm line c b more) around k m l i =
      let us = block_loops around k m b in
      ⊎_elim (λ j. block_shape b around k m l j) (λ j. arms_shape more around (k + length us) (m + length (block_lines b)) l j) (in_which l us (arms_loops around (k + length us) (m + length (block_lines b)) more) i)

ref_in : (os : List Occurrence) (o : Occurrence) → In o os → In o.ref (references os)
ref_in [] o i = i
ref_in (x ∷ os) o (inl e) = inl (ap (λ (z : Occurrence). z.ref) e)
ref_in (x ∷ os) o (inr i) = inr (ref_in os o i)

-- numbered references stand once
one_each : (os : List Occurrence) (n : ℕ) (a b : Occurrence) → are_numbered n (references os) ≡ true → In a os → In b os → a.ref ≡ b.ref → a ≡ b
one_each [] n a b h i j e = absurd i
one_each (x ∷ os) n a b h (inl u) (inl v) e = u ∙ sym v
one_each (x ∷ os) n a b h (inl u) (inr j) e =
    let k = and_parts (x.ref.id == n) (are_numbered (n + 1) (references os)) h in
    let z = eqb-true x.ref.id n k.0 in
    let y : a.ref.id ≡ x.ref.id = ap (λ (q : Occurrence). q.ref.id) u in
    let w = least (n + 1) os b k.1 j in
    let v : a.ref.id ≡ b.ref.id = ap (λ (q : Ref). q.id) e in absurd (omega (arith, z, y, w, v))
one_each (x ∷ os) n a b h (inr i) (inl u) e =
    let k = and_parts (x.ref.id == n) (are_numbered (n + 1) (references os)) h in
    let z = eqb-true x.ref.id n k.0 in
    let y : b.ref.id ≡ x.ref.id = ap (λ (q : Occurrence). q.ref.id) u in
    let w = least (n + 1) os a k.1 i in
    let v : a.ref.id ≡ b.ref.id = ap (λ (q : Ref). q.id) e in absurd (omega (arith, z, y, w, v))
one_each (x ∷ os) n a b h (inr i) (inr j) e = one_each os (n + 1) a b (and_parts (x.ref.id == n) (are_numbered (n + 1) (references os)) h).1 i j e

module _ (p : Ref → Bool) where
  abbrev Every : List Term → Type 0
  Every es = list_all p (expressions_references es) ≡ true

  split : (es fs : List Term) → Every (es ++ fs) → Every es × Every fs
  split es fs h =
      let k = subst (λ (rs : List Ref). list_all p rs ≡ true) (references_append es fs) h in
      (all_left p (expressions_references es) (expressions_references fs) k, all_right p (expressions_references es) (expressions_references fs) k)

  -- of all references of a program, of those of a loop's range
  pub in_range_too : (b : Block) (l : Loop) → In l (loops_of b) → Every (block_expressions b) → Every (block_expressions l.body)
  in_range_too b l i h =
      of_block (λ x. Every (block_expressions x)) (λ x. Every (node_expressions x)) (λ x. Every (arms_expressions x))
      (λ n c q. split (node_expressions n) (block_expressions c) q)
      (λ line d c q. (split (head_expressions d) (block_expressions c) q).1)
      (λ a q. q)
      (λ line c x more q. let k = split (optional c ++ block_expressions x) (arms_expressions more) q in ((split (optional c) (block_expressions x) k.0).1, k.1))
      b None 0 0 l i h

abbrev Numbered : List Term → Type 0
Numbered es = (n : ℕ) × (are_numbered n (expressions_references es) ≡ true)

numbered_range : (b : Block) (l : Loop) → In l (loops_of b) → Numbered (block_expressions b) → Numbered (block_expressions l.body)
numbered_range b l i h =
    of_block (λ x. Numbered (block_expressions x)) (λ x. Numbered (node_expressions x)) (λ x. Numbered (arms_expressions x))
    (λ n c q. let k = parts (node_expressions n) (block_expressions c) q.0 q.1 in ((q.0, k.0), (q.0 + size (node_expressions n), k.1)))
    (λ line d c q. let k = parts (head_expressions d) (block_expressions c) q.0 q.1 in (q.0 + size (head_expressions d), k.1))
    (λ a q. q)
    (λ line c x more q.
    let k = parts (optional c ++ block_expressions x) (arms_expressions more) q.0 q.1 in
    let j = parts (optional c) (block_expressions x) q.0 k.0 in
    ((q.0 + size (optional c), j.1), (q.0 + size (optional c ++ block_expressions x), k.1)))
    b None 0 0 l i h

-- what a loop shows of a block whose references are placed is placed
pub shown_placed : (symbols : List Symbol) (b : Block) (l : Loop) → are_placed symbols b ≡ true → In l (loops_of b) → list_all (λ r. is_placed symbols r) (known l) ≡ true
shown_placed symbols b l placed i = all_in (λ (m : Loop). list_all (λ r. is_placed symbols r) (known m)) (loops_of b) l (block_shows (λ r. is_placed symbols r) None 0 0 b placed) i

module _ (t : ProgramTree) (distinct : IsDistinct same_name (names_of t.symbols)) (placed : are_placed t.symbols t.block ≡ true) (numbered : are_numbered 0 (block_references t.block) ≡ true) (l : Loop) (among : In l (loops_of t.block)) where
  pub shape : Shape l
  shape = block_shape t.block None 0 0 l among

  known_placed : list_all (λ r. is_placed t.symbols r) (known l) ≡ true
  known_placed = shown_placed t.symbols t.block l placed among

  pub parts_placed : (is_placed t.symbols l.head.variable ≡ true) × (list_all (λ r. is_placed t.symbols r) l.assigned ≡ true) × (list_all (λ r. is_placed t.symbols r) (references l.references) ≡ true)
  parts_placed =
      let k = and_parts (is_placed t.symbols l.head.variable) (list_all (λ r. is_placed t.symbols r) (l.assigned ++ references l.references)) known_placed in
      (k.0, all_left (λ r. is_placed t.symbols r) l.assigned (references l.references) k.1, all_right (λ r. is_placed t.symbols r) l.assigned (references l.references) k.1)

  pub reference_placed : (o : Occurrence) → In o l.references → is_placed t.symbols o.ref ≡ true
  reference_placed o i = all_in (λ r. is_placed t.symbols r) (references l.references) o.ref parts_placed.2 (ref_in l.references o i)

  -- each reference stands once
  pub unique : (a b : Occurrence) → In a l.references → In b l.references → a.ref ≡ b.ref → a ≡ b
  unique a b i j e =
      let n = numbered_range t.block l among (0, numbered) in
      one_each l.references n.0 a b (ap (λ (os : List Occurrence). are_numbered n.0 (references os)) shape.1 ∙ ap (are_numbered n.0) (block_same shape.0 l.body) ∙ n.1) i j e

  pub body_placed : list_all (λ r. is_placed t.symbols r) (expressions_references (block_expressions l.body)) ≡ true
  body_placed = in_range_too (λ r. is_placed t.symbols r) t.block l among placed

  -- Of an accepted program: as many subscripts as dimensions, and the loop's variable gets no value
  -- in its range.
  pub regular : ((o : Occurrence) → In o l.references → count o.subscripts ≡ length (dimensions_at t.symbols o.ref.cell)) → dimensions_at t.symbols l.head.variable.cell ≡ []
      → ((o : Occurrence) → In o l.references → o.defines ≡ true → o.ref.name ≡ l.head.variable.name → ⊥) → Regular t.symbols l
  regular counted scalar unassigned = record {
    distinct = distinct;
    first = shape.0;
    references = shape.1;
    placed = reference_placed;
    counted = counted;
    assigned_at = λ r i.
        let d = assigned_at shape.0 l.body r (subst (λ (rs : List Ref). In r rs) shape.2 i) in
        (d.0, subst (λ (os : List Occurrence). In d.0 os) (sym shape.1) d.1, d.2, d.3, d.4);
    assigns = λ o i d s.
        let h : has_cell o.ref.cell l.assigned ≡ true = ap (has_cell o.ref.cell) shape.2 ∙ at_block o d s shape.0 [] l.body (subst (λ (os : List Occurrence). In o os) shape.1 i) in
        let m = any_among l.assigned (λ (q : Ref). q.cell == o.ref.cell) h in
        let p : is_placed t.symbols m.0 ≡ true = all_in (λ r. is_placed t.symbols r) l.assigned m.0 parts_placed.1 m.1 in
        let n = same_names t.symbols distinct m.0 o.ref p (reference_placed o i) (eqb-true (m.0).cell o.ref.cell m.2) in
        in_any (λ (q : Ref). same_name q.name o.ref.name) l.assigned m.0 m.1 (subst (λ (x : List ℕ). same_name x o.ref.name ≡ true) (sym n) (same_itself o.ref.name));
    variable = parts_placed.0;
    variable_scalar = scalar;
    unassigned = unassigned;
  }
