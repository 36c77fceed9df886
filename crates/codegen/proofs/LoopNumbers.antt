-- A loop is told by the number of its DO variable's reference.
use Rattle.std.proofs.Common.{◌≡◌, ◌∙◌, ◌+◌, ◌≤◌, ◌<◌, inl, inr, ℕ, suc, Bool, true, false, List, [], ◌∷◌, ◌++◌, Option, Some, None, length, get_or, refl, sym, ap, subst, ⊎_elim, arith, length-append}
use Rattle.std.specs.Prelude.{◌==◌, if◌then◌else◌}
use Rattle.std.proofs.lemmas.Bool.{and_parts, eqb-true}
use Rattle.ast.specs.Program.{ProgramTree}
use Rattle.ast.specs.References.{are_numbered, arms_expressions, block_expressions, block_references, expressions_references, head_expressions, node_expressions, optional}
use Rattle.ast.specs.Tree as tree
use Rattle.ast.specs.Tree.{Ref, Term, DoHead, Node, Block, Arms, element, no_terms}
use Rattle.ast.proofs.References.{references_append, numbered_parts}
use Rattle.loop_tree.specs.Loops.{Loop, arms_loops, block_loops, loop_at, loops_of, node_loops}
use Rattle.loop_tree.specs.Occurrences.{node_lines, block_lines}
use Rattle.machine.specs.Code.{Code}
use Rattle.codegen.proofs.IterationLaws.{in_left, in_right, in_which}
use Rattle.codegen.proofs.IterationSteps.{In}
use Rattle.codegen.proofs.OpenedProgram.{ArmsMatch, BlockMatches, LoopMatches, NodeMatches}
use Rattle.codegen.specs.Program.{IsCodeOf, Planned, number_from, opened_by}

abbrev pub size : List Term → ℕ
size es = length (expressions_references es)

pub parts : (es fs : List Term) (n : ℕ) → are_numbered n (expressions_references (es ++ fs)) ≡ true → (are_numbered n (expressions_references es) ≡ true) × (are_numbered (n + size es) (expressions_references fs) ≡ true)
parts es fs n h = numbered_parts n (expressions_references es) (expressions_references fs) (subst (λ (rs : List Ref). are_numbered n rs ≡ true) (references_append es fs) h)

size_append : (es fs : List Term) → size (es ++ fs) ≡ size es + size fs
size_append es fs = ap (λ (rs : List Ref). length rs) (references_append es fs) ∙ length-append (expressions_references es) (expressions_references fs)

abbrev Between : ℕ → Loop → ℕ → Type 0
Between n l m = (n ≤ l.head.variable.id) × (l.head.variable.id < m)

-- the variable's reference is the last of its DO's
variable_id : (h : DoHead) (n : ℕ) → are_numbered n (expressions_references (head_expressions h)) ≡ true → (n ≤ h.variable.id) × (h.variable.id < n + size (head_expressions h))
variable_id h n e =
    let before = h.first ∷ (h.last ∷ optional h.step) in
    let last = element h.variable no_terms ∷ [] in
    let k = parts before last n e in
    let m = and_parts (h.variable.id == n + size before) true k.1 in
    let i = eqb-true h.variable.id (n + size before) m.0 in
    let s = size_append before last in
    (omega (arith, i), omega (arith, i, s))

mutual
  node_ids : (x : Node) (around : Option ℕ) (k m : ℕ) (l : Loop) (n : ℕ) → In l (node_loops around k m x) → are_numbered n (expressions_references (node_expressions x)) ≡ true → Between n l (n + size (node_expressions x))
  node_ids (tree.plain s) around k m l n i e = absurd i
  node_ids (tree.loop line h b) around k m l n (inl z) e =
      let p = parts (head_expressions h) (block_expressions b) n e in
      let v = variable_id h n p.0 in
      let s = size_append (head_expressions h) (block_expressions b) in
      let same : l.head.variable.id ≡ h.variable.id = ap (λ (y : Loop). y.head.variable.id) z in
      let v0 = v.0 in
      let v1 = v.1 in
      (omega (arith, same, v0), omega (arith, same, v1, s))
  node_ids (tree.loop line h b) around k m l n (inr i) e =
      let p = parts (head_expressions h) (block_expressions b) n e in
      let q = block_ids b (Some (k + 1)) (k + 1) (m + 1) l (n + size (head_expressions h)) i p.1 in
      let s = size_append (head_expressions h) (block_expressions b) in
      let q0 = q.0 in
      let q1 = q.1 in
      (omega (arith, q0), omega (arith, q1, s))
  node_ids (tree.choose a) around k m l n i e = arms_ids a around k (m + 1) l n i e

  block_ids : (b : Block) (around : Option ℕ) (k m : ℕ) (l : Loop) (n : ℕ) → In l (block_loops around k m b) → are_numbered n (expressions_references (block_expressions b)) ≡ true → Between n l (n + size (block_expressions b))
  block_ids tree.no_nodes around k m l n i e = absurd i
  block_ids (tree.then_node x b) around k m l n i e =
      let p = parts (node_expressions x) (block_expressions b) n e in
      let s = size_append (node_expressions x) (block_expressions b) in
      let xs = node_loops around k m x in
      let k2 = k + length xs in
      let m2 = m + length (node_lines x) in
      ⊎_elim
      (λ j. let q = node_ids x around k m l n j p.0 in let q0 = q.0 in let q1 = q.1 in (omega (arith, q0), omega (arith, q1, s)))
      (λ j. let q = block_ids b around k2 m2 l (n + size (node_expressions x)) j p.1 in let q0 = q.0 in let q1 = q.1 in (omega (arith, q0), omega (arith, q1, s)))
      (in_which l xs (block_loops around k2 m2 b) i)

  arms_ids : (a : Arms) (around : Option ℕ) (k m : ℕ) (l : Loop) (n : ℕ) → In l (arms_loops around k m a) → are_numbered n (expressions_references (arms_expressions a)) ≡ true → Between n l (n + size (arms_expressions a))
  arms_ids tree.no_arms around k m l n i e = absurd i
  arms_ids (tree.then_arm line c b more) around k m l n i e =
      let p = parts (optional c ++ block_expressions b) (arms_expressions more) n e in
      let o = parts (optional c) (block_expressions b) n p.0 in
      let s = size_append (optional c ++ block_expressions b) (arms_expressions more) in
      let s2 = size_append (optional c) (block_expressions b) in
      let xs = block_loops around k m b in
      let k2 = k + length xs in
      let m2 = m + length (block_lines b) in
      ⊎_elim
      (λ j. let q = block_ids b around k m l (n + size (optional c)) j o.1 in let q0 = q.0 in let q1 = q.1 in (omega (arith, q0), omega (arith, q1, s, s2)))
      (λ j. let q = arms_ids more around k2 m2 l (n + size (optional c ++ block_expressions b)) j p.1 in let q0 = q.0 in let q1 = q.1 in (omega (arith, q0), omega (arith, q1, s)))
      (in_which l xs (arms_loops around k2 m2 more) i)

abbrev Same : Loop → Loop → Type 0
Same x y = x.head.variable.id ≡ y.head.variable.id

apart : (line : ℕ) (h : DoHead) (b : Block) (around : Option ℕ) (k m : ℕ) (x y : Loop) (n : ℕ) → x ≡ loop_at around m line h b → In y (block_loops (Some (k + 1)) (k + 1) (m + 1) b) → are_numbered n (expressions_references (head_expressions h ++ block_expressions b)) ≡ true → Same x y → ⊥
apart line h b around k m x y n u j e q =
    let p = parts (head_expressions h) (block_expressions b) n e in
    let v = variable_id h n p.0 in
    let r = block_ids b (Some (k + 1)) (k + 1) (m + 1) y (n + size (head_expressions h)) j p.1 in
    let w : x.head.variable.id ≡ h.variable.id = ap (λ (z : Loop). z.head.variable.id) u in
    let v1 = v.1 in
    let r0 = r.0 in
    omega (arith, w, q, v1, r0)

mutual
  node_one : (z : Node) (around : Option ℕ) (k m : ℕ) (x y : Loop) (n : ℕ) → In x (node_loops around k m z) → In y (node_loops around k m z) → are_numbered n (expressions_references (node_expressions z)) ≡ true → Same x y → x ≡ y
  node_one (tree.plain s) around k m x y n i j e q = absurd i
  node_one (tree.loop line h b) around k m x y n (inl u) (inl v) e q = u ∙ sym v
  node_one (tree.loop line h b) around k m x y n (inl u) (inr j) e q = absurd (apart line h b around k m x y n u j e q)
  node_one (tree.loop line h b) around k m x y n (inr i) (inl v) e q = absurd (apart line h b around k m y x n v i e (sym q))
  node_one (tree.loop line h b) around k m x y n (inr i) (inr j) e q = block_one b (Some (k + 1)) (k + 1) (m + 1) x y (n + size (head_expressions h)) i j (parts (head_expressions h) (block_expressions b) n e).1 q
  node_one (tree.choose a) around k m x y n i j e q = arms_one a around k (m + 1) x y n i j e q

  pub block_one : (b : Block) (around : Option ℕ) (k m : ℕ) (x y : Loop) (n : ℕ) → In x (block_loops around k m b) → In y (block_loops around k m b) → are_numbered n (expressions_references (block_expressions b)) ≡ true → Same x y → x ≡ y
  block_one tree.no_nodes around k m x y n i j e q = absurd i
  block_one (tree.then_node z b) around k m x y n i j e q =
      let p = parts (node_expressions z) (block_expressions b) n e in
      let xs = node_loops around k m z in
      let k2 = k + length xs in
      let m2 = m + length (node_lines z) in
      let ys = block_loops around k2 m2 b in
      ⊎_elim
      (λ u. ⊎_elim (λ v. node_one z around k m x y n u v p.0 q) (λ v. let a = (node_ids z around k m x n u p.0).1 in let c = (block_ids b around k2 m2 y (n + size (node_expressions z)) v p.1).0 in absurd (omega (arith, a, c, q))) (in_which y xs ys j))
      (λ u. ⊎_elim (λ v. let a = (node_ids z around k m y n v p.0).1 in let c = (block_ids b around k2 m2 x (n + size (node_expressions z)) u p.1).0 in absurd (omega (arith, a, c, q))) (λ v. block_one b around k2 m2 x y (n + size (node_expressions z)) u v p.1 q) (in_which y xs ys j))
      (in_which x xs ys i)

  arms_one : (a : Arms) (around : Option ℕ) (k m : ℕ) (x y : Loop) (n : ℕ) → In x (arms_loops around k m a) → In y (arms_loops around k m a) → are_numbered n (expressions_references (arms_expressions a)) ≡ true → Same x y → x ≡ y
  arms_one tree.no_arms around k m x y n i j e q = absurd i
  arms_one (tree.then_arm line c b more) around k m x y n i j e q =
      let p = parts (optional c ++ block_expressions b) (arms_expressions more) n e in
      let o = parts (optional c) (block_expressions b) n p.0 in
      let s2 = size_append (optional c) (block_expressions b) in
      let xs = block_loops around k m b in
      let k2 = k + length xs in
      let m2 = m + length (block_lines b) in
      let ys = arms_loops around k2 m2 more in
      let n2 = n + size (optional c ++ block_expressions b) in
      ⊎_elim
      (λ u. ⊎_elim (λ v. block_one b around k m x y (n + size (optional c)) u v o.1 q) (λ v. let a1 = (block_ids b around k m x (n + size (optional c)) u o.1).1 in let c1 = (arms_ids more around k2 m2 y n2 v p.1).0 in absurd (omega (arith, a1, c1, q, s2))) (in_which y xs ys j))
      (λ u. ⊎_elim (λ v. let a1 = (block_ids b around k m y (n + size (optional c)) v o.1).1 in let c1 = (arms_ids more around k2 m2 x n2 u p.1).0 in absurd (omega (arith, a1, c1, q, s2))) (λ v. arms_one more around k2 m2 x y n2 u v p.1 q) (in_which y xs ys j))
      (in_which x xs ys i)

-- ---- each DO that opens a loop is that of its number

numbered_is : (n : ℕ) (xs : List Planned) (id m : ℕ) (some : Planned) → number_from n xs id ≡ Some m → (i : ℕ) × (m ≡ n + i) × (i < length xs) × ((get_or xs i some).loop.head.variable.id ≡ id)
numbered_is n [] id m some e = cc
numbered_is n (x ∷ xs) id m some e = by (x.loop.head.variable.id == id) refl (numbered_is (n + 1) xs id m some)
  where
    by : (b : Bool) → (x.loop.head.variable.id == id) ≡ b → (number_from (n + 1) xs id ≡ Some m → (i : ℕ) × (m ≡ n + 1 + i) × (i < length xs) × ((get_or xs i some).loop.head.variable.id ≡ id)) → (i : ℕ) × (m ≡ n + i) × (i < length (x ∷ xs)) × ((get_or (x ∷ xs) i some).loop.head.variable.id ≡ id)
    by true h more =
        let k : Some n ≡ Some m = ap (λ (c : Bool). if c then Some n else number_from (n + 1) xs id) (sym h) ∙ e in
        let is : n ≡ m = cc in (0, omega (arith, is), omega arith, eqb-true x.loop.head.variable.id id h)
    by false h more =
        let k : number_from (n + 1) xs id ≡ Some m = ap (λ (c : Bool). if c then Some n else number_from (n + 1) xs id) (sym h) ∙ e in
        let z = more k in
        let z1 = z.1 in
        let z2 = z.2 in
        (suc z.0, omega (arith, z1), omega (arith, z2), z.3)

module _ (t : ProgramTree) (xs : List Planned) (some : Planned) (code : Code) (w : IsCodeOf t xs code) (numbered : are_numbered 0 (block_references t.block) ≡ true) (among : (n : ℕ) → n < length xs → In (get_or xs n some).loop (loops_of t.block)) where
  loop_matches : (o : Option ℕ) (around : Option ℕ) (m line : ℕ) (h : DoHead) (b : Block) → opened_by xs h.variable.id ≡ o → In (loop_at around m line h b) (loops_of t.block) → BlockMatches t xs some code w b → LoopMatches t xs some code w o h b (BlockMatches t xs some code w b)
  loop_matches None around m line h b e i inner = inner
  loop_matches (Some n) around m line h b e i inner =
      let z = numbered_is 0 xs h.variable.id n some e in
      let z1 = z.1 in
      let at : z.0 ≡ n = omega (arith, z1) in
      let lt : n < length xs = subst (λ (k : ℕ). k < length xs) at z.2 in
      let id : (get_or xs n some).loop.head.variable.id ≡ h.variable.id = subst (λ (k : ℕ). (get_or xs k some).loop.head.variable.id ≡ h.variable.id) at z.3 in
      let is : (get_or xs n some).loop ≡ loop_at around m line h b = block_one t.block None 0 0 (get_or xs n some).loop (loop_at around m line h b) 0 (among n lt) i numbered id in
      (lt, ap (λ (l : Loop). l.head) is, ap (λ (l : Loop). l.body) is, ap (λ (l : Loop). l.step) is, ap (λ (l : Loop). l.trips) is)

  mutual
    node_matches : (z : Node) (around : Option ℕ) (k m : ℕ) → ((l : Loop) → In l (node_loops around k m z) → In l (loops_of t.block)) → NodeMatches t xs some code w z
    node_matches (tree.plain s) around k m h = tt
    node_matches (tree.loop line d b) around k m h = loop_matches (opened_by xs d.variable.id) around m line d b refl (h (loop_at around m line d b) (inl refl)) (block_matches b (Some (k + 1)) (k + 1) (m + 1) (λ l i. h l (inr i)))
    node_matches (tree.choose a) around k m h = arms_match a around k (m + 1) h

    block_matches : (b : Block) (around : Option ℕ) (k m : ℕ) → ((l : Loop) → In l (block_loops around k m b) → In l (loops_of t.block)) → BlockMatches t xs some code w b
    block_matches tree.no_nodes around k m h = tt
    block_matches (tree.then_node z b) around k m h =
        let us = node_loops around k m z in
        let vs = block_loops around (k + length us) (m + length (node_lines z)) b in
        (node_matches z around k m (λ l i. h l (in_left l us vs i)), block_matches b around (k + length us) (m + length (node_lines z)) (λ l i. h l (in_right l us vs i)))

    arms_match : (a : Arms) (around : Option ℕ) (k m : ℕ) → ((l : Loop) → In l (arms_loops around k m a) → In l (loops_of t.block)) → ArmsMatch t xs some code w a
    arms_match tree.no_arms around k m h = tt
    arms_match (tree.then_arm line None b more) around k m h =
        let us = block_loops around k m b in
        let vs = arms_loops around (k + length us) (m + length (block_lines b)) more in
        block_matches b around k m (λ l i. h l (in_left l us vs i))
    arms_match (tree.then_arm line (Some c) b more) around k m h =
        let us = block_loops around k m b in
        let vs = arms_loops around (k + length us) (m + length (block_lines b)) more in
        (block_matches b around k m (λ l i. h l (in_left l us vs i)), arms_match more around (k + length us) (m + length (block_lines b)) (λ l i. h l (in_right l us vs i)))

  -- each DO that opens a loop is that of its number
  pub matches : BlockMatches t xs some code w t.block
  matches = block_matches t.block None 0 0 (λ l i. i)
