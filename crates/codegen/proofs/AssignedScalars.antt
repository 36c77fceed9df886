-- The scalars that a range assigns are those at which a reference defines.
use Rattle.std.proofs.Common.{◌≡◌, ◌∙◌, ◌+◌, ◌⊎◌, inl, inr, ℕ, Bool, true, false, List, [], ◌∷◌, ◌++◌, Option, Some, None, length, refl, sym, ap, subst, ⊎_elim}
use Rattle.std.specs.Prelude.{◌==◌, ◌||◌, if◌then◌else◌}
use Rattle.std.specs.List.{list_any}
use Rattle.std.proofs.lemmas.Bool.{eq-eqb}
use Rattle.ast.specs.Tree.{Ref, Term, Terms, no_terms, then_term, Access, PrintItem, value_item, text_item, DoHead, Kind, assign, print, read, stop, program, integer, dimension, parameters, do_loop, go_on, block_if, else_if, else_arm, end_if, logical_if, end, Node, plain, loop, choose, Block, no_nodes, then_node, Arms, no_arms, then_arm, element, call, parentheses, unary, binary, constant, truth, parameter}
use Rattle.loop_tree.specs.Loops.{has_cell, with_arms, with_block, with_kind, with_named, with_node, with_scalar, with_target, with_targets}
use Rattle.loop_tree.specs.Occurrences.{Occurrence, arms_occurrences, block_lines, block_occurrences, defined_at, head_occurrences, items_occurrences, kind_occurrences, node_lines, node_occurrences, optional_occurrences, target_occurrences, targets_occurrences, term_occurrences, terms_occurrences, used_at}
use Rattle.codegen.proofs.IterationLaws.{in_left, in_right, in_which}
use Rattle.codegen.proofs.IterationSteps.{In}

-- a reference of this list defines the scalar
abbrev Defined : Ref → List Occurrence → Type 0
Defined r os = (o : Occurrence) × In o os × (o.ref ≡ r) × (o.defines ≡ true) × (o.subscripts ≡ no_terms)

front : (r : Ref) (xs ys : List Occurrence) → Defined r xs → Defined r (xs ++ ys)
front r xs ys d = (d.0, in_left d.0 xs ys d.1, d.2, d.3, d.4)

back : (r : Ref) (xs ys : List Occurrence) → Defined r ys → Defined r (xs ++ ys)
back r xs ys d = (d.0, in_right d.0 xs ys d.1, d.2, d.3, d.4)

-- one scalar more
more_scalar : (rs : List Ref) (q r : Ref) → In r (with_scalar rs q) → In r rs ⊎ (r ≡ q)
more_scalar rs q r i = by (has_cell q.cell rs) i
  where
    last : In r (q ∷ []) → r ≡ q
    last (inl e) = e
    last (inr z) = absurd z

    by : (b : Bool) → In r (if b then rs else rs ++ q ∷ []) → In r rs ⊎ (r ≡ q)
    by true i = inl i
    by false i = ⊎_elim (λ j. inl j) (λ j. inr (last j)) (in_which r rs (q ∷ []) i)

abbrev Found : List Ref → Ref → List Occurrence → Type 0
Found rs r os = In r rs ⊎ Defined r os

of_target : (n : ℕ) (rs : List Ref) (a : Access) (r : Ref) → In r (with_target rs a) → Found rs r (target_occurrences n a)
of_target n rs a r i = by a.subscripts refl i
  where
    o : Occurrence
    o = defined_at n a.ref a.subscripts

    by : (es : Terms) → a.subscripts ≡ es → In r (with_named rs a.ref es) → Found rs r (target_occurrences n a)
    by no_terms e i = ⊎_elim (λ j. inl j) (λ z. inr (back r (terms_occurrences n a.subscripts) (defined_at n a.ref a.subscripts ∷ []) (defined_at n a.ref a.subscripts, inl refl, sym z, refl, e))) (more_scalar rs a.ref r i)
    by (then_term x es) e i = inl i

of_targets : (n : ℕ) (rs : List Ref) (xs : List Access) (r : Ref) → In r (with_targets rs xs) → Found rs r (targets_occurrences n xs)
of_targets n rs [] r i = inl i
of_targets n rs (a ∷ xs) r i =
    ⊎_elim
    (λ j. ⊎_elim (λ k. inl k) (λ d. inr (front r (target_occurrences n a) (targets_occurrences n xs) d)) (of_target n rs a r j))
    (λ d. inr (back r (target_occurrences n a) (targets_occurrences n xs) d))
    (of_targets n (with_target rs a) xs r i)

of_kind : (n : ℕ) (rs : List Ref) (k : Kind) (r : Ref) → In r (with_kind rs k) → Found rs r (kind_occurrences n k)
of_kind n rs (assign a e) r i = ⊎_elim (λ j. inl j) (λ d. inr (back r (term_occurrences n e) (target_occurrences n a) d)) (of_target n rs a r i)
of_kind n rs (read xs) r i = of_targets n rs xs r i
of_kind n rs (print x) r i = inl i
of_kind n rs stop r i = inl i
of_kind n rs (program x) r i = inl i
of_kind n rs (integer x) r i = inl i
of_kind n rs (dimension x) r i = inl i
of_kind n rs (parameters x) r i = inl i
of_kind n rs (do_loop x) r i = inl i
of_kind n rs go_on r i = inl i
of_kind n rs (block_if x) r i = inl i
of_kind n rs (else_if x) r i = inl i
of_kind n rs else_arm r i = inl i
of_kind n rs end_if r i = inl i
of_kind n rs (logical_if x k) r i = inl i
of_kind n rs end r i = inl i

variable_at : (n : ℕ) (h : DoHead) → Defined h.variable (head_occurrences n h)
variable_at n h = back h.variable ((term_occurrences n h.first ++ term_occurrences n h.last) ++ optional_occurrences n h.step) (defined_at n h.variable no_terms ∷ []) (defined_at n h.variable no_terms, inl refl, refl, refl, refl)

mutual
  of_node : (n : ℕ) (rs : List Ref) (x : Node) (r : Ref) → In r (with_node rs x) → Found rs r (node_occurrences n x)
  of_node n rs (plain s) r i = of_kind n rs s.kind r i
  of_node n rs (loop l h b) r i =
      ⊎_elim
      (λ j. ⊎_elim (λ k. inl k) (λ z. inr (front r (head_occurrences n h) (block_occurrences (n + 1) b) (subst (λ (q : Ref). Defined q (head_occurrences n h)) (sym z) (variable_at n h)))) (more_scalar rs h.variable r j))
      (λ d. inr (back r (head_occurrences n h) (block_occurrences (n + 1) b) d))
      (of_block (n + 1) (with_scalar rs h.variable) b r i)
  of_node n rs (choose a) r i = of_arms n (n + 1) rs a r i

  pub of_block : (n : ℕ) (rs : List Ref) (b : Block) (r : Ref) → In r (with_block rs b) → Found rs r (block_occurrences n b)
  of_block n rs no_nodes r i = inl i
  of_block n rs (then_node x b) r i =
      let m = n + length (node_lines x) in
      ⊎_elim
      (λ j. ⊎_elim (λ k. inl k) (λ d. inr (front r (node_occurrences n x) (block_occurrences m b) d)) (of_node n rs x r j))
      (λ d. inr (back r (node_occurrences n x) (block_occurrences m b) d))
      (of_block m (with_node rs x) b r i)

  of_arms : (i n : ℕ) (rs : List Ref) (a : Arms) (r : Ref) → In r (with_arms rs a) → Found rs r (arms_occurrences i n a)
  of_arms i n rs no_arms r j = inl j
  of_arms i n rs (then_arm l c b more) r j =
      let m = n + length (block_lines b) in
      ⊎_elim
      (λ k. ⊎_elim (λ q. inl q) (λ d. inr (front r (optional_occurrences i c ++ block_occurrences n b) (arms_occurrences i m more) (back r (optional_occurrences i c) (block_occurrences n b) d))) (of_block n rs b r k))
      (λ d. inr (back r (optional_occurrences i c ++ block_occurrences n b) (arms_occurrences i m more) d))
      (of_arms i m (with_block rs b) more r j)

-- each scalar that is assigned has a reference that defines it
pub assigned_at : (n : ℕ) (b : Block) (r : Ref) → In r (with_block [] b) → Defined r (block_occurrences n b)
assigned_at n b r i = ⊎_elim (λ z. absurd z) (λ d. d) (of_block n [] b r i)

-- ---- and what a reference defines is assigned

any_left : (f : Ref → Bool) (xs ys : List Ref) → list_any f xs ≡ true → list_any f (xs ++ ys) ≡ true
any_left f [] ys h = cc
any_left f (x ∷ xs) ys h = by (f x) h (any_left f xs ys)
  where
    by : (b : Bool) → (b || list_any f xs) ≡ true → (list_any f xs ≡ true → list_any f (xs ++ ys) ≡ true) → (b || list_any f (xs ++ ys)) ≡ true
    by true k more = refl
    by false k more = more k

any_last : (f : Ref → Bool) (xs : List Ref) (y : Ref) → f y ≡ true → list_any f (xs ++ y ∷ []) ≡ true
any_last f [] y h = ap (λ (b : Bool). b || false) h
any_last f (x ∷ xs) y h = by (f x) (any_last f xs y h)
  where
    by : (b : Bool) → list_any f (xs ++ y ∷ []) ≡ true → (b || list_any f (xs ++ y ∷ [])) ≡ true
    by true k = refl
    by false k = k

stays_scalar : (c : ℕ) (rs : List Ref) (q : Ref) → has_cell c rs ≡ true → has_cell c (with_scalar rs q) ≡ true
stays_scalar c rs q h = by (has_cell q.cell rs)
  where
    by : (b : Bool) → has_cell c (if b then rs else rs ++ q ∷ []) ≡ true
    by true = h
    by false = any_left (λ (r : Ref). r.cell == c) rs (q ∷ []) h

put_scalar : (rs : List Ref) (q : Ref) → has_cell q.cell (with_scalar rs q) ≡ true
put_scalar rs q = by (has_cell q.cell rs) refl
  where
    by : (b : Bool) → has_cell q.cell rs ≡ b → has_cell q.cell (if b then rs else rs ++ q ∷ []) ≡ true
    by true e = e
    by false e = any_last (λ (r : Ref). r.cell == q.cell) rs q (eq-eqb q.cell q.cell refl)

stays_target : (c : ℕ) (rs : List Ref) (a : Access) → has_cell c rs ≡ true → has_cell c (with_target rs a) ≡ true
stays_target c rs a h = by a.subscripts
  where
    by : (es : Terms) → has_cell c (with_named rs a.ref es) ≡ true
    by no_terms = stays_scalar c rs a.ref h
    by (then_term x es) = h

stays_targets : (c : ℕ) (rs : List Ref) (xs : List Access) → has_cell c rs ≡ true → has_cell c (with_targets rs xs) ≡ true
stays_targets c rs [] h = h
stays_targets c rs (a ∷ xs) h = stays_targets c (with_target rs a) xs (stays_target c rs a h)

stays_kind : (c : ℕ) (rs : List Ref) (k : Kind) → has_cell c rs ≡ true → has_cell c (with_kind rs k) ≡ true
stays_kind c rs (assign a e) h = stays_target c rs a h
stays_kind c rs (read xs) h = stays_targets c rs xs h
stays_kind c rs (print x) h = h
stays_kind c rs stop h = h
stays_kind c rs (program x) h = h
stays_kind c rs (integer x) h = h
stays_kind c rs (dimension x) h = h
stays_kind c rs (parameters x) h = h
stays_kind c rs (do_loop x) h = h
stays_kind c rs go_on h = h
stays_kind c rs (block_if x) h = h
stays_kind c rs (else_if x) h = h
stays_kind c rs else_arm h = h
stays_kind c rs end_if h = h
stays_kind c rs (logical_if x k) h = h
stays_kind c rs end h = h

mutual
  stays_node : (c : ℕ) (rs : List Ref) (x : Node) → has_cell c rs ≡ true → has_cell c (with_node rs x) ≡ true
  stays_node c rs (plain s) h = stays_kind c rs s.kind h
  stays_node c rs (loop l d b) h = stays_block c (with_scalar rs d.variable) b (stays_scalar c rs d.variable h)
  stays_node c rs (choose a) h = stays_arms c rs a h

  stays_block : (c : ℕ) (rs : List Ref) (b : Block) → has_cell c rs ≡ true → has_cell c (with_block rs b) ≡ true
  stays_block c rs no_nodes h = h
  stays_block c rs (then_node x b) h = stays_block c (with_node rs x) b (stays_node c rs x h)

  stays_arms : (c : ℕ) (rs : List Ref) (a : Arms) → has_cell c rs ≡ true → has_cell c (with_arms rs a) ≡ true
  stays_arms c rs no_arms h = h
  stays_arms c rs (then_arm l e b more) h = stays_arms c (with_block rs b) more (stays_block c rs b h)

-- no reference of an expression defines
mutual
  term_uses : (n : ℕ) (e : Term) (o : Occurrence) → In o (term_occurrences n e) → o.defines ≡ true → ⊥
  term_uses n (constant v) o i d = i
  term_uses n (truth b) o i d = i
  term_uses n (parameter x v) o i d = i
  term_uses n (element r es) o i d = ⊎_elim (λ j. terms_use n es o j d) (λ j. one j) (in_which o (terms_occurrences n es) (used_at n r es ∷ []) i)
    where
      one : In o (used_at n r es ∷ []) → ⊥
      one (inl e) = let z : false ≡ true = sym (ap (λ (q : Occurrence). q.defines) e) ∙ d in cc
      one (inr z) = z
  term_uses n (call f es) o i d = terms_use n es o i d
  term_uses n (parentheses e) o i d = term_uses n e o i d
  term_uses n (unary p e) o i d = term_uses n e o i d
  term_uses n (binary p a b) o i d = ⊎_elim (λ j. term_uses n a o j d) (λ j. term_uses n b o j d) (in_which o (term_occurrences n a) (term_occurrences n b) i)

  terms_use : (n : ℕ) (es : Terms) (o : Occurrence) → In o (terms_occurrences n es) → o.defines ≡ true → ⊥
  terms_use n no_terms o i d = i
  terms_use n (then_term e es) o i d = ⊎_elim (λ j. term_uses n e o j d) (λ j. terms_use n es o j d) (in_which o (term_occurrences n e) (terms_occurrences n es) i)

optional_uses : (n : ℕ) (e : Option Term) (o : Occurrence) → In o (optional_occurrences n e) → o.defines ≡ true → ⊥
optional_uses n None o i d = i
optional_uses n (Some e) o i d = term_uses n e o i d

items_use : (n : ℕ) (xs : List PrintItem) (o : Occurrence) → In o (items_occurrences n xs) → o.defines ≡ true → ⊥
items_use n [] o i d = i
items_use n (value_item e ∷ xs) o i d = ⊎_elim (λ j. term_uses n e o j d) (λ j. items_use n xs o j d) (in_which o (term_occurrences n e) (items_occurrences n xs) i)
items_use n (text_item t ∷ xs) o i d = items_use n xs o i d

module _ (o : Occurrence) (d : o.defines ≡ true) (scalar : o.subscripts ≡ no_terms) where
  abbrev Has : List Ref → Type 0
  Has rs = has_cell o.ref.cell rs ≡ true

  at_target : (n : ℕ) (rs : List Ref) (a : Access) → In o (target_occurrences n a) → Has (with_target rs a)
  at_target n rs a i = ⊎_elim (λ j. absurd (terms_use n a.subscripts o j d)) (λ j. one j) (in_which o (terms_occurrences n a.subscripts) (defined_at n a.ref a.subscripts ∷ []) i)
    where
      one : In o (defined_at n a.ref a.subscripts ∷ []) → Has (with_target rs a)
      one (inl e) =
          let s : a.subscripts ≡ no_terms = sym (ap (λ (q : Occurrence). q.subscripts) e) ∙ scalar in
          subst (λ (es : Terms). Has (with_named rs a.ref es)) (sym s) (subst (λ (q : Ref). has_cell q.cell (with_scalar rs a.ref) ≡ true) (sym (ap (λ (q : Occurrence). q.ref) e)) (put_scalar rs a.ref))
      one (inr z) = absurd z

  at_targets : (n : ℕ) (rs : List Ref) (xs : List Access) → In o (targets_occurrences n xs) → Has (with_targets rs xs)
  at_targets n rs [] i = absurd i
  at_targets n rs (a ∷ xs) i = ⊎_elim (λ j. stays_targets o.ref.cell (with_target rs a) xs (at_target n rs a j)) (λ j. at_targets n (with_target rs a) xs j) (in_which o (target_occurrences n a) (targets_occurrences n xs) i)

  at_kind : (n : ℕ) (rs : List Ref) (k : Kind) → In o (kind_occurrences n k) → Has (with_kind rs k)
  at_kind n rs (assign a e) i = ⊎_elim (λ j. absurd (term_uses n e o j d)) (λ j. at_target n rs a j) (in_which o (term_occurrences n e) (target_occurrences n a) i)
  at_kind n rs (read xs) i = at_targets n rs xs i
  at_kind n rs (print xs) i = absurd (items_use n xs o i d)
  at_kind n rs stop i = absurd i
  at_kind n rs (program x) i = absurd i
  at_kind n rs (integer x) i = absurd i
  at_kind n rs (dimension x) i = absurd i
  at_kind n rs (parameters x) i = absurd i
  at_kind n rs (do_loop x) i = absurd i
  at_kind n rs go_on i = absurd i
  at_kind n rs (block_if x) i = absurd i
  at_kind n rs (else_if x) i = absurd i
  at_kind n rs else_arm i = absurd i
  at_kind n rs end_if i = absurd i
  at_kind n rs (logical_if x k) i = absurd i
  at_kind n rs end i = absurd i

  at_head : (n : ℕ) (rs : List Ref) (h : DoHead) → In o (head_occurrences n h) → Has (with_scalar rs h.variable)
  at_head n rs h i =
      let fl = term_occurrences n h.first ++ term_occurrences n h.last in
      ⊎_elim
      (λ j. ⊎_elim
      (λ k. ⊎_elim (λ q. absurd (term_uses n h.first o q d)) (λ q. absurd (term_uses n h.last o q d)) (in_which o (term_occurrences n h.first) (term_occurrences n h.last) k))
      (λ k. absurd (optional_uses n h.step o k d))
      (in_which o fl (optional_occurrences n h.step) j))
      (λ j. one j)
      (in_which o (fl ++ optional_occurrences n h.step) (defined_at n h.variable no_terms ∷ []) i)
    where
      one : In o (defined_at n h.variable no_terms ∷ []) → Has (with_scalar rs h.variable)
      one (inl e) = subst (λ (q : Ref). has_cell q.cell (with_scalar rs h.variable) ≡ true) (sym (ap (λ (q : Occurrence). q.ref) e)) (put_scalar rs h.variable)
      one (inr z) = absurd z

  mutual
    at_node : (n : ℕ) (rs : List Ref) (x : Node) → In o (node_occurrences n x) → Has (with_node rs x)
    at_node n rs (plain s) i = at_kind n rs s.kind i
    at_node n rs (loop l h b) i =
        ⊎_elim (λ j. stays_block o.ref.cell (with_scalar rs h.variable) b (at_head n rs h j)) (λ j. at_block (n + 1) (with_scalar rs h.variable) b j) (in_which o (head_occurrences n h) (block_occurrences (n + 1) b) i)
    at_node n rs (choose a) i = at_arms n (n + 1) rs a i

    -- a scalar that a reference of the range defines is among the assigned
    pub at_block : (n : ℕ) (rs : List Ref) (b : Block) → In o (block_occurrences n b) → Has (with_block rs b)
    at_block n rs no_nodes i = absurd i
    at_block n rs (then_node x b) i =
        let m = n + length (node_lines x) in
        ⊎_elim (λ j. stays_block o.ref.cell (with_node rs x) b (at_node n rs x j)) (λ j. at_block m (with_node rs x) b j) (in_which o (node_occurrences n x) (block_occurrences m b) i)

    at_arms : (k n : ℕ) (rs : List Ref) (a : Arms) → In o (arms_occurrences k n a) → Has (with_arms rs a)
    at_arms k n rs no_arms i = absurd i
    at_arms k n rs (then_arm l c b more) i =
        let m = n + length (block_lines b) in
        ⊎_elim
        (λ j. stays_arms o.ref.cell (with_block rs b) more (⊎_elim (λ q. absurd (optional_uses k c o q d)) (λ q. at_block n rs b q) (in_which o (optional_occurrences k c) (block_occurrences n b) j)))
        (λ j. at_arms k m (with_block rs b) more j)
        (in_which o (optional_occurrences k c ++ block_occurrences n b) (arms_occurrences k m more) i)
