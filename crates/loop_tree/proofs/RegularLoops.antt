-- What a program's facts say of each of its loops: the references of the range have as many
-- subscripts as their names have dimensions, the loop's variable is a scalar and is given no value,
-- and END stands elsewhere.
use Rattle.std.proofs.Common.{◌≡◌, ap, refl, ℕ, Bool, true, false, List, [], ◌∷◌, Option, Some, None, arith}
use Rattle.std.specs.Prelude.{◌+◌, ◌++◌, length, not, ◌||◌, ◌==◌, ⊤}
use Rattle.std.specs.List.{list_all, list_any}
use Rattle.std.proofs.lemmas.Bool.{and_parts, and_from, or_parts, not-true, eqb-true}
use Rattle.ast.specs.References.{optional, items_expressions, kind_expressions, head_expressions, node_expressions, block_expressions, arms_expressions}
use Rattle.ast.specs.Regular.{is_counted, are_counted, given_by, is_none_of, node_keeps, block_keeps, arms_keep, node_has_end, block_has_end, arms_have_end, holds_end, ends_outside, is_regular}
use Rattle.ast.specs.Store.{same_name}
use Rattle.ast.specs.Symbols.{Extent, Symbol, dimensions_in}
use Rattle.ast.specs.Tree.{Ref, Term, Terms, constant, truth, parameter, element, call, parentheses, unary, binary, no_terms, then_term, count_of, Access, accessed, PrintItem, value_item, text_item, DoHead, Kind, assign, print, read, Node, plain, loop, choose, Block, no_nodes, then_node, Arms, no_arms, then_arm}
use Rattle.ast.proofs.Lists.{all_joined, all_parts}
use Rattle.loop_tree.specs.Loops.{Loop, node_loops, block_loops, arms_loops, loops_of}
use Rattle.loop_tree.specs.Occurrences.{Occurrence, used_at, defined_at, term_occurrences, terms_occurrences, optional_occurrences, target_occurrences, targets_occurrences, items_occurrences, kind_occurrences, head_occurrences, node_lines, block_lines, node_occurrences, block_occurrences, arms_occurrences}

one : {X : Type 0} (p : X → Bool) (x : X) → p x ≡ true → list_all p (x ∷ []) ≡ true
one p x h = and_from (p x) true h refl

-- ---- subscripts

module _ (symbols : List Symbol) where
  abbrev pub is_right : Occurrence → Bool
  is_right o = count_of o.subscripts == length (dimensions_in symbols o.ref.name)

  abbrev Right : List Occurrence → Type 0
  Right os = list_all is_right os ≡ true

  abbrev Counted : List Term → Type 0
  Counted es = list_all (λ e. is_counted symbols e) es ≡ true

  mutual
    term_right : (n : ℕ) (e : Term) → is_counted symbols e ≡ true → Right (term_occurrences n e)
    term_right n (constant k) h = refl
    term_right n (truth b) h = refl
    term_right n (parameter x k) h = refl
    term_right n (element r es) h =
        let p = and_parts (count_of es == length (dimensions_in symbols r.name)) (are_counted symbols es) h in
        all_joined is_right (terms_occurrences n es) (used_at n r es ∷ []) (terms_right n es p.1) (one is_right (used_at n r es) p.0)
    term_right n (call f es) h = terms_right n es h
    term_right n (parentheses e) h = term_right n e h
    term_right n (unary o e) h = term_right n e h
    term_right n (binary o a b) h =
        let p = and_parts (is_counted symbols a) (is_counted symbols b) h in
        all_joined is_right (term_occurrences n a) (term_occurrences n b) (term_right n a p.0) (term_right n b p.1)

    terms_right : (n : ℕ) (es : Terms) → are_counted symbols es ≡ true → Right (terms_occurrences n es)
    terms_right n no_terms h = refl
    terms_right n (then_term e es) h =
        let p = and_parts (is_counted symbols e) (are_counted symbols es) h in
        all_joined is_right (term_occurrences n e) (terms_occurrences n es) (term_right n e p.0) (terms_right n es p.1)

  optional_right : (n : ℕ) (e : Option Term) → Counted (optional e) → Right (optional_occurrences n e)
  optional_right n None h = refl
  optional_right n (Some e) h = term_right n e (and_parts (is_counted symbols e) true h).0

  target_right : (n : ℕ) (a : Access) → is_counted symbols (accessed a) ≡ true → Right (target_occurrences n a)
  target_right n a h =
      let p = and_parts (count_of a.subscripts == length (dimensions_in symbols a.ref.name)) (are_counted symbols a.subscripts) h in
      all_joined is_right (terms_occurrences n a.subscripts) (defined_at n a.ref a.subscripts ∷ []) (terms_right n a.subscripts p.1) (one is_right (defined_at n a.ref a.subscripts) p.0)

  targets_right : (n : ℕ) (ts : List Access) → Counted (kind_expressions (read ts)) → Right (targets_occurrences n ts)
  targets_right n [] h = refl
  targets_right n (a ∷ ts) h =
      let p = and_parts (is_counted symbols (accessed a)) _ h in
      all_joined is_right (target_occurrences n a) (targets_occurrences n ts) (target_right n a p.0) (targets_right n ts p.1)

  items_right : (n : ℕ) (xs : List PrintItem) → Counted (items_expressions xs) → Right (items_occurrences n xs)
  items_right n [] h = refl
  items_right n (value_item e ∷ xs) h =
      let p = and_parts (is_counted symbols e) _ h in
      all_joined is_right (term_occurrences n e) (items_occurrences n xs) (term_right n e p.0) (items_right n xs p.1)
  items_right n (text_item t ∷ xs) h = items_right n xs h

  kind_right : (n : ℕ) (k : Kind) → Counted (kind_expressions k) → Right (kind_occurrences n k)
  kind_right n (assign a e) h =
      let p = and_parts (is_counted symbols e) _ h in
      all_joined is_right (term_occurrences n e) (target_occurrences n a) (term_right n e p.0) (target_right n a (and_parts (is_counted symbols (accessed a)) true p.1).0)
  kind_right n (print xs) h = items_right n xs h
  kind_right n (read ts) h = targets_right n ts h
  kind_right n k h = refl

  none_long : (ds : List Extent) → (0 == length ds) ≡ true → ds ≡ []
  none_long [] h = refl
  none_long (d ∷ ds) h = let e = eqb-true 0 (length (d ∷ ds)) h in absurd (omega (arith, e))

  variable_right : (v : Ref) → Counted (element v no_terms ∷ []) → (0 == length (dimensions_in symbols v.name)) ≡ true
  variable_right v h = (and_parts (0 == length (dimensions_in symbols v.name)) true (and_parts (is_counted symbols (element v no_terms)) true h).0).0

  head_right : (n : ℕ) (d : DoHead) → Counted (head_expressions d) → Right (head_occurrences n d) × (dimensions_in symbols d.variable.name ≡ [])
  head_right n d h =
      let p = and_parts (is_counted symbols d.first) _ h in
      let q = and_parts (is_counted symbols d.last) _ p.1 in
      let r = all_parts (λ (e : Term). is_counted symbols e) (optional d.step) (element d.variable no_terms ∷ []) q.1 in
      let fl = term_occurrences n d.first ++ term_occurrences n d.last in
      let v = variable_right d.variable r.1 in (
        all_joined is_right (fl ++ optional_occurrences n d.step) (defined_at n d.variable no_terms ∷ [])
            (all_joined is_right fl (optional_occurrences n d.step)
            (all_joined is_right (term_occurrences n d.first) (term_occurrences n d.last) (term_right n d.first p.0) (term_right n d.last q.0)) (optional_right n d.step r.0))
            (one is_right (defined_at n d.variable no_terms) v),
        none_long (dimensions_in symbols d.variable.name) v,
      )

  mutual
    node_right : (n : ℕ) (x : Node) → Counted (node_expressions x) → Right (node_occurrences n x)
    node_right n (plain s) h = kind_right n s.kind h
    node_right n (loop l d b) h =
        let p = all_parts (λ (e : Term). is_counted symbols e) (head_expressions d) (block_expressions b) h in
        all_joined is_right (head_occurrences n d) (block_occurrences (n + 1) b) (head_right n d p.0).0 (block_right (n + 1) b p.1)
    node_right n (choose a) h = arms_right n (n + 1) a h

    pub block_right : (n : ℕ) (b : Block) → Counted (block_expressions b) → Right (block_occurrences n b)
    block_right n no_nodes h = refl
    block_right n (then_node x b) h =
        let p = all_parts (λ (e : Term). is_counted symbols e) (node_expressions x) (block_expressions b) h in
        all_joined is_right (node_occurrences n x) (block_occurrences (n + length (node_lines x)) b) (node_right n x p.0) (block_right (n + length (node_lines x)) b p.1)

    arms_right : (i n : ℕ) (a : Arms) → Counted (arms_expressions a) → Right (arms_occurrences i n a)
    arms_right i n no_arms h = refl
    arms_right i n (then_arm l c b more) h =
        let p = all_parts (λ (e : Term). is_counted symbols e) (optional c ++ block_expressions b) (arms_expressions more) h in
        let q = all_parts (λ (e : Term). is_counted symbols e) (optional c) (block_expressions b) p.0 in
        all_joined is_right (optional_occurrences i c ++ block_occurrences n b) (arms_occurrences i (n + length (block_lines b)) more)
        (all_joined is_right (optional_occurrences i c) (block_occurrences n b) (optional_right i c q.0) (block_right n b q.1)) (arms_right i (n + length (block_lines b)) more p.1)

-- ---- what is given a value

-- it is given no value, or its name is none of these
abbrev pub is_left : List (List ℕ) → Occurrence → Bool
is_left names o = not o.defines || is_none_of names o.ref.name

module _ (names : List (List ℕ)) where
  mutual
    term_left : (n : ℕ) (e : Term) → list_all (is_left names) (term_occurrences n e) ≡ true
    term_left n (constant k) = refl
    term_left n (truth b) = refl
    term_left n (parameter x k) = refl
    term_left n (element r es) = all_joined (is_left names) (terms_occurrences n es) (used_at n r es ∷ []) (terms_left n es) refl
    term_left n (call f es) = terms_left n es
    term_left n (parentheses e) = term_left n e
    term_left n (unary o e) = term_left n e
    term_left n (binary o a b) = all_joined (is_left names) (term_occurrences n a) (term_occurrences n b) (term_left n a) (term_left n b)

    terms_left : (n : ℕ) (es : Terms) → list_all (is_left names) (terms_occurrences n es) ≡ true
    terms_left n no_terms = refl
    terms_left n (then_term e es) = all_joined (is_left names) (term_occurrences n e) (terms_occurrences n es) (term_left n e) (terms_left n es)

  optional_left : (n : ℕ) (e : Option Term) → list_all (is_left names) (optional_occurrences n e) ≡ true
  optional_left n None = refl
  optional_left n (Some e) = term_left n e

  target_left : (n : ℕ) (a : Access) → is_none_of names a.ref.name ≡ true → list_all (is_left names) (target_occurrences n a) ≡ true
  target_left n a h = all_joined (is_left names) (terms_occurrences n a.subscripts) (defined_at n a.ref a.subscripts ∷ []) (terms_left n a.subscripts) (one (is_left names) (defined_at n a.ref a.subscripts) h)

  targets_left : (n : ℕ) (ts : List Access) → list_all (is_none_of names) (given_by (read ts)) ≡ true → list_all (is_left names) (targets_occurrences n ts) ≡ true
  targets_left n [] h = refl
  targets_left n (a ∷ ts) h =
      let p = and_parts (is_none_of names a.ref.name) _ h in
      all_joined (is_left names) (target_occurrences n a) (targets_occurrences n ts) (target_left n a p.0) (targets_left n ts p.1)

  items_left : (n : ℕ) (xs : List PrintItem) → list_all (is_left names) (items_occurrences n xs) ≡ true
  items_left n [] = refl
  items_left n (value_item e ∷ xs) = all_joined (is_left names) (term_occurrences n e) (items_occurrences n xs) (term_left n e) (items_left n xs)
  items_left n (text_item t ∷ xs) = items_left n xs

  kind_left : (n : ℕ) (k : Kind) → list_all (is_none_of names) (given_by k) ≡ true → list_all (is_left names) (kind_occurrences n k) ≡ true
  kind_left n (assign a e) h = all_joined (is_left names) (term_occurrences n e) (target_occurrences n a) (term_left n e) (target_left n a (and_parts (is_none_of names a.ref.name) true h).0)
  kind_left n (print xs) h = items_left n xs
  kind_left n (read ts) h = targets_left n ts h
  kind_left n k h = refl

  head_left : (n : ℕ) (d : DoHead) → is_none_of names d.variable.name ≡ true → list_all (is_left names) (head_occurrences n d) ≡ true
  head_left n d h =
      let fl = term_occurrences n d.first ++ term_occurrences n d.last in
      all_joined (is_left names) (fl ++ optional_occurrences n d.step) (defined_at n d.variable no_terms ∷ [])
      (all_joined (is_left names) fl (optional_occurrences n d.step) (all_joined (is_left names) (term_occurrences n d.first) (term_occurrences n d.last) (term_left n d.first) (term_left n d.last)) (optional_left n d.step))
      (one (is_left names) (defined_at n d.variable no_terms) h)

-- fewer names
fewer : (x : List ℕ) (names : List (List ℕ)) (os : List Occurrence) → list_all (is_left (x ∷ names)) os ≡ true → list_all (is_left names) os ≡ true
fewer x names [] h = refl
fewer x names (o ∷ os) h =
    let p = and_parts (is_left (x ∷ names) o) (list_all (is_left (x ∷ names)) os) h in
    and_from (is_left names o) _ (by o.defines (same_name o.ref.name x) (list_any (same_name o.ref.name) names) p.0) (fewer x names os p.1)
  where
    by : (d s m : Bool) → (not d || not (s || m)) ≡ true → (not d || not m) ≡ true
    by false s m h = refl
    by true true m h = absurd cc
    by true false m h = h

mutual
  node_left : (names : List (List ℕ)) (n : ℕ) (x : Node) → node_keeps names x ≡ true → list_all (is_left names) (node_occurrences n x) ≡ true
  node_left names n (plain s) h = kind_left names n s.kind h
  node_left names n (loop l d b) h =
      let p = and_parts (is_none_of names d.variable.name) (block_keeps (d.variable.name ∷ names) b) h in
      all_joined (is_left names) (head_occurrences n d) (block_occurrences (n + 1) b) (head_left names n d p.0)
      (fewer d.variable.name names (block_occurrences (n + 1) b) (block_left (d.variable.name ∷ names) (n + 1) b p.1))
  node_left names n (choose a) h = arms_left names n (n + 1) a h

  pub block_left : (names : List (List ℕ)) (n : ℕ) (b : Block) → block_keeps names b ≡ true → list_all (is_left names) (block_occurrences n b) ≡ true
  block_left names n no_nodes h = refl
  block_left names n (then_node x b) h =
      let p = and_parts (node_keeps names x) (block_keeps names b) h in
      all_joined (is_left names) (node_occurrences n x) (block_occurrences (n + length (node_lines x)) b) (node_left names n x p.0) (block_left names (n + length (node_lines x)) b p.1)

  arms_left : (names : List (List ℕ)) (i n : ℕ) (a : Arms) → arms_keep names a ≡ true → list_all (is_left names) (arms_occurrences i n a) ≡ true
  arms_left names i n no_arms h = refl
  arms_left names i n (then_arm l c b more) h =
      let p = and_parts (block_keeps names b) (arms_keep names more) h in
      all_joined (is_left names) (optional_occurrences i c ++ block_occurrences n b) (arms_occurrences i (n + length (block_lines b)) more)
      (all_joined (is_left names) (optional_occurrences i c) (block_occurrences n b) (optional_left names i c) (block_left names n b p.0)) (arms_left names i (n + length (block_lines b)) more p.1)

-- ---- loops

pub record RegularLoop (symbols : List Symbol) (l : Loop) : Type 0 where
  pub counted : list_all (is_right symbols) l.references ≡ true
  pub scalar : dimensions_in symbols l.head.variable.name ≡ []
  pub left : list_all (is_left (l.head.variable.name ∷ [])) l.references ≡ true
  pub no_end : block_has_end l.body ≡ false
  pub body : list_all (λ e. is_counted symbols e) (block_expressions l.body) ≡ true

abbrev pub Each : (Loop → Type 0) → List Loop → Type 0
Each P [] = ⊤
Each P (l ∷ ls) = P l × Each P ls

each_joined : (P : Loop → Type 0) (ls ms : List Loop) → Each P ls → Each P ms → Each P (ls ++ ms)
each_joined P [] ms h k = k
each_joined P (l ∷ ls) ms h k = (h.0, each_joined P ls ms h.1 k)

-- the own variable alone
own : (x : List ℕ) (names : List (List ℕ)) (os : List Occurrence) → list_all (is_left (x ∷ names)) os ≡ true → list_all (is_left (x ∷ [])) os ≡ true
own x names [] h = refl
own x names (o ∷ os) h =
    let p = and_parts (is_left (x ∷ names) o) (list_all (is_left (x ∷ names)) os) h in
    and_from (is_left (x ∷ []) o) _ (by o.defines (same_name o.ref.name x) (list_any (same_name o.ref.name) names) p.0) (own x names os p.1)
  where
    by : (d s m : Bool) → (not d || not (s || m)) ≡ true → (not d || not (s || false)) ≡ true
    by false s m h = refl
    by true true m h = h
    by true false m h = refl

no_end_held : (x : Node) → node_has_end x ≡ false → holds_end x ≡ false
no_end_held (plain s) h = refl
no_end_held (loop l d b) h = h
no_end_held (choose a) h = h

no_end_outside : (b : Block) → block_has_end b ≡ false → ends_outside b ≡ true
no_end_outside no_nodes h = refl
no_end_outside (then_node x b) h =
    let p = or_parts (node_has_end x) (block_has_end b) h in
    and_from (not (holds_end x)) _ (ap not (no_end_held x p.0)) (no_end_outside b p.1)

module _ (symbols : List Symbol) where
  mutual
    node_regular : (names : List (List ℕ)) (around : Option ℕ) (k n : ℕ) (x : Node) → Counted symbols (node_expressions x) → node_keeps names x ≡ true → holds_end x ≡ false
        → Each (RegularLoop symbols) (node_loops around k n x)
    node_regular names around k n (plain s) c h e = tt
    node_regular names around k n (loop l d b) c h e =
        let p = all_parts (λ (t : Term). is_counted symbols t) (head_expressions d) (block_expressions b) c in
        let q = and_parts (is_none_of names d.variable.name) (block_keeps (d.variable.name ∷ names) b) h in (
          record {
            counted = block_right symbols (n + 1) b p.1;
            scalar = (head_right symbols n d p.0).1;
            left = own d.variable.name names (block_occurrences (n + 1) b) (block_left (d.variable.name ∷ names) (n + 1) b q.1);
            no_end = e;
            body = p.1;
          },
          block_regular (d.variable.name ∷ names) (Some (k + 1)) (k + 1) (n + 1) b p.1 q.1 (no_end_outside b e),
        )
    node_regular names around k n (choose a) c h e = arms_regular names around k (n + 1) a c h e

    block_regular : (names : List (List ℕ)) (around : Option ℕ) (k n : ℕ) (b : Block) → Counted symbols (block_expressions b) → block_keeps names b ≡ true → ends_outside b ≡ true
        → Each (RegularLoop symbols) (block_loops around k n b)
    block_regular names around k n no_nodes c h e = tt
    block_regular names around k n (then_node x b) c h e =
        let p = all_parts (λ (t : Term). is_counted symbols t) (node_expressions x) (block_expressions b) c in
        let q = and_parts (node_keeps names x) (block_keeps names b) h in
        let r = and_parts (not (holds_end x)) (ends_outside b) e in
        let us = node_loops around k n x in
        each_joined (RegularLoop symbols) us (block_loops around (k + length us) (n + length (node_lines x)) b)
        (node_regular names around k n x p.0 q.0 (not-true (holds_end x) r.0))
        (block_regular names around (k + length us) (n + length (node_lines x)) b p.1 q.1 r.1)

    arms_regular : (names : List (List ℕ)) (around : Option ℕ) (k n : ℕ) (a : Arms) → Counted symbols (arms_expressions a) → arms_keep names a ≡ true → arms_have_end a ≡ false
        → Each (RegularLoop symbols) (arms_loops around k n a)
    arms_regular names around k n no_arms c h e = tt
    arms_regular names around k n (then_arm l o b more) c h e =
        let p = all_parts (λ (t : Term). is_counted symbols t) (optional o ++ block_expressions b) (arms_expressions more) c in
        let q = and_parts (block_keeps names b) (arms_keep names more) h in
        let r = or_parts (block_has_end b) (arms_have_end more) e in
        let us = block_loops around k n b in
        each_joined (RegularLoop symbols) us (arms_loops around (k + length us) (n + length (block_lines b)) more)
        (block_regular names around k n b (all_parts (λ (t : Term). is_counted symbols t) (optional o) (block_expressions b) p.0).1 q.0 (no_end_outside b r.0))
        (arms_regular names around (k + length us) (n + length (block_lines b)) more p.1 q.1 r.1)

  -- each loop of a program
  pub loops_regular : (b : Block) → is_regular symbols b ≡ true → Each (RegularLoop symbols) (loops_of b)
  loops_regular b h =
      let p = and_parts (list_all (λ e. is_counted symbols e) (block_expressions b)) _ h in
      let q = and_parts (block_keeps [] b) (ends_outside b) p.1 in
      block_regular [] None 0 0 b p.0 q.0 q.1

-- ---- the variables of the loops of a range

abbrev IsScalar : List Symbol → Loop → Type 0
IsScalar symbols l = dimensions_in symbols l.head.variable.name ≡ []

module _ (symbols : List Symbol) where
  mutual
    node_scalars : (around : Option ℕ) (k n : ℕ) (x : Node) → Counted symbols (node_expressions x) → Each (IsScalar symbols) (node_loops around k n x)
    node_scalars around k n (plain s) c = tt
    node_scalars around k n (loop l d b) c =
        let p = all_parts (λ (t : Term). is_counted symbols t) (head_expressions d) (block_expressions b) c in
        ((head_right symbols n d p.0).1, block_scalars (Some (k + 1)) (k + 1) (n + 1) b p.1)
    node_scalars around k n (choose a) c = arms_scalars around k (n + 1) a c

    pub block_scalars : (around : Option ℕ) (k n : ℕ) (b : Block) → Counted symbols (block_expressions b) → Each (IsScalar symbols) (block_loops around k n b)
    block_scalars around k n no_nodes c = tt
    block_scalars around k n (then_node x b) c =
        let p = all_parts (λ (t : Term). is_counted symbols t) (node_expressions x) (block_expressions b) c in
        let us = node_loops around k n x in
        each_joined (IsScalar symbols) us (block_loops around (k + length us) (n + length (node_lines x)) b) (node_scalars around k n x p.0) (block_scalars around (k + length us) (n + length (node_lines x)) b p.1)

    arms_scalars : (around : Option ℕ) (k n : ℕ) (a : Arms) → Counted symbols (arms_expressions a) → Each (IsScalar symbols) (arms_loops around k n a)
    arms_scalars around k n no_arms c = tt
    arms_scalars around k n (then_arm l o b more) c =
        let p = all_parts (λ (t : Term). is_counted symbols t) (optional o ++ block_expressions b) (arms_expressions more) c in
        let us = block_loops around k n b in
        each_joined (IsScalar symbols) us (arms_loops around (k + length us) (n + length (block_lines b)) more)
        (block_scalars around k n b (all_parts (λ (t : Term). is_counted symbols t) (optional o) (block_expressions b) p.0).1) (arms_scalars around (k + length us) (n + length (block_lines b)) more p.1)

  -- of a loop of a program
  pub inner_scalars : (l : Loop) → RegularLoop symbols l → Each (IsScalar symbols) (loops_of l.body)
  inner_scalars l h = block_scalars None 0 0 l.body h.body
