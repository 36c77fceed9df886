-- The account of the code is what the definitions say.
use Rattle.std.proofs.Common.{◌≡◌, ◌∙◌, refl, sym, ap, List, [], ◌∷◌, ◌++◌, Option, Some, None, ℕ}
use Rattle.std.proofs.lemmas.List.{append-nil}
use Rattle.ast.specs.References.{expressions_references, items_expressions, optional, term_references, terms_references}
use Rattle.ast.specs.Tree.{Ref, Term, Terms, constant, truth, parameter, element, call, parentheses, unary, binary, no_terms, then_term, Access, PrintItem, value_item, text_item, DoHead, Kind, program, integer, dimension, parameters, assign, do_loop, go_on, block_if, else_if, else_arm, end_if, logical_if, print, read, stop, end}
use Rattle.dependence.specs.Plan.{awaits, advances, plain, loop, choose, PlanBlock, no_nodes, then_node, PlanArms, no_arms, made_else, then_arm}
use Rattle.loop_tree.specs.Paths.{Token, uses, defines, await, advance, used, term_tokens, target_tokens, head_tokens}
use Rattle.plan_check.specs.Flow.{Known, Point, after, after_arms, after_block, after_kind, arms_points, block_points, joined, kind_tokens, nowhere, points, step}
use Rattle.plan_check.specs.Walking as walking
use Rattle.plan_check.specs.Walking.{Seen}

after_append : (t u : List Token) (k : Known) → after (t ++ u) k ≡ after u (after t k)
after_append [] u k = refl
after_append (x ∷ t) u k = after_append t u (step x k)

after_used : (rs : List Ref) (k : Known) → after (used rs) k ≡ k
after_used [] k = refl
after_used (r ∷ rs) k = after_used rs k

module _ (privates : List (List ℕ)) where
  abbrev pub noticed : Point → Seen → Seen
  noticed (uses r, k) s = walking.used privates r k s
  noticed (defines r, k) s = walking.given privates r k s
  noticed (await e d, k) s = s
  noticed (advance e, k) s = walking.moved_on privates e k s

  abbrev pub noticed_all : List Point → Seen → Seen
  noticed_all [] s = s
  noticed_all (x ∷ xs) s = noticed_all xs (noticed x s)

  noticed_append : (xs ys : List Point) (s : Seen) → noticed_all (xs ++ ys) s ≡ noticed_all ys (noticed_all xs s)
  noticed_append [] ys s = refl
  noticed_append (x ∷ xs) ys s = noticed_append xs ys (noticed x s)

  points_append : (t u : List Token) (k : Known) → points (t ++ u) k ≡ points t k ++ points u (after t k)
  points_append [] u k = refl
  points_append (x ∷ t) u k = ap (λ (ps : List Point). (x, k) ∷ ps) (points_append t u (step x k))

  -- references that are read
  abbrev reads : List Ref → Known → Seen → Seen
  reads rs k s = noticed_all (points (used rs) k) s

  reads_append : (xs ys : List Ref) (k : Known) (s : Seen) → reads (xs ++ ys) k s ≡ reads ys k (reads xs k s)
  reads_append [] ys k s = refl
  reads_append (x ∷ xs) ys k s = reads_append xs ys k (walking.used privates x k s)

  mutual
    term_seen : (e : Term) (k : Known) (s : Seen) → walking.seen_term privates e k s ≡ reads (term_references e) k s
    term_seen (constant x) k s = refl
    term_seen (truth x) k s = refl
    term_seen (parameter x y) k s = refl
    term_seen (element r es) k s = ap (λ (z : Seen). walking.used privates r k z) (terms_seen es k s) ∙ sym (reads_append (terms_references es) (r ∷ []) k s)
    term_seen (call f es) k s = terms_seen es k s
    term_seen (parentheses e) k s = term_seen e k s
    term_seen (unary p e) k s = term_seen e k s
    term_seen (binary o a b) k s = term_seen b k (walking.seen_term privates a k s) ∙ ap (λ (z : Seen). reads (term_references b) k z) (term_seen a k s) ∙ sym (reads_append (term_references a) (term_references b) k s)

    terms_seen : (es : Terms) (k : Known) (s : Seen) → walking.seen_terms privates es k s ≡ reads (terms_references es) k s
    terms_seen no_terms k s = refl
    terms_seen (then_term e es) k s = terms_seen es k (walking.seen_term privates e k s) ∙ ap (λ (z : Seen). reads (terms_references es) k z) (term_seen e k s) ∙ sym (reads_append (term_references e) (terms_references es) k s)

  -- two lists of tokens, of which the first leaves what is known as it is
  seen_two : (rs : List Ref) (u : List Token) (k : Known) (s : Seen) → noticed_all (points (used rs ++ u) k) s ≡ noticed_all (points u k) (reads rs k s)
  seen_two rs u k s =
      ap (λ (ps : List Point). noticed_all ps s) (points_append (used rs) u k)
      ∙ noticed_append (points (used rs) k) (points u (after (used rs) k)) s
      ∙ ap (λ (z : Known). noticed_all (points u z) (reads rs k s)) (after_used rs k)

  target_seen : (a : Access) (k : Known) (s : Seen) → walking.seen_target privates a k s ≡ noticed_all (points (target_tokens a) k) s
  target_seen a k s = ap (λ (z : Seen). walking.given privates a.ref k z) (terms_seen a.subscripts k s) ∙ sym (seen_two (terms_references a.subscripts) (defines a.ref ∷ []) k s)

  items_seen : (xs : List PrintItem) (k : Known) (s : Seen) → walking.seen_items privates xs k s ≡ reads (expressions_references (items_expressions xs)) k s
  items_seen [] k s = refl
  items_seen (value_item e ∷ more) k s = items_seen more k (walking.seen_term privates e k s) ∙ ap (λ (z : Seen). reads (expressions_references (items_expressions more)) k z) (term_seen e k s) ∙ sym (reads_append (term_references e) (expressions_references (items_expressions more)) k s)
  items_seen (text_item t ∷ more) k s = items_seen more k s

  -- of a range there is no READ
  abbrev pub NoRead : Kind → Type 0
  NoRead (read xs) = ⊥
  NoRead _ = Unit {0}

  kind_seen : (c : Kind) (k : Known) (s : Seen) → NoRead c → walking.seen_kind privates c k s ≡ noticed_all (points (kind_tokens c) k) s
  kind_seen (assign a e) k s h = target_seen a k (walking.seen_term privates e k s) ∙ ap (λ (z : Seen). noticed_all (points (target_tokens a) k) z) (term_seen e k s) ∙ sym (seen_two (term_references e) (target_tokens a) k s)
  kind_seen (print items) k s h = items_seen items k s
  kind_seen (read xs) k s h = absurd h
  kind_seen stop k s h = refl
  kind_seen (program x) k s h = refl
  kind_seen (integer x) k s h = refl
  kind_seen (dimension x) k s h = refl
  kind_seen (parameters x) k s h = refl
  kind_seen (do_loop x) k s h = refl
  kind_seen go_on k s h = refl
  kind_seen (block_if x) k s h = refl
  kind_seen (else_if x) k s h = refl
  kind_seen else_arm k s h = refl
  kind_seen end_if k s h = refl
  kind_seen (logical_if x y) k s h = refl
  kind_seen end k s h = refl

  target_known : (a : Access) (k : Known) → walking.after_target privates a k ≡ after (target_tokens a) k
  target_known a k = sym (after_append (used (terms_references a.subscripts)) (defines a.ref ∷ []) k ∙ ap (λ (z : Known). after (defines a.ref ∷ []) z) (after_used (terms_references a.subscripts) k))

  kind_known : (c : Kind) (k : Known) → NoRead c → walking.known_kind privates c k ≡ after_kind c k
  kind_known (assign a e) k h = target_known a k ∙ sym (after_append (term_tokens e) (target_tokens a) k ∙ ap (λ (z : Known). after (target_tokens a) z) (after_used (term_references e) k))
  kind_known (print items) k h = sym (after_used (expressions_references (items_expressions items)) k)
  kind_known (read xs) k h = absurd h
  kind_known stop k h = refl
  kind_known (program x) k h = refl
  kind_known (integer x) k h = refl
  kind_known (dimension x) k h = refl
  kind_known (parameters x) k h = refl
  kind_known (do_loop x) k h = refl
  kind_known go_on k h = refl
  kind_known (block_if x) k h = refl
  kind_known (else_if x) k h = refl
  kind_known else_arm k h = refl
  kind_known end_if k h = refl
  kind_known (logical_if x y) k h = refl
  kind_known end k h = refl

  optional_seen : (o : Option Term) (k : Known) (s : Seen) → walking.seen_optional privates o k s ≡ reads (expressions_references (optional o)) k s
  optional_seen None k s = refl
  optional_seen (Some e) k s = term_seen e k s ∙ ap (λ (rs : List Ref). reads rs k s) (sym (append-nil (term_references e)))

  head_seen : (h : DoHead) (k : Known) (s : Seen) → walking.seen_head privates h k s ≡ noticed_all (points (head_tokens h) k) s
  head_seen h k s =
      let x = term_references h.first in
      let y = term_references h.last in
      let z = expressions_references (optional h.step) in
      let first = walking.seen_term privates h.first k s in
      let last = walking.seen_term privates h.last k first in
      ap (λ (q : Seen). walking.given privates h.variable k q)
      (optional_seen h.step k last
      ∙ ap (λ (q : Seen). reads z k q) (term_seen h.last k first ∙ ap (λ (q : Seen). reads y k q) (term_seen h.first k s))
      ∙ sym (reads_append y z k (reads x k s)) ∙ sym (reads_append x (y ++ z) k s))
      ∙ sym (seen_two (x ++ (y ++ z)) (defines h.variable ∷ []) k s)

  head_known : (h : DoHead) (k : Known) → walking.known_head privates h k ≡ after (head_tokens h) k
  head_known h k =
      let rs = expressions_references (h.first ∷ h.last ∷ optional h.step) in
      sym (after_append (used rs) (defines h.variable ∷ []) k ∙ ap (λ (z : Known). after (defines h.variable ∷ []) z) (after_used rs k))

  -- without READ
  abbrev mutual
    pub NoReads : PlanBlock → Type 0
    NoReads no_nodes = Unit {0}
    NoReads (then_node (plain x) b) = NoRead x.kind × NoReads b
    NoReads (then_node (loop l h c) b) = NoReads c × NoReads b
    NoReads (then_node (choose a) b) = NoReadArms a × NoReads b
    NoReads (then_node n b) = NoReads b

    pub NoReadArms : PlanArms → Type 0
    NoReadArms no_arms = Unit {0}
    NoReadArms (made_else b) = NoReads b
    NoReadArms (then_arm l c b more) = NoReads b × NoReadArms more

  mutual
    pub block_known : (b : PlanBlock) (k : Known) → NoReads b → walking.known_block privates b k ≡ after_block b k
    block_known no_nodes k h = refl
    block_known (then_node (awaits e d) b) k h = block_known b (step (await e d) k) h
    block_known (then_node (advances e) b) k h = block_known b (step (advance e) k) h
    block_known (then_node (plain x) b) k h = block_known b (walking.known_kind privates x.kind k) h.1 ∙ ap (λ (z : Known). after_block b z) (kind_known x.kind k h.0)
    block_known (then_node (loop l x c) b) k h = block_known b (walking.known_head privates x k) h.1 ∙ ap (λ (z : Known). after_block b z) (head_known x k)
    block_known (then_node (choose a) b) k h = block_known b (walking.known_arms privates a (nowhere k) k) h.1 ∙ ap (λ (z : Known). after_block b z) (arms_known a (nowhere k) k h.0)

    arms_known : (a : PlanArms) (ended k : Known) → NoReadArms a → walking.known_arms privates a ended k ≡ after_arms a ended k
    arms_known no_arms ended k h = refl
    arms_known (made_else b) ended k h = ap (λ (z : Known). joined z ended) (block_known b k h)
    arms_known (then_arm l None b more) ended k h = arms_known more (joined ended (walking.known_block privates b k)) (nowhere k) h.1 ∙ ap (λ (z : Known). after_arms more (joined ended z) (nowhere k)) (block_known b k h.0)
    arms_known (then_arm l (Some c) b more) ended k h =
        arms_known more (joined ended (walking.known_block privates b k)) k h.1
        ∙ ap (λ (z : Known). after_arms more (joined ended z) k) (block_known b k h.0)
        ∙ ap (λ (z : Known). after_arms more (joined ended (after_block b z)) z) (sym (after_used (term_references c) k))

  mutual
    pub block_seen : (b : PlanBlock) (k : Known) (s : Seen) → NoReads b → walking.seen_block privates b k s ≡ noticed_all (block_points b k) s
    block_seen no_nodes k s h = refl
    block_seen (then_node (awaits e d) b) k s h = block_seen b (step (await e d) k) s h
    block_seen (then_node (advances e) b) k s h = block_seen b (step (advance e) k) (walking.moved_on privates e k s) h
    block_seen (then_node (plain x) b) k s h =
        let u = walking.known_kind privates x.kind k in
        block_seen b u (walking.seen_kind privates x.kind k s) h.1
        ∙ ap (λ (z : Known). noticed_all (block_points b z) (walking.seen_kind privates x.kind k s)) (kind_known x.kind k h.0)
        ∙ ap (λ (z : Seen). noticed_all (block_points b (after_kind x.kind k)) z) (kind_seen x.kind k s h.0)
        ∙ sym (noticed_append (points (kind_tokens x.kind) k) (block_points b (after_kind x.kind k)) s)
    block_seen (then_node (loop l x c) b) k s h =
        let u = after (head_tokens x) k in
        let v = walking.known_head privates x k in
        let t = walking.seen_head privates x k s in
        let ps = points (head_tokens x) k in
        block_seen b v (walking.seen_block privates c v t) h.1
        ∙ ap (λ (z : Seen). noticed_all (block_points b v) z) (block_seen c v t h.0 ∙ ap (λ (z : Seen). noticed_all (block_points c v) z) (head_seen x k s))
        ∙ ap (λ (z : Known). noticed_all (block_points b z) (noticed_all (block_points c z) (noticed_all ps s))) (head_known x k)
        ∙ ap (λ (z : Seen). noticed_all (block_points b u) z) (sym (noticed_append ps (block_points c u) s))
        ∙ sym (noticed_append (ps ++ block_points c u) (block_points b u) s)
    block_seen (then_node (choose a) b) k s h =
        let u = after_arms a (nowhere k) k in
        block_seen b (walking.known_arms privates a (nowhere k) k) (walking.seen_arms privates a k s) h.1
        ∙ ap (λ (z : Known). noticed_all (block_points b z) (walking.seen_arms privates a k s)) (arms_known a (nowhere k) k h.0)
        ∙ ap (λ (z : Seen). noticed_all (block_points b u) z) (arms_seen a k s h.0)
        ∙ sym (noticed_append (arms_points a k) (block_points b u) s)

    arms_seen : (a : PlanArms) (k : Known) (s : Seen) → NoReadArms a → walking.seen_arms privates a k s ≡ noticed_all (arms_points a k) s
    arms_seen no_arms k s h = refl
    arms_seen (made_else b) k s h = block_seen b k s h
    arms_seen (then_arm l None b more) k s h =
        arms_seen more (nowhere k) (walking.seen_block privates b k s) h.1
        ∙ ap (λ (z : Seen). noticed_all (arms_points more (nowhere k)) z) (block_seen b k s h.0)
        ∙ sym (noticed_append (block_points b k) (arms_points more (nowhere k)) s)
    arms_seen (then_arm l (Some c) b more) k s h =
        let ps = points (term_tokens c) k in
        let t = walking.seen_term privates c k s in
        let u = after (term_tokens c) k in
        arms_seen more k (walking.seen_block privates b k t) h.1
        ∙ ap (λ (z : Seen). noticed_all (arms_points more k) z) (block_seen b k t h.0 ∙ ap (λ (z : Seen). noticed_all (block_points b k) z) (term_seen c k s))
        ∙ ap (λ (z : Known). noticed_all (arms_points more z) (noticed_all (block_points b z) (noticed_all ps s))) (sym (after_used (term_references c) k))
        ∙ sym (noticed_append (block_points b u) (arms_points more u) (noticed_all ps s))
        ∙ sym (noticed_append ps (block_points b u ++ arms_points more u) s)
