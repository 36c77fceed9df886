-- The range of a loop that is opened: its references are the loop's, and its names are found.
use Rattle.std.proofs.Common.{◌≡◌, ◌∙◌, ◌+◌, inl, ℕ, ℤ, pos, Bool, true, false, List, [], ◌∷◌, ◌++◌, Option, Some, None, length, refl, sym, ap}
use Rattle.std.specs.Prelude.{◌&&◌, not}
use Rattle.ast.specs.Meaning as meaning
use Rattle.ast.specs.Store.{StoreOf}
use Rattle.ast.specs.Symbols.{Extent, Symbol, dimensions_in}
use Rattle.ast.specs.Tree as tree
use Rattle.ast.specs.Tree.{Ref, Term, constant, truth, parameter, element, call, parentheses, unary, binary, Terms, no_terms, then_term, Access, accessed, PrintItem, value_item, text_item, Kind, assign, print, read, stop, program, integer, dimension, parameters, do_loop, go_on, block_if, else_if, else_arm, end_if, logical_if, end}
use Rattle.dependence.specs.Plan.{awaits, advances, plain, loop, choose, PlanBlock, no_nodes, then_node, PlanArms, no_arms, made_else, then_arm}
use Rattle.loop_tree.specs.Loops.{Loop}
use Rattle.loop_tree.specs.Occurrences.{Occurrence, used_at, defined_at, arms_occurrences, block_lines, block_occurrences, head_occurrences, items_occurrences, kind_occurrences, node_lines, node_occurrences, optional_occurrences, target_occurrences, term_occurrences, terms_occurrences}
use Rattle.machine.specs.View.{is_event}
use Rattle.expr_code.specs.Places.{Places, loop_index, private_scalar, in_store, dimensions_at, home, home_of}
use Rattle.expr_code.proofs.Meaning.{AllNamed, Named}
use Rattle.codegen.specs.Process.{is_last_stop}
use Rattle.codegen.proofs.BlockWalking as walking
use Rattle.codegen.proofs.BlockWalking.{AreBodies, IsBody}
use Rattle.codegen.proofs.IterationLaws.{in_left, in_right}
use Rattle.codegen.proofs.IterationSteps.{In}
use Rattle.codegen.proofs.Walking.{AllKnown, Known, home_at}
use Rattle.codegen.proofs.IterationMeaning as ran
use Rattle.codegen.proofs.IterationMeaning.{ArmsKnown, BlockKnown}
use Rattle.codegen.proofs.RangeSound.{IsPlace, StandsIn, dims, fixed_in, is_assigned, loop_named, index_dims, is_scalar}
use Rattle.plan_check.specs.GoodPlan.{stripped, stripped_arms, only_events}

-- A plan's body that reads no input; its inner DO variables are private scalars; END stands nowhere
-- behind a STOP; its events are events, and made ELSEs hold awaits and advances alone.
module _ (symbols : List Symbol) (pl : Places) where
  abbrev pub CalmKind : Kind → Type 0
  CalmKind (read xs) = ⊥
  CalmKind _ = Unit {0}

  abbrev mutual
    pub Calm : PlanBlock → Type 0
    Calm no_nodes = Unit {0}
    Calm (then_node (awaits e d) b) = (is_event e ≡ true) × Calm b
    Calm (then_node (advances e) b) = (is_event e ≡ true) × Calm b
    Calm (then_node (plain s) b) = CalmKind s.kind × (is_last_stop (plain s) b ≡ false) × (meaning.is_last_stop (tree.plain s) (stripped b) ≡ false) × Calm b
    Calm (then_node (loop line h c) b) = (dimensions_at symbols h.variable.cell ≡ []) × ((x : ℕ) × (home_at pl h.variable ≡ private_scalar x)) × Calm c × Calm b
    Calm (then_node (choose arms) b) = ArmsCalm arms × Calm b

    pub ArmsCalm : PlanArms → Type 0
    ArmsCalm no_arms = Unit {0}
    ArmsCalm (made_else b) = (only_events b ≡ true) × Calm b
    ArmsCalm (then_arm line c b more) = Calm b × ArmsCalm more

module _ (symbols : List Symbol) (l : Loop) (line : ℕ) (privates : List (List ℕ)) (body : PlanBlock) (w : IsPlace symbols l privates body)
    -- the loop's variable gets no value in its range
    (kept : (o : Occurrence) → In o l.references → o.defines ≡ true → o.ref.name ≡ l.head.variable.name → ⊥) where
  abbrev pl : Places
  pl = record { symbols = symbols; privates = privates; loop_name = Some l.head.variable.name; line = line }

  abbrev All : List Occurrence → Type 0
  All os = (o : Occurrence) → In o os → In o l.references

  front : (xs ys : List Occurrence) → All (xs ++ ys) → All xs
  front xs ys h o i = h o (in_left o xs ys i)

  back : (xs ys : List Occurrence) → All (xs ++ ys) → All ys
  back xs ys h o i = h o (in_right o xs ys i)

  mutual
    term_known : (n : ℕ) (e : Term) → All (term_occurrences n e) → Known (StandsIn l) e
    term_known n (constant v) h = tt
    term_known n (truth b) h = tt
    term_known n (parameter x v) h = tt
    term_known n (element r es) h =
        ((used_at n r es, h (used_at n r es) (in_right (used_at n r es) (terms_occurrences n es) (used_at n r es ∷ []) (inl refl)), refl, refl), terms_known n es (front (terms_occurrences n es) (used_at n r es ∷ []) h))
    term_known n (call f es) h = terms_known n es h
    term_known n (parentheses e) h = term_known n e h
    term_known n (unary o e) h = term_known n e h
    term_known n (binary o a b) h = (term_known n a (front (term_occurrences n a) (term_occurrences n b) h), term_known n b (back (term_occurrences n a) (term_occurrences n b) h))

    terms_known : (n : ℕ) (es : Terms) → All (terms_occurrences n es) → AllKnown (StandsIn l) es
    terms_known n no_terms h = tt
    terms_known n (then_term e es) h = (term_known n e (front (term_occurrences n e) (terms_occurrences n es) h), terms_known n es (back (term_occurrences n e) (terms_occurrences n es) h))

  items_known : (n : ℕ) (items : List PrintItem) → All (items_occurrences n items) → walking.ItemsKnown symbols (home_at pl) (StandsIn l) items
  items_known n [] h = tt
  items_known n (value_item e ∷ items) h = (term_known n e (front (term_occurrences n e) (items_occurrences n items) h), items_known n items (back (term_occurrences n e) (items_occurrences n items) h))
  items_known n (text_item t ∷ items) h = items_known n items h

  not_loop_variable : (r : Ref) (es : Terms) (o : Occurrence) → In o l.references → o.defines ≡ true → o.ref ≡ r → home_at pl r ≡ loop_index → ⊥
  not_loop_variable r es o i d e h =
      let ds = index_dims symbols l line privates body w (λ n p. pos 0) (pos 0) (dimensions_at symbols r.cell) r h in
      let n = loop_named symbols l line privates body w (λ n p. pos 0) (pos 0) r.name (sym (ap (λ (fs : List Extent). home pl fs r.name) ds) ∙ h) in
      kept o i d (ap (λ (q : Ref). q.name) e ∙ sym n)

  kind_known : (n : ℕ) (k : Kind) → CalmKind symbols pl k → All (kind_occurrences n k) → walking.IsBodyKind symbols (home_at pl) (StandsIn l) k
  kind_known n (assign a e) c h =
      let t = back (term_occurrences n e) (target_occurrences n a) h in
      let o = defined_at n a.ref a.subscripts in
      let i = t o (in_right o (terms_occurrences n a.subscripts) (o ∷ []) (inl refl)) in
      (term_known n e (front (term_occurrences n e) (target_occurrences n a) h), not_loop_variable a.ref a.subscripts o i refl refl, (o, i, refl, refl), terms_known n a.subscripts (front (terms_occurrences n a.subscripts) (o ∷ []) t))
  kind_known n (print items) c h = items_known n items h
  kind_known n (read xs) c h = c
  kind_known n stop c h = tt
  kind_known n (program x) c h = tt
  kind_known n (integer x) c h = tt
  kind_known n (dimension x) c h = tt
  kind_known n (parameters x) c h = tt
  kind_known n (do_loop x) c h = tt
  kind_known n go_on c h = tt
  kind_known n (block_if x) c h = tt
  kind_known n (else_if x) c h = tt
  kind_known n else_arm c h = tt
  kind_known n end_if c h = tt
  kind_known n (logical_if x k) c h = tt
  kind_known n end c h = tt

  step_known : (n : ℕ) (e : Option Term) → All (optional_occurrences n e) → walking.StepKnown symbols (home_at pl) (StandsIn l) e
  step_known n None h = tt
  step_known n (Some e) h = term_known n e h

  events_known : (b : PlanBlock) → only_events b ≡ true → IsBody symbols (home_at pl) (StandsIn l) b
  events_known no_nodes e = tt
  events_known (then_node (awaits x d) b) e = (tt, refl, events_known b e)
  events_known (then_node (advances x) b) e = (tt, refl, events_known b e)
  events_known (then_node (plain s) b) e = cc
  events_known (then_node (loop k h c) b) e = cc
  events_known (then_node (choose a) b) e = cc

  mutual
    pub block_known : (n : ℕ) (b : PlanBlock) → Calm symbols pl b → All (block_occurrences n (stripped b)) → IsBody symbols (home_at pl) (StandsIn l) b
    block_known n no_nodes c h = tt
    block_known n (then_node (awaits e d) b) c h = (tt, refl, block_known n b c.1 h)
    block_known n (then_node (advances e) b) c h = (tt, refl, block_known n b c.1 h)
    block_known n (then_node (plain s) b) c h = (kind_known n s.kind c.0 (front (kind_occurrences n s.kind) (block_occurrences (n + 1) (stripped b)) h), c.1, block_known (n + 1) b c.3 (back (kind_occurrences n s.kind) (block_occurrences (n + 1) (stripped b)) h))
    block_known n (then_node (loop k d q) b) c h =
        let node = node_occurrences n (tree.loop k d (stripped q)) in
        let m = n + length (node_lines (tree.loop k d (stripped q))) in
        let u = front node (block_occurrences m (stripped b)) h in
        let v = front (head_occurrences n d) (block_occurrences (n + 1) (stripped q)) u in
        let o = defined_at n d.variable no_terms in
        let fl = term_occurrences n d.first ++ term_occurrences n d.last in
        let v1 = front (fl ++ optional_occurrences n d.step) (o ∷ []) v in
        let v2 = front fl (optional_occurrences n d.step) v1 in
        let i = v o (in_right o (fl ++ optional_occurrences n d.step) (o ∷ []) (inl refl)) in (
          (
            (c.0, c.1, (o, i, refl, refl), term_known n d.first (front (term_occurrences n d.first) (term_occurrences n d.last) v2), term_known n d.last (back (term_occurrences n d.first) (term_occurrences n d.last) v2), step_known n d.step (back fl (optional_occurrences n d.step) v1)),
            block_known (n + 1) q c.2 (back (head_occurrences n d) (block_occurrences (n + 1) (stripped q)) u),
          ),
          refl,
          block_known m b c.3 (back node (block_occurrences m (stripped b)) h),
        )
    block_known n (then_node (choose a) b) c h =
        let node = node_occurrences n (tree.choose (stripped_arms a)) in
        let m = n + length (node_lines (tree.choose (stripped_arms a))) in
        (arms_known n (n + 1) a c.0 (front node (block_occurrences m (stripped b)) h), refl, block_known m b c.1 (back node (block_occurrences m (stripped b)) h))

    arms_known : (i n : ℕ) (a : PlanArms) → ArmsCalm symbols pl a → All (arms_occurrences i n (stripped_arms a)) → AreBodies symbols (home_at pl) (StandsIn l) a
    arms_known i n no_arms c h = tt
    arms_known i n (made_else b) c h = events_known b c.0
    arms_known i n (then_arm k None b more) c h = block_known n b c.0 (front (block_occurrences n (stripped b)) (arms_occurrences i (n + length (block_lines (stripped b))) (stripped_arms more)) h)
    arms_known i n (then_arm k (Some e) b more) c h =
        let rest = arms_occurrences i (n + length (block_lines (stripped b))) (stripped_arms more) in
        let t = front (term_occurrences i e ++ block_occurrences n (stripped b)) rest h in
        (term_known i e (front (term_occurrences i e) (block_occurrences n (stripped b)) t), block_known n b c.0 (back (term_occurrences i e) (block_occurrences n (stripped b)) t), arms_known i (n + length (block_lines (stripped b))) more c.1 (back (term_occurrences i e ++ block_occurrences n (stripped b)) rest h))

  -- ---- what an iteration's meaning asks for

  mutual
    named_of : (e : Term) → Known (StandsIn l) e → Named pl e
    named_of (constant n) k = tt
    named_of (truth b) k = tt
    named_of (parameter x n) k = tt
    named_of (element r es) k = (dims symbols l line privates body w r es k.0, all_named_of es k.1)
    named_of (call f es) k = all_named_of es k
    named_of (parentheses e) k = named_of e k
    named_of (unary o e) k = named_of e k
    named_of (binary o a b) k = (named_of a k.0, named_of b k.1)

    all_named_of : (es : Terms) → AllKnown (StandsIn l) es → AllNamed pl es
    all_named_of no_terms k = tt
    all_named_of (then_term e es) k = (named_of e k.0, all_named_of es k.1)

  module _ (index : ℤ) (opened : StoreOf)
      -- a scalar that gets a value is among those to which the range gives values
      (assigned : (r : Ref) (es : Terms) → StandsIn l r es → (o : Occurrence) → In o l.references → o.ref ≡ r → o.defines ≡ true → dimensions_in symbols r.name ≡ [] → is_assigned l r.name ≡ true) where
    not_fixed : (r : Ref) (n : ℕ) (b : Bool) (ds : List Extent) → is_assigned l r.name ≡ b → dimensions_in symbols r.name ≡ ds → (ds ≡ [] → b ≡ true) → fixed_in symbols l (record { name = r.name; place = n }) ≡ false
    not_fixed r n true ds e d h = by ds d
      where
        by : (fs : List Extent) → dimensions_in symbols r.name ≡ fs → fixed_in symbols l (record { name = r.name; place = n }) ≡ false
        by [] g = ap (λ (es : List Extent). is_scalar es && not (is_assigned l r.name)) g ∙ ap not e
        by (f ∷ fs) g = ap (λ (es : List Extent). is_scalar es && not (is_assigned l r.name)) g
    not_fixed r n false [] e d h = let z : false ≡ true = h refl in cc
    not_fixed r n false (f ∷ fs) e d h = ap (λ (es : List Extent). is_scalar es && not (is_assigned l r.name)) d

    target_known : (n : ℕ) (a : Access) → All (target_occurrences n a) → Named pl (accessed a) × ((home_of pl a.ref.name ≡ loop_index → ⊥) × ((m : ℕ) → home_of pl a.ref.name ≡ in_store → fixed_in symbols l (record { name = a.ref.name; place = m }) ≡ false))
    target_known n a h =
        let o = defined_at n a.ref a.subscripts in
        let i = h o (in_right o (terms_occurrences n a.subscripts) (o ∷ []) (inl refl)) in
        let st : StandsIn l a.ref a.subscripts = (o, i, refl, refl) in
        let d = dims symbols l line privates body w a.ref a.subscripts st in (
          (d, all_named_of a.subscripts (terms_known n a.subscripts (front (terms_occurrences n a.subscripts) (o ∷ []) h))),
          (
            (λ e. not_loop_variable a.ref a.subscripts o i refl refl (sym (ap (λ (ds : List Extent). home pl ds a.ref.name) d) ∙ e)),
            (λ m e. not_fixed a.ref m (is_assigned l a.ref.name) (dimensions_in symbols a.ref.name) refl refl (λ z. assigned a.ref a.subscripts st o i refl refl z)),
          ),
        )

    items_named : (n : ℕ) (items : List PrintItem) → All (items_occurrences n items) → ran.ItemsKnown pl index (fixed_in symbols l) opened items
    items_named n [] h = tt
    items_named n (value_item e ∷ items) h = (named_of e (term_known n e (front (term_occurrences n e) (items_occurrences n items) h)), items_named n items (back (term_occurrences n e) (items_occurrences n items) h))
    items_named n (text_item t ∷ items) h = items_named n items h

    kind_named : (n : ℕ) (k : Kind) → CalmKind symbols pl k → All (kind_occurrences n k) → ran.KindKnown pl index (fixed_in symbols l) opened k
    kind_named n (assign a e) c h =
        let t = target_known n a (back (term_occurrences n e) (target_occurrences n a) h) in
        (named_of e (term_known n e (front (term_occurrences n e) (target_occurrences n a) h)), t.0, t.1)
    kind_named n (print items) c h = items_named n items h
    kind_named n (read xs) c h = c
    kind_named n stop c h = tt
    kind_named n (program x) c h = tt
    kind_named n (integer x) c h = tt
    kind_named n (dimension x) c h = tt
    kind_named n (parameters x) c h = tt
    kind_named n (do_loop x) c h = tt
    kind_named n go_on c h = tt
    kind_named n (block_if x) c h = tt
    kind_named n (else_if x) c h = tt
    kind_named n else_arm c h = tt
    kind_named n end_if c h = tt
    kind_named n (logical_if x k) c h = tt
    kind_named n end c h = tt

    step_named : (n : ℕ) (e : Option Term) → All (optional_occurrences n e) → ran.StepKnown pl index (fixed_in symbols l) opened e
    step_named n None h = tt
    step_named n (Some e) h = named_of e (term_known n e h)

    mutual
      pub block_is : (n : ℕ) (b : PlanBlock) → Calm symbols pl b → All (block_occurrences n (stripped b)) → BlockKnown pl index (fixed_in symbols l) opened b
      block_is n no_nodes c h = tt
      block_is n (then_node (awaits e d) b) c h = (c.0, block_is n b c.1 h)
      block_is n (then_node (advances e) b) c h = (c.0, block_is n b c.1 h)
      block_is n (then_node (plain s) b) c h = (kind_named n s.kind c.0 (front (kind_occurrences n s.kind) (block_occurrences (n + 1) (stripped b)) h), c.1, c.2, block_is (n + 1) b c.3 (back (kind_occurrences n s.kind) (block_occurrences (n + 1) (stripped b)) h))
      block_is n (then_node (loop k d q) b) c h =
          let node = node_occurrences n (tree.loop k d (stripped q)) in
          let m = n + length (node_lines (tree.loop k d (stripped q))) in
          let u = front node (block_occurrences m (stripped b)) h in
          let v = front (head_occurrences n d) (block_occurrences (n + 1) (stripped q)) u in
          let o = defined_at n d.variable no_terms in
          let fl = term_occurrences n d.first ++ term_occurrences n d.last in
          let v1 = front (fl ++ optional_occurrences n d.step) (o ∷ []) v in
          let v2 = front fl (optional_occurrences n d.step) v1 in
          let i = v o (in_right o (fl ++ optional_occurrences n d.step) (o ∷ []) (inl refl)) in
          let dd = dims symbols l line privates body w d.variable no_terms (o, i, refl, refl) in (
            (
              named_of d.first (term_known n d.first (front (term_occurrences n d.first) (term_occurrences n d.last) v2)),
              named_of d.last (term_known n d.last (back (term_occurrences n d.first) (term_occurrences n d.last) v2)),
              step_named n d.step (back fl (optional_occurrences n d.step) v1),
              ((c.1).0, ap (λ (ds : List Extent). home pl ds d.variable.name) dd ∙ (c.1).1, ap (λ (ds : List Extent). home pl ds d.variable.name) (sym c.0) ∙ (c.1).1),
            ),
            block_is (n + 1) q c.2 (back (head_occurrences n d) (block_occurrences (n + 1) (stripped q)) u),
            block_is m b c.3 (back node (block_occurrences m (stripped b)) h),
          )
      block_is n (then_node (choose a) b) c h =
          let node = node_occurrences n (tree.choose (stripped_arms a)) in
          let m = n + length (node_lines (tree.choose (stripped_arms a))) in
          (arms_are n (n + 1) a c.0 (front node (block_occurrences m (stripped b)) h), block_is m b c.1 (back node (block_occurrences m (stripped b)) h))

      arms_are : (i n : ℕ) (a : PlanArms) → ArmsCalm symbols pl a → All (arms_occurrences i n (stripped_arms a)) → ArmsKnown pl index (fixed_in symbols l) opened a
      arms_are i n no_arms c h = tt
      arms_are i n (made_else b) c h = (c.0, events_are b c.0 c.1)
      arms_are i n (then_arm k None b more) c h = block_is n b c.0 (front (block_occurrences n (stripped b)) (arms_occurrences i (n + length (block_lines (stripped b))) (stripped_arms more)) h)
      arms_are i n (then_arm k (Some e) b more) c h =
          let rest = arms_occurrences i (n + length (block_lines (stripped b))) (stripped_arms more) in
          let t = front (term_occurrences i e ++ block_occurrences n (stripped b)) rest h in
          (named_of e (term_known i e (front (term_occurrences i e) (block_occurrences n (stripped b)) t)), block_is n b c.0 (back (term_occurrences i e) (block_occurrences n (stripped b)) t), arms_are i (n + length (block_lines (stripped b))) more c.1 (back (term_occurrences i e ++ block_occurrences n (stripped b)) rest h))

      events_are : (b : PlanBlock) → only_events b ≡ true → Calm symbols pl b → BlockKnown pl index (fixed_in symbols l) opened b
      events_are no_nodes e c = tt
      events_are (then_node (awaits x d) b) e c = (c.0, events_are b e c.1)
      events_are (then_node (advances x) b) e c = (c.0, events_are b e c.1)
      events_are (then_node (plain s) b) e c = cc
      events_are (then_node (loop k d q) b) e c = cc
      events_are (then_node (choose a) b) e c = cc
