-- A good plan of a loop of an accepted program is one of a loop that may be opened.
use Rattle.std.proofs.Common.{◌≡◌, ◌∙◌, ◌+◌, ◌≤◌, ◌<◌, inl, inr, ℕ, zero, suc, ℤ, pos, Bool, true, false, List, [], ◌∷◌, ◌++◌, Option, Some, None, length, map, get_or, refl, sym, ap, subst, arith, append_assoc}
use Rattle.std.specs.Prelude.{◌&&◌, ◌||◌, nat_le, if◌then◌else◌}
use Rattle.std.specs.List.{IsDistinct, list_any}
use Rattle.std.specs.Ordering.{int_eq}
use Rattle.std.proofs.lemmas.Bool.{and_parts, le-leb, lt-ltb}
use Rattle.ast.specs.Meaning as meaning
use Rattle.ast.specs.Program.{is_placed}
use Rattle.ast.specs.Stops.{is_end_kind}
use Rattle.ast.specs.Store.{same_name}
use Rattle.ast.specs.Symbols.{Extent, Symbol, dimensions_in, names_of}
use Rattle.ast.specs.Tree as tree
use Rattle.ast.specs.Tree.{Ref, Terms, no_terms, then_term, DoHead, Kind, assign, print, read, stop, program, integer, dimension, parameters, do_loop, go_on, block_if, else_if, else_arm, end_if, logical_if, end, Block}
use Rattle.ast.proofs.Lists.{any_parts}
use Rattle.ast.proofs.SameNames.{same_itself, same_is}
use Rattle.dependence.specs.Kept.{IsNonzero, arms_kinds, block_kinds, block_reads, is_read}
use Rattle.dependence.specs.Plan.{awaits, advances, plain, loop, choose, PlanBlock, no_nodes, then_node, PlanArms, no_arms, made_else, then_arm, PlanPaths}
use Rattle.loop_tree.specs.Loops.{Loop, arms_loops, block_loops, loop_at, loops_of}
use Rattle.loop_tree.specs.Occurrences.{Occurrence, block_lines, block_occurrences, node_lines}
use Rattle.loop_tree.specs.Paths.{Token, uses, defines, await, advance, Ending}
use Rattle.machine.specs.View.{is_event}
use Rattle.expr_code.specs.Places.{loop_index, private_scalar, dimensions_at, home, home_of, is_loop_name, number_in, private_or_stored}
use Rattle.expr_code.specs.Process.{count}
use Rattle.expr_code.proofs.Finding.{dimensions_same}
use Rattle.codegen.specs.Process.{is_last_stop}
use Rattle.codegen.proofs.Walking.{home_at}
use Rattle.plan_check.specs.GoodPlan.{GoodPlan, IsPrivate, SameBody, made_bare, made_bare_arms, named, named_arms, only_events, stripped, stripped_arms, token_of}
use Rattle.plan_check.proofs.Members.{In, among, contained, in_left, in_right}
use Rattle.plan_check.proofs.Naming.{named_on}
use Rattle.plan_check.proofs.Tokens.{IsReference, reference_of}
use Rattle.codegen.proofs.RangeBody.{ArmsCalm, Calm, CalmKind}
use Rattle.codegen.proofs.GivenPaths.{get_in}
use Rattle.codegen.proofs.GoodLoops.{GoodLoop}
use Rattle.codegen.proofs.RangeSound.{IsPlace, StandsIn, is_assigned}
use Rattle.codegen.specs.Program.{Planned, range_places}

-- What holds of each loop of an accepted program. (To be facts of `Program` and laws of loop_tree.)
pub record Regular (symbols : List Symbol) (l : Loop) : Type 0 where
  pub distinct : IsDistinct same_name (names_of symbols)
  pub first : ℕ
  pub references : l.references ≡ block_occurrences first l.body
  pub placed : (o : Occurrence) → In o l.references → is_placed symbols o.ref ≡ true
  pub counted : (o : Occurrence) → In o l.references → count o.subscripts ≡ length (dimensions_at symbols o.ref.cell)
  pub assigned_at : (r : Ref) → In r l.assigned → (o : Occurrence) × In o l.references × (o.ref ≡ r) × (o.defines ≡ true) × (o.subscripts ≡ no_terms)
  pub assigns : (o : Occurrence) → In o l.references → o.defines ≡ true → o.subscripts ≡ no_terms → is_assigned l o.ref.name ≡ true
  pub variable : is_placed symbols l.head.variable ≡ true
  pub variable_scalar : dimensions_at symbols l.head.variable.cell ≡ []
  pub unassigned : (o : Occurrence) → In o l.references → o.defines ≡ true → o.ref.name ≡ l.head.variable.name → ⊥

-- END stands nowhere in a range
abbrev mutual
  pub NoEnd : PlanBlock → Type 0
  NoEnd no_nodes = Unit {0}
  NoEnd (then_node (plain s) b) = (is_end_kind s.kind ≡ false) × NoEnd b
  NoEnd (then_node (loop l h c) b) = NoEnd c × NoEnd b
  NoEnd (then_node (choose a) b) = ArmsNoEnd a × NoEnd b
  NoEnd (then_node n b) = NoEnd b

  pub ArmsNoEnd : PlanArms → Type 0
  ArmsNoEnd no_arms = Unit {0}
  ArmsNoEnd (made_else b) = NoEnd b
  ArmsNoEnd (then_arm l c b more) = NoEnd b × ArmsNoEnd more

not_last_kind : (k m : Kind) → is_end_kind m ≡ false → meaning.are_stop_and_end k m ≡ false
not_last_kind stop end e = cc
not_last_kind stop (assign x y) e = refl
not_last_kind stop (print x) e = refl
not_last_kind stop (read x) e = refl
not_last_kind stop stop e = refl
not_last_kind stop (program x) e = refl
not_last_kind stop (integer x) e = refl
not_last_kind stop (dimension x) e = refl
not_last_kind stop (parameters x) e = refl
not_last_kind stop (do_loop x) e = refl
not_last_kind stop go_on e = refl
not_last_kind stop (block_if x) e = refl
not_last_kind stop (else_if x) e = refl
not_last_kind stop else_arm e = refl
not_last_kind stop end_if e = refl
not_last_kind stop (logical_if x y) e = refl
not_last_kind _ m e = refl

pub not_last : (s : tree.Statement) (b : PlanBlock) → NoEnd b → is_last_stop (plain s) b ≡ false
not_last s no_nodes w = refl
not_last s (then_node (plain u) no_nodes) w = not_last_kind s.kind u.kind w.0
not_last s (then_node (plain u) (then_node n b)) w = refl
not_last s (then_node (awaits e d) b) w = refl
not_last s (then_node (advances e) b) w = refl
not_last s (then_node (loop l h c) b) w = refl
not_last s (then_node (choose a) b) w = refl

-- the same without awaits and advances
tree_last : (s : tree.Statement) (b : PlanBlock) → NoEnd b → meaning.is_last_stop (tree.plain s) (stripped b) ≡ false
tree_last s no_nodes w = refl
tree_last s (then_node (awaits e d) b) w = tree_last s b w
tree_last s (then_node (advances e) b) w = tree_last s b w
tree_last s (then_node (loop l h c) b) w = refl
tree_last s (then_node (choose a) b) w = refl
tree_last s (then_node (plain u) b) w = by (stripped b)
  where
    by : (x : Block) → meaning.is_last_stop (tree.plain s) (tree.then_node (tree.plain u) x) ≡ false
    by tree.no_nodes = not_last_kind s.kind u.kind w.0
    by (tree.then_node n x) = refl

event_is : (e : ℕ) → 1 ≤ e → e ≤ 64 → is_event e ≡ true
event_is e a b = ap (λ (c : Bool). c && nat_le e 64) (lt-ltb 0 e (omega (arith, a))) ∙ le-leb e 64 b

module _ (symbols : List Symbol) (x : Planned) (g : GoodPlan x.loop x.plan) (same_body : SameBody x.loop x.plan) (r : Regular symbols x.loop) (no_end : NoEnd x.plan.body)
    -- each private name stands once, and inner DO variables' references are those of the loops
    -- inside
    (once : (i j : ℕ) → i < length x.plan.privates → j < length x.plan.privates → get_or x.plan.privates i [] ≡ get_or x.plan.privates j [] → i ≡ j) where
  abbrev l : Loop
  l = x.loop

  occurrence : (es : Terms) (q : Ref) → StandsIn x.loop q es → is_placed symbols q ≡ true
  occurrence es q st = subst (λ (z : Ref). is_placed symbols z ≡ true) st.2 (r.placed st.0 st.1)

  counts : (q : Ref) (es : Terms) → StandsIn x.loop q es → count es ≡ length (dimensions_at symbols q.cell)
  counts q es st = sym (ap count st.3) ∙ r.counted st.0 st.1 ∙ ap (λ (z : Ref). length (dimensions_at symbols z.cell)) st.2

  none_long : (ds : List Extent) → 0 ≡ length ds → ds ≡ []
  none_long [] e = refl
  none_long (d ∷ ds) e = absurd (omega (arith, e))

  assigned_placed : (q : Ref) → In q x.loop.assigned → is_placed symbols q ≡ true
  assigned_placed q i = let o = r.assigned_at q i in subst (λ (z : Ref). is_placed symbols z ≡ true) o.2 (r.placed o.0 o.1)

  assigned_scalar : (q : Ref) → In q x.loop.assigned → dimensions_at symbols q.cell ≡ []
  assigned_scalar q i =
      let o = r.assigned_at q i in
      none_long (dimensions_at symbols q.cell) (sym (ap count o.4) ∙ r.counted o.0 o.1 ∙ ap (λ (z : Ref). length (dimensions_at symbols z.cell)) o.2)

  scalars : (i : ℕ) → i < length x.plan.privates → (s : Ref) × In s x.loop.assigned × (s.name ≡ get_or x.plan.privates i [])
  scalars i h = let s = g.scalars (get_or x.plan.privates i []) (contained (get_or x.plan.privates i []) x.plan.privates (get_in x.plan.privates i h)) in (s.0, among s.0 x.loop.assigned s.1, s.2)

  -- what stands on a path stands among the loop's references
  pub shown_at : (e : Ending) (t : List Token) (y : Token) → PlanPaths x.plan.body e t → IsReference y → In y t → (o : Occurrence) × In o x.loop.references × (token_of o ≡ y)
  shown_at e t y p is i =
      let o = reference_of r.first x.plan.body same_body.bare e t p y is i in
      let here : block_occurrences r.first (stripped x.plan.body) ≡ x.loop.references = ap (block_occurrences r.first) same_body.same ∙ sym r.references in
      (o.0, subst (λ (os : List Occurrence). In o.0 os) here o.1, o.2)

  defining : (o : Occurrence) (q : Ref) → token_of o ≡ defines q → (o.ref ≡ q) × (o.defines ≡ true)
  defining o q e = by o.defines refl e
    where
      by : (b : Bool) → o.defines ≡ b → (if b then defines o.ref else uses o.ref) ≡ defines q → (o.ref ≡ q) × (o.defines ≡ true)
      by true h k = let z : o.ref ≡ q = cc in (z, h)
      by false h k = cc

  defined : (e : Ending) (u v : List Token) (q : Ref) (i : ℕ) → i < length x.plan.privates → q.name ≡ get_or x.plan.privates i [] → PlanPaths x.plan.body e (u ++ uses q ∷ v) → (s : Ref) × (s.name ≡ q.name) × In (defines s) u × ((es : Terms) × StandsIn x.loop s es)
  defined e u v q i h n p =
      let d = g.defined u q (subst (λ (m : List ℕ). IsPrivate x.plan m) (sym n) (contained (get_or x.plan.privates i []) x.plan.privates (get_in x.plan.privates i h))) (e, v, subst (λ (t : List Token). PlanPaths x.plan.body e t) (sym (append_assoc u (uses q ∷ []) v)) p) in
      let o = shown_at e (u ++ uses q ∷ v) (defines d.0) p tt (in_left (defines d.0) u (uses q ∷ v) (among (defines d.0) u d.2)) in
      let k = defining o.0 d.0 o.2 in
      (d.0, d.1, among (defines d.0) u d.2, ((o.0).subscripts, (o.0, o.1, k.0, refl)))

  place : IsPlace symbols x.loop x.plan.privates x.plan.body
  place = record {
    distinct = r.distinct;
    placed = λ q es st. occurrence es q st;
    counted = counts;
    assigned = assigned_placed;
    assigned_scalar = assigned_scalar;
    variable = r.variable;
    scalars = scalars;
    defined = defined;
    events = λ e d u v f p. let n = g.events e d (contained (e, d) (named x.plan.body) (named_on x.plan.body f u v (await e d) p)) in event_is e n.0 n.1;
    advanced = λ e u v f p. let n = g.events e 1 (contained (e, 1) (named x.plan.body) (named_on x.plan.body f u v (advance e) p)) in event_is e n.0 n.1;
  }

  -- ---- homes

  numbered : (n i : ℕ) (ys : List (List ℕ)) → i < length ys → ((a b : ℕ) → a < length ys → b < length ys → get_or ys a [] ≡ get_or ys b [] → a ≡ b) → number_in n (get_or ys i []) ys ≡ Some (n + i)
  numbered n i [] h one = absurd (omega (arith, h))
  numbered n zero (y ∷ ys) h one = ap (λ (b : Bool). if b then Some n else number_in (n + 1) y ys) (same_itself y) ∙ ap (λ (k : ℕ). Some k) (zero_more n)
    where
      zero_more : (n : ℕ) → n ≡ n + 0
      zero_more n = omega arith
  numbered n (suc i) (y ∷ ys) h one = by (same_name y (get_or ys i [])) refl (numbered (n + 1) i ys (omega (arith, h)) (λ a b k m e. let z : suc a ≡ suc b = one (suc a) (suc b) (omega (arith, k)) (omega (arith, m)) e in omega (arith, z)))
    where
      by : (b : Bool) → same_name y (get_or ys i []) ≡ b → number_in (n + 1) (get_or ys i []) ys ≡ Some (n + 1 + i) → (if b then Some n else number_in (n + 1) (get_or ys i []) ys) ≡ Some (n + suc i)
      by true e m = let z : 0 ≡ suc i = one 0 (suc i) (omega arith) h (same_is y (get_or ys i []) e) in absurd (omega (arith, z))
      by false e m = m ∙ ap (λ (k : ℕ). Some k) (more n i)
        where
          more : (n i : ℕ) → n + 1 + i ≡ n + suc i
          more n i = omega arith

  no_variable : (name : List ℕ) → (name ≡ x.loop.head.variable.name → ⊥) → is_loop_name (Some x.loop.head.variable.name) name ≡ false
  no_variable name h = by (same_name x.loop.head.variable.name name) refl
    where
      by : (b : Bool) → same_name x.loop.head.variable.name name ≡ b → b ≡ false
      by true e = absurd (h (sym (same_is x.loop.head.variable.name name e)))
      by false e = refl

  homes : (i : ℕ) → i < length x.plan.privates → home_of (range_places symbols x) (get_or x.plan.privates i []) ≡ private_scalar i
  homes i h =
      let s = scalars i h in
      let o = r.assigned_at s.0 s.1 in
      let n : (get_or x.plan.privates i [] ≡ x.loop.head.variable.name → ⊥) = λ e. r.unassigned o.0 o.1 o.3 (ap (λ (q : Ref). q.name) o.2 ∙ s.2 ∙ e) in
      let d : dimensions_in symbols (get_or x.plan.privates i []) ≡ [] = ap (dimensions_in symbols) (sym s.2) ∙ dimensions_same symbols s.0 r.distinct (assigned_placed s.0 s.1) ∙ assigned_scalar s.0 s.1 in
      ap (λ (ds : List Extent). home (range_places symbols x) ds (get_or x.plan.privates i [])) d
      ∙ ap (λ (b : Bool). if b then loop_index else private_or_stored (number_in 0 (get_or x.plan.privates i []) x.plan.privates)) (no_variable (get_or x.plan.privates i []) n)
      ∙ ap private_or_stored (numbered 0 i x.plan.privates h once)
      ∙ ap private_scalar (at_zero i)
    where
      at_zero : (k : ℕ) → 0 + k ≡ k
      at_zero k = omega arith

  own : home_of (range_places symbols x) x.loop.head.variable.name ≡ loop_index
  own =
      ap (λ (ds : List Extent). home (range_places symbols x) ds x.loop.head.variable.name) (dimensions_same symbols x.loop.head.variable r.distinct r.variable ∙ r.variable_scalar)
      ∙ ap (λ (b : Bool). if b then loop_index else private_or_stored (number_in 0 x.loop.head.variable.name x.plan.privates)) (same_itself x.loop.head.variable.name)

  only : (name : List ℕ) → home_of (range_places symbols x) name ≡ loop_index → name ≡ x.loop.head.variable.name
  only name e = by (dimensions_in symbols name) e
    where
      stored : (o : Option ℕ) → private_or_stored o ≡ loop_index → ⊥
      stored None q = cc
      stored (Some y) q = cc

      chosen : (b : Bool) → same_name x.loop.head.variable.name name ≡ b → (if b then loop_index else private_or_stored (number_in 0 name x.plan.privates)) ≡ loop_index → name ≡ x.loop.head.variable.name
      chosen true h q = sym (same_is x.loop.head.variable.name name h)
      chosen false h q = absurd (stored (number_in 0 name x.plan.privates) q)

      by : (ds : List Extent) → home (range_places symbols x) ds name ≡ loop_index → name ≡ x.loop.head.variable.name
      by [] q = chosen (same_name x.loop.head.variable.name name) refl q
      by (d ∷ ds) q = cc

  -- ---- the range

  calm_kind : (k : Kind) → is_read k ≡ false → CalmKind symbols (range_places symbols x) k
  calm_kind (read ys) e = cc
  calm_kind (assign a e) h = tt
  calm_kind (print a) h = tt
  calm_kind stop h = tt
  calm_kind (program a) h = tt
  calm_kind (integer a) h = tt
  calm_kind (dimension a) h = tt
  calm_kind (parameters a) h = tt
  calm_kind (do_loop a) h = tt
  calm_kind go_on h = tt
  calm_kind (block_if a) h = tt
  calm_kind (else_if a) h = tt
  calm_kind else_arm h = tt
  calm_kind end_if h = tt
  calm_kind (logical_if a b) h = tt
  calm_kind end h = tt

  -- inner: each DO variable inside is a private scalar
  abbrev mutual
    pub Inner : PlanBlock → Type 0
    Inner no_nodes = Unit {0}
    Inner (then_node (loop k h c) b) = (dimensions_at symbols h.variable.cell ≡ []) × ((i : ℕ) × (home_at (range_places symbols x) h.variable ≡ private_scalar i)) × Inner c × Inner b
    Inner (then_node (choose a) b) = ArmsInner a × Inner b
    Inner (then_node n b) = Inner b

    pub ArmsInner : PlanArms → Type 0
    ArmsInner no_arms = Unit {0}
    ArmsInner (made_else b) = Inner b
    ArmsInner (then_arm k c b more) = Inner b × ArmsInner more

  mutual
    calm : (b : PlanBlock) → NoEnd b → Inner b → list_any is_read (block_kinds (stripped b)) ≡ false → made_bare b ≡ true → ((e d : ℕ) → In (e, d) (named b) → is_event e ≡ true) → Calm symbols (range_places symbols x) b
    calm no_nodes w i h m v = tt
    calm (then_node (awaits e d) b) w i h m v = (v e d (inl refl), calm b w i h m (λ f c q. v f c (inr q)))
    calm (then_node (advances e) b) w i h m v = (v e 1 (inl refl), calm b w i h m (λ f c q. v f c (inr q)))
    calm (then_node (plain s) b) w i h m v =
        let k = any_parts is_read (s.kind ∷ []) (block_kinds (stripped b)) h in
        (calm_kind s.kind (first_of (is_read s.kind) k.0), not_last s b w.1, tree_last s b w.1, calm b w.1 i k.1 m v)
      where
        first_of : (c : Bool) → (c || false) ≡ false → c ≡ false
        first_of true e = cc
        first_of false e = refl
    calm (then_node (loop line h c) b) w i r1 m v =
        let k = any_parts is_read (block_kinds (stripped c)) (block_kinds (stripped b)) r1 in
        let z = and_parts (made_bare c) (made_bare b) m in
        (i.0, i.1, calm c w.0 i.2 k.0 z.0 (λ e d q. v e d (in_left (e, d) (named c) (named b) q)), calm b w.1 i.3 k.1 z.1 (λ e d q. v e d (in_right (e, d) (named c) (named b) q)))
    calm (then_node (choose a) b) w i h m v =
        let k = any_parts is_read (arms_kinds (stripped_arms a)) (block_kinds (stripped b)) h in
        let z = and_parts (made_bare_arms a) (made_bare b) m in
        let ns = named_arms a in
        (arms_calm a w.0 i.0 k.0 z.0 (λ e d q. v e d (in_left (e, d) ns (named b) q)), calm b w.1 i.1 k.1 z.1 (λ e d q. v e d (in_right (e, d) ns (named b) q)))

    arms_calm : (a : PlanArms) → ArmsNoEnd a → ArmsInner a → list_any is_read (arms_kinds (stripped_arms a)) ≡ false → made_bare_arms a ≡ true → ((e d : ℕ) → In (e, d) (named_arms a) → is_event e ≡ true) → ArmsCalm symbols (range_places symbols x) a
    arms_calm no_arms w i h m v = tt
    arms_calm (made_else b) w i h m v = (m, bare_calm b m v)
    arms_calm (then_arm k c b more) w i h m v =
        let q = any_parts is_read (block_kinds (stripped b)) (arms_kinds (stripped_arms more)) h in
        let z = and_parts (made_bare b) (made_bare_arms more) m in
        let ns = named_arms more in
        (calm b w.0 i.0 q.0 z.0 (λ e d y. v e d (in_left (e, d) (named b) ns y)), arms_calm more w.1 i.1 q.1 z.1 (λ e d y. v e d (in_right (e, d) (named b) ns y)))

    bare_calm : (b : PlanBlock) → only_events b ≡ true → ((e d : ℕ) → In (e, d) (named b) → is_event e ≡ true) → Calm symbols (range_places symbols x) b
    bare_calm no_nodes m v = tt
    bare_calm (then_node (awaits e d) b) m v = (v e d (inl refl), bare_calm b m (λ f c q. v f c (inr q)))
    bare_calm (then_node (advances e) b) m v = (v e 1 (inl refl), bare_calm b m (λ f c q. v f c (inr q)))
    bare_calm (then_node (plain s) b) m v = cc
    bare_calm (then_node (loop k h c) b) m v = cc
    bare_calm (then_node (choose a) b) m v = cc

  step_there : (o : Option ℤ) → x.loop.step ≡ o → IsNonzero o → (s : ℤ) × (x.loop.step ≡ Some s) × (int_eq s (pos 0) ≡ false)
  step_there None e n = absurd n
  step_there (Some s) e n = (s, e, n)

  -- a loop with a good plan may be opened
  pub good_loop : Inner x.plan.body → GoodLoop symbols x
  good_loop inner =
      let st = step_there x.loop.step refl g.step in
      record {
        place = place;
        unassigned = r.unassigned;
        assigned = λ q es s o i e d z.
            subst (λ (y : Ref). is_assigned x.loop y.name ≡ true) e (r.assigns o i d (no_terms_are o.subscripts (r.counted o i ∙ ap (λ (y : Ref). length (dimensions_at symbols y.cell)) e ∙ sym (ap (λ (ds : List Extent). length ds) (dimensions_same symbols q r.distinct (occurrence es q s))) ∙ ap (λ (ds : List Extent). length ds) z)));
        calm = calm x.plan.body no_end inner (ap (λ (b : Block). block_reads b) same_body.same ∙ g.no_read) same_body.bare (λ e d i. let n = g.events e d (contained (e, d) (named x.plan.body) i) in event_is e n.0 n.1);
        same = same_body.same;
        first = r.first;
        references = λ o i. subst (λ (os : List Occurrence). In o os) (ap (block_occurrences r.first) same_body.same ∙ sym r.references) i;
        variable_scalar = r.variable_scalar;
        homes = homes;
        only = only;
        own = own;
        shown = λ e u v q p. let o = shown_at e (u ++ defines q ∷ v) (defines q) p tt (in_right (defines q) u (defines q ∷ v) (inl refl)) in let k = defining o.0 q o.2 in (o.0, o.1, k.0, k.1);
        step = st.0;
        step_is = st.1;
        nonzero = st.2;
      }
    where
      no_terms_are : (es : Terms) → count es ≡ 0 → es ≡ no_terms
      no_terms_are no_terms e = refl
      no_terms_are (then_term e es) h = let z : suc (count es) ≡ 0 = h in absurd (omega (arith, z))

  -- ---- inner DO variables

  index_of : (ys : List (List ℕ)) (name : List ℕ) → In name ys → (i : ℕ) × (i < length ys) × (get_or ys i [] ≡ name)
  index_of [] name i = absurd i
  index_of (y ∷ ys) name (inl e) = (0, omega arith, sym e)
  index_of (y ∷ ys) name (inr i) = let k = index_of ys name i in let k1 = k.1 in (suc k.0, omega (arith, k1), k.2)

  private_home : (q : Ref) → dimensions_at symbols q.cell ≡ [] → IsPrivate x.plan q.name → (i : ℕ) × (home_at (range_places symbols x) q ≡ private_scalar i)
  private_home q d i =
      let k = index_of x.plan.privates q.name (among q.name x.plan.privates i) in
      let s = scalars k.0 k.1 in
      let ds : dimensions_in symbols (get_or x.plan.privates k.0 []) ≡ [] = ap (dimensions_in symbols) (sym s.2) ∙ dimensions_same symbols s.0 r.distinct (assigned_placed s.0 s.1) ∙ assigned_scalar s.0 s.1 in (
        k.0,
        ap (λ (es : List Extent). home (range_places symbols x) es q.name) d
            ∙ ap (λ (m : List ℕ). home (range_places symbols x) [] m) (sym k.2)
            ∙ sym (ap (λ (es : List Extent). home (range_places symbols x) es (get_or x.plan.privates k.0 [])) ds)
            ∙ homes k.0 k.1,
      )

  variable_among : (ls : List Loop) (lp : Loop) → In lp ls → In lp.head.variable (map (λ (y : Loop). y.head.variable) ls)
  variable_among [] lp i = absurd i
  variable_among (y ∷ ls) lp (inl e) = inl (ap (λ (z : Loop). z.head.variable) e)
  variable_among (y ∷ ls) lp (inr i) = inr (variable_among ls lp i)

  module _ (inner_scalar : (lp : Loop) → In lp (loops_of x.loop.body) → dimensions_at symbols lp.head.variable.cell ≡ []) where
    there : (line : ℕ) (h : DoHead) (b : Block) (around : Option ℕ) (m : ℕ) → In (loop_at around m line h b) (loops_of x.loop.body) → (dimensions_at symbols h.variable.cell ≡ []) × ((i : ℕ) × (home_at (range_places symbols x) h.variable ≡ private_scalar i))
    there line h b around m i =
        let d = inner_scalar (loop_at around m line h b) i in
        (d, private_home h.variable d (g.inner h.variable (contained h.variable (map (λ (y : Loop). y.head.variable) (loops_of x.loop.body)) (variable_among (loops_of x.loop.body) (loop_at around m line h b) i))))

    mutual
      inner_of : (b : PlanBlock) (around : Option ℕ) (k m : ℕ) → made_bare b ≡ true → ((lp : Loop) → In lp (block_loops around k m (stripped b)) → In lp (loops_of x.loop.body)) → Inner b
      inner_of no_nodes around k m v h = tt
      inner_of (then_node (awaits e d) b) around k m v h = inner_of b around k m v h
      inner_of (then_node (advances e) b) around k m v h = inner_of b around k m v h
      inner_of (then_node (plain s) b) around k m v h = inner_of b around (k + 0) (m + 1) v (λ lp i. h lp i)
      inner_of (then_node (loop line d c) b) around k m v h =
          let z = and_parts (made_bare c) (made_bare b) v in
          let us = loop_at around m line d (stripped c) ∷ block_loops (Some (k + 1)) (k + 1) (m + 1) (stripped c) in
          let m2 = m + length (node_lines (tree.loop line d (stripped c))) in
          let vs = block_loops around (k + length us) m2 (stripped b) in
          let t = there line d (stripped c) around m (h (loop_at around m line d (stripped c)) (inl refl)) in
          (t.0, t.1, inner_of c (Some (k + 1)) (k + 1) (m + 1) z.0 (λ lp i. h lp (in_left lp us vs (inr i))), inner_of b around (k + length us) m2 z.1 (λ lp i. h lp (in_right lp us vs i)))
      inner_of (then_node (choose a) b) around k m v h =
          let z = and_parts (made_bare_arms a) (made_bare b) v in
          let us = arms_loops around k (m + 1) (stripped_arms a) in
          let m2 = m + length (node_lines (tree.choose (stripped_arms a))) in
          let vs = block_loops around (k + length us) m2 (stripped b) in
          (arms_inner a around k (m + 1) z.0 (λ lp i. h lp (in_left lp us vs i)), inner_of b around (k + length us) m2 z.1 (λ lp i. h lp (in_right lp us vs i)))

      arms_inner : (a : PlanArms) (around : Option ℕ) (k m : ℕ) → made_bare_arms a ≡ true → ((lp : Loop) → In lp (arms_loops around k m (stripped_arms a)) → In lp (loops_of x.loop.body)) → ArmsInner a
      arms_inner no_arms around k m v h = tt
      arms_inner (made_else b) around k m v h = bare_inner b v
      arms_inner (then_arm l c b more) around k m v h =
          let z = and_parts (made_bare b) (made_bare_arms more) v in
          let us = block_loops around k m (stripped b) in
          let m2 = m + length (block_lines (stripped b)) in
          let vs = arms_loops around (k + length us) m2 (stripped_arms more) in
          (inner_of b around k m z.0 (λ lp i. h lp (in_left lp us vs i)), arms_inner more around (k + length us) m2 z.1 (λ lp i. h lp (in_right lp us vs i)))

      bare_inner : (b : PlanBlock) → only_events b ≡ true → Inner b
      bare_inner no_nodes v = tt
      bare_inner (then_node (awaits e d) b) v = bare_inner b v
      bare_inner (then_node (advances e) b) v = bare_inner b v
      bare_inner (then_node (plain s) b) v = cc
      bare_inner (then_node (loop l h c) b) v = cc
      bare_inner (then_node (choose a) b) v = cc

    -- a loop of an accepted program with a good plan may be opened
    pub good_one : GoodLoop symbols x
    good_one = good_loop (inner_of x.plan.body None 0 0 same_body.bare (λ lp i. subst (λ (b : Block). In lp (block_loops None 0 0 b)) same_body.same i))
