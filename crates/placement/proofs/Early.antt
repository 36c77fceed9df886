-- A private scalar is known to be defined wherever a plan uses it.
use Rattle.std.proofs.Common.{◌≡◌, ◌∙◌, ◌<◌, inl, inr, not, ◌||◌, ℕ, Bool, true, false, List, [], ◌∷◌, ◌++◌, length, get_or, refl, ap, sym, subst, Some, None, arith}
use Rattle.std.specs.Prelude.{◌==◌}
use Rattle.std.proofs.lemmas.Bool.{and_parts, eq-eqb, eqb-true}
use Rattle.std.proofs.lemmas.List.{length-replicate}
use Rattle.ast.specs.Tree as tree
use Rattle.ast.specs.Tree.{Ref, Kind}
use Rattle.dependence.specs.Plan.{awaits, advances, plain, loop, choose, PlanBlock, no_nodes, then_node, PlanArms, no_arms, made_else, then_arm, PlanTree}
use Rattle.loop_tree.specs.Paths.{Token, uses, defines, await, advance, term_tokens, head_tokens}
use Rattle.privatise.specs.Walks.{then_walk, more, if_so, walk}
use Rattle.privatise.specs.declared.walk.Walk.{Walk}
use Rattle.privatise.specs.declared.walk.Walk.TheVariants.{Defined, Missed, Early}
use Rattle.privatise.proofs.ByCell.{arms_walk, block_walk, kind_walk}
use Rattle.placement.proofs.Lists.{all_from, all_get, all_length, both_length, both_true, get_within, put_length, put_same, put_true}
use Rattle.plan_check.specs.Flow.{Known, Point, after, after_arms, after_block, after_kind, arms_points, block_points, is_defined, joined, kind_tokens, nowhere, points, put, step}
use Rattle.plan_check.specs.Checking.{first, has_name, is_late, never_early}
use Rattle.plan_check.proofs.Members.{In}
use Rattle.plan_check.specs.GoodPlan.{made_bare, made_bare_arms, only_events, stripped, stripped_arms}

module _ (c : ℕ) where
  abbrev pub Fine : List Point → Type 0
  Fine [] = Unit {0}
  Fine ((uses r, y) ∷ ps) = (r.cell ≡ c → is_defined y c ≡ true) × Fine ps
  Fine ((_, y) ∷ ps) = Fine ps

  fine_two : (ps qs : List Point) → Fine ps → Fine qs → Fine (ps ++ qs)
  fine_two [] qs h k = k
  fine_two ((uses r, y) ∷ ps) qs h k = (h.0, fine_two ps qs h.1 k)
  fine_two ((defines r, y) ∷ ps) qs h k = fine_two ps qs h k
  fine_two ((await e d, y) ∷ ps) qs h k = fine_two ps qs h k
  fine_two ((advance e, y) ∷ ps) qs h k = fine_two ps qs h k

  abbrev pub Long : Known → Type 0
  Long s = c < length s.defined

  -- ---- what is defined stays so

  step_keeps : (x : Token) (s : Known) → is_defined s c ≡ true → is_defined (step x s) c ≡ true
  step_keeps (uses r) s h = h
  step_keeps (defines r) s h = put_true s.defined r.cell c h
  step_keeps (await e d) s h = h
  step_keeps (advance e) s h = h

  tokens_keep : (t : List Token) (s : Known) → is_defined s c ≡ true → Fine (points t s) × (is_defined (after t s) c ≡ true)
  tokens_keep [] s h = (tt, h)
  tokens_keep (uses r ∷ t) s h = let k = tokens_keep t s h in (((λ e. h), k.0), k.1)
  tokens_keep (defines r ∷ t) s h = tokens_keep t (step (defines r) s) (step_keeps (defines r) s h)
  tokens_keep (await e d ∷ t) s h = tokens_keep t (step (await e d) s) h
  tokens_keep (advance e ∷ t) s h = tokens_keep t (step (advance e) s) h

  nowhere_keeps : (s : Known) → is_defined s c ≡ true → is_defined (nowhere s) c ≡ true
  nowhere_keeps s h = all_get s.defined c (get_within s.defined c h)

  kind_keeps : (k : Kind) (s : Known) → is_defined s c ≡ true → Fine (points (kind_tokens k) s) × (is_defined (after_kind k s) c ≡ true)
  kind_keeps (tree.assign a e) s h = tokens_keep (kind_tokens (tree.assign a e)) s h
  kind_keeps (tree.print items) s h = tokens_keep (kind_tokens (tree.print items)) s h
  kind_keeps (tree.read xs) s h = tokens_keep (kind_tokens (tree.read xs)) s h
  kind_keeps tree.stop s h = (tt, nowhere_keeps s h)
  kind_keeps (tree.program x) s h = (tt, h)
  kind_keeps (tree.integer x) s h = (tt, h)
  kind_keeps (tree.dimension x) s h = (tt, h)
  kind_keeps (tree.parameters x) s h = (tt, h)
  kind_keeps (tree.do_loop x) s h = (tt, h)
  kind_keeps tree.go_on s h = (tt, h)
  kind_keeps (tree.block_if x) s h = (tt, h)
  kind_keeps (tree.else_if x) s h = (tt, h)
  kind_keeps tree.else_arm s h = (tt, h)
  kind_keeps tree.end_if s h = (tt, h)
  kind_keeps (tree.logical_if x y) s h = (tt, h)
  kind_keeps tree.end s h = (tt, h)

  mutual
    block_keeps : (b : PlanBlock) (s : Known) → is_defined s c ≡ true → Fine (block_points b s) × (is_defined (after_block b s) c ≡ true)
    block_keeps no_nodes s h = (tt, h)
    block_keeps (then_node (awaits e d) b) s h = block_keeps b (step (await e d) s) h
    block_keeps (then_node (advances e) b) s h = block_keeps b (step (advance e) s) h
    block_keeps (then_node (plain x) b) s h =
        let k = kind_keeps x.kind s h in
        let g = block_keeps b (after_kind x.kind s) k.1 in
        (fine_two (points (kind_tokens x.kind) s) (block_points b (after_kind x.kind s)) k.0 g.0, g.1)
    block_keeps (then_node (loop l x d) b) s h =
        let u = after (head_tokens x) s in
        let k = tokens_keep (head_tokens x) s h in
        let i = block_keeps d u k.1 in
        let g = block_keeps b u k.1 in
        (fine_two (points (head_tokens x) s ++ block_points d u) (block_points b u) (fine_two (points (head_tokens x) s) (block_points d u) k.0 i.0) g.0, g.1)
    block_keeps (then_node (choose a) b) s h =
        let u = after_arms a (nowhere s) s in
        let k = arms_keep a (nowhere s) s (nowhere_keeps s h) h in
        let g = block_keeps b u k.1 in
        (fine_two (arms_points a s) (block_points b u) k.0 g.0, g.1)

    arms_keep : (a : PlanArms) (ended s : Known) → is_defined ended c ≡ true → is_defined s c ≡ true → Fine (arms_points a s) × (is_defined (after_arms a ended s) c ≡ true)
    arms_keep no_arms ended s h k = (tt, both_true s.defined ended.defined c k h)
    arms_keep (made_else b) ended s h k = let g = block_keeps b s k in (g.0, both_true (after_block b s).defined ended.defined c g.1 h)
    arms_keep (then_arm l None b rest) ended s h k =
        let r = after_block b s in
        let g = block_keeps b s k in
        let i = arms_keep rest (joined ended r) (nowhere s) (both_true ended.defined r.defined c h g.1) (nowhere_keeps s k) in
        (fine_two (block_points b s) (arms_points rest (nowhere s)) g.0 i.0, i.1)
    arms_keep (then_arm l (Some e) b rest) ended s h k =
        let u = after (term_tokens e) s in
        let t = tokens_keep (term_tokens e) s k in
        let r = after_block b u in
        let g = block_keeps b u t.1 in
        let i = arms_keep rest (joined ended r) u (both_true ended.defined r.defined c h g.1) t.1 in
        (fine_two (points (term_tokens e) s) (block_points b u ++ arms_points rest u) t.0 (fine_two (block_points b u) (arms_points rest u) g.0 i.0), i.1)

  -- ---- room for the cell stays

  long_step : (x : Token) (s : Known) → Long s → Long (step x s)
  long_step (uses r) s h = h
  long_step (defines r) s h = let e = put_length s.defined r.cell true in omega (arith, e, h)
  long_step (await e d) s h = h
  long_step (advance e) s h = h

  long_after : (t : List Token) (s : Known) → Long s → Long (after t s)
  long_after [] s h = h
  long_after (x ∷ t) s h = long_after t (step x s) (long_step x s h)

  long_nowhere : (s : Known) → Long s → Long (nowhere s)
  long_nowhere s h = let e = all_length true s.defined in omega (arith, e, h)

  long_joined : (s r : Known) → Long s → Long (joined s r)
  long_joined s r h = let e = both_length s.defined r.defined in omega (arith, e, h)

  long_kind : (k : Kind) (s : Known) → Long s → Long (after_kind k s)
  long_kind (tree.assign a e) s h = long_after (kind_tokens (tree.assign a e)) s h
  long_kind (tree.print items) s h = long_after (kind_tokens (tree.print items)) s h
  long_kind (tree.read xs) s h = long_after (kind_tokens (tree.read xs)) s h
  long_kind tree.stop s h = long_nowhere s h
  long_kind (tree.program x) s h = h
  long_kind (tree.integer x) s h = h
  long_kind (tree.dimension x) s h = h
  long_kind (tree.parameters x) s h = h
  long_kind (tree.do_loop x) s h = h
  long_kind tree.go_on s h = h
  long_kind (tree.block_if x) s h = h
  long_kind (tree.else_if x) s h = h
  long_kind tree.else_arm s h = h
  long_kind tree.end_if s h = h
  long_kind (tree.logical_if x y) s h = h
  long_kind tree.end s h = h

  mutual
    long_block : (b : PlanBlock) (s : Known) → Long s → Long (after_block b s)
    long_block no_nodes s h = h
    long_block (then_node (awaits e d) b) s h = long_block b (step (await e d) s) (long_step (await e d) s h)
    long_block (then_node (advances e) b) s h = long_block b (step (advance e) s) (long_step (advance e) s h)
    long_block (then_node (plain x) b) s h = long_block b (after_kind x.kind s) (long_kind x.kind s h)
    long_block (then_node (loop l x d) b) s h = long_block b (after (head_tokens x) s) (long_after (head_tokens x) s h)
    long_block (then_node (choose a) b) s h = long_block b (after_arms a (nowhere s) s) (long_arms a (nowhere s) s h)

    long_arms : (a : PlanArms) (ended s : Known) → Long s → Long (after_arms a ended s)
    long_arms no_arms ended s h = long_joined s ended h
    long_arms (made_else b) ended s h = long_joined (after_block b s) ended (long_block b s h)
    long_arms (then_arm l None b rest) ended s h = long_arms rest (joined ended (after_block b s)) (nowhere s) (long_nowhere s h)
    long_arms (then_arm l (Some e) b rest) ended s h = let u = after (term_tokens e) s in long_arms rest (joined ended (after_block b u)) u (long_after (term_tokens e) s h)

  -- ---- where no path uses it early

  abbrev Comes : Walk → List Point → Known → Type 0
  Comes w ps r = Fine ps × (w ≡ Defined → is_defined r c ≡ true)

  long_is : (s : Known) → Long s → c < length s.defined
  long_is s h = h

  tokens_come : (t : List Token) (s : Known) → (walk c t ≡ Early → ⊥) → Long s → Comes (walk c t) (points t s) (after t s)
  tokens_come [] s late long = (tt, λ e. cc)
  tokens_come (uses r ∷ t) s late long = by (r.cell == c) refl (λ h. tokens_come t s h long) late
    where
      by : (b : Bool) → (r.cell == c) ≡ b → ((walk c t ≡ Early → ⊥) → Comes (walk c t) (points t s) (after t s)) → (then_walk (if_so b Early) (walk c t) ≡ Early → ⊥) → Comes (then_walk (if_so b Early) (walk c t)) (points (uses r ∷ t) s) (after t s)
      by true e go h = absurd (h refl)
      by false e go h = let k = go h in (((λ q. let z : true ≡ false = sym (eq-eqb r.cell c q) ∙ e in cc), k.0), k.1)
  tokens_come (defines r ∷ t) s late long = by (r.cell == c) refl (λ h. tokens_come t (step (defines r) s) h (long_step (defines r) s long)) late
    where
      by : (b : Bool) → (r.cell == c) ≡ b → ((walk c t ≡ Early → ⊥) → Comes (walk c t) (points t (step (defines r) s)) (after t (step (defines r) s))) → (then_walk (if_so b Defined) (walk c t) ≡ Early → ⊥)
          → Comes (then_walk (if_so b Defined) (walk c t)) (points t (step (defines r) s)) (after t (step (defines r) s))
      by true e go h = let k = tokens_keep t (step (defines r) s) (subst (λ (n : ℕ). get_or (put s.defined n true) c false ≡ true) (sym (eqb-true r.cell c e)) (put_same s.defined c true false (long_is s long))) in (k.0, λ q. k.1)
      by false e go h = go h
  tokens_come (await e d ∷ t) s late long = tokens_come t (step (await e d) s) late (long_step (await e d) s long)
  tokens_come (advance e ∷ t) s late long = tokens_come t (step (advance e) s) late (long_step (advance e) s long)

  kind_comes : (k : Kind) (s : Known) → (kind_walk c k ≡ Early → ⊥) → Long s → Comes (kind_walk c k) (points (kind_tokens k) s) (after_kind k s)
  kind_comes (tree.assign a e) s late long = tokens_come (kind_tokens (tree.assign a e)) s late long
  kind_comes (tree.print items) s late long = tokens_come (kind_tokens (tree.print items)) s late long
  kind_comes (tree.read xs) s late long = tokens_come (kind_tokens (tree.read xs)) s late long
  kind_comes tree.stop s late long = (tt, λ q. all_get s.defined c (long_is s long))
  kind_comes (tree.program x) s late long = (tt, λ q. cc)
  kind_comes (tree.integer x) s late long = (tt, λ q. cc)
  kind_comes (tree.dimension x) s late long = (tt, λ q. cc)
  kind_comes (tree.parameters x) s late long = (tt, λ q. cc)
  kind_comes (tree.do_loop x) s late long = (tt, λ q. cc)
  kind_comes tree.go_on s late long = (tt, λ q. cc)
  kind_comes (tree.block_if x) s late long = (tt, λ q. cc)
  kind_comes (tree.else_if x) s late long = (tt, λ q. cc)
  kind_comes tree.else_arm s late long = (tt, λ q. cc)
  kind_comes tree.end_if s late long = (tt, λ q. cc)
  kind_comes (tree.logical_if x y) s late long = (tt, λ q. cc)
  kind_comes tree.end s late long = (tt, λ q. cc)

  -- one part and then another
  then_comes : (v w : Walk) (ps qs : List Point) (m r : Known) → (then_walk v w ≡ Early → ⊥) → ((v ≡ Early → ⊥) → Comes v ps m) → (is_defined m c ≡ true → Fine qs × (is_defined r c ≡ true)) → ((w ≡ Early → ⊥) → Comes w qs r) → Comes (then_walk v w) (ps ++ qs) r
  then_comes Early w ps qs m r late first kept rest = absurd (late refl)
  then_comes Defined w ps qs m r late first kept rest = let f = first (λ q. cc) in let k = kept (f.1 refl) in (fine_two ps qs f.0 k.0, λ q. k.1)
  then_comes Missed w ps qs m r late first kept rest = let f = first (λ q. cc) in let g = rest late in (fine_two ps qs f.0 g.0, g.1)

  bare_fine : (b : PlanBlock) (s : Known) → only_events b ≡ true → Fine (block_points b s)
  bare_fine no_nodes s h = tt
  bare_fine (then_node (awaits e d) b) s h = bare_fine b (step (await e d) s) h
  bare_fine (then_node (advances e) b) s h = bare_fine b (step (advance e) s) h
  bare_fine (then_node (plain x) b) s h = cc
  bare_fine (then_node (loop l x d) b) s h = cc
  bare_fine (then_node (choose a) b) s h = cc

  both_late : (v w : Walk) → (more v w ≡ Early → ⊥) → (v ≡ Early → ⊥) × (w ≡ Early → ⊥)
  both_late Early w h = absurd (h refl)
  both_late Missed Early h = absurd (h refl)
  both_late Missed Missed h = ((λ q. cc), λ q. cc)
  both_late Missed Defined h = ((λ q. cc), λ q. cc)
  both_late Defined w h = ((λ q. cc), h)

  both_defined : (v w : Walk) → more v w ≡ Defined → (v ≡ Defined) × (w ≡ Defined)
  both_defined Early w h = cc
  both_defined Missed Early h = cc
  both_defined Missed Missed h = cc
  both_defined Missed Defined h = cc
  both_defined Defined w h = (refl, h)

  -- an arm and those behind it
  arm_comes : (v x y : Walk) (ps qs rs : List Point) (ended u r z : Known) → (then_walk v (more x y) ≡ Early → ⊥)
      → ((v ≡ Early → ⊥) → Comes v ps u) → (is_defined u c ≡ true → Fine qs × (is_defined r c ≡ true)) → (is_defined u c ≡ true → Fine rs) → (is_defined u c ≡ true → is_defined (joined ended r) c ≡ true → is_defined z c ≡ true)
      → ((x ≡ Early → ⊥) → Comes x qs r) → ((y ≡ Early → ⊥) → Fine rs × (y ≡ Defined → is_defined (joined ended r) c ≡ true → is_defined z c ≡ true))
      → Fine (ps ++ (qs ++ rs)) × (then_walk v (more x y) ≡ Defined → is_defined ended c ≡ true → is_defined z c ≡ true)
  arm_comes Early x y ps qs rs ended u r z late first kept others last arm rest = absurd (late refl)
  arm_comes Defined x y ps qs rs ended u r z late first kept others last arm rest =
      let f = first (λ q. cc) in
      let d = f.1 refl in
      let k = kept d in
      (fine_two ps (qs ++ rs) f.0 (fine_two qs rs k.0 (others d)), λ q h. last d (both_true ended.defined r.defined c h k.1))
  arm_comes Missed x y ps qs rs ended u r z late first kept others last arm rest =
      let f = first (λ q. cc) in
      let l = both_late x y late in
      let i = arm l.0 in
      let j = rest l.1 in
      (fine_two ps (qs ++ rs) f.0 (fine_two qs rs i.0 j.0), λ q h. let d = both_defined x y q in j.1 d.1 (both_true ended.defined r.defined c h (i.1 d.0)))

  mutual
    pub block_comes : (b : PlanBlock) (s : Known) → made_bare b ≡ true → (block_walk c (stripped b) ≡ Early → ⊥) → Long s → Comes (block_walk c (stripped b)) (block_points b s) (after_block b s)
    block_comes no_nodes s bare late long = (tt, λ q. cc)
    block_comes (then_node (awaits e d) b) s bare late long = block_comes b (step (await e d) s) bare late (long_step (await e d) s long)
    block_comes (then_node (advances e) b) s bare late long = block_comes b (step (advance e) s) bare late (long_step (advance e) s long)
    block_comes (then_node (plain x) b) s bare late long =
        let u = after_kind x.kind s in
        then_comes (kind_walk c x.kind) (block_walk c (stripped b)) (points (kind_tokens x.kind) s) (block_points b u) u (after_block b u) late (λ h. kind_comes x.kind s h long) (λ h. block_keeps b u h) (λ h. block_comes b u bare h (long_kind x.kind s long))
    block_comes (then_node (loop l x d) b) s bare late long =
        let g = and_parts (made_bare d) (made_bare b) bare in
        let u = after (head_tokens x) s in
        let lu = long_after (head_tokens x) s long in
        then_comes (then_walk (walk c (head_tokens x)) (more Missed (block_walk c (stripped d)))) (block_walk c (stripped b)) (points (head_tokens x) s ++ block_points d u) (block_points b u) u (after_block b u) late
        (λ h. then_comes (walk c (head_tokens x)) (more Missed (block_walk c (stripped d))) (points (head_tokens x) s) (block_points d u) u u h (λ k. tokens_come (head_tokens x) s k long) (λ k. ((block_keeps d u k).0, k))
        (λ k. let m = both_late Missed (block_walk c (stripped d)) k in let i = block_comes d u g.0 m.1 lu in (i.0, λ q. let z = (both_defined Missed (block_walk c (stripped d)) q).0 in cc)))
        (λ h. block_keeps b u h) (λ h. block_comes b u g.1 h lu)
    block_comes (then_node (choose a) b) s bare late long =
        let g = and_parts (made_bare_arms a) (made_bare b) bare in
        let u = after_arms a (nowhere s) s in
        then_comes (arms_walk c (stripped_arms a)) (block_walk c (stripped b)) (arms_points a s) (block_points b u) u (after_block b u) late
        (λ h. let k = arms_come a (nowhere s) s g.0 h long in (k.0, λ q. k.1 q (all_get s.defined c (long_is s long))))
        (λ h. block_keeps b u h) (λ h. block_comes b u g.1 h (long_arms a (nowhere s) s long))

    arms_come : (a : PlanArms) (ended s : Known) → made_bare_arms a ≡ true → (arms_walk c (stripped_arms a) ≡ Early → ⊥) → Long s → Fine (arms_points a s) × (arms_walk c (stripped_arms a) ≡ Defined → is_defined ended c ≡ true → is_defined (after_arms a ended s) c ≡ true)
    arms_come no_arms ended s bare late long = (tt, λ q h. cc)
    arms_come (made_else b) ended s bare late long = (bare_fine b s bare, λ q h. cc)
    arms_come (then_arm l None b rest) ended s bare late long =
        let g = and_parts (made_bare b) (made_bare_arms rest) bare in
        let r = after_block b s in
        let i = block_comes b s g.0 late long in
        let gone : is_defined (nowhere s) c ≡ true = all_get s.defined c (long_is s long) in (
          fine_two (block_points b s) (arms_points rest (nowhere s)) i.0 (arms_keep rest (nowhere s) (nowhere s) gone gone).0,
          λ q h. (arms_keep rest (joined ended r) (nowhere s) (both_true ended.defined r.defined c h (i.1 q)) gone).1,
        )
    arms_come (then_arm l (Some e) b rest) ended s bare late long =
        let g = and_parts (made_bare b) (made_bare_arms rest) bare in
        let u = after (term_tokens e) s in
        let lu = long_after (term_tokens e) s long in
        let r = after_block b u in
        arm_comes (walk c (term_tokens e)) (block_walk c (stripped b)) (arms_walk c (stripped_arms rest)) (points (term_tokens e) s) (block_points b u) (arms_points rest u) ended u r (after_arms rest (joined ended r) u) late
        (λ h. tokens_come (term_tokens e) s h long) (λ h. block_keeps b u h) (λ h. (arms_keep rest u u h h).0) (λ h k. (arms_keep rest (joined ended r) u k h).1)
        (λ h. block_comes b u g.0 h lu) (λ h. arms_come rest (joined ended r) u g.1 h lu)

  pub fine_at : (ps : List Point) (r : Ref) (y : Known) → Fine ps → In (uses r, y) ps → r.cell ≡ c → is_defined y c ≡ true
  fine_at [] r y f i e = absurd i
  fine_at ((uses q, k) ∷ ps) r y f (inl z) e =
      let same : r ≡ q = ap (λ (x : Point). ref_in r x.0) z in
      subst (λ (s : Known). is_defined s c ≡ true) (sym (ap (λ (x : Point). x.1) z)) (f.0 (sym (ap (λ (x : Ref). x.cell) same) ∙ e))
    where
      ref_in : Ref → Token → Ref
      ref_in d (uses x) = x
      ref_in d _ = d
  fine_at ((uses q, k) ∷ ps) r y f (inr i) e = fine_at ps r y f.1 i e
  fine_at ((defines q, k) ∷ ps) r y f (inl z) e = let w : uses r ≡ defines q = ap (λ (x : Point). x.0) z in cc
  fine_at ((defines q, k) ∷ ps) r y f (inr i) e = fine_at ps r y f i e
  fine_at ((await n d, k) ∷ ps) r y f (inl z) e = let w : uses r ≡ await n d = ap (λ (x : Point). x.0) z in cc
  fine_at ((await n d, k) ∷ ps) r y f (inr i) e = fine_at ps r y f i e
  fine_at ((advance n, k) ∷ ps) r y f (inl z) e = let w : uses r ≡ advance n = ap (λ (x : Point). x.0) z in cc
  fine_at ((advance n, k) ∷ ps) r y f (inr i) e = fine_at ps r y f i e

-- the scalars of the plan's private names that its points use are used early on no path of the
-- range
pub never_early_of : (cells : ℕ) (p : PlanTree) → made_bare p.body ≡ true
    → ((r : Ref) (y : Known) → In (uses r, y) (block_points p.body (first cells)) → has_name p.privates r.name ≡ true → (block_walk r.cell (stripped p.body) ≡ Early → ⊥) × (r.cell < cells))
    → never_early cells p ≡ true
never_early_of cells p bare late = all_from (λ (x : Point). is_late p x) (block_points p.body (first cells)) (λ x i. by x.0 x.1 i)
  where
    either : (a b : Bool) → (a ≡ true → b ≡ true) → (not a || b) ≡ true
    either true b k = k refl
    either false b k = refl

    by : (x : Token) (y : Known) → In (x, y) (block_points p.body (first cells)) → is_late p (x, y) ≡ true
    by (uses r) y i = either (has_name p.privates r.name) (is_defined y r.cell) (λ h.
        let q = late r y i h in
        let long = length-replicate {A = Bool} cells false in
        let l = q.1 in
        fine_at r.cell (block_points p.body (first cells)) r y (block_comes r.cell p.body (first cells) bare q.0 (omega (arith, long, l))).0 i refl)
    by (defines r) y i = refl
    by (await n d) y i = refl
    by (advance n) y i = refl
