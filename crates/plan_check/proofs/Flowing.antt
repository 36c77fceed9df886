-- Each way along the paths of a part of a plan: what is known at its end, and before each of its
-- tokens.
use Rattle.std.proofs.Common.{◌≡◌, ◌∙◌, ◌⊎◌, inl, inr, ℕ, zero, suc, Bool, true, List, [], ◌∷◌, ◌++◌, refl, sym, ap, subst, ⊎_elim, Some, None}
use Rattle.std.specs.Prelude.{◌&&◌, ◌==◌, nat_le}
use Rattle.std.proofs.lemmas.Bool.{and_from, and_parts}
use Rattle.std.proofs.Math.Bool.{or-true}
use Rattle.ast.specs.References.{expressions_references, items_expressions, optional, term_references, terms_references}
use Rattle.ast.specs.Tree.{Ref, Access, DoHead, Kind, program, integer, dimension, parameters, assign, do_loop, go_on, block_if, else_if, else_arm, end_if, logical_if, print, read, stop, end}
use Rattle.ast.proofs.Lists.{not_empty}
use Rattle.dependence.specs.Plan.{awaits, advances, plain, loop, choose, PlanBlock, no_nodes, then_node, PlanArms, no_arms, made_else, then_arm, PlanPaths, PlanArmsPaths}
use Rattle.loop_tree.specs.Paths.{Token, uses, defines, await, advance, Ending, at_end, at_stop, PathSet, Just, Stop, Joined, Then, Either, Times, AnyTimes, KindPaths, used, term_tokens, target_tokens, targets_tokens, head_tokens}
use Rattle.plan_check.proofs.Facts.{Below, Fact, defined, near, free, advanced, fact, run, runs, turn}
use Rattle.plan_check.specs.Flow.{Known, Point, after, after_arms, after_block, after_kind, arms_points, block_points, joined, kind_tokens, no_advance, no_advance_arms, nowhere, outside, outside_arms, points, step}
use Rattle.plan_check.proofs.Members.{In, in_left, in_right, in_which}
use Rattle.plan_check.proofs.Turning.{joined_left, joined_right, step_below}

tail_of : List Token → List Token
tail_of [] = []
tail_of (x ∷ xs) = xs

head_of : Token → List Token → Token
head_of d [] = d
head_of d (x ∷ xs) = x

-- a token of two lists stands in the first, or in the second
abbrev Parted : List Token → List Token → List Token → Token → List Token → Type 0
Parted p q u x v = ((w : List Token) × (p ≡ u ++ x ∷ w)) ⊎ ((w : List Token) × (u ≡ p ++ w) × (q ≡ w ++ x ∷ v))

parted : (p q u v : List Token) (x : Token) → p ++ q ≡ u ++ x ∷ v → Parted p q u x v
parted [] q u v x e = inr (u, refl, e)
parted (y ∷ p) q [] v x e = inl (p, ap (λ (z : Token). z ∷ p) (ap (λ (t : List Token). by t) e))
  where
    by : List Token → Token
    by [] = y
    by (z ∷ zs) = z
parted (y ∷ p) q (z ∷ u) v x e =
    let same : y ≡ z = ap (λ (t : List Token). by t) e in
    ⊎_elim
    (λ h. inl (h.0, ap (λ (t : List Token). y ∷ t) h.1 ∙ ap (λ (a : Token). a ∷ (u ++ x ∷ h.0)) same))
    (λ h. inr (h.0, ap (λ (t : List Token). z ∷ t) h.1 ∙ ap (λ (a : Token). a ∷ (p ++ h.0)) (sym same), h.2))
    (parted p q u v x (ap (λ (t : List Token). rest t) e))
  where
    by : List Token → Token
    by [] = y
    by (w ∷ ws) = w

    rest : List Token → List Token
    rest [] = []
    rest (w ∷ ws) = ws

-- ---- runs

run_append : (f : Fact) (u v : List Token) (b : Bool) → run f (u ++ v) b ≡ run f v (run f u b)
run_append f [] v b = refl
run_append f (x ∷ u) v b = run_append f u v (turn f x b)

below_append : (s : Known) (b : Fact → Bool) (u v : List Token) → Below s (runs v (runs u b)) → Below s (runs (u ++ v) b)
below_append s b u v h f e = run_append f u v (b f) ∙ h f e

-- ---- parts of paths

pub record Stood (ps : List Point) (x : Token) (b : Fact → Bool) : Type 0 where
  pub known : Known
  pub at : In (x, known) ps
  pub below : Below known b

pub record Flows (P : PathSet) (s r : Known) (ps : List Point) : Type 1 where
  pub out : (b : Fact → Bool) → Below s b → (t : List Token) → P at_end t → Below r (runs t b)
  pub at : (b : Fact → Bool) → Below s b → (e : Ending) (t u v : List Token) (x : Token) → P e t → t ≡ u ++ x ∷ v → Stood ps x (runs u b)

abbrev Less : Known → Known → Type 0
Less r s = (f : Fact) → fact f r ≡ true → fact f s ≡ true

flows_less : (P : PathSet) (s m r : Known) (ps : List Point) → Less r m → Flows P s m ps → Flows P s r ps
flows_less P s m r ps l h = record { out = λ b g t p f e. h.out b g t p f (l f e); at = h.at }

after_below : (t : List Token) (s : Known) (b : Fact → Bool) → Below s b → Below (after t s) (runs t b)
after_below [] s b h = h
after_below (x ∷ t) s b h = after_below t (step x s) (λ f. turn f x (b f)) (step_below x s b h)

points_stand : (t u v : List Token) (x : Token) (s : Known) (b : Fact → Bool) → Below s b → t ≡ u ++ x ∷ v → Stood (points t s) x (runs u b)
unfolding head_of tail_of
points_stand [] u v x s b h e = absurd (not_empty u x v e)
points_stand (y ∷ t) [] v x s b h e = record { known = s; at = inl (ap (λ (z : Token). (z, s)) (sym (ap (λ (w : List Token). head_of y w) e))); below = h }
points_stand (y ∷ t) (z ∷ u) v x s b h e =
    let same : y ≡ z = ap (λ (w : List Token). head_of y w) e in
    let m = points_stand t u v x (step y s) (λ f. turn f y (b f)) (step_below y s b h) (ap (λ (w : List Token). tail_of w) e) in
    record { known = m.known; at = inr m.at; below = subst (λ (a : Token). Below m.known (runs (a ∷ u) b)) same m.below }

flows_just : (ts : List Token) (s : Known) → Flows (Just ts) s (after ts s) (points ts s)
flows_just ts s = record {
  out = λ b h t p. subst (λ (w : List Token). Below (after ts s) (runs w b)) (sym p) (after_below ts s b h);
  at = at;
}
  where
    at : (b : Fact → Bool) → Below s b → (e : Ending) (t u v : List Token) (x : Token) → Just ts e t → t ≡ u ++ x ∷ v → Stood (points ts s) x (runs u b)
    at b h at_end t u v x p q = points_stand ts u v x s b h (sym p ∙ q)
    at b h at_stop t u v x p q = absurd p

flows_stop : (s r : Known) → Flows Stop s r []
flows_stop s r = record { out = λ b h t p. absurd p; at = at }
  where
    at : (b : Fact → Bool) → Below s b → (e : Ending) (t u v : List Token) (x : Token) → Stop e t → t ≡ u ++ x ∷ v → Stood [] x (runs u b)
    at b h at_end t u v x p q = absurd p
    at b h at_stop t u v x p q = absurd (not_empty u x v (sym p ∙ q))

more_left : (ps qs : List Point) (x : Token) (b : Fact → Bool) → Stood ps x b → Stood (ps ++ qs) x b
more_left ps qs x b h = record { known = h.known; at = in_left (x, h.known) ps qs h.at; below = h.below }

more_right : (ps qs : List Point) (x : Token) (b : Fact → Bool) → Stood qs x b → Stood (ps ++ qs) x b
more_right ps qs x b h = record { known = h.known; at = in_right (x, h.known) ps qs h.at; below = h.below }

flows_then : (P Q : PathSet) (s m r : Known) (ps qs : List Point) → Flows P s m ps → Flows Q m r qs → Flows (Then P Q) s r (ps ++ qs)
flows_then P Q s m r ps qs h k = record {
  out = λ b g t j. subst (λ (w : List Token). Below r (runs w b)) (sym j.2) (below_append r b j.0 j.1 (k.out (runs j.0 b) (h.out b g j.0 j.3) j.1 j.4));
  at = at;
}
  where
    joins : (b : Fact → Bool) → Below s b → (e : Ending) (t u v : List Token) (x : Token) → Joined P Q e t → t ≡ u ++ x ∷ v → Stood (ps ++ qs) x (runs u b)
    joins b g e t u v x j q = ⊎_elim
        (λ c. more_left ps qs x (runs u b) (h.at b g at_end j.0 u c.0 x j.3 c.1))
        (λ c.
        let d = k.at (runs j.0 b) (h.out b g j.0 j.3) e j.1 c.0 v x j.4 c.2 in
        more_right ps qs x (runs u b) (record { known = d.known; at = d.at; below = subst (λ (w : List Token). Below d.known (runs w b)) (sym c.1) (below_append d.known b j.0 c.0 d.below) }))
        (parted j.0 j.1 u v x (sym j.2 ∙ q))

    at : (b : Fact → Bool) → Below s b → (e : Ending) (t u v : List Token) (x : Token) → Then P Q e t → t ≡ u ++ x ∷ v → Stood (ps ++ qs) x (runs u b)
    at b g at_end t u v x j q = joins b g at_end t u v x j q
    at b g at_stop t u v x (inl p) q = more_left ps qs x (runs u b) (h.at b g at_stop t u v x p q)
    at b g at_stop t u v x (inr j) q = joins b g at_stop t u v x j q

flows_either : (P Q : PathSet) (s r : Known) (ps qs : List Point) → Flows P s r ps → Flows Q s r qs → Flows (Either P Q) s r (ps ++ qs)
flows_either P Q s r ps qs h k = record {
  out = λ b g t c. ⊎_elim (λ p. h.out b g t p) (λ p. k.out b g t p) c;
  at = λ b g e t u v x c q. ⊎_elim (λ p. more_left ps qs x (runs u b) (h.at b g e t u v x p q)) (λ p. more_right ps qs x (runs u b) (k.at b g e t u v x p q)) c;
}

-- ---- what turns nothing off

abbrev Still : Token → Type 0
Still (advance e) = ⊥
Still _ = Unit {0}

abbrev AllStill : List Token → Type 0
AllStill [] = Unit {0}
AllStill (x ∷ t) = Still x × AllStill t

still_turn : (f : Fact) (x : Token) → Still x → turn f x true ≡ true
still_turn (defined c) (uses r) h = refl
still_turn (defined c) (defines r) h = or-true (r.cell == c)
still_turn (defined c) (await n d) h = refl
still_turn (near k m) (uses r) h = refl
still_turn (near k m) (defines r) h = refl
still_turn (near k m) (await n d) h = or-true ((n == k) && nat_le d m)
still_turn (free k) (uses r) h = refl
still_turn (free k) (defines r) h = refl
still_turn (free k) (await n d) h = refl
still_turn (advanced k) (uses r) h = refl
still_turn (advanced k) (defines r) h = refl
still_turn (advanced k) (await n d) h = refl
still_turn f (advance n) h = absurd h

still_append : (u v : List Token) → AllStill u → AllStill v → AllStill (u ++ v)
still_append [] v h k = k
still_append (x ∷ u) v h k = (h.0, still_append u v h.1 k)

still_run : (f : Fact) (t : List Token) (b : Bool) → AllStill t → b ≡ true → run f t b ≡ true
still_run f [] b h e = e
still_run f (x ∷ t) b h e = still_run f t (turn f x b) h.1 (subst (λ (c : Bool). turn f x c ≡ true) (sym e) (still_turn f x h.0))

still_below : (s : Known) (b : Fact → Bool) (t : List Token) → AllStill t → Below s b → Below s (runs t b)
still_below s b t h k f e = still_run f t (b f) h (k f e)

still_used : (rs : List Ref) → AllStill (used rs)
still_used [] = tt
still_used (r ∷ rs) = (tt, still_used rs)

still_target : (a : Access) → AllStill (target_tokens a)
still_target a = still_append (used (terms_references a.subscripts)) (defines a.ref ∷ []) (still_used (terms_references a.subscripts)) (tt, tt)

still_targets : (xs : List Access) → AllStill (targets_tokens xs)
still_targets [] = tt
still_targets (a ∷ more) = still_append (target_tokens a) (targets_tokens more) (still_target a) (still_targets more)

still_head : (h : DoHead) → AllStill (head_tokens h)
still_head h = still_append (used (expressions_references (h.first ∷ h.last ∷ optional h.step))) (defines h.variable ∷ []) (still_used (expressions_references (h.first ∷ h.last ∷ optional h.step))) (tt, tt)

-- each path of a set is still
abbrev Quiet : PathSet → Type 0
Quiet P = (e : Ending) (t : List Token) → P e t → AllStill t

quiet_just : (ts : List Token) → AllStill ts → Quiet (Just ts)
quiet_just ts h at_end t p = subst AllStill (sym p) h
quiet_just ts h at_stop t p = absurd p

quiet_stop : Quiet Stop
quiet_stop at_end t p = absurd p
quiet_stop at_stop t p = subst AllStill (sym p) tt

quiet_then : (P Q : PathSet) → Quiet P → Quiet Q → Quiet (Then P Q)
quiet_then P Q h k = by
  where
    joins : (e : Ending) (t : List Token) → Joined P Q e t → AllStill t
    joins e t j = subst AllStill (sym j.2) (still_append j.0 j.1 (h at_end j.0 j.3) (k e j.1 j.4))

    by : (e : Ending) (t : List Token) → Then P Q e t → AllStill t
    by at_end t j = joins at_end t j
    by at_stop t (inl p) = h at_stop t p
    by at_stop t (inr j) = joins at_stop t j

quiet_either : (P Q : PathSet) → Quiet P → Quiet Q → Quiet (Either P Q)
quiet_either P Q h k e t c = ⊎_elim (λ p. h e t p) (λ p. k e t p) c

quiet_times : (n : ℕ) (P : PathSet) → Quiet P → Quiet (Times n P)
quiet_times zero P h = quiet_just [] tt
quiet_times (suc n) P h = quiet_then P (Times n P) h (quiet_times n P h)

quiet_kind : (k : Kind) → Quiet (KindPaths k)
quiet_kind (assign a e) = quiet_just (term_tokens e ++ target_tokens a) (still_append (term_tokens e) (target_tokens a) (still_used (term_references e)) (still_target a))
quiet_kind (print items) = quiet_just (used (expressions_references (items_expressions items))) (still_used (expressions_references (items_expressions items)))
quiet_kind (read elements) = quiet_just (targets_tokens elements) (still_targets elements)
quiet_kind stop = quiet_stop
quiet_kind (program x) = quiet_just [] tt
quiet_kind (integer x) = quiet_just [] tt
quiet_kind (dimension x) = quiet_just [] tt
quiet_kind (parameters x) = quiet_just [] tt
quiet_kind (do_loop x) = quiet_just [] tt
quiet_kind go_on = quiet_just [] tt
quiet_kind (block_if x) = quiet_just [] tt
quiet_kind (else_if x) = quiet_just [] tt
quiet_kind else_arm = quiet_just [] tt
quiet_kind end_if = quiet_just [] tt
quiet_kind (logical_if x y) = quiet_just [] tt
quiet_kind end = quiet_just [] tt

mutual
  quiet_block : (b : PlanBlock) → no_advance b ≡ true → Quiet (PlanPaths b)
  quiet_block no_nodes h = quiet_just [] tt
  quiet_block (then_node (awaits e d) b) h = quiet_then (Just (await e d ∷ [])) (PlanPaths b) (quiet_just (await e d ∷ []) (tt, tt)) (quiet_block b h)
  quiet_block (then_node (advances e) b) h = cc
  quiet_block (then_node (plain x) b) h = quiet_then (KindPaths x.kind) (PlanPaths b) (quiet_kind x.kind) (quiet_block b h)
  quiet_block (then_node (loop l x c) b) h =
      let g = and_parts (no_advance c) (no_advance b) h in
      let q = quiet_block c g.0 in
      quiet_then (Then (Just (head_tokens x)) (AnyTimes (PlanPaths c))) (PlanPaths b)
      (quiet_then (Just (head_tokens x)) (AnyTimes (PlanPaths c)) (quiet_just (head_tokens x) (still_head x)) (λ e t p. quiet_times p.0 (PlanPaths c) q e t p.1)) (quiet_block b g.1)
  quiet_block (then_node (choose a) b) h = let g = and_parts (no_advance_arms a) (no_advance b) h in quiet_then (PlanArmsPaths a) (PlanPaths b) (quiet_arms a g.0) (quiet_block b g.1)

  quiet_arms : (a : PlanArms) → no_advance_arms a ≡ true → Quiet (PlanArmsPaths a)
  quiet_arms no_arms h = quiet_just [] tt
  quiet_arms (made_else b) h = quiet_block b h
  quiet_arms (then_arm l None b more) h = quiet_block b (and_parts (no_advance b) (no_advance_arms more) h).0
  quiet_arms (then_arm l (Some c) b more) h =
      let g = and_parts (no_advance b) (no_advance_arms more) h in
      quiet_then (Just (term_tokens c)) (Either (PlanPaths b) (PlanArmsPaths more)) (quiet_just (term_tokens c) (still_used (term_references c))) (quiet_either (PlanPaths b) (PlanArmsPaths more) (quiet_block b g.0) (quiet_arms more g.1))

-- ---- what holds no advance has none in a loop

mutual
  pub outside_within : (b : PlanBlock) → no_advance b ≡ true → outside b ≡ true
  outside_within no_nodes h = refl
  outside_within (then_node (awaits e d) b) h = outside_within b h
  outside_within (then_node (advances e) b) h = cc
  outside_within (then_node (plain x) b) h = outside_within b h
  outside_within (then_node (loop l x c) b) h = let g = and_parts (no_advance c) (no_advance b) h in and_from (no_advance c) (outside b) g.0 (outside_within b g.1)
  outside_within (then_node (choose a) b) h = let g = and_parts (no_advance_arms a) (no_advance b) h in and_from (outside_arms a) (outside b) (outside_within_arms a g.0) (outside_within b g.1)

  pub outside_within_arms : (a : PlanArms) → no_advance_arms a ≡ true → outside_arms a ≡ true
  outside_within_arms no_arms h = refl
  outside_within_arms (made_else b) h = outside_within b h
  outside_within_arms (then_arm l c b more) h = let g = and_parts (no_advance b) (no_advance_arms more) h in and_from (outside b) (outside_arms more) (outside_within b g.0) (outside_within_arms more g.1)

-- ---- any number of times

in_twice : (x : Point) (ps : List Point) → In x (ps ++ ps) → In x ps
in_twice x ps h = ⊎_elim (λ g. g) (λ g. g) (in_which x ps ps h)

flows_more : (P : PathSet) (s r : Known) (ps qs : List Point) → Flows P s r ps → Flows P s r (ps ++ qs)
flows_more P s r ps qs h = record { out = h.out; at = λ b g e t u v x p q. more_left ps qs x (runs u b) (h.at b g e t u v x p q) }

flows_again : (P : PathSet) (s r : Known) (ps : List Point) → Flows P s r ps → Quiet P → Flows P s s ps
flows_again P s r ps h q = record { out = λ b g t p. still_below s b t (q at_end t p) g; at = h.at }

flows_so_often : (n : ℕ) (P : PathSet) (s : Known) (ps : List Point) → Flows P s s ps → Flows (Times n P) s s ps
flows_so_often zero P s ps h = let j = flows_just [] s in record { out = j.out; at = λ b g e t u v x p q. let z = j.at b g e t u v x p q in absurd z.at }
flows_so_often (suc n) P s ps h =
    let j = flows_then P (Times n P) s s s ps ps h (flows_so_often n P s ps h) in
    record { out = j.out; at = λ b g e t u v x p q. let z = j.at b g e t u v x p q in record { known = z.known; at = in_twice (x, z.known) ps z.at; below = z.below } }

flows_times : (P : PathSet) (s : Known) (ps : List Point) → Flows P s s ps → Flows (AnyTimes P) s s ps
flows_times P s ps h = record {
  out = λ b g t p. (flows_so_often p.0 P s ps h).out b g t p.1;
  at = λ b g e t u v x p q. (flows_so_often p.0 P s ps h).at b g e t u v x p.1 q;
}

-- ---- over the tree

flows_kind : (k : Kind) (s : Known) → Flows (KindPaths k) s (after_kind k s) (points (kind_tokens k) s)
flows_kind (assign a e) s = flows_just (term_tokens e ++ target_tokens a) s
flows_kind (print items) s = flows_just (used (expressions_references (items_expressions items))) s
flows_kind (read elements) s = flows_just (targets_tokens elements) s
flows_kind stop s = flows_stop s (nowhere s)
flows_kind (program x) s = flows_just [] s
flows_kind (integer x) s = flows_just [] s
flows_kind (dimension x) s = flows_just [] s
flows_kind (parameters x) s = flows_just [] s
flows_kind (do_loop x) s = flows_just [] s
flows_kind go_on s = flows_just [] s
flows_kind (block_if x) s = flows_just [] s
flows_kind (else_if x) s = flows_just [] s
flows_kind else_arm s = flows_just [] s
flows_kind end_if s = flows_just [] s
flows_kind (logical_if x y) s = flows_just [] s
flows_kind end s = flows_just [] s

record ArmsFlow (a : PlanArms) (ended s : Known) : Type 1 where
  before : Less (after_arms a ended s) ended
  flows : Flows (PlanArmsPaths a) s (after_arms a ended s) (arms_points a s)

mutual
  pub flows_block : (b : PlanBlock) → outside b ≡ true → (s : Known) → Flows (PlanPaths b) s (after_block b s) (block_points b s)
  flows_block no_nodes h s = flows_just [] s
  flows_block (then_node (awaits e d) b) h s =
      flows_then (Just (await e d ∷ [])) (PlanPaths b) s (step (await e d) s) (after_block b (step (await e d) s)) (points (await e d ∷ []) s) (block_points b (step (await e d) s)) (flows_just (await e d ∷ []) s) (flows_block b h (step (await e d) s))
  flows_block (then_node (advances e) b) h s =
      flows_then (Just (advance e ∷ [])) (PlanPaths b) s (step (advance e) s) (after_block b (step (advance e) s)) (points (advance e ∷ []) s) (block_points b (step (advance e) s)) (flows_just (advance e ∷ []) s) (flows_block b h (step (advance e) s))
  flows_block (then_node (plain x) b) h s =
      let u = after_kind x.kind s in
      flows_then (KindPaths x.kind) (PlanPaths b) s u (after_block b u) (points (kind_tokens x.kind) s) (block_points b u) (flows_kind x.kind s) (flows_block b h u)
  flows_block (then_node (loop l x c) b) h s =
      let g = and_parts (no_advance c) (outside b) h in
      let u = after (head_tokens x) s in
      let body = flows_block c (outside_within c g.0) u in
      let turns = flows_times (PlanPaths c) u (block_points c u) (flows_again (PlanPaths c) u (after_block c u) (block_points c u) body (quiet_block c g.0)) in
      flows_then (Then (Just (head_tokens x)) (AnyTimes (PlanPaths c))) (PlanPaths b) s u (after_block b u) (points (head_tokens x) s ++ block_points c u) (block_points b u)
      (flows_then (Just (head_tokens x)) (AnyTimes (PlanPaths c)) s u u (points (head_tokens x) s) (block_points c u) (flows_just (head_tokens x) s) turns)
      (flows_block b g.1 u)
  flows_block (then_node (choose a) b) h s =
      let g = and_parts (outside_arms a) (outside b) h in
      let u = after_arms a (nowhere s) s in
      flows_then (PlanArmsPaths a) (PlanPaths b) s u (after_block b u) (arms_points a s) (block_points b u) (flows_arms a g.0 (nowhere s) s).flows (flows_block b g.1 u)

  flows_arms : (a : PlanArms) → outside_arms a ≡ true → (ended s : Known) → ArmsFlow a ended s
  flows_arms no_arms h ended s = record { before = joined_right s ended; flows = flows_less (Just []) s s (joined s ended) [] (joined_left s ended) (flows_just [] s) }
  flows_arms (made_else b) h ended s = let r = after_block b s in record {
    before = joined_right r ended;
    flows = flows_less (PlanPaths b) s r (joined r ended) (block_points b s) (joined_left r ended) (flows_block b h s);
  }
  flows_arms (then_arm l None b more) h ended s =
      let g = and_parts (outside b) (outside_arms more) h in
      let r = after_block b s in
      let rest = flows_arms more g.1 (joined ended r) (nowhere s) in
      let z = after_arms more (joined ended r) (nowhere s) in
      record {
        before = λ f e. joined_left ended r f (rest.before f e);
        flows = flows_less (PlanPaths b) s r z (block_points b s ++ arms_points more (nowhere s)) (λ f e. joined_right ended r f (rest.before f e)) (flows_more (PlanPaths b) s r (block_points b s) (arms_points more (nowhere s)) (flows_block b g.0 s));
      }
  flows_arms (then_arm l (Some c) b more) h ended s =
      let g = and_parts (outside b) (outside_arms more) h in
      let u = after (term_tokens c) s in
      let r = after_block b u in
      let rest = flows_arms more g.1 (joined ended r) u in
      let z = after_arms more (joined ended r) u in
      record {
        before = λ f e. joined_left ended r f (rest.before f e);
        flows = flows_then (Just (term_tokens c)) (Either (PlanPaths b) (PlanArmsPaths more)) s u z (points (term_tokens c) s) (block_points b u ++ arms_points more u) (flows_just (term_tokens c) s)
            (flows_either (PlanPaths b) (PlanArmsPaths more) u z (block_points b u) (arms_points more u)
            (flows_less (PlanPaths b) u r z (block_points b u) (λ f e. joined_right ended r f (rest.before f e)) (flows_block b g.0 u)) rest.flows);
      }
