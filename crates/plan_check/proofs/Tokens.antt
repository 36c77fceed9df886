-- What stands on a path stands in the plan; its references are the loop's.
use Rattle.std.proofs.Common.{◌≡◌, ◌∙◌, inl, inr, ℕ, zero, suc, ◌+◌, true, List, [], ◌∷◌, ◌++◌, length, refl, sym, ap, subst, ⊎_elim, Some, None, append_assoc}
use Rattle.std.proofs.lemmas.Bool.{and_parts}
use Rattle.ast.specs.References.{expressions_references, items_expressions}
use Rattle.ast.specs.Tree as tree
use Rattle.ast.specs.Tree.{Kind, program, integer, dimension, parameters, assign, do_loop, go_on, block_if, else_if, else_arm, end_if, logical_if, print, read, stop, end}
use Rattle.dependence.specs.Plan.{PlanNode, awaits, advances, plain, loop, choose, PlanBlock, no_nodes, then_node, PlanArms, no_arms, made_else, then_arm, PlanNodePaths, PlanPaths, PlanArmsPaths}
use Rattle.loop_tree.specs.Occurrences.{Occurrence, arms_occurrences, block_occurrences, head_occurrences, kind_occurrences, term_occurrences, node_lines, block_lines}
use Rattle.loop_tree.specs.Paths.{Token, uses, defines, await, advance, Ending, at_end, at_stop, PathSet, Just, Stop, Joined, Then, Either, Times, AnyTimes, KindPaths, used, term_tokens, targets_tokens, target_tokens, head_tokens}
use Rattle.plan_check.specs.Checking.{tokens_of}
use Rattle.plan_check.specs.Flow.{kind_tokens}
use Rattle.plan_check.specs.GoodPlan.{made_bare, made_bare_arms, only_events, stripped, stripped_arms, token_of}
use Rattle.plan_check.proofs.Members.{In, in_left, in_right, in_which}
use Rattle.plan_check.proofs.Parallel.{NoEvents, head_are, kind_are, no_events, term_are, tokens_append, two}

-- the tokens of a plan, in order
abbrev mutual
  pub block_tokens : PlanBlock → List Token
  block_tokens no_nodes = []
  block_tokens (then_node n b) = node_tokens n ++ block_tokens b

  pub node_tokens : PlanNode → List Token
  node_tokens (awaits e d) = await e d ∷ []
  node_tokens (advances e) = advance e ∷ []
  node_tokens (plain s) = kind_tokens s.kind
  node_tokens (loop l h b) = head_tokens h ++ block_tokens b
  node_tokens (choose a) = arms_tokens a

  pub arms_tokens : PlanArms → List Token
  arms_tokens no_arms = []
  arms_tokens (made_else b) = block_tokens b
  arms_tokens (then_arm l None b more) = block_tokens b ++ arms_tokens more
  arms_tokens (then_arm l (Some c) b more) = term_tokens c ++ (block_tokens b ++ arms_tokens more)

-- each token of these paths is among these
abbrev Within : PathSet → List Token → Type 0
Within P ts = (e : Ending) (t : List Token) → P e t → (x : Token) → In x t → In x ts

within_just : (ts : List Token) → Within (Just ts) ts
within_just ts at_end t p x i = subst (λ (u : List Token). In x u) p i
within_just ts at_stop t p x i = absurd p

within_stop : (ts : List Token) → Within Stop ts
within_stop ts at_end t p x i = absurd p
within_stop ts at_stop t p x i = absurd (subst (λ (u : List Token). In x u) p i)

within_then : (P Q : PathSet) (ps qs : List Token) → Within P ps → Within Q qs → Within (Then P Q) (ps ++ qs)
within_then P Q ps qs h k = by
  where
    joins : (e : Ending) (t : List Token) → Joined P Q e t → (x : Token) → In x t → In x (ps ++ qs)
    joins e t j x i = ⊎_elim (λ a. in_left x ps qs (h at_end j.0 j.3 x a)) (λ b. in_right x ps qs (k e j.1 j.4 x b)) (in_which x j.0 j.1 (subst (λ (u : List Token). In x u) j.2 i))

    by : (e : Ending) (t : List Token) → Then P Q e t → (x : Token) → In x t → In x (ps ++ qs)
    by at_end t j x i = joins at_end t j x i
    by at_stop t (inl p) x i = in_left x ps qs (h at_stop t p x i)
    by at_stop t (inr j) x i = joins at_stop t j x i

within_either : (P Q : PathSet) (ps qs : List Token) → Within P ps → Within Q qs → Within (Either P Q) (ps ++ qs)
within_either P Q ps qs h k e t c x i = ⊎_elim (λ p. in_left x ps qs (h e t p x i)) (λ q. in_right x ps qs (k e t q x i)) c

within_times : (n : ℕ) (P : PathSet) (ps : List Token) → Within P ps → Within (Times n P) ps
within_times zero P ps h e t p x i = absurd (within_just [] e t p x i)
within_times (suc n) P ps h e t p x i = ⊎_elim (λ a. a) (λ a. a) (in_which x ps ps (within_then P (Times n P) ps ps h (within_times n P ps h) e t p x i))

within_kind : (k : Kind) → Within (KindPaths k) (kind_tokens k)
within_kind (assign a e) = within_just (term_tokens e ++ target_tokens a)
within_kind (print items) = within_just (used (expressions_references (items_expressions items)))
within_kind (read elements) = within_just (targets_tokens elements)
within_kind stop = within_stop []
within_kind (program x) = within_just []
within_kind (integer x) = within_just []
within_kind (dimension x) = within_just []
within_kind (parameters x) = within_just []
within_kind (do_loop x) = within_just []
within_kind go_on = within_just []
within_kind (block_if x) = within_just []
within_kind (else_if x) = within_just []
within_kind else_arm = within_just []
within_kind end_if = within_just []
within_kind (logical_if x y) = within_just []
within_kind end = within_just []

mutual
  pub block_within : (b : PlanBlock) → Within (PlanPaths b) (block_tokens b)
  block_within no_nodes = within_just []
  block_within (then_node n b) = within_then (PlanNodePaths n) (PlanPaths b) (node_tokens n) (block_tokens b) (node_within n) (block_within b)

  node_within : (n : PlanNode) → Within (PlanNodePaths n) (node_tokens n)
  node_within (awaits e d) = within_just (await e d ∷ [])
  node_within (advances e) = within_just (advance e ∷ [])
  node_within (plain s) = within_kind s.kind
  node_within (loop l h b) = within_then (Just (head_tokens h)) (AnyTimes (PlanPaths b)) (head_tokens h) (block_tokens b) (within_just (head_tokens h)) (λ e t p. within_times p.0 (PlanPaths b) (block_tokens b) (block_within b) e t p.1)
  node_within (choose a) = arms_within a

  arms_within : (a : PlanArms) → Within (PlanArmsPaths a) (arms_tokens a)
  arms_within no_arms = within_just []
  arms_within (made_else b) = block_within b
  arms_within (then_arm l None b more) = λ e t p x i. in_left x (block_tokens b) (arms_tokens more) (block_within b e t p x i)
  arms_within (then_arm l (Some c) b more) = within_then (Just (term_tokens c)) (Either (PlanPaths b) (PlanArmsPaths more)) (term_tokens c) (block_tokens b ++ arms_tokens more) (within_just (term_tokens c)) (within_either (PlanPaths b) (PlanArmsPaths more) (block_tokens b) (arms_tokens more) (block_within b) (arms_within more))

-- ---- the references among them

abbrev pub of_references : List Token → List Token
of_references [] = []
of_references (uses r ∷ t) = uses r ∷ of_references t
of_references (defines r ∷ t) = defines r ∷ of_references t
of_references (await e d ∷ t) = of_references t
of_references (advance e ∷ t) = of_references t

of_append : (t u : List Token) → of_references (t ++ u) ≡ of_references t ++ of_references u
of_append [] u = refl
of_append (uses r ∷ t) u = ap (λ (w : List Token). uses r ∷ w) (of_append t u)
of_append (defines r ∷ t) u = ap (λ (w : List Token). defines r ∷ w) (of_append t u)
of_append (await e d ∷ t) u = of_append t u
of_append (advance e ∷ t) u = of_append t u

of_all : (t : List Token) → NoEvents t → of_references t ≡ t
of_all [] h = refl
of_all (uses r ∷ t) h = ap (λ (w : List Token). uses r ∷ w) (of_all t h)
of_all (defines r ∷ t) h = ap (λ (w : List Token). defines r ∷ w) (of_all t h)
of_all (await e d ∷ t) h = absurd h
of_all (advance e ∷ t) h = absurd h

of_are : (os : List Occurrence) (t : List Token) → tokens_of os ≡ t → tokens_of os ≡ of_references t
of_are os t e = e ∙ sym (of_all t (subst NoEvents e (no_events os)))

of_two : (os ps : List Occurrence) (t u : List Token) → tokens_of os ≡ of_references t → tokens_of ps ≡ of_references u → tokens_of (os ++ ps) ≡ of_references (t ++ u)
of_two os ps t u e f = tokens_append os ps ∙ two e f ∙ sym (of_append t u)

bare_none : (b : PlanBlock) → only_events b ≡ true → of_references (block_tokens b) ≡ []
bare_none no_nodes h = refl
bare_none (then_node (awaits e d) b) h = bare_none b h
bare_none (then_node (advances e) b) h = bare_none b h
bare_none (then_node (plain x) b) h = cc
bare_none (then_node (loop l x c) b) h = cc
bare_none (then_node (choose a) b) h = cc

mutual
  pub block_same : (n : ℕ) (b : PlanBlock) → made_bare b ≡ true → tokens_of (block_occurrences n (stripped b)) ≡ of_references (block_tokens b)
  block_same n no_nodes h = refl
  block_same n (then_node (awaits e d) b) h = block_same n b h
  block_same n (then_node (advances e) b) h = block_same n b h
  block_same n (then_node (plain x) b) h =
      let m = n + length (node_lines (tree.plain x)) in
      of_two (kind_occurrences n x.kind) (block_occurrences m (stripped b)) (kind_tokens x.kind) (block_tokens b) (of_are (kind_occurrences n x.kind) (kind_tokens x.kind) (kind_are n x.kind)) (block_same m b h)
  block_same n (then_node (loop l x c) b) h =
      let g = and_parts (made_bare c) (made_bare b) h in
      let m = n + length (node_lines (tree.loop l x (stripped c))) in
      of_two (head_occurrences n x ++ block_occurrences (n + 1) (stripped c)) (block_occurrences m (stripped b)) (head_tokens x ++ block_tokens c) (block_tokens b)
      (of_two (head_occurrences n x) (block_occurrences (n + 1) (stripped c)) (head_tokens x) (block_tokens c) (of_are (head_occurrences n x) (head_tokens x) (head_are n x)) (block_same (n + 1) c g.0))
      (block_same m b g.1)
  block_same n (then_node (choose a) b) h =
      let g = and_parts (made_bare_arms a) (made_bare b) h in
      let m = n + length (node_lines (tree.choose (stripped_arms a))) in
      of_two (arms_occurrences n (n + 1) (stripped_arms a)) (block_occurrences m (stripped b)) (arms_tokens a) (block_tokens b) (arms_same n (n + 1) a g.0) (block_same m b g.1)

  arms_same : (i n : ℕ) (a : PlanArms) → made_bare_arms a ≡ true → tokens_of (arms_occurrences i n (stripped_arms a)) ≡ of_references (arms_tokens a)
  arms_same i n no_arms h = refl
  arms_same i n (made_else b) h = sym (bare_none b h)
  arms_same i n (then_arm l None b more) h =
      let g = and_parts (made_bare b) (made_bare_arms more) h in
      let m = n + length (block_lines (stripped b)) in
      of_two (block_occurrences n (stripped b)) (arms_occurrences i m (stripped_arms more)) (block_tokens b) (arms_tokens more) (block_same n b g.0) (arms_same i m more g.1)
  arms_same i n (then_arm l (Some c) b more) h =
      let g = and_parts (made_bare b) (made_bare_arms more) h in
      let m = n + length (block_lines (stripped b)) in
      ap tokens_of (append_assoc (term_occurrences i c) (block_occurrences n (stripped b)) (arms_occurrences i m (stripped_arms more)))
      ∙ of_two (term_occurrences i c) (block_occurrences n (stripped b) ++ arms_occurrences i m (stripped_arms more)) (term_tokens c) (block_tokens b ++ arms_tokens more) (of_are (term_occurrences i c) (term_tokens c) (term_are i c))
      (of_two (block_occurrences n (stripped b)) (arms_occurrences i m (stripped_arms more)) (block_tokens b) (arms_tokens more) (block_same n b g.0) (arms_same i m more g.1))

abbrev pub IsReference : Token → Type 0
IsReference (uses r) = Unit {0}
IsReference (defines r) = Unit {0}
IsReference _ = ⊥

kept_in : (x : Token) (t : List Token) → IsReference x → In x t → In x (of_references t)
kept_in x [] r i = absurd i
kept_in x (uses q ∷ t) r (inl e) = inl e
kept_in x (uses q ∷ t) r (inr i) = inr (kept_in x t r i)
kept_in x (defines q ∷ t) r (inl e) = inl e
kept_in x (defines q ∷ t) r (inr i) = inr (kept_in x t r i)
kept_in x (await n d ∷ t) r (inl e) = absurd (subst IsReference e r)
kept_in x (await n d ∷ t) r (inr i) = kept_in x t r i
kept_in x (advance n ∷ t) r (inl e) = absurd (subst IsReference e r)
kept_in x (advance n ∷ t) r (inr i) = kept_in x t r i

from_map : (x : Token) (os : List Occurrence) → In x (tokens_of os) → (o : Occurrence) × In o os × (token_of o ≡ x)
from_map x [] i = absurd i
from_map x (o ∷ os) (inl e) = (o, inl refl, sym e)
from_map x (o ∷ os) (inr i) = let k = from_map x os i in (k.0, inr k.1, k.2)

-- a reference on a path of the plan is one of the loop's range
pub reference_of : (n : ℕ) (b : PlanBlock) → made_bare b ≡ true → (e : Ending) (t : List Token) → PlanPaths b e t → (x : Token) → IsReference x → In x t → (o : Occurrence) × In o (block_occurrences n (stripped b)) × (token_of o ≡ x)
reference_of n b bare e t p x r i = from_map x (block_occurrences n (stripped b)) (subst (λ (u : List Token). In x u) (sym (block_same n b bare)) (kept_in x (block_tokens b) r (block_within b e t p x i)))
