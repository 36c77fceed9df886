-- The events of points are those that the plan names.
use Rattle.std.proofs.Common.{inl, inr, ℕ, List, [], ◌∷◌, ◌++◌, refl, sym, subst, ⊎_elim, Some, None}
use Rattle.ast.specs.References.{expressions_references, items_expressions, optional, term_references, terms_references}
use Rattle.ast.specs.Tree.{Ref, Access, DoHead, Kind, program, integer, dimension, parameters, assign, do_loop, go_on, block_if, else_if, else_arm, end_if, logical_if, print, read, stop, end}
use Rattle.dependence.specs.Plan.{awaits, advances, plain, loop, choose, PlanBlock, no_nodes, then_node, PlanArms, no_arms, made_else, then_arm, PlanPaths}
use Rattle.loop_tree.specs.Paths.{Token, Ending, uses, defines, await, advance, used, term_tokens, target_tokens, targets_tokens, head_tokens}
use Rattle.plan_check.specs.Flow.{kind_tokens}
use Rattle.plan_check.proofs.Tokens.{arms_tokens, block_tokens, block_within}
use Rattle.plan_check.specs.GoodPlan.{named, named_arms}
use Rattle.plan_check.proofs.Members.{In, in_left, in_right, in_which}

-- an event of a token is one of these
abbrev pub Of : List (ℕ × ℕ) → Token → Type 0
Of ns (uses r) = Unit {0}
Of ns (defines r) = Unit {0}
Of ns (await e d) = In (e, d) ns
Of ns (advance e) = In (e, 1) ns

abbrev AllOf : List (ℕ × ℕ) → List Token → Type 0
AllOf ns [] = Unit {0}
AllOf ns (x ∷ t) = Of ns x × AllOf ns t

all_append : (ns : List (ℕ × ℕ)) (t u : List Token) → AllOf ns t → AllOf ns u → AllOf ns (t ++ u)
all_append ns [] u h k = k
all_append ns (x ∷ t) u h k = (h.0, all_append ns t u h.1 k)

all_used : (ns : List (ℕ × ℕ)) (rs : List Ref) → AllOf ns (used rs)
all_used ns [] = tt
all_used ns (r ∷ rs) = (tt, all_used ns rs)

all_target : (ns : List (ℕ × ℕ)) (a : Access) → AllOf ns (target_tokens a)
all_target ns a = all_append ns (used (terms_references a.subscripts)) (defines a.ref ∷ []) (all_used ns (terms_references a.subscripts)) (tt, tt)

all_targets : (ns : List (ℕ × ℕ)) (xs : List Access) → AllOf ns (targets_tokens xs)
all_targets ns [] = tt
all_targets ns (a ∷ more) = all_append ns (target_tokens a) (targets_tokens more) (all_target ns a) (all_targets ns more)

all_kind : (ns : List (ℕ × ℕ)) (k : Kind) → AllOf ns (kind_tokens k)
all_kind ns (assign a e) = all_append ns (term_tokens e) (target_tokens a) (all_used ns (term_references e)) (all_target ns a)
all_kind ns (print items) = all_used ns (expressions_references (items_expressions items))
all_kind ns (read elements) = all_targets ns elements
all_kind ns stop = tt
all_kind ns (program x) = tt
all_kind ns (integer x) = tt
all_kind ns (dimension x) = tt
all_kind ns (parameters x) = tt
all_kind ns (do_loop x) = tt
all_kind ns go_on = tt
all_kind ns (block_if x) = tt
all_kind ns (else_if x) = tt
all_kind ns else_arm = tt
all_kind ns end_if = tt
all_kind ns (logical_if x y) = tt
all_kind ns end = tt

all_head : (ns : List (ℕ × ℕ)) (h : DoHead) → AllOf ns (head_tokens h)
all_head ns h = all_append ns (used (expressions_references (h.first ∷ h.last ∷ optional h.step))) (defines h.variable ∷ []) (all_used ns (expressions_references (h.first ∷ h.last ∷ optional h.step))) (tt, tt)

at : (ns : List (ℕ × ℕ)) (t : List Token) (x : Token) → AllOf ns t → In x t → Of ns x
at ns [] x h i = absurd i
at ns (y ∷ t) x h (inl e) = subst (λ (z : Token). Of ns z) (sym e) h.0
at ns (y ∷ t) x h (inr i) = at ns t x h.1 i

wider : (ns ms : List (ℕ × ℕ)) → ((n : ℕ × ℕ) → In n ns → In n ms) → (x : Token) → Of ns x → Of ms x
wider ns ms h (uses r) o = tt
wider ns ms h (defines r) o = tt
wider ns ms h (await e d) o = h (e, d) o
wider ns ms h (advance e) o = h (e, 1) o

mutual
  pub block_named : (b : PlanBlock) (x : Token) → In x (block_tokens b) → Of (named b) x
  block_named no_nodes x i = absurd i
  block_named (then_node (awaits e d) b) x (inl z) = subst (λ (y : Token). Of ((e, d) ∷ named b) y) (sym z) (inl refl)
  block_named (then_node (awaits e d) b) x (inr i) = wider (named b) ((e, d) ∷ named b) (λ n m. inr m) x (block_named b x i)
  block_named (then_node (advances e) b) x (inl z) = subst (λ (y : Token). Of ((e, 1) ∷ named b) y) (sym z) (inl refl)
  block_named (then_node (advances e) b) x (inr i) = wider (named b) ((e, 1) ∷ named b) (λ n m. inr m) x (block_named b x i)
  block_named (then_node (plain y) b) x i = ⊎_elim
      (λ j. at (named b) (kind_tokens y.kind) x (all_kind (named b) y.kind) j)
      (λ j. block_named b x j)
      (in_which x (kind_tokens y.kind) (block_tokens b) i)
  block_named (then_node (loop l h c) b) x i = ⊎_elim
      (λ j. ⊎_elim
      (λ m. at (named c ++ named b) (head_tokens h) x (all_head (named c ++ named b) h) m)
      (λ m. wider (named c) (named c ++ named b) (λ n q. in_left n (named c) (named b) q) x (block_named c x m))
      (in_which x (head_tokens h) (block_tokens c) j))
      (λ j. wider (named b) (named c ++ named b) (λ n q. in_right n (named c) (named b) q) x (block_named b x j))
      (in_which x (head_tokens h ++ block_tokens c) (block_tokens b) i)
  block_named (then_node (choose a) b) x i = ⊎_elim
      (λ j. wider (named_arms a) (named_arms a ++ named b) (λ n q. in_left n (named_arms a) (named b) q) x (arms_named a x j))
      (λ j. wider (named b) (named_arms a ++ named b) (λ n q. in_right n (named_arms a) (named b) q) x (block_named b x j))
      (in_which x (arms_tokens a) (block_tokens b) i)

  arms_named : (a : PlanArms) (x : Token) → In x (arms_tokens a) → Of (named_arms a) x
  arms_named no_arms x i = absurd i
  arms_named (made_else b) x i = block_named b x i
  arms_named (then_arm l None b more) x i = ⊎_elim
      (λ j. wider (named b) (named b ++ named_arms more) (λ n q. in_left n (named b) (named_arms more) q) x (block_named b x j))
      (λ j. wider (named_arms more) (named b ++ named_arms more) (λ n q. in_right n (named b) (named_arms more) q) x (arms_named more x j))
      (in_which x (block_tokens b) (arms_tokens more) i)
  arms_named (then_arm l (Some c) b more) x i = ⊎_elim
      (λ j. at (named b ++ named_arms more) (term_tokens c) x (all_used (named b ++ named_arms more) (term_references c)) j)
      (λ j. ⊎_elim
      (λ m. wider (named b) (named b ++ named_arms more) (λ n q. in_left n (named b) (named_arms more) q) x (block_named b x m))
      (λ m. wider (named_arms more) (named b ++ named_arms more) (λ n q. in_right n (named b) (named_arms more) q) x (arms_named more x m))
      (in_which x (block_tokens b) (arms_tokens more) j))
      (in_which x (term_tokens c) (block_tokens b ++ arms_tokens more) i)

-- an event on a path is one that the plan names
pub named_on : (b : PlanBlock) (e : Ending) (u v : List Token) (x : Token) → PlanPaths b e (u ++ x ∷ v) → Of (named b) x
named_on b e u v x p = block_named b x (block_within b e (u ++ x ∷ v) p x (in_right x u (x ∷ v) (inl refl)))
