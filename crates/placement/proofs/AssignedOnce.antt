-- The scalars that a range gives values are listed once each, and so are the names of the private
-- ones.
use Rattle.std.proofs.Common.{◌≡◌, ◌∙◌, inl, inr, ℕ, Bool, true, false, not, List, [], ◌∷◌, ◌++◌, map, refl, sym, ap, subst}
use Rattle.std.specs.Prelude.{◌==◌, ◌||◌, if◌then◌else◌}
use Rattle.std.proofs.lemmas.Bool.{and_from, eqb-true, eq-eqb, not_from_false, or_parts}
use Rattle.ast.specs.Store.{same_name}
use Rattle.ast.specs.Tree.{Ref, Terms, no_terms, then_term, Access, Kind, assign, read, print, stop, program, integer, dimension, parameters, do_loop, go_on, block_if, else_if, else_arm, end_if, logical_if, end, Node, plain, loop, choose, Block, no_nodes, then_node, Arms, no_arms, then_arm}
use Rattle.ast.proofs.SameNames.{same_is}
use Rattle.loop_tree.specs.Loops.{IsWhole, Loop, has_cell, with_arms, with_block, with_kind, with_named, with_node, with_scalar, with_target, with_targets}
use Rattle.loop_tree.specs.Private.{Private}
use Rattle.loop_tree.specs.Told.{are_told, known}
use Rattle.placement.proofs.Cells.{known_scalar, one_cell}
use Rattle.placement.proofs.Privates.{picked_in}
use Rattle.plan_check.proofs.Members.{In}
use Rattle.plan_check.specs.Checking.{are_once, has_name}
use Rattle.privatise.specs.Privates.{ArePrivate, Picked}

-- no two of these have one cell
abbrev pub Apart : List Ref → Type 0
Apart [] = Unit {0}
Apart (r ∷ rs) = (has_cell r.cell rs ≡ false) × Apart rs

-- ---- what statements give values

pub unlike : (m n : ℕ) → (m == n) ≡ false → (n == m) ≡ false
unlike m n h = by (n == m) refl
  where
    by : (b : Bool) → (n == m) ≡ b → b ≡ false
    by true e = let z : (m == n) ≡ true = eq-eqb m n (sym (eqb-true n m e)) in let y : true ≡ false = sym z ∙ h in cc
    by false e = refl

one_more : (c : ℕ) (rs : List Ref) (q : Ref) → has_cell c rs ≡ false → (q.cell == c) ≡ false → has_cell c (rs ++ q ∷ []) ≡ false
one_more c [] q h k = ap (λ (b : Bool). b || false) k
one_more c (r ∷ rs) q h k =
    let p = or_parts (r.cell == c) (has_cell c rs) h in
    ap (λ (b : Bool). b || has_cell c (rs ++ q ∷ [])) p.0 ∙ one_more c rs q p.1 k

behind : (rs : List Ref) (q : Ref) → has_cell q.cell rs ≡ false → Apart rs → Apart (rs ++ q ∷ [])
behind [] q h a = (refl, tt)
behind (r ∷ rs) q h a =
    let p = or_parts (r.cell == q.cell) (has_cell q.cell rs) h in
    (one_more r.cell rs q a.0 (unlike r.cell q.cell p.0), behind rs q p.1 a.1)

scalar_apart : (rs : List Ref) (q : Ref) → Apart rs → Apart (with_scalar rs q)
scalar_apart rs q a = by (has_cell q.cell rs) refl
  where
    by : (b : Bool) → has_cell q.cell rs ≡ b → Apart (if b then rs else rs ++ q ∷ [])
    by true e = a
    by false e = behind rs q e a

target_apart : (rs : List Ref) (x : Access) → Apart rs → Apart (with_target rs x)
target_apart rs x a = by x.subscripts
  where
    by : (es : Terms) → Apart (with_named rs x.ref es)
    by no_terms = scalar_apart rs x.ref a
    by (then_term e es) = a

targets_apart : (rs : List Ref) (xs : List Access) → Apart rs → Apart (with_targets rs xs)
targets_apart rs [] a = a
targets_apart rs (x ∷ xs) a = targets_apart (with_target rs x) xs (target_apart rs x a)

kind_apart : (rs : List Ref) (k : Kind) → Apart rs → Apart (with_kind rs k)
kind_apart rs (assign x e) a = target_apart rs x a
kind_apart rs (read xs) a = targets_apart rs xs a
kind_apart rs (print x) a = a
kind_apart rs stop a = a
kind_apart rs (program x) a = a
kind_apart rs (integer x) a = a
kind_apart rs (dimension x) a = a
kind_apart rs (parameters x) a = a
kind_apart rs (do_loop x) a = a
kind_apart rs go_on a = a
kind_apart rs (block_if x) a = a
kind_apart rs (else_if x) a = a
kind_apart rs else_arm a = a
kind_apart rs end_if a = a
kind_apart rs (logical_if x k) a = a
kind_apart rs end a = a

mutual
  node_apart : (rs : List Ref) (x : Node) → Apart rs → Apart (with_node rs x)
  node_apart rs (plain s) a = kind_apart rs s.kind a
  node_apart rs (loop l h b) a = block_apart (with_scalar rs h.variable) b (scalar_apart rs h.variable a)
  node_apart rs (choose q) a = arms_apart rs q a

  pub block_apart : (rs : List Ref) (b : Block) → Apart rs → Apart (with_block rs b)
  block_apart rs no_nodes a = a
  block_apart rs (then_node x b) a = block_apart (with_node rs x) b (node_apart rs x a)

  arms_apart : (rs : List Ref) (q : Arms) → Apart rs → Apart (with_arms rs q)
  arms_apart rs no_arms a = a
  arms_apart rs (then_arm l c b more) a = arms_apart (with_block rs b) more (block_apart rs b a)

-- ---- some of them

picked_none : (P : Ref → Type 0) (c : ℕ) (rs ps : List Ref) → Picked P rs ps → has_cell c rs ≡ false → has_cell c ps ≡ false
picked_none P c [] ps e h = ap (has_cell c) e
picked_none P c (r ∷ rs) ps (inl p) h =
    let k = or_parts (r.cell == c) (has_cell c rs) h in
    ap (has_cell c) p.2 ∙ ap (λ (b : Bool). b || has_cell c p.1) k.0 ∙ picked_none P c rs p.1 p.3 k.1
picked_none P c (r ∷ rs) ps (inr p) h = picked_none P c rs ps p.1 (or_parts (r.cell == c) (has_cell c rs) h).1

pub picked_apart : (P : Ref → Type 0) (rs ps : List Ref) → Picked P rs ps → Apart rs → Apart ps
picked_apart P [] ps e a = subst Apart (sym e) tt
picked_apart P (r ∷ rs) ps (inl p) a = subst Apart (sym p.2) (picked_none P r.cell rs p.1 p.3 a.0, picked_apart P rs p.1 p.3 a.1)
picked_apart P (r ∷ rs) ps (inr p) a = picked_apart P rs ps p.1 a.1

-- ---- their names

module _ (l : Loop) (whole : IsWhole l) (told : are_told (known l) ≡ true) where
  -- what a range gives values is listed once each
  assigned_apart : Apart l.assigned
  assigned_apart = subst Apart (sym (ap (λ (m : Loop). m.assigned) whole)) (block_apart [] l.body tt)

  -- one of them has no other's name
  alone : (r : Ref) (rs : List Ref) → has_cell r.cell rs ≡ false → In r l.assigned → ((q : Ref) → In q rs → In q l.assigned) → has_name (map (λ (q : Ref). q.name) rs) r.name ≡ false
  alone r [] h i among = refl
  alone r (q ∷ rs) h i among =
      let k = or_parts (q.cell == r.cell) (has_cell r.cell rs) h in
      by k.0 (same_name q.name r.name) refl (alone r rs k.1 i (λ p j. among p (inr j)))
    where
      by : (q.cell == r.cell) ≡ false → (b : Bool) → same_name q.name r.name ≡ b → has_name (map (λ (p : Ref). p.name) rs) r.name ≡ false → (b || has_name (map (λ (p : Ref). p.name) rs) r.name) ≡ false
      by apart true e more =
          let c = one_cell (known l) q r told (known_scalar l q (among q (inl refl))) (known_scalar l r i) (same_is q.name r.name e) in
          let z : false ≡ true = sym apart ∙ eq-eqb q.cell r.cell c in cc
      by apart false e more = more

  names_once : (rs : List Ref) → Apart rs → ((q : Ref) → In q rs → In q l.assigned) → are_once (map (λ (q : Ref). q.name) rs) ≡ true
  names_once [] a among = refl
  names_once (r ∷ rs) a among =
      and_from (not (has_name (map (λ (q : Ref). q.name) rs) r.name)) (are_once (map (λ (q : Ref). q.name) rs))
      (not_from_false (has_name (map (λ (q : Ref). q.name) rs) r.name) (alone r rs a.0 (among r (inl refl)) (λ q i. among q (inr i))))
      (names_once rs a.1 (λ q i. among q (inr i)))

  -- so private names stand once
  pub private_once : (names : List (List ℕ)) → ArePrivate l names → are_once names ≡ true
  private_once names a =
      subst (λ (ns : List (List ℕ)). are_once ns ≡ true) (sym a.named)
      (names_once a.scalars (picked_apart (λ r. Private l r.cell) l.assigned a.scalars a.picked assigned_apart) (λ q i. (picked_in (λ r. Private l r.cell) l.assigned a.scalars a.picked q i).0))
