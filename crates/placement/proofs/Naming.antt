-- The events that a plan that is placed names have sources in the range.
use Rattle.std.proofs.Common.{◌≡◌, ◌∙◌, ◌+◌, ◌≤◌, inl, inr, ℕ, List, [], ◌∷◌, ◌++◌, refl, sym, subst, ⊎_elim, Some, None, arith}
use Rattle.ast.specs.Tree as tree
use Rattle.ast.specs.Tree.{Block, Arms}
use Rattle.dependence.specs.Plan.{plain, loop, choose, PlanBlock, no_nodes, then_node}
use Rattle.plan_check.proofs.Members.{In}
use Rattle.plan_check.specs.GoodPlan.{named, named_arms}
use Rattle.plan_check.proofs.Members.{in_which}
use Rattle.placement.specs.Placing.{arms_size, block_size, events, inner_arms, inner_block, made_for, node_size, placed_arms, placed_block, with_advances, with_awaits}
use Rattle.placement.proofs.Sources.{Ev, arm_sizes, ev_wider, sizes}

module _ (sources : List ℕ) (before : ℕ → List (ℕ × ℕ)) where
  module _ (base total : ℕ) (listed : (x : ℕ) (n : ℕ × ℕ) → In n (before x) → Ev sources before base total n.0 × (1 ≤ n.1)) where
    abbrev Fine : List (ℕ × ℕ) → Type 0
    Fine ns = (n : ℕ × ℕ) → In n ns → Ev sources before base total n.0 × (1 ≤ n.1)

    fine_two : (xs ys : List (ℕ × ℕ)) → Fine xs → Fine ys → Fine (xs ++ ys)
    fine_two xs ys h k n i = ⊎_elim (λ j. h n j) (λ j. k n j) (in_which n xs ys i)

    fine_awaits : (xs : List (ℕ × ℕ)) (b : PlanBlock) → Fine xs → Fine (named b) → Fine (named (with_awaits xs b))
    fine_awaits [] b h k n i = k n i
    fine_awaits (x ∷ xs) b h k n (inl e) = h n (inl e)
    fine_awaits (x ∷ xs) b h k n (inr i) = fine_awaits xs b (λ m j. h m (inr j)) k n i

    fine_advances : (es : List ℕ) (b : PlanBlock) → ((e : ℕ) → In e es → Ev sources before base total e) → Fine (named b) → Fine (named (with_advances es b))
    fine_advances [] b h k n i = k n i
    fine_advances (e ∷ es) b h k n (inl q) = (subst (λ (z : ℕ × ℕ). Ev sources before base total z.0) (sym q) (h e (inl refl)), subst (λ (z : ℕ × ℕ). 1 ≤ z.1) (sym q) (omega arith))
    fine_advances (e ∷ es) b h k n (inr (inl q)) = (subst (λ (z : ℕ × ℕ). Ev sources before base total z.0) (sym q) (h e (inl refl)), subst (λ (z : ℕ × ℕ). 1 ≤ z.1) (sym q) (omega arith))
    fine_advances (e ∷ es) b h k n (inr (inr i)) = fine_advances es b (λ x j. h x (inr j)) k n i

    fine_made : (es : List ℕ) → ((e : ℕ) → In e es → Ev sources before base total e) → Fine (named_arms (made_for es))
    fine_made [] h = λ n i. absurd i
    fine_made (e ∷ es) h = fine_advances (e ∷ es) no_nodes h (λ n i. absurd i)

    within_total : (a b : ℕ) → base ≤ a → b ≤ total → (e : ℕ) → Ev sources before a b e → Ev sources before base total e
    within_total a b k l e i = ev_wider sources before a b base total e k l i

    mutual
      fine_inner : (o : ℕ) (b : Block) → Fine (named (inner_block sources before o b))
      fine_inner o tree.no_nodes = λ n i. absurd i
      fine_inner o (tree.then_node (tree.plain x) b) = fine_awaits (before o) (then_node (plain x) (inner_block sources before (o + node_size (tree.plain x)) b)) (listed o) (fine_inner (o + node_size (tree.plain x)) b)
      fine_inner o (tree.then_node (tree.loop l h c) b) =
          let x = inner_block sources before (o + 1) c in
          let y = inner_block sources before (o + node_size (tree.loop l h c)) b in
          fine_awaits (before o) (then_node (loop l h x) y) (listed o) (fine_two (named x) (named y) (fine_inner (o + 1) c) (fine_inner (o + node_size (tree.loop l h c)) b))
      fine_inner o (tree.then_node (tree.choose a) b) =
          let x = inner_arms sources before (o + 1) a in
          let y = inner_block sources before (o + node_size (tree.choose a)) b in
          fine_awaits (before o) (then_node (choose x) y) (listed o) (fine_two (named_arms x) (named y) (fine_inner_arms (o + 1) a) (fine_inner (o + node_size (tree.choose a)) b))

      fine_inner_arms : (o : ℕ) (a : Arms) → Fine (named_arms (inner_arms sources before o a))
      fine_inner_arms o tree.no_arms = λ n i. absurd i
      fine_inner_arms o (tree.then_arm l c b more) = fine_two (named (inner_block sources before o b)) (named_arms (inner_arms sources before (o + block_size b) more)) (fine_inner o b) (fine_inner_arms (o + block_size b) more)

    mutual
      pub fine_block : (o : ℕ) (b : Block) → base ≤ o → o + block_size b ≤ total → Fine (named (placed_block sources before o b))
      fine_block o tree.no_nodes lo le = λ n i. absurd i
      fine_block o (tree.then_node (tree.plain x) b) lo le =
          let m = o + node_size (tree.plain x) in
          let z = sizes o (tree.plain x) b in
          let rest = placed_block sources before m b in
          let es = events sources before o (o + 1) in
          fine_awaits (before o) (then_node (plain x) (with_advances es rest)) (listed o) (fine_advances es rest (λ e i. within_total o (o + 1) lo (omega (arith, le, z)) e i) (fine_block m b (omega (arith, lo)) (omega (arith, le, z))))
      fine_block o (tree.then_node (tree.loop l h c) b) lo le =
          let m = o + node_size (tree.loop l h c) in
          let z = sizes o (tree.loop l h c) b in
          let rest = placed_block sources before m b in
          let es = events sources before o m in
          let x = inner_block sources before (o + 1) c in
          fine_awaits (before o) (then_node (loop l h x) (with_advances es rest)) (listed o)
          (fine_two (named x) (named (with_advances es rest)) (fine_inner (o + 1) c) (fine_advances es rest (λ e i. within_total o m lo (omega (arith, le, z)) e i) (fine_block m b (omega (arith, lo)) (omega (arith, le, z)))))
      fine_block o (tree.then_node (tree.choose a) b) lo le =
          let m = o + node_size (tree.choose a) in
          let z = sizes o (tree.choose a) b in
          let rest = placed_block sources before m b in
          let es = events sources before o (o + 1) in
          let low = o + 1 in
          let high = o + 1 + arms_size a in
          let x = placed_arms sources before low high low a in
          fine_awaits (before o) (then_node (choose x) (with_advances es rest)) (listed o)
          (fine_two (named_arms x) (named (with_advances es rest)) (fine_arms low high low a (omega (arith, lo)) (omega arith) refl (omega (arith, le, z))) (fine_advances es rest (λ e i. within_total o (o + 1) lo (omega (arith, le, z)) e i) (fine_block m b (omega (arith, lo)) (omega (arith, le, z)))))

      fine_arms : (low high o : ℕ) (a : Arms) → base ≤ low → low ≤ o → high ≡ o + arms_size a → high ≤ total → Fine (named_arms (placed_arms sources before low high o a))
      fine_arms low high o tree.no_arms lo l q le = fine_made (events sources before low high) (λ e i. within_total low high lo le e i)
      fine_arms low high o (tree.then_arm x None b more) lo l q le =
          let m = o + block_size b in
          let top : high ≡ m + arms_size more = q ∙ arm_sizes o x None b more in
          let body = placed_block sources before o b in
          let y = with_advances (events sources before m high) body in
          let z = inner_arms sources before m more in
          fine_two (named (with_advances (events sources before low o) y)) (named_arms z)
          (fine_advances (events sources before low o) y (λ e i. within_total low o lo (omega (arith, q, le)) e i) (fine_advances (events sources before m high) body (λ e i. within_total m high (omega (arith, lo, l)) le e i) (fine_block o b (omega (arith, lo, l)) (omega (arith, top, le)))))
          (fine_inner_arms m more)
      fine_arms low high o (tree.then_arm x (Some c) b more) lo l q le =
          let m = o + block_size b in
          let top : high ≡ m + arms_size more = q ∙ arm_sizes o x (Some c) b more in
          let body = placed_block sources before o b in
          let y = with_advances (events sources before m high) body in
          let z = placed_arms sources before low high m more in
          fine_two (named (with_advances (events sources before low o) y)) (named_arms z)
          (fine_advances (events sources before low o) y (λ e i. within_total low o lo (omega (arith, q, le)) e i) (fine_advances (events sources before m high) body (λ e i. within_total m high (omega (arith, lo, l)) le e i) (fine_block o b (omega (arith, lo, l)) (omega (arith, top, le)))))
          (fine_arms low high m more lo (omega (arith, l)) top le)
