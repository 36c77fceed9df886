-- No event is advanced in an inner loop of a plan that is placed.
use Rattle.std.proofs.Common.{◌≡◌, ◌+◌, ℕ, true, List, [], ◌∷◌, refl, Some, None}
use Rattle.std.proofs.lemmas.Bool.{and_from}
use Rattle.ast.specs.Tree as tree
use Rattle.ast.specs.Tree.{Block, Arms}
use Rattle.dependence.specs.Plan.{plain, loop, choose, PlanBlock, no_nodes, then_node}
use Rattle.plan_check.specs.Flow.{no_advance, no_advance_arms, outside, outside_arms}
use Rattle.plan_check.proofs.Flowing.{outside_within_arms}
use Rattle.placement.specs.Placing.{arms_size, block_size, events, inner_arms, inner_block, made_for, node_size, placed_arms, placed_block, with_advances, with_awaits}

module _ (sources : List ℕ) (before : ℕ → List (ℕ × ℕ)) where
  still_awaits : (xs : List (ℕ × ℕ)) (b : PlanBlock) → no_advance b ≡ true → no_advance (with_awaits xs b) ≡ true
  still_awaits [] b h = h
  still_awaits (x ∷ xs) b h = still_awaits xs b h

  mutual
    still_inner : (o : ℕ) (b : Block) → no_advance (inner_block sources before o b) ≡ true
    still_inner o tree.no_nodes = refl
    still_inner o (tree.then_node (tree.plain x) b) = still_awaits (before o) (then_node (plain x) (inner_block sources before (o + node_size (tree.plain x)) b)) (still_inner (o + node_size (tree.plain x)) b)
    still_inner o (tree.then_node (tree.loop l h c) b) =
        let x = inner_block sources before (o + 1) c in
        let y = inner_block sources before (o + node_size (tree.loop l h c)) b in
        still_awaits (before o) (then_node (loop l h x) y) (and_from (no_advance x) (no_advance y) (still_inner (o + 1) c) (still_inner (o + node_size (tree.loop l h c)) b))
    still_inner o (tree.then_node (tree.choose a) b) =
        let x = inner_arms sources before (o + 1) a in
        let y = inner_block sources before (o + node_size (tree.choose a)) b in
        still_awaits (before o) (then_node (choose x) y) (and_from (no_advance_arms x) (no_advance y) (still_inner_arms (o + 1) a) (still_inner (o + node_size (tree.choose a)) b))

    still_inner_arms : (o : ℕ) (a : Arms) → no_advance_arms (inner_arms sources before o a) ≡ true
    still_inner_arms o tree.no_arms = refl
    still_inner_arms o (tree.then_arm l c b more) = and_from (no_advance (inner_block sources before o b)) (no_advance_arms (inner_arms sources before (o + block_size b) more)) (still_inner o b) (still_inner_arms (o + block_size b) more)

  outside_awaits : (xs : List (ℕ × ℕ)) (b : PlanBlock) → outside b ≡ true → outside (with_awaits xs b) ≡ true
  outside_awaits [] b h = h
  outside_awaits (x ∷ xs) b h = outside_awaits xs b h

  outside_advances : (es : List ℕ) (b : PlanBlock) → outside b ≡ true → outside (with_advances es b) ≡ true
  outside_advances [] b h = h
  outside_advances (e ∷ es) b h = outside_advances es b h

  outside_made : (es : List ℕ) → outside_arms (made_for es) ≡ true
  outside_made [] = refl
  outside_made (e ∷ es) = outside_advances (e ∷ es) no_nodes refl

  mutual
    pub outside_placed : (o : ℕ) (b : Block) → outside (placed_block sources before o b) ≡ true
    outside_placed o tree.no_nodes = refl
    outside_placed o (tree.then_node (tree.plain x) b) =
        let m = o + node_size (tree.plain x) in
        let es = events sources before o (o + 1) in
        outside_awaits (before o) (then_node (plain x) (with_advances es (placed_block sources before m b))) (outside_advances es (placed_block sources before m b) (outside_placed m b))
    outside_placed o (tree.then_node (tree.loop l h c) b) =
        let m = o + node_size (tree.loop l h c) in
        let es = events sources before o m in
        let x = inner_block sources before (o + 1) c in
        let y = with_advances es (placed_block sources before m b) in
        outside_awaits (before o) (then_node (loop l h x) y) (and_from (no_advance x) (outside y) (still_inner (o + 1) c) (outside_advances es (placed_block sources before m b) (outside_placed m b)))
    outside_placed o (tree.then_node (tree.choose a) b) =
        let m = o + node_size (tree.choose a) in
        let es = events sources before o (o + 1) in
        let x = placed_arms sources before (o + 1) (o + 1 + arms_size a) (o + 1) a in
        let y = with_advances es (placed_block sources before m b) in
        outside_awaits (before o) (then_node (choose x) y) (and_from (outside_arms x) (outside y) (outside_placed_arms (o + 1) (o + 1 + arms_size a) (o + 1) a) (outside_advances es (placed_block sources before m b) (outside_placed m b)))

    outside_placed_arms : (low high o : ℕ) (a : Arms) → outside_arms (placed_arms sources before low high o a) ≡ true
    outside_placed_arms low high o tree.no_arms = outside_made (events sources before low high)
    outside_placed_arms low high o (tree.then_arm l None b more) =
        let m = o + block_size b in
        let y = with_advances (events sources before m high) (placed_block sources before o b) in
        let z = inner_arms sources before m more in
        and_from (outside (with_advances (events sources before low o) y)) (outside_arms z) (outside_advances (events sources before low o) y (outside_advances (events sources before m high) (placed_block sources before o b) (outside_placed o b))) (outside_within_arms z (still_inner_arms m more))
    outside_placed_arms low high o (tree.then_arm l (Some c) b more) =
        let m = o + block_size b in
        let y = with_advances (events sources before m high) (placed_block sources before o b) in
        let z = placed_arms sources before low high m more in
        and_from (outside (with_advances (events sources before low o) y)) (outside_arms z) (outside_advances (events sources before low o) y (outside_advances (events sources before m high) (placed_block sources before o b) (outside_placed o b))) (outside_placed_arms low high m more)
