-- A plan without what was put in is the loop's range.
use Rattle.std.proofs.Common.{◌≡◌, ◌∙◌, ◌+◌, ℕ, true, List, [], ◌∷◌, refl, ap, Some, None}
use Rattle.std.proofs.lemmas.Bool.{and_from}
use Rattle.ast.specs.Tree as tree
use Rattle.ast.specs.Tree.{Block, Arms}
use Rattle.dependence.specs.Plan.{plain, loop, choose, PlanBlock, no_nodes, then_node}
use Rattle.plan_check.specs.GoodPlan.{made_bare, made_bare_arms, only_events, stripped, stripped_arms}
use Rattle.placement.specs.Placing.{block_size, node_size, anchored, events, inner_arms, inner_block, made_for, placed_arms, placed_block, with_advances, with_awaits, arms_size}

awaits_stripped : (xs : List (ℕ × ℕ)) (b : PlanBlock) → stripped (with_awaits xs b) ≡ stripped b
awaits_stripped [] b = refl
awaits_stripped (x ∷ xs) b = awaits_stripped xs b

pub advances_stripped : (es : List ℕ) (b : PlanBlock) → stripped (with_advances es b) ≡ stripped b
advances_stripped [] b = refl
advances_stripped (e ∷ es) b = advances_stripped es b

awaits_bare : (xs : List (ℕ × ℕ)) (b : PlanBlock) → made_bare b ≡ true → made_bare (with_awaits xs b) ≡ true
awaits_bare [] b h = h
awaits_bare (x ∷ xs) b h = awaits_bare xs b h

pub advances_bare : (es : List ℕ) (b : PlanBlock) → made_bare b ≡ true → made_bare (with_advances es b) ≡ true
advances_bare [] b h = h
advances_bare (e ∷ es) b h = advances_bare es b h

events_only : (es : List ℕ) → only_events (with_advances es no_nodes) ≡ true
events_only [] = refl
events_only (e ∷ es) = events_only es

made_stripped : (es : List ℕ) → stripped_arms (made_for es) ≡ tree.no_arms
made_stripped [] = refl
made_stripped (e ∷ es) = refl

made_for_bare : (es : List ℕ) → made_bare_arms (made_for es) ≡ true
made_for_bare [] = refl
made_for_bare (e ∷ es) = events_only (e ∷ es)

module _ (sources : List ℕ) (before : ℕ → List (ℕ × ℕ)) where
  mutual
    pub inner_same : (o : ℕ) (b : Block) → stripped (inner_block sources before o b) ≡ b
    inner_same o tree.no_nodes = refl
    inner_same o (tree.then_node (tree.plain s) b) = awaits_stripped (before o) (then_node (plain s) (inner_block sources before (o + node_size (tree.plain s)) b)) ∙ ap (λ (c : Block). tree.then_node (tree.plain s) c) (inner_same (o + node_size (tree.plain s)) b)
    inner_same o (tree.then_node (tree.loop l h c) b) =
        let m = o + node_size (tree.loop l h c) in
        awaits_stripped (before o) (then_node (loop l h (inner_block sources before (o + 1) c)) (inner_block sources before m b))
        ∙ ap (λ (d : Block). tree.then_node (tree.loop l h d) (stripped (inner_block sources before m b))) (inner_same (o + 1) c) ∙ ap (λ (d : Block). tree.then_node (tree.loop l h c) d) (inner_same m b)
    inner_same o (tree.then_node (tree.choose a) b) =
        let m = o + node_size (tree.choose a) in
        awaits_stripped (before o) (then_node (choose (inner_arms sources before (o + 1) a)) (inner_block sources before m b))
        ∙ ap (λ (d : Arms). tree.then_node (tree.choose d) (stripped (inner_block sources before m b))) (inner_arms_same (o + 1) a) ∙ ap (λ (d : Block). tree.then_node (tree.choose a) d) (inner_same m b)

    pub inner_arms_same : (o : ℕ) (a : Arms) → stripped_arms (inner_arms sources before o a) ≡ a
    inner_arms_same o tree.no_arms = refl
    inner_arms_same o (tree.then_arm l c b more) = ap (λ (d : Block). tree.then_arm l c d (stripped_arms (inner_arms sources before (o + block_size b) more))) (inner_same o b) ∙ ap (λ (d : Arms). tree.then_arm l c b d) (inner_arms_same (o + block_size b) more)

  mutual
    pub placed_same : (o : ℕ) (b : Block) → stripped (placed_block sources before o b) ≡ b
    placed_same o tree.no_nodes = refl
    placed_same o (tree.then_node (tree.plain s) b) =
        let m = o + node_size (tree.plain s) in
        let es = anchored sources before o (tree.plain s) in
        awaits_stripped (before o) (then_node (plain s) (with_advances es (placed_block sources before m b)))
        ∙ ap (λ (c : Block). tree.then_node (tree.plain s) c) (advances_stripped es (placed_block sources before m b) ∙ placed_same m b)
    placed_same o (tree.then_node (tree.loop l h c) b) =
        let m = o + node_size (tree.loop l h c) in
        let es = anchored sources before o (tree.loop l h c) in
        awaits_stripped (before o) (then_node (loop l h (inner_block sources before (o + 1) c)) (with_advances es (placed_block sources before m b)))
        ∙ ap (λ (d : Block). tree.then_node (tree.loop l h d) (stripped (with_advances es (placed_block sources before m b)))) (inner_same (o + 1) c)
        ∙ ap (λ (d : Block). tree.then_node (tree.loop l h c) d) (advances_stripped es (placed_block sources before m b) ∙ placed_same m b)
    placed_same o (tree.then_node (tree.choose a) b) =
        let m = o + node_size (tree.choose a) in
        let es = anchored sources before o (tree.choose a) in
        awaits_stripped (before o) (then_node (choose (placed_arms sources before (o + 1) (o + 1 + arms_size a) (o + 1) a)) (with_advances es (placed_block sources before m b)))
        ∙ ap (λ (d : Arms). tree.then_node (tree.choose d) (stripped (with_advances es (placed_block sources before m b)))) (arms_same (o + 1) (o + 1 + arms_size a) (o + 1) a)
        ∙ ap (λ (d : Block). tree.then_node (tree.choose a) d) (advances_stripped es (placed_block sources before m b) ∙ placed_same m b)

    pub arms_same : (low high o : ℕ) (a : Arms) → stripped_arms (placed_arms sources before low high o a) ≡ a
    arms_same low high o tree.no_arms = made_stripped (events sources before low high)
    arms_same low high o (tree.then_arm l None b more) =
        let m = o + block_size b in
        ap (λ (d : Block). tree.then_arm l None d (stripped_arms (inner_arms sources before m more)))
        (advances_stripped (events sources before low o) (with_advances (events sources before m high) (placed_block sources before o b)) ∙ advances_stripped (events sources before m high) (placed_block sources before o b) ∙ placed_same o b)
        ∙ ap (λ (d : Arms). tree.then_arm l None b d) (inner_arms_same m more)
    arms_same low high o (tree.then_arm l (Some c) b more) =
        let m = o + block_size b in
        ap (λ (d : Block). tree.then_arm l (Some c) d (stripped_arms (placed_arms sources before low high m more)))
        (advances_stripped (events sources before low o) (with_advances (events sources before m high) (placed_block sources before o b)) ∙ advances_stripped (events sources before m high) (placed_block sources before o b) ∙ placed_same o b)
        ∙ ap (λ (d : Arms). tree.then_arm l (Some c) b d) (arms_same low high m more)

  mutual
    pub inner_bare : (o : ℕ) (b : Block) → made_bare (inner_block sources before o b) ≡ true
    inner_bare o tree.no_nodes = refl
    inner_bare o (tree.then_node (tree.plain s) b) = awaits_bare (before o) (then_node (plain s) (inner_block sources before (o + node_size (tree.plain s)) b)) (inner_bare (o + node_size (tree.plain s)) b)
    inner_bare o (tree.then_node (tree.loop l h c) b) =
        let m = o + node_size (tree.loop l h c) in
        let x = inner_block sources before (o + 1) c in
        let y = inner_block sources before m b in
        awaits_bare (before o) (then_node (loop l h x) y) (and_from (made_bare x) (made_bare y) (inner_bare (o + 1) c) (inner_bare m b))
    inner_bare o (tree.then_node (tree.choose a) b) =
        let m = o + node_size (tree.choose a) in
        let x = inner_arms sources before (o + 1) a in
        let y = inner_block sources before m b in
        awaits_bare (before o) (then_node (choose x) y) (and_from (made_bare_arms x) (made_bare y) (inner_arms_bare (o + 1) a) (inner_bare m b))

    pub inner_arms_bare : (o : ℕ) (a : Arms) → made_bare_arms (inner_arms sources before o a) ≡ true
    inner_arms_bare o tree.no_arms = refl
    inner_arms_bare o (tree.then_arm l c b more) = and_from (made_bare (inner_block sources before o b)) (made_bare_arms (inner_arms sources before (o + block_size b) more)) (inner_bare o b) (inner_arms_bare (o + block_size b) more)

  mutual
    pub placed_bare : (o : ℕ) (b : Block) → made_bare (placed_block sources before o b) ≡ true
    placed_bare o tree.no_nodes = refl
    placed_bare o (tree.then_node (tree.plain s) b) =
        let m = o + node_size (tree.plain s) in
        let y = with_advances (anchored sources before o (tree.plain s)) (placed_block sources before m b) in
        awaits_bare (before o) (then_node (plain s) y) (advances_bare (anchored sources before o (tree.plain s)) (placed_block sources before m b) (placed_bare m b))
    placed_bare o (tree.then_node (tree.loop l h c) b) =
        let m = o + node_size (tree.loop l h c) in
        let es = anchored sources before o (tree.loop l h c) in
        let x = inner_block sources before (o + 1) c in
        let y = with_advances es (placed_block sources before m b) in
        awaits_bare (before o) (then_node (loop l h x) y) (and_from (made_bare x) (made_bare y) (inner_bare (o + 1) c) (advances_bare es (placed_block sources before m b) (placed_bare m b)))
    placed_bare o (tree.then_node (tree.choose a) b) =
        let m = o + node_size (tree.choose a) in
        let es = anchored sources before o (tree.choose a) in
        let x = placed_arms sources before (o + 1) (o + 1 + arms_size a) (o + 1) a in
        let y = with_advances es (placed_block sources before m b) in
        awaits_bare (before o) (then_node (choose x) y) (and_from (made_bare_arms x) (made_bare y) (arms_bare (o + 1) (o + 1 + arms_size a) (o + 1) a) (advances_bare es (placed_block sources before m b) (placed_bare m b)))

    pub arms_bare : (low high o : ℕ) (a : Arms) → made_bare_arms (placed_arms sources before low high o a) ≡ true
    arms_bare low high o tree.no_arms = made_for_bare (events sources before low high)
    arms_bare low high o (tree.then_arm l None b more) =
        let m = o + block_size b in
        let y = with_advances (events sources before m high) (placed_block sources before o b) in
        and_from (made_bare (with_advances (events sources before low o) y)) (made_bare_arms (inner_arms sources before m more)) (advances_bare (events sources before low o) y (advances_bare (events sources before m high) (placed_block sources before o b) (placed_bare o b))) (inner_arms_bare m more)
    arms_bare low high o (tree.then_arm l (Some c) b more) =
        let m = o + block_size b in
        let y = with_advances (events sources before m high) (placed_block sources before o b) in
        and_from (made_bare (with_advances (events sources before low o) y)) (made_bare_arms (placed_arms sources before low high m more)) (advances_bare (events sources before low o) y (advances_bare (events sources before m high) (placed_block sources before o b) (placed_bare o b))) (arms_bare low high m more)
