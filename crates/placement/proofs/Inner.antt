-- Inner loops of a plan that is placed: what is known of events stays known, and none is advanced.
use Rattle.std.proofs.Common.{◌≡◌, ◌+◌, ℕ, true, List, ◌++◌, refl, sym, subst, Some, None}
use Rattle.ast.specs.References.{term_references}
use Rattle.ast.specs.Tree as tree
use Rattle.ast.specs.Tree.{Block, Arms}
use Rattle.dependence.specs.Plan.{plain, loop, choose, then_node}
use Rattle.loop_tree.specs.Paths.{term_tokens, head_tokens}
use Rattle.plan_check.specs.Flow.{Known, after, after_arms, after_block, after_kind, arms_points, block_points, has_advanced, joined, kind_tokens, nowhere, points}
use Rattle.placement.specs.Placing.{block_size, inner_arms, inner_block, node_size}
use Rattle.placement.proofs.Keeping.{Keeps, Ordered, Room, after_awaits, awaited_all, keeps_awaits, keeps_joined, keeps_kind, keeps_nowhere, keeps_same, keeps_then, keeps_tokens, ordered_awaits, ordered_tokens, ordered_two, plain_head, plain_kind, plain_used, room_joined, room_nowhere}
use Rattle.placement.proofs.Lists.{all_get, both_true}

module _ (sources : List ℕ) (before : ℕ → List (ℕ × ℕ)) where
  mutual
    pub inner_keeps : (e o : ℕ) (b : Block) (s : Known) → Keeps e s (after_block (inner_block sources before o b) s)
    inner_keeps e o tree.no_nodes s = keeps_same e s
    inner_keeps e o (tree.then_node (tree.plain x) b) s =
        let m = o + node_size (tree.plain x) in
        let s1 = awaited_all (before o) s in
        let s2 = after_kind x.kind s1 in
        let r = after_block (inner_block sources before m b) s2 in
        subst (λ (z : Known). Keeps e s z) (sym (after_awaits (before o) (then_node (plain x) (inner_block sources before m b)) s)) (keeps_then e s s1 r (keeps_awaits e (before o) s) (keeps_then e s1 s2 r (keeps_kind e x.kind s1) (inner_keeps e m b s2)))
    inner_keeps e o (tree.then_node (tree.loop l h c) b) s =
        let m = o + node_size (tree.loop l h c) in
        let s1 = awaited_all (before o) s in
        let s2 = after (head_tokens h) s1 in
        let r = after_block (inner_block sources before m b) s2 in
        subst (λ (z : Known). Keeps e s z) (sym (after_awaits (before o) (then_node (loop l h (inner_block sources before (o + 1) c)) (inner_block sources before m b)) s)) (keeps_then e s s1 r (keeps_awaits e (before o) s) (keeps_then e s1 s2 r (keeps_tokens e (head_tokens h) s1 (plain_head h)) (inner_keeps e m b s2)))
    inner_keeps e o (tree.then_node (tree.choose a) b) s =
        let m = o + node_size (tree.choose a) in
        let s1 = awaited_all (before o) s in
        let s2 = after_arms (inner_arms sources before (o + 1) a) (nowhere s1) s1 in
        let r = after_block (inner_block sources before m b) s2 in
        subst (λ (z : Known). Keeps e s z) (sym (after_awaits (before o) (then_node (choose (inner_arms sources before (o + 1) a)) (inner_block sources before m b)) s)) (keeps_then e s s1 r (keeps_awaits e (before o) s) (keeps_then e s1 s2 r (inner_arms_keep e (o + 1) a s1 (nowhere s1) s1 (keeps_nowhere e s1) (keeps_same e s1)) (inner_keeps e m b s2)))

    -- from z on
    pub inner_arms_keep : (e o : ℕ) (a : Arms) (z ended s : Known) → Keeps e z ended → Keeps e z s → Keeps e z (after_arms (inner_arms sources before o a) ended s)
    inner_arms_keep e o tree.no_arms z ended s k h = keeps_joined e z s ended h k
    inner_arms_keep e o (tree.then_arm l None b more) z ended s k h =
        let r = after_block (inner_block sources before o b) s in
        inner_arms_keep e (o + block_size b) more z (joined ended r) (nowhere s) (keeps_joined e z ended r k (keeps_then e z s r h (inner_keeps e o b s))) (keeps_then e z s (nowhere s) h (keeps_nowhere e s))
    inner_arms_keep e o (tree.then_arm l (Some c) b more) z ended s k h =
        let u = after (term_tokens c) s in
        let r = after_block (inner_block sources before o b) u in
        let g = keeps_then e z s u h (keeps_tokens e (term_tokens c) s (plain_used (term_references c))) in
        inner_arms_keep e (o + block_size b) more z (joined ended r) u (keeps_joined e z ended r k (keeps_then e z u r g (inner_keeps e o b u))) g

  pub inner_arms_room : (e o : ℕ) (a : Arms) (ended s : Known) → Room s e → Room (after_arms (inner_arms sources before o a) ended s) e
  inner_arms_room e o tree.no_arms ended s h = room_joined s ended e h
  inner_arms_room e o (tree.then_arm l None b more) ended s h = inner_arms_room e (o + block_size b) more (joined ended (after_block (inner_block sources before o b) s)) (nowhere s) (room_nowhere s e h)
  inner_arms_room e o (tree.then_arm l (Some c) b more) ended s h =
      let u = after (term_tokens c) s in
      inner_arms_room e (o + block_size b) more (joined ended (after_block (inner_block sources before o b) u)) u ((keeps_tokens e (term_tokens c) s (plain_used (term_references c))).room h)

  pub inner_arms_advanced : (e o : ℕ) (a : Arms) (ended s : Known) → Room s e → has_advanced ended e ≡ true → has_advanced s e ≡ true → has_advanced (after_arms (inner_arms sources before o a) ended s) e ≡ true
  inner_arms_advanced e o tree.no_arms ended s h x y = both_true s.advanced ended.advanced e y x
  inner_arms_advanced e o (tree.then_arm l None b more) ended s h x y =
      let r = after_block (inner_block sources before o b) s in
      inner_arms_advanced e (o + block_size b) more (joined ended r) (nowhere s) (room_nowhere s e h) (both_true ended.advanced r.advanced e x ((inner_keeps e o b s).advanced h y)) (all_get s.advanced e h.advanced)
  inner_arms_advanced e o (tree.then_arm l (Some c) b more) ended s h x y =
      let u = after (term_tokens c) s in
      let r = after_block (inner_block sources before o b) u in
      let k = keeps_tokens e (term_tokens c) s (plain_used (term_references c)) in
      inner_arms_advanced e (o + block_size b) more (joined ended r) u (k.room h) (both_true ended.advanced r.advanced e x ((inner_keeps e o b u).advanced (k.room h) (k.advanced h y))) (k.advanced h y)

  mutual
    pub inner_ordered : (o : ℕ) (b : Block) (s : Known) → Ordered (block_points (inner_block sources before o b) s)
    inner_ordered o tree.no_nodes s = refl
    inner_ordered o (tree.then_node (tree.plain x) b) s =
        let m = o + node_size (tree.plain x) in
        let s1 = awaited_all (before o) s in
        let s2 = after_kind x.kind s1 in
        let rest = inner_block sources before m b in
        ordered_awaits (before o) (then_node (plain x) rest) s (ordered_two (points (kind_tokens x.kind) s1) (block_points rest s2) (ordered_tokens (kind_tokens x.kind) s1 (plain_kind x.kind)) (inner_ordered m b s2))
    inner_ordered o (tree.then_node (tree.loop l h c) b) s =
        let m = o + node_size (tree.loop l h c) in
        let s1 = awaited_all (before o) s in
        let s2 = after (head_tokens h) s1 in
        let body = inner_block sources before (o + 1) c in
        let rest = inner_block sources before m b in
        ordered_awaits (before o) (then_node (loop l h body) rest) s
        (ordered_two (points (head_tokens h) s1 ++ block_points body s2) (block_points rest s2) (ordered_two (points (head_tokens h) s1) (block_points body s2) (ordered_tokens (head_tokens h) s1 (plain_head h)) (inner_ordered (o + 1) c s2)) (inner_ordered m b s2))
    inner_ordered o (tree.then_node (tree.choose a) b) s =
        let m = o + node_size (tree.choose a) in
        let s1 = awaited_all (before o) s in
        let xs = inner_arms sources before (o + 1) a in
        let s2 = after_arms xs (nowhere s1) s1 in
        let rest = inner_block sources before m b in
        ordered_awaits (before o) (then_node (choose xs) rest) s (ordered_two (arms_points xs s1) (block_points rest s2) (inner_arms_ordered (o + 1) a s1) (inner_ordered m b s2))

    pub inner_arms_ordered : (o : ℕ) (a : Arms) (s : Known) → Ordered (arms_points (inner_arms sources before o a) s)
    inner_arms_ordered o tree.no_arms s = refl
    inner_arms_ordered o (tree.then_arm l None b more) s =
        let x = inner_block sources before o b in
        let y = inner_arms sources before (o + block_size b) more in
        ordered_two (block_points x s) (arms_points y (nowhere s)) (inner_ordered o b s) (inner_arms_ordered (o + block_size b) more (nowhere s))
    inner_arms_ordered o (tree.then_arm l (Some c) b more) s =
        let u = after (term_tokens c) s in
        let x = inner_block sources before o b in
        let y = inner_arms sources before (o + block_size b) more in
        ordered_two (points (term_tokens c) s) (block_points x u ++ arms_points y u) (ordered_tokens (term_tokens c) s (plain_used (term_references c)))
        (ordered_two (block_points x u) (arms_points y u) (inner_ordered o b u) (inner_arms_ordered (o + block_size b) more u))
