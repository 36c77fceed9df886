-- The references of statements that are numbered from one number on belong to these statements.
use Rattle.std.proofs.Common.{◌+◌, ◌<◌, ◌≤◌, ℕ, List, ◌++◌, ⊎_elim, arith}
use Rattle.ast.specs.Tree as tree
use Rattle.ast.specs.Tree.{Block, Arms}
use Rattle.loop_tree.specs.Occurrences.{Occurrence, arms_occurrences, block_occurrences, head_occurrences, kind_occurrences, optional_occurrences}
use Rattle.placement.specs.Placing.{arms_size, block_size, node_size}
use Rattle.placement.proofs.Entries.{AllOf, head_of, kind_of, optional_of}
use Rattle.placement.proofs.Sources.{arm_sizes, sizes}
use Rattle.plan_check.proofs.Members.{In, in_which}

abbrev pub Within : ℕ → ℕ → List Occurrence → Type 0
Within low high os = (o : Occurrence) → In o os → (low ≤ o.statement) × (o.statement < high)

within_two : (low high : ℕ) (os ps : List Occurrence) → Within low high os → Within low high ps → Within low high (os ++ ps)
within_two low high os ps h k o i = ⊎_elim (λ j. h o j) (λ j. k o j) (in_which o os ps i)

within_one : (low high n : ℕ) (os : List Occurrence) → low ≤ n → n < high → AllOf n os → Within low high os
within_one low high n os l m h o i = let e = h o i in (omega (arith, e, l), omega (arith, e, m))

wider : (a b c d : ℕ) (os : List Occurrence) → c ≤ a → b ≤ d → Within a b os → Within c d os
wider a b c d os l m h o i = let g = h o i in let x = g.0 in let y = g.1 in (omega (arith, x, l), omega (arith, y, m))

mutual
  pub block_within : (n : ℕ) (b : Block) → Within n (n + block_size b) (block_occurrences n b)
  block_within n tree.no_nodes = λ o i. absurd i
  block_within n (tree.then_node (tree.plain x) b) =
      let z = sizes n (tree.plain x) b in
      let m = n + node_size (tree.plain x) in
      let top = n + block_size (tree.then_node (tree.plain x) b) in
      within_two n top (kind_occurrences n x.kind) (block_occurrences m b) (within_one n top n (kind_occurrences n x.kind) (omega arith) (omega (arith, z)) (kind_of n x.kind)) (wider m (m + block_size b) n top (block_occurrences m b) (omega arith) (omega (arith, z)) (block_within m b))
  block_within n (tree.then_node (tree.loop l h c) b) =
      let z = sizes n (tree.loop l h c) b in
      let m = n + node_size (tree.loop l h c) in
      let top = n + block_size (tree.then_node (tree.loop l h c) b) in
      within_two n top (head_occurrences n h ++ block_occurrences (n + 1) c) (block_occurrences m b)
      (within_two n top (head_occurrences n h) (block_occurrences (n + 1) c) (within_one n top n (head_occurrences n h) (omega arith) (omega (arith, z)) (head_of n h)) (wider (n + 1) (n + 1 + block_size c) n top (block_occurrences (n + 1) c) (omega arith) (omega (arith, z)) (block_within (n + 1) c)))
      (wider m (m + block_size b) n top (block_occurrences m b) (omega arith) (omega (arith, z)) (block_within m b))
  block_within n (tree.then_node (tree.choose a) b) =
      let z = sizes n (tree.choose a) b in
      let m = n + node_size (tree.choose a) in
      let top = n + block_size (tree.then_node (tree.choose a) b) in
      within_two n top (arms_occurrences n (n + 1) a) (block_occurrences m b)
      (wider n (n + 1 + arms_size a) n top (arms_occurrences n (n + 1) a) (omega arith) (omega (arith, z)) (arms_within n (n + 1) a (omega arith)))
      (wider m (m + block_size b) n top (block_occurrences m b) (omega arith) (omega (arith, z)) (block_within m b))

  arms_within : (i n : ℕ) (a : Arms) → i < n → Within i (n + arms_size a) (arms_occurrences i n a)
  arms_within i n tree.no_arms l = λ o j. absurd j
  arms_within i n (tree.then_arm x c b more) l =
      let z = arm_sizes n x c b more in
      let m = n + block_size b in
      let top = n + arms_size (tree.then_arm x c b more) in
      within_two i top (optional_occurrences i c ++ block_occurrences n b) (arms_occurrences i m more)
      (within_two i top (optional_occurrences i c) (block_occurrences n b) (within_one i top i (optional_occurrences i c) (omega arith) (omega (arith, l)) (optional_of i c)) (wider n m i top (block_occurrences n b) (omega (arith, l)) (omega (arith, z)) (block_within n b)))
      (wider i (m + arms_size more) i top (arms_occurrences i m more) (omega arith) (omega (arith, z)) (arms_within i m more (omega (arith, l))))
