-- What is marked is within the list of marks.
use Rattle.std.proofs.Common.{◌≡◌, ℕ, List, [], ◌∷◌, length, ◌<◌, zero, suc, true≢false, sym, ◌∙◌, arith}
use Rattle.std.specs.Prelude.{Bool, true}
use Rattle.ast.specs.Tree.{Ref}
use Rattle.loop_tree.specs.Loops.{has_cell}
use Rattle.loop_tree.specs.Marks.{mark_at}

marked_within : (bs : List Bool) (c : ℕ) → mark_at bs c ≡ true → c < length bs
marked_within [] c h = absurd (true≢false (sym h))
marked_within (b ∷ bs) zero h = omega arith
marked_within (b ∷ bs) (suc c) h = let k = marked_within bs c h in omega (arith, k)

pub all_within : (bs : List Bool) (rs : List Ref) → ((c : ℕ) → mark_at bs c ≡ has_cell c rs) → (c : ℕ) → has_cell c rs ≡ true → c < length bs
all_within bs rs m c h = marked_within bs c (m c ∙ h)
