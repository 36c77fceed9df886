-- Arms are passed one by one, where nothing is found in the first.
use Rattle.std.proofs.Common.{◌≡◌, ◌∙◌, ◌+◌, ◌<◌, ℕ, List, Option, None, length, map, drop, get_or, sym, ap}
use Rattle.ast.specs.Tree.{Arms, Block, arms}
use Rattle.ast.specs.View.{arm as arm_of, block_view}
use Rattle.ast.specs.declared.tree.Arm.{Arm}
use Rattle.ast.specs.declared.tree.Node.{Node}
use Rattle.ast.proofs.Nodes.{body_of}
use Rattle.placement.specs.Hindering.{arms_read, arms_shared, first_read, first_shared, or_else}
use Rattle.placement.proofs.Appended.{arm_here}

pub none_read : (xs : List Arm) (i : ℕ) (a : Arm) (ns : List Node) (found target : Option ℕ) → i < length xs → a ≡ get_or xs i a → a.body.items ≡ ns → found ≡ first_read (block_view ns) → found ≡ None
    → arms_read (arms (map arm_of (drop i xs))) ≡ target → arms_read (arms (map arm_of (drop (i + 1) xs))) ≡ target
none_read xs i a ns found target l e b f n w =
    ap (λ (o : Option ℕ). or_else o (arms_read (arms (map arm_of (drop (i + 1) xs))))) (sym n ∙ f ∙ ap (λ (c : Block). first_read c) (ap block_view (sym b) ∙ sym (body_of a)))
    ∙ ap (λ (x : Arms). arms_read x) (sym (arm_here xs i a l e))
    ∙ w

pub none_shared : (names : List (List ℕ)) (xs : List Arm) (i : ℕ) (a : Arm) (ns : List Node) (found target : Option (List ℕ × ℕ)) → i < length xs → a ≡ get_or xs i a → a.body.items ≡ ns → found ≡ first_shared names (block_view ns) → found ≡ None
    → arms_shared names (arms (map arm_of (drop i xs))) ≡ target → arms_shared names (arms (map arm_of (drop (i + 1) xs))) ≡ target
none_shared names xs i a ns found target l e b f n w =
    ap (λ (o : Option (List ℕ × ℕ)). or_else o (arms_shared names (arms (map arm_of (drop (i + 1) xs))))) (sym n ∙ f ∙ ap (λ (c : Block). first_shared names c) (ap block_view (sym b) ∙ sym (body_of a)))
    ∙ ap (λ (x : Arms). arms_shared names x) (sym (arm_here xs i a l e))
    ∙ w
