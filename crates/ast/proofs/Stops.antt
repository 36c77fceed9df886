-- Laws of a STOP that END follows.
use Rattle.std.proofs.Common.{◌≡◌, ◌∙◌, Bool, true, false, List, [], ◌∷◌, length, refl, get_or, ap, sym, arith}
use Rattle.std.specs.Prelude.{◌&&◌}
use Rattle.ast.specs.Meaning.{are_stop_and_end, is_last_stop, is_last_stop_of}
use Rattle.ast.specs.Stops.{is_end, is_end_kind, is_stop, is_stop_kind}
use Rattle.ast.specs.Tree.{Kind, stop, end, Node as Plain, plain, loop, choose, Block, no_nodes, then_node}
use Rattle.ast.specs.View.{block_view, node}
use Rattle.ast.specs.declared.tree.Node.{Node}

kinds : (a b : Kind) → (is_stop_kind a && is_end_kind b) ≡ are_stop_and_end a b
kinds stop end = refl
kinds stop _ = refl
kinds _ _ = refl

last_two : (n m : Plain) → (is_stop n && is_end m) ≡ is_last_stop n (then_node m no_nodes)
last_two (plain s) (plain t) = kinds s.kind t.kind
last_two (plain s) (loop l h b) = no_and (is_stop_kind s.kind)
  where
    no_and : (b : Bool) → (b && false) ≡ false
    no_and true = refl
    no_and false = refl
last_two (plain s) (choose a) = no_and (is_stop_kind s.kind)
  where
    no_and : (b : Bool) → (b && false) ≡ false
    no_and true = refl
    no_and false = refl
last_two (loop l h b) m = refl
last_two (choose a) m = refl

alone : (n : Plain) → is_last_stop n no_nodes ≡ false
alone (plain s) = refl
alone (loop l h b) = refl
alone (choose a) = refl

more : (n m k : Plain) (b : Block) → is_last_stop n (then_node m (then_node k b)) ≡ false
more (plain s) (plain t) k b = refl
more (plain s) (loop l h c) k b = refl
more (plain s) (choose a) k b = refl
more (loop l h c) m k b = refl
more (choose a) m k b = refl

pub two_nodes : (ns : List Node) (n m : Node) → length ns ≡ 2 → n ≡ get_or ns 0 n → m ≡ get_or ns 1 m → (is_stop (node n) && is_end (node m)) ≡ is_last_stop_of (block_view ns)
two_nodes [] n m l e f = absurd (omega (arith, l))
two_nodes (a ∷ []) n m l e f = absurd (omega (arith, l))
two_nodes (a ∷ b ∷ []) n m l e f =
    ap (λ (x : Node). is_stop (node x) && is_end (node m)) e ∙ ap (λ (y : Node). is_stop (node a) && is_end (node y)) f ∙ last_two (node a) (node b)
two_nodes (a ∷ b ∷ c ∷ ns) n m l e f = absurd (omega (arith, l))

pub other_nodes : (ns : List Node) → (length ns ≡ 2 → ⊥) → false ≡ is_last_stop_of (block_view ns)
other_nodes [] h = refl
other_nodes (a ∷ []) h = sym (alone (node a))
other_nodes (a ∷ b ∷ []) h = absurd (h refl)
other_nodes (a ∷ b ∷ c ∷ ns) h = sym (more (node a) (node b) (node c) (block_view ns))
