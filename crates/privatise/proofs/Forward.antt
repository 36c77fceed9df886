-- The list that goes through a part has, for each cell, what the paths before have done and then
-- what those through the part do.
use Rattle.std.proofs.Common.{◌≡◌, ◌∙◌, ap, sym, refl, ℕ, List, [], ◌∷◌, length, ◌<◌, arith}
use Rattle.std.proofs.lemmas.Bool.{eqb-true, eqb-false}
use Rattle.std.proofs.lemmas.List.{map-append, append-nil}
use Rattle.std.specs.Prelude.{zero, suc, ◌++◌, ◌==◌, Bool, true, false, Option, Some, None, replicate}
use Rattle.ast.specs.References.{term_references, terms_references, optional, expressions_references, items_expressions}
use Rattle.ast.specs.Tree.{Ref, Term, Terms, constant, truth, parameter, element, call, parentheses, unary, binary, no_terms, then_term, Access, PrintItem, value_item, text_item, DoHead, Kind, program, integer, dimension, parameters, assign, do_loop, go_on, block_if, else_if, else_arm, end_if, logical_if, print, read, stop, end, Node, plain, loop, choose, Block, no_nodes, then_node, Arms, no_arms, then_arm}
use Rattle.loop_tree.specs.Paths.{Token, uses, defines, used, term_tokens, target_tokens, targets_tokens, head_tokens}
use Rattle.privatise.specs.Cells.{walk_at, gone_on, stopped, joined}
use Rattle.privatise.specs.Flow.{after_term, after_terms, after_optional, after_items, after_target, after_targets, after_kind, after_head, after_node, after_block, after_arms}
use Rattle.privatise.specs.Walks.{then_walk, more, if_so, walk}
use Rattle.privatise.specs.declared.walk.Walk.{Walk}
use Rattle.privatise.specs.declared.walk.Walk.TheVariants.{Defined, Missed, Early}
use Rattle.privatise.proofs.ByCell.{kind_walk, node_walk, block_walk, arms_walk}
use Rattle.privatise.proofs.Flows.{then_assoc, walk_append}

then_missed : (w : Walk) → w ≡ then_walk w Missed
then_missed Defined = refl
then_missed Missed = refl
then_missed Early = refl

-- ---- one step of a list

went_here : (ws : List Walk) (c : ℕ) (w : Walk) → walk_at (gone_on ws c w) c ≡ then_walk (walk_at ws c) w
went_here [] c w = refl
went_here (v ∷ vs) zero w = refl
went_here (v ∷ vs) (suc c) w = went_here vs c w

went_elsewhere : (ws : List Walk) (d c : ℕ) (w : Walk) → (d ≡ c → ⊥) → walk_at (gone_on ws d w) c ≡ walk_at ws c
went_elsewhere [] d c w n = refl
went_elsewhere (v ∷ vs) zero zero w n = absurd (n refl)
went_elsewhere (v ∷ vs) zero (suc c) w n = refl
went_elsewhere (v ∷ vs) (suc d) zero w n = refl
went_elsewhere (v ∷ vs) (suc d) (suc c) w n = went_elsewhere vs d c w (λ e. n (ap suc e))

went_on : (ws : List Walk) (d c : ℕ) (w : Walk) → walk_at (gone_on ws d w) c ≡ then_walk (walk_at ws c) (if_so (d == c) w)
went_on ws d c w = by (d == c) refl
  where
    by : (b : Bool) → (d == c) ≡ b → walk_at (gone_on ws d w) c ≡ then_walk (walk_at ws c) (if_so b w)
    by true e = ap (λ n. walk_at (gone_on ws n w) c) (eqb-true d c e) ∙ went_here ws c w
    by false e = went_elsewhere ws d c w (eqb-false d c e) ∙ then_missed (walk_at ws c)

at_stop : (ws : List Walk) (c : ℕ) → walk_at (stopped ws) c ≡ then_walk (walk_at ws c) Defined
at_stop [] c = refl
at_stop (w ∷ ws) zero = refl
at_stop (w ∷ ws) (suc c) = at_stop ws c

at_join : (vs ws : List Walk) (c : ℕ) → walk_at (joined vs ws) c ≡ more (walk_at vs c) (walk_at ws c)
at_join [] ws c = refl
at_join (v ∷ vs) [] zero = refl
at_join (v ∷ vs) [] (suc c) = at_join vs [] c
at_join (v ∷ vs) (w ∷ ws) zero = refl
at_join (v ∷ vs) (w ∷ ws) (suc c) = at_join vs ws c

-- ---- what leads on

-- a change of lists does this to the walk of a cell
abbrev Does : ℕ → (List Walk → List Walk) → Walk → Type 0
Does c f w = (ws : List Walk) → walk_at (f ws) c ≡ then_walk (walk_at ws c) w

does_both : (c : ℕ) (f g : List Walk → List Walk) (u v : Walk) → Does c f u → Does c g v → Does c (λ ws. g (f ws)) (then_walk u v)
does_both c f g u v h k ws = k (f ws) ∙ ap (λ w. then_walk w v) (h ws) ∙ then_assoc (walk_at ws c) u v

-- the tokens of a part
abbrev Follows : ℕ → (List Walk → List Walk) → List Token → Type 0
Follows c f t = Does c f (walk c t)

nothing : (c : ℕ) → Follows c (λ ws. ws) []
nothing c ws = then_missed (walk_at ws c)

follows_both : (c : ℕ) (f g : List Walk → List Walk) (s t : List Token) → Follows c f s → Follows c g t → Follows c (λ ws. g (f ws)) (s ++ t)
follows_both c f g s t h k ws = does_both c f g (walk c s) (walk c t) h k ws ∙ ap (λ w. then_walk (walk_at ws c) w) (sym (walk_append c s t))

uses_one : (c : ℕ) (r : Ref) → Follows c (λ ws. gone_on ws r.cell Early) (uses r ∷ [])
uses_one c r ws = went_on ws r.cell c Early ∙ ap (λ w. then_walk (walk_at ws c) w) (then_missed (if_so (r.cell == c) Early))

defines_one : (c : ℕ) (r : Ref) → Follows c (λ ws. gone_on ws r.cell Defined) (defines r ∷ [])
defines_one c r ws = went_on ws r.cell c Defined ∙ ap (λ w. then_walk (walk_at ws c) w) (then_missed (if_so (r.cell == c) Defined))

-- references one after another
abbrev Uses : ℕ → (List Walk → List Walk) → List Ref → Type 0
Uses c f rs = Follows c f (used rs)

uses_both : (c : ℕ) (f g : List Walk → List Walk) (rs ss : List Ref) → Uses c f rs → Uses c g ss → Uses c (λ ws. g (f ws)) (rs ++ ss)
uses_both c f g rs ss h k ws = follows_both c f g (used rs) (used ss) h k ws ∙ ap (λ t. then_walk (walk_at ws c) (walk c t)) (sym (map-append (λ (r : Ref). uses r) rs ss))

mutual
  by_term : (c : ℕ) (e : Term) → Uses c (λ ws. after_term e ws) (term_references e)
  by_term c (constant n) = nothing c
  by_term c (truth b) = nothing c
  by_term c (parameter x n) = nothing c
  by_term c (element r es) = uses_both c (λ ws. after_terms es ws) (λ ws. gone_on ws r.cell Early) (terms_references es) (r ∷ []) (by_terms c es) (uses_one c r)
  by_term c (call f es) = by_terms c es
  by_term c (parentheses e) = by_term c e
  by_term c (unary p e) = by_term c e
  by_term c (binary o a b) = uses_both c (λ ws. after_term a ws) (λ ws. after_term b ws) (term_references a) (term_references b) (by_term c a) (by_term c b)

  by_terms : (c : ℕ) (es : Terms) → Uses c (λ ws. after_terms es ws) (terms_references es)
  by_terms c no_terms = nothing c
  by_terms c (then_term e es) = uses_both c (λ ws. after_term e ws) (λ ws. after_terms es ws) (term_references e) (terms_references es) (by_term c e) (by_terms c es)

-- ---- statements

by_optional : (c : ℕ) (e : Option Term) → Uses c (λ ws. after_optional e ws) (expressions_references (optional e))
by_optional c None = nothing c
by_optional c (Some e) = λ ws. by_term c e ws ∙ ap (λ rs. then_walk (walk_at ws c) (walk c (used rs))) (sym (append-nil (term_references e)))

by_items : (c : ℕ) (is : List PrintItem) → Uses c (λ ws. after_items is ws) (expressions_references (items_expressions is))
by_items c [] = nothing c
by_items c (value_item e ∷ is) = uses_both c (λ ws. after_term e ws) (λ ws. after_items is ws) (term_references e) (expressions_references (items_expressions is)) (by_term c e) (by_items c is)
by_items c (text_item t ∷ is) = by_items c is

by_target : (c : ℕ) (a : Access) → Follows c (λ ws. after_target a ws) (target_tokens a)
by_target c a = follows_both c (λ ws. after_terms a.subscripts ws) (λ ws. gone_on ws a.ref.cell Defined) (used (terms_references a.subscripts)) (defines a.ref ∷ []) (by_terms c a.subscripts) (defines_one c a.ref)

by_targets : (c : ℕ) (es : List Access) → Follows c (λ ws. after_targets es ws) (targets_tokens es)
by_targets c [] = nothing c
by_targets c (a ∷ es) = follows_both c (λ ws. after_target a ws) (λ ws. after_targets es ws) (target_tokens a) (targets_tokens es) (by_target c a) (by_targets c es)

by_head : (c : ℕ) (h : DoHead) → Follows c (λ ws. after_head h ws) (head_tokens h)
by_head c h =
    let first = λ (ws : List Walk). after_term h.first ws in
    let last = λ (ws : List Walk). after_term h.last ws in
    let step = λ (ws : List Walk). after_optional h.step ws in
    let steps = expressions_references (optional h.step) in
    follows_both c (λ ws. step (last (first ws))) (λ ws. gone_on ws h.variable.cell Defined) (used (expressions_references (h.first ∷ h.last ∷ optional h.step))) (defines h.variable ∷ [])
    (uses_both c first (λ ws. step (last ws)) (term_references h.first) (term_references h.last ++ steps) (by_term c h.first)
    (uses_both c last step (term_references h.last) steps (by_term c h.last) (by_optional c h.step)))
    (defines_one c h.variable)

unchanged : (c : ℕ) → Does c (λ ws. ws) Missed
unchanged c ws = then_missed (walk_at ws c)

by_kind : (c : ℕ) (k : Kind) → Does c (λ ws. after_kind k ws) (kind_walk c k)
by_kind c (assign a e) = follows_both c (λ ws. after_term e ws) (λ ws. after_target a ws) (term_tokens e) (target_tokens a) (by_term c e) (by_target c a)
by_kind c (print is) = by_items c is
by_kind c (read es) = by_targets c es
by_kind c stop = λ ws. at_stop ws c
by_kind c (program x) = unchanged c
by_kind c (integer ds) = unchanged c
by_kind c (dimension ds) = unchanged c
by_kind c (parameters ds) = unchanged c
by_kind c (do_loop h) = unchanged c
by_kind c go_on = unchanged c
by_kind c (block_if e) = unchanged c
by_kind c (else_if e) = unchanged c
by_kind c else_arm = unchanged c
by_kind c end_if = unchanged c
by_kind c (logical_if e k) = unchanged c
by_kind c end = unchanged c

-- ---- parts of which one is gone through

more_other : (u v : Walk) → more u v ≡ more v u
more_other Defined Defined = refl
more_other Defined Missed = refl
more_other Defined Early = refl
more_other Missed Defined = refl
more_other Missed Missed = refl
more_other Missed Early = refl
more_other Early Defined = refl
more_other Early Missed = refl
more_other Early Early = refl

more_after : (w u v : Walk) → more (then_walk w u) (then_walk w v) ≡ then_walk w (more u v)
more_after Defined u v = refl
more_after Missed u v = refl
more_after Early u v = refl

-- paths by the part of a loop's range that is left out
does_either : (c : ℕ) (f g : List Walk → List Walk) (u v : Walk) → Does c f u → Does c g v → Does c (λ ws. joined (g ws) (f ws)) (more u v)
does_either c f g u v h k ws =
    at_join (g ws) (f ws) c
    ∙ ap (λ w. more w (walk_at (f ws) c)) (k ws)
    ∙ ap (λ w. more (then_walk (walk_at ws c) v) w) (h ws)
    ∙ more_after (walk_at ws c) v u
    ∙ ap (λ w. then_walk (walk_at ws c) w) (more_other v u)

more_assoc : (u v w : Walk) → more (more u v) w ≡ more u (more v w)
more_assoc Defined v w = refl
more_assoc Missed Defined w = refl
more_assoc Missed Missed Defined = refl
more_assoc Missed Missed Missed = refl
more_assoc Missed Missed Early = refl
more_assoc Missed Early w = refl
more_assoc Early v w = refl

-- no paths
from_nowhere : (ws : List Walk) (c : ℕ) (w : Walk) → more (walk_at (replicate (length ws) Defined) c) (then_walk (walk_at ws c) w) ≡ then_walk (walk_at ws c) w
from_nowhere [] c w = refl
from_nowhere (v ∷ vs) zero w = refl
from_nowhere (v ∷ vs) (suc c) w = from_nowhere vs c w

mutual
  by_node : (c : ℕ) (n : Node) → Does c (λ ws. after_node n ws) (node_walk c n)
  by_node c (plain s) = by_kind c s.kind
  by_node c (loop l h b) = does_both c (λ ws. after_head h ws) (λ ws. joined (after_block b ws) ws) (walk c (head_tokens h)) (more Missed (block_walk c b)) (by_head c h)
      (does_either c (λ ws. ws) (λ ws. after_block b ws) Missed (block_walk c b) (unchanged c) (by_block c b))
  by_node c (choose a) = λ ws. by_arms c a (replicate (length ws) Defined) ws ∙ from_nowhere ws c (arms_walk c a)

  by_block : (c : ℕ) (b : Block) → Does c (λ ws. after_block b ws) (block_walk c b)
  by_block c no_nodes = unchanged c
  by_block c (then_node n b) = does_both c (λ ws. after_node n ws) (λ ws. after_block b ws) (node_walk c n) (block_walk c b) (by_node c n) (by_block c b)

  by_arms : (c : ℕ) (a : Arms) (ended ws : List Walk) → walk_at (after_arms a ended ws) c ≡ more (walk_at ended c) (then_walk (walk_at ws c) (arms_walk c a))
  by_arms c no_arms ended ws = at_join ws ended c ∙ more_other (walk_at ws c) (walk_at ended c) ∙ ap (λ w. more (walk_at ended c) w) (then_missed (walk_at ws c))
  by_arms c (then_arm l None b rest) ended ws =
      at_join (after_block b ws) ended c ∙ more_other (walk_at (after_block b ws) c) (walk_at ended c) ∙ ap (λ w. more (walk_at ended c) w) (by_block c b ws)
  by_arms c (then_arm l (Some e) b rest) ended ws =
      let vs = after_term e ws in
      let here = walk_at ended c in
      let branch = block_walk c b in
      let others = arms_walk c rest in
      by_arms c rest (joined ended (after_block b vs)) vs
      ∙ ap (λ w. more w (then_walk (walk_at vs c) others)) (at_join ended (after_block b vs) c ∙ ap (λ w. more here w) (by_block c b vs))
      ∙ more_assoc here (then_walk (walk_at vs c) branch) (then_walk (walk_at vs c) others)
      ∙ ap (λ w. more here w) (more_after (walk_at vs c) branch others ∙ ap (λ w. then_walk w (more branch others)) (by_term c e ws) ∙ then_assoc (walk_at ws c) (walk c (term_tokens e)) (more branch others))

-- ---- from nothing done

missed : (n c : ℕ) → c < n → walk_at (replicate n Missed) c ≡ Missed
missed zero c h = absurd (omega (arith, h))
missed (suc n) zero h = refl
missed (suc n) (suc c) h = missed n c (omega (arith, h))

pub from_nothing : (n c : ℕ) (b : Block) → c < n → walk_at (after_block b (replicate n Missed)) c ≡ block_walk c b
from_nothing n c b h = by_block c b (replicate n Missed) ∙ ap (λ w. then_walk w (block_walk c b)) (missed n c h)
