-- What is nested statement by statement lays out as the statements stand.
use Rattle.std.proofs.Common.{◌≡◌, ◌∙◌, ℕ, Bool, true, false, not, List, [], ◌∷◌, ◌++◌, refl, ap, sym, subst, Option, Some, None, append_assoc, inl, inr}
use Rattle.std.specs.Prelude.{◌==◌, if◌then◌else◌, ⊤}
use Rattle.std.proofs.lemmas.Bool.{eqb-true}
use Rattle.std.proofs.lemmas.List.{append-nil}
use Rattle.ast.specs.Alone.{alone}
use Rattle.ast.specs.Tree.{Term, Statement, Kind, DoHead, do_loop, block_if, else_if, else_arm, end_if, logical_if, program, integer, dimension, parameters, assign, go_on, print, read, stop, end, Node, plain, loop, choose, block, Arm, arms, then_arm}
use Rattle.structure.specs.Rules.{may_stand_in_if}
use Rattle.profile_check.specs.Layout.{stands_alone, EndsWith, arm_head, Lays, LaysNode, LaysIf, LaysArms}
use Rattle.profile_check.specs.Nesting.{Frame, in_range, in_block, Nest, nest, arm_of, next_arm, end_block, end_ranges, ended, own_node, with_kind}

-- ---- one more node

pub lays-snoc : (ns : List Node) (n : Node) (ss u : List Statement) → Lays (block ns) ss → LaysNode n u → Lays (block (ns ++ n ∷ [])) (ss ++ u)
lays-snoc [] n ss u h k = (u, [], ap (λ (xs : List Statement). xs ++ u) h ∙ sym (append-nil u), k, refl)
lays-snoc (m ∷ ns) n ss u h k =
    (h.0, h.1 ++ u, ap (λ (xs : List Statement). xs ++ u) h.2 ∙ append_assoc h.0 h.1 u, h.3, lays-snoc ns n h.1 u h.4 k)

-- ---- the arms of a block up to the one that isn't done

abbrev head_of : Bool → Option Term → Kind
head_of true (Some c) = block_if c
head_of true None = end_if
head_of false c = arm_head c

abbrev has_condition : Bool → Option Term → Type 0
has_condition true (Some c) = ⊤
has_condition true None = ⊥
has_condition false c = ⊤

abbrev head_statement : ℕ → Option ℕ → Bool → Option Term → Statement
head_statement line label first c = record { line = line; label = label; kind = head_of first c }

-- the first arm is an IF, and the others are ELSE IF or ELSE
abbrev UpTo : Bool → List Arm → ℕ → Option Term → List Statement → Type 0
UpTo first [] line c w = has_condition first c × (label : Option ℕ) × (w ≡ head_statement line label first c ∷ [])
UpTo first (a ∷ more) line c w =
    has_condition first a.condition
    × (label : Option ℕ) × (u : List Statement) × (v : List Statement)
    × (w ≡ head_statement a.line label first a.condition ∷ (u ++ v)) × Lays a.body u × UpTo false more line c v

-- the arm is done, and another one begins
up-to-next : (first : Bool) (done : List Arm) (line : ℕ) (c : Option Term) (ns : List Node) (w v : List Statement) (line' : ℕ) (c' : Option Term) (label : Option ℕ)
    → UpTo first done line c w → Lays (block ns) v → UpTo first (done ++ arm_of line c ns ∷ []) line' c' ((w ++ v) ++ head_statement line' label false c' ∷ [])
up-to-next first [] line c ns w v line' c' label h k =
    (h.0, h.1, v, head_statement line' label false c' ∷ [], ap (λ (xs : List Statement). (xs ++ v) ++ head_statement line' label false c' ∷ []) h.2, k, (tt, label, refl))
up-to-next first (a ∷ more) line c ns w v line' c' label h k =
    let e : (w ++ v) ++ head_statement line' label false c' ∷ [] ≡ head_statement a.line h.1 first a.condition ∷ (h.2 ++ ((h.3 ++ v) ++ head_statement line' label false c' ∷ [])) =
    ap (λ (xs : List Statement). (xs ++ v) ++ head_statement line' label false c' ∷ []) h.4
    ∙ ap (λ (xs : List Statement). head_statement a.line h.1 first a.condition ∷ xs)
    (ap (λ (xs : List Statement). xs ++ head_statement line' label false c' ∷ []) (append_assoc h.2 h.3 v) ∙ append_assoc h.2 (h.3 ++ v) (head_statement line' label false c' ∷ [])) in
    (h.0, h.1, h.2, (h.3 ++ v) ++ head_statement line' label false c' ∷ [], e, h.5, up-to-next false more line c ns h.3 v line' c' label h.6 k)

-- the arm is done, and the block ends
arms-end : (done : List Arm) (line : ℕ) (c : Option Term) (ns : List Node) (w v : List Statement) (l : ℕ) (label : Option ℕ)
    → UpTo false done line c w → Lays (block ns) v → LaysArms (arms (done ++ arm_of line c ns ∷ [])) ((w ++ v) ++ record { line = l; label = label; kind = end_if } ∷ [])
arms-end [] line c ns w v l label h k =
    (h.1, v, record { line = l; label = label; kind = end_if } ∷ [], ap (λ (xs : List Statement). (xs ++ v) ++ record { line = l; label = label; kind = end_if } ∷ []) h.2, k, (l, label, refl))
arms-end (a ∷ more) line c ns w v l label h k =
    let e : (w ++ v) ++ record { line = l; label = label; kind = end_if } ∷ [] ≡ head_statement a.line h.1 false a.condition ∷ (h.2 ++ ((h.3 ++ v) ++ record { line = l; label = label; kind = end_if } ∷ [])) =
    ap (λ (xs : List Statement). (xs ++ v) ++ record { line = l; label = label; kind = end_if } ∷ []) h.4
    ∙ ap (λ (xs : List Statement). head_statement a.line h.1 false a.condition ∷ xs)
    (ap (λ (xs : List Statement). xs ++ record { line = l; label = label; kind = end_if } ∷ []) (append_assoc h.2 h.3 v) ∙ append_assoc h.2 (h.3 ++ v) (record { line = l; label = label; kind = end_if } ∷ [])) in
    (h.1, h.2, (h.3 ++ v) ++ record { line = l; label = label; kind = end_if } ∷ [], e, h.5, arms-end more line c ns h.3 v l label h.6 k)

if-end : (done : List Arm) (line : ℕ) (c : Option Term) (ns : List Node) (w v : List Statement) (l : ℕ) (label : Option ℕ)
    → UpTo true done line c w → Lays (block ns) v → LaysIf (arms (done ++ arm_of line c ns ∷ [])) ((w ++ v) ++ record { line = l; label = label; kind = end_if } ∷ [])
if-end [] line None ns w v l label h k = absurd h.0
if-end [] line (Some c) ns w v l label h k =
    (h.1, v, record { line = l; label = label; kind = end_if } ∷ [], ap (λ (xs : List Statement). (xs ++ v) ++ record { line = l; label = label; kind = end_if } ∷ []) h.2, k, (l, label, refl))
if-end (a ∷ more) line c ns w v l label h k = by a.condition h.0 h.4
  where
    by : (d : Option Term) → has_condition true d → (w ≡ head_statement a.line h.1 true d ∷ (h.2 ++ h.3)) → LaysIf (then_arm a.line d a.body (arms (more ++ arm_of line c ns ∷ []))) ((w ++ v) ++ record { line = l; label = label; kind = end_if } ∷ [])
    by None g e = absurd g
    by (Some d) g e =
        let q : (w ++ v) ++ record { line = l; label = label; kind = end_if } ∷ [] ≡ head_statement a.line h.1 true (Some d) ∷ (h.2 ++ ((h.3 ++ v) ++ record { line = l; label = label; kind = end_if } ∷ [])) =
        ap (λ (xs : List Statement). (xs ++ v) ++ record { line = l; label = label; kind = end_if } ∷ []) e
        ∙ ap (λ (xs : List Statement). head_statement a.line h.1 true (Some d) ∷ xs)
        (ap (λ (xs : List Statement). xs ++ record { line = l; label = label; kind = end_if } ∷ []) (append_assoc h.2 h.3 v) ∙ append_assoc h.2 (h.3 ++ v) (record { line = l; label = label; kind = end_if } ∷ [])) in
        (h.1, h.2, (h.3 ++ v) ++ record { line = l; label = label; kind = end_if } ∷ [], q, h.5, arms-end more line c ns h.3 v l label h.6 k)

-- ---- what is open

-- the statements lay out what is open with the nodes in it
abbrev pub LaysNest : List Frame → List Node → List Statement → Type 0
LaysNest [] ns ss = Lays (block ns) ss
LaysNest (in_range line h before ∷ frames) ns ss =
    (label : Option ℕ) × (u : List Statement) × (v : List Statement)
    × (ss ≡ u ++ record { line = line; label = label; kind = do_loop h } ∷ v) × LaysNest frames before u × Lays (block ns) v
LaysNest (in_block done line c before ∷ frames) ns ss =
    (u : List Statement) × (w : List Statement) × (v : List Statement)
    × (ss ≡ u ++ (w ++ v)) × LaysNest frames before u × UpTo true done line c w × Lays (block ns) v

-- the same, where the last of the statements has a label and stands in the innermost structure
abbrev LaysEnding : ℕ → List Frame → List Node → List Statement → Type 0
LaysEnding label [] ns ss = Lays (block ns) ss × EndsWith label ss
LaysEnding label (in_range line h before ∷ frames) ns ss =
    (own : Option ℕ) × (u : List Statement) × (v : List Statement)
    × (ss ≡ u ++ record { line = line; label = own; kind = do_loop h } ∷ v) × LaysNest frames before u × Lays (block ns) v × EndsWith label v
LaysEnding label (in_block done line c before ∷ frames) ns ss =
    (u : List Statement) × (w : List Statement) × (v : List Statement)
    × (ss ≡ u ++ (w ++ v)) × LaysNest frames before u × UpTo true done line c w × Lays (block ns) v × EndsWith label v

forget : (label : ℕ) (frames : List Frame) (ns : List Node) (ss : List Statement) → LaysEnding label frames ns ss → LaysNest frames ns ss
forget label [] ns ss h = h.0
forget label (in_range line k before ∷ frames) ns ss h = (h.0, h.1, h.2, h.3, h.4, h.5)
forget label (in_block done line c before ∷ frames) ns ss h = (h.0, h.1, h.2, h.3, h.4, h.5, h.6)

ends-more : (label : ℕ) (xs ys : List Statement) → EndsWith label ys → EndsWith label (xs ++ ys)
ends-more label xs ys h = (xs ++ h.0, h.1, ap (λ (zs : List Statement). xs ++ zs) h.2 ∙ sym (append_assoc xs h.0 (h.1 ∷ [])), h.3)

moved : (u w v x : List Statement) (ss : List Statement) → ss ≡ u ++ (w ++ v) → ss ++ x ≡ u ++ (w ++ (v ++ x))
moved u w v x ss e = ap (λ (zs : List Statement). zs ++ x) e ∙ append_assoc u (w ++ v) x ∙ ap (λ (zs : List Statement). u ++ zs) (append_assoc w v x)

add : (frames : List Frame) (ns : List Node) (n : Node) (ss x : List Statement) → LaysNest frames ns ss → LaysNode n x → LaysNest frames (ns ++ n ∷ []) (ss ++ x)
add [] ns n ss x h k = lays-snoc ns n ss x h k
add (in_range line d before ∷ frames) ns n ss x h k =
    (h.0, h.1, h.2 ++ x, ap (λ (zs : List Statement). zs ++ x) h.3 ∙ append_assoc h.1 (record { line = line; label = h.0; kind = do_loop d } ∷ h.2) x, h.4, lays-snoc ns n h.2 x h.5 k)
add (in_block done line c before ∷ frames) ns n ss x h k =
    (h.0, h.1, h.2 ++ x, moved h.0 h.1 h.2 x ss h.3, h.4, h.5, lays-snoc ns n h.2 x h.6 k)

add-ending : (label : ℕ) (frames : List Frame) (ns : List Node) (n : Node) (ss x : List Statement) → LaysNest frames ns ss → LaysNode n x → EndsWith label x → LaysEnding label frames (ns ++ n ∷ []) (ss ++ x)
add-ending label [] ns n ss x h k e = (lays-snoc ns n ss x h k, ends-more label ss x e)
add-ending label (in_range line d before ∷ frames) ns n ss x h k e =
    (h.0, h.1, h.2 ++ x, ap (λ (zs : List Statement). zs ++ x) h.3 ∙ append_assoc h.1 (record { line = line; label = h.0; kind = do_loop d } ∷ h.2) x, h.4, lays-snoc ns n h.2 x h.5 k, ends-more label h.2 x e)
add-ending label (in_block done line c before ∷ frames) ns n ss x h k e =
    (h.0, h.1, h.2 ++ x, moved h.0 h.1 h.2 x ss h.3, h.4, h.5, lays-snoc ns n h.2 x h.6 k, ends-more label h.2 x e)

-- the terminal statement of the innermost ranges ends them
ranges-end : (label : ℕ) (frames : List Frame) (ns : List Node) (ss : List Statement) → LaysEnding label frames ns ss
    → LaysNest (end_ranges label frames ns).frames (end_ranges label frames ns).nodes ss
ranges-end label [] ns ss h = h.0
ranges-end label (in_block done line c before ∷ frames) ns ss h = forget label (in_block done line c before ∷ frames) ns ss h
ranges-end label (in_range line d before ∷ frames) ns ss h = by (d.terminal == label) refl (λ e. ranges-end label frames (before ++ loop line d (block ns) ∷ []) ss e)
  where
    by : (b : Bool) → (d.terminal == label) ≡ b
        → (LaysEnding label frames (before ++ loop line d (block ns) ∷ []) ss → LaysNest (end_ranges label frames (before ++ loop line d (block ns) ∷ [])).frames (end_ranges label frames (before ++ loop line d (block ns) ∷ [])).nodes ss)
        → LaysNest (if b then end_ranges label frames (before ++ loop line d (block ns) ∷ []) else nest (in_range line d before ∷ frames) ns).frames (if b then end_ranges label frames (before ++ loop line d (block ns) ∷ []) else nest (in_range line d before ∷ frames) ns).nodes ss
    by true t outer =
        let same : d.terminal ≡ label = eqb-true d.terminal label t in
        let x : List Statement = record { line = line; label = h.0; kind = do_loop d } ∷ h.2 in
        let range : EndsWith d.terminal h.2 = subst (λ (l : ℕ). EndsWith l h.2) (sym same) h.6 in
        let whole : EndsWith label x = ends-more label (record { line = line; label = h.0; kind = do_loop d } ∷ []) h.2 h.6 in
        let e : LaysEnding label frames (before ++ loop line d (block ns) ∷ []) (h.1 ++ x) = add-ending label frames before (loop line d (block ns)) h.1 x h.4 (h.0, h.2, refl, h.5, range) whole in
        outer (subst (λ (zs : List Statement). LaysEnding label frames (before ++ loop line d (block ns) ∷ []) zs) (sym h.3) e)
    by false t outer = forget label (in_range line d before ∷ frames) ns ss h

-- ---- one more statement

-- a statement as its fields
as-fields : (s : Statement) (k : Kind) → s.kind ≡ k → s ≡ record { line = s.line; label = s.label; kind = k }
as-fields s k e = ap (λ (x : Kind). record { line = s.line; label = s.label; kind = x }) e

one-statement : (s : Statement) (k : Kind) → s.kind ≡ k → s ∷ [] ≡ record { line = s.line; label = s.label; kind = k } ∷ []
one-statement s k e = ap (λ (x : Statement). x ∷ []) (as-fields s k e)

-- the node of a statement that holds no others lays out as it
own-plain : (s : Statement) (k : Kind) → s.kind ≡ k → stands_alone k ≡ true → LaysNode (plain (record { line = s.line; label = s.label; kind = k })) (s ∷ [])
own-plain s k e h = (one-statement s k e, h)

-- what may stand in a logical IF may stand alone
pub may-be-alone : (k : Kind) → not (may_stand_in_if k) ≡ false → alone k ≡ k
may-be-alone (do_loop h) w = absurd cc
may-be-alone (block_if c) w = absurd cc
may-be-alone (else_if c) w = absurd cc
may-be-alone else_arm w = absurd cc
may-be-alone end_if w = absurd cc
may-be-alone (logical_if c k) w = absurd cc
may-be-alone k w = refl

own-logical : (s : Statement) (c : Term) (k : Kind) → s.kind ≡ logical_if c k → alone k ≡ k → LaysNode (own_node s (logical_if c k)) (s ∷ [])
own-logical s c k e same = inr (s.label, one-statement s (logical_if c (alone k)) (e ∙ ap (λ (x : Kind). logical_if c x) (sym same)), refl, refl)

ended-lays : (label : Option ℕ) (frames : List Frame) (ns : List Node) (n : Node) (ss : List Statement) (s : Statement) → s.label ≡ label
    → LaysNest frames ns ss → LaysNode n (s ∷ []) → LaysNest (ended label frames (ns ++ n ∷ [])).frames (ended label frames (ns ++ n ∷ [])).nodes (ss ++ s ∷ [])
ended-lays None frames ns n ss s e h k = add frames ns n ss (s ∷ []) h k
ended-lays (Some label) frames ns n ss s e h k = ranges-end label frames (ns ++ n ∷ []) (ss ++ s ∷ []) (add-ending label frames ns n ss (s ∷ []) h k ([], s, refl, e))

-- the innermost open structure is a block
abbrev pub IsInBlock : List Frame → Type 0
IsInBlock [] = ⊥
IsInBlock (in_range line h before ∷ frames) = ⊥
IsInBlock (in_block done line c before ∷ frames) = ⊤

next-lays : (frames : List Frame) (ns : List Node) (ss : List Statement) (s : Statement) (c : Option Term) → s.kind ≡ arm_head c → IsInBlock frames
    → LaysNest frames ns ss → LaysNest (next_arm s.line c frames ns).frames (next_arm s.line c frames ns).nodes (ss ++ s ∷ [])
next-lays [] ns ss s c e b h = absurd b
next-lays (in_range line d before ∷ frames) ns ss s c e b h = absurd b
next-lays (in_block done line k before ∷ frames) ns ss s c e b h =
    let q : ss ++ s ∷ [] ≡ h.0 ++ (((h.1 ++ h.2) ++ head_statement s.line s.label false c ∷ []) ++ []) =
    ap (λ (zs : List Statement). ss ++ zs) (one-statement s (arm_head c) e)
    ∙ ap (λ (zs : List Statement). zs ++ head_statement s.line s.label false c ∷ []) h.3
    ∙ append_assoc h.0 (h.1 ++ h.2) (head_statement s.line s.label false c ∷ [])
    ∙ ap (λ (zs : List Statement). h.0 ++ zs) (sym (append-nil ((h.1 ++ h.2) ++ head_statement s.line s.label false c ∷ []))) in
    (h.0, (h.1 ++ h.2) ++ head_statement s.line s.label false c ∷ [], [], q, h.4, up-to-next true done line k ns h.1 h.2 s.line c s.label h.5 h.6, refl)

block-lays : (frames : List Frame) (ns : List Node) (ss : List Statement) (s : Statement) → s.kind ≡ end_if → IsInBlock frames
    → LaysNest frames ns ss → LaysNest (end_block frames ns).frames (end_block frames ns).nodes (ss ++ s ∷ [])
block-lays [] ns ss s e b h = absurd b
block-lays (in_range line d before ∷ frames) ns ss s e b h = absurd b
block-lays (in_block done line k before ∷ frames) ns ss s e b h =
    let x : List Statement = (h.1 ++ h.2) ++ record { line = s.line; label = s.label; kind = end_if } ∷ [] in
    let q : h.0 ++ x ≡ ss ++ s ∷ [] =
    sym (append_assoc h.0 (h.1 ++ h.2) (record { line = s.line; label = s.label; kind = end_if } ∷ []))
    ∙ ap (λ (zs : List Statement). zs ++ record { line = s.line; label = s.label; kind = end_if } ∷ []) (sym h.3)
    ∙ ap (λ (zs : List Statement). ss ++ zs) (sym (one-statement s end_if e)) in
    subst (λ (zs : List Statement). LaysNest frames (before ++ choose (arms (done ++ arm_of line k ns ∷ [])) ∷ []) zs) q
    (add frames before (choose (arms (done ++ arm_of line k ns ∷ []))) h.0 x h.4 (inl (if-end done line k ns h.1 h.2 s.line s.label h.5 h.6)))

-- what a part of an IF block needs, and what a logical IF
abbrev pub MayStand : Kind → List Frame → Type 0
MayStand (else_if c) frames = IsInBlock frames
MayStand else_arm frames = IsInBlock frames
MayStand end_if frames = IsInBlock frames
MayStand (logical_if c k) frames = not (may_stand_in_if k) ≡ false
MayStand _ frames = ⊤

range-lays : (n : Nest) (ss : List Statement) (s : Statement) (h : DoHead) → s.kind ≡ do_loop h → LaysNest n.frames n.nodes ss → LaysNest (in_range s.line h n.nodes ∷ n.frames) [] (ss ++ s ∷ [])
range-lays n ss s h e l = (s.label, ss, [], ap (λ (zs : List Statement). ss ++ zs) (one-statement s (do_loop h) e), l, refl)

if-lays : (n : Nest) (ss : List Statement) (s : Statement) (c : Term) → s.kind ≡ block_if c → LaysNest n.frames n.nodes ss → LaysNest (in_block [] s.line (Some c) n.nodes ∷ n.frames) [] (ss ++ s ∷ [])
if-lays n ss s c e l = (ss, record { line = s.line; label = s.label; kind = block_if c } ∷ [], [], ap (λ (zs : List Statement). ss ++ zs) (one-statement s (block_if c) e), l, (tt, s.label, refl), refl)

pub kind-lays : (n : Nest) (ss : List Statement) (s : Statement) (k : Kind) → s.kind ≡ k → MayStand k n.frames → LaysNest n.frames n.nodes ss
    → LaysNest (with_kind n s k).frames (with_kind n s k).nodes (ss ++ s ∷ [])
kind-lays n ss s (do_loop h) e m l = range-lays n ss s h e l
kind-lays n ss s (block_if c) e m l = if-lays n ss s c e l
kind-lays n ss s (else_if c) e m l = next-lays n.frames n.nodes ss s (Some c) e m l
kind-lays n ss s else_arm e m l = next-lays n.frames n.nodes ss s None e m l
kind-lays n ss s end_if e m l = block-lays n.frames n.nodes ss s e m l
kind-lays n ss s (logical_if c k) e m l = ended-lays s.label n.frames n.nodes (own_node s (logical_if c k)) ss s refl l (own-logical s c k e (may-be-alone k m))
kind-lays n ss s (program x) e m l = ended-lays s.label n.frames n.nodes (own_node s (program x)) ss s refl l (own-plain s (program x) e refl)
kind-lays n ss s (integer ds) e m l = ended-lays s.label n.frames n.nodes (own_node s (integer ds)) ss s refl l (own-plain s (integer ds) e refl)
kind-lays n ss s (dimension ds) e m l = ended-lays s.label n.frames n.nodes (own_node s (dimension ds)) ss s refl l (own-plain s (dimension ds) e refl)
kind-lays n ss s (parameters ds) e m l = ended-lays s.label n.frames n.nodes (own_node s (parameters ds)) ss s refl l (own-plain s (parameters ds) e refl)
kind-lays n ss s (assign a v) e m l = ended-lays s.label n.frames n.nodes (own_node s (assign a v)) ss s refl l (own-plain s (assign a v) e refl)
kind-lays n ss s go_on e m l = ended-lays s.label n.frames n.nodes (own_node s go_on) ss s refl l (own-plain s go_on e refl)
kind-lays n ss s (print items) e m l = ended-lays s.label n.frames n.nodes (own_node s (print items)) ss s refl l (own-plain s (print items) e refl)
kind-lays n ss s (read elements) e m l = ended-lays s.label n.frames n.nodes (own_node s (read elements)) ss s refl l (own-plain s (read elements) e refl)
kind-lays n ss s stop e m l = ended-lays s.label n.frames n.nodes (own_node s stop) ss s refl l (own-plain s stop e refl)
kind-lays n ss s end e m l = ended-lays s.label n.frames n.nodes (own_node s end) ss s refl l (own-plain s end e refl)
