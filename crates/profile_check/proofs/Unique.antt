-- Trees that lay out as the same statements are equal, where labels are distinct and no END IF is
-- the terminal statement of a range: nesting the statements one by one gives the tree.
use Rattle.std.proofs.Common.{◌≡◌, ◌∙◌, ℕ, Bool, true, false, not, List, [], ◌∷◌, ◌++◌, refl, ap, sym, subst, Option, Some, None, append_assoc, inl, inr}
use Rattle.std.specs.Prelude.{◌⊎◌, ◌&&◌, ◌||◌, ◌==◌, if◌then◌else◌}
use Rattle.std.proofs.lemmas.Bool.{eqb-true, or_parts}
use Rattle.std.proofs.lemmas.List.Folds.{list_any-append}
use Rattle.std.specs.List.{list_any}
use Rattle.std.proofs.lemmas.List.{append-nil}
use Rattle.ast.specs.Tree.{Term, Statement, Kind, DoHead, do_loop, block_if, else_if, else_arm, end_if, logical_if, program, integer, dimension, parameters, assign, go_on, print, read, stop, end, Node, plain, loop, choose, Block, no_nodes, then_node, block, Arm, Arms, arms, no_arms, then_arm}
use Rattle.ast.specs.declared.rule.Rule.TheVariants.{OutOfOrder, OpenLoop, WrongTerminal, CrossedBlocks, RepeatedLabel}
use Rattle.ast.proofs.Lists.{not_empty}
use Rattle.ast.proofs.Numbers.{equal_itself}
use Rattle.profile_check.specs.Layout.{stands_alone, EndsWith, arm_head, Lays, LaysNode, LaysIf, LaysArms, LaysLogicalIf}
use Rattle.profile_check.specs.Nesting.{Frame, in_range, in_block, Nest, nest, arm_of, begins_with_range_of, end_ranges, ended, with_kind, with_statement, nested_from}
use Rattle.profile_check.proofs.Frames.{held, kept}
use Rattle.profile_check.proofs.Fresh.{none-first}
use Rattle.profile_check.proofs.Laid.{may-be-alone}
use Rattle.ast.specs.Alone.{alone}
use Rattle.structure.specs.Open.{Open, do_range, if_block, begun, after, open_from, open_after, ended as spec_ended}
use Rattle.structure.specs.Rules.{is_out_of_order, is_end, is_range_of, is_some_and, has_label, is_label_again, crosses, ends_wrongly, breaks_blocks, may_not_end_a_range, holds_wrong_statement, checks, lowest_broken, Keep}
use Rattle.structure.specs.Spans.{is_end_if}

-- ---- lists

-- one of the elements with one more is that one, or one of those before
split : {X : Type 0} (xs : List X) (x : X) (front : List X) (y : X) (back : List X) → xs ++ x ∷ [] ≡ front ++ y ∷ back
    → (back ≡ []) ⊎ ((back' : List X) × (xs ≡ front ++ y ∷ back'))
split [] x [] y back e = inl (let q : [] ≡ back = cc in sym q)
split [] x (f ∷ front) y back e = absurd (not_empty front y back (let q : [] ≡ front ++ y ∷ back = cc in q))
split (z ∷ xs) x [] y back e = inr (xs, let q : z ≡ y = cc in ap (λ w. w ∷ xs) q)
split (z ∷ xs) x (f ∷ front) y back e =
    let q : z ≡ f = cc in
    elim (split xs x front y back (let r : xs ++ x ∷ [] ≡ front ++ y ∷ back = cc in r)) [
      | inl h ↦ inl h
      | inr h ↦ inr (h.0, (let r : xs ≡ front ++ y ∷ h.0 = h.1 in cc))
    ]

-- ---- statements that can be laid out in one way

pub record Fine (u : List Statement) : Type 0 where
  pub distinct : (f g k : List Statement) (s t : Statement) (l : ℕ) → u ≡ f ++ s ∷ (g ++ t ∷ k) → s.label ≡ Some l → t.label ≡ Some l → ⊥
  pub ends : (f g k : List Statement) (d t : Statement) (h : DoHead) → u ≡ f ++ d ∷ (g ++ t ∷ k) → d.kind ≡ do_loop h → t.label ≡ Some h.terminal → is_end_if t.kind ≡ false
  pub holds : (f k : List Statement) (s : Statement) → u ≡ f ++ s ∷ k → holds_wrong_statement s.kind ≡ false

inside-one : (a b u f k : List Statement) (s : Statement) → u ≡ f ++ s ∷ k → a ++ (u ++ b) ≡ (a ++ f) ++ s ∷ (k ++ b)
inside-one a b u f k s e =
    ap (λ (xs : List Statement). a ++ (xs ++ b)) e
    ∙ ap (λ (xs : List Statement). a ++ xs) (append_assoc f (s ∷ k) b)
    ∙ sym (append_assoc a f (s ∷ (k ++ b)))

inside : (a b u f g k : List Statement) (s t : Statement) → u ≡ f ++ s ∷ (g ++ t ∷ k) → a ++ (u ++ b) ≡ (a ++ f) ++ s ∷ (g ++ t ∷ (k ++ b))
inside a b u f g k s t e =
    ap (λ (xs : List Statement). a ++ (xs ++ b)) e
    ∙ ap (λ (xs : List Statement). a ++ xs) (append_assoc f (s ∷ (g ++ t ∷ k)) b ∙ ap (λ (xs : List Statement). f ++ s ∷ xs) (append_assoc g (t ∷ k) b))
    ∙ sym (append_assoc a f (s ∷ (g ++ t ∷ (k ++ b))))

fine-part : (a u b w : List Statement) → w ≡ a ++ (u ++ b) → Fine w → Fine u
fine-part a u b w q h = record {
  distinct = λ f g k s t l e. h.distinct (a ++ f) g (k ++ b) s t l (q ∙ inside a b u f g k s t e);
  ends = λ f g k d t head e. h.ends (a ++ f) g (k ++ b) d t head (q ∙ inside a b u f g k d t e);
  holds = λ f k s e. h.holds (a ++ f) (k ++ b) s (q ∙ inside-one a b u f k s e);
}

fine-left : (u v w : List Statement) → w ≡ u ++ v → Fine w → Fine u
fine-left u v w q h = fine-part [] u v w q h

fine-right : (u v w : List Statement) → w ≡ u ++ v → Fine w → Fine v
fine-right u v w q h = fine-part u v [] w (q ∙ ap (λ (xs : List Statement). u ++ xs) (sym (append-nil v))) h

-- ---- the label that ends ranges

abbrev own : Statement → Option ℕ
own s = if is_end_if s.kind then None else s.label

abbrev closing : List Statement → Option ℕ
closing [] = None
closing (s ∷ []) = own s
closing (s ∷ t ∷ ss) = closing (t ∷ ss)

closing-append : (x : List Statement) (s : Statement) (v : List Statement) → closing (x ++ s ∷ v) ≡ closing (s ∷ v)
closing-append [] s v = refl
closing-append (a ∷ []) s v = refl
closing-append (a ∷ b ∷ x) s v = closing-append (b ∷ x) s v

own-some : (s : Statement) (label : ℕ) → own s ≡ Some label → s.label ≡ Some label
own-some s label h = by (is_end_if s.kind) h
  where
    by : (b : Bool) → (if b then None else s.label) ≡ Some label → s.label ≡ Some label
    by true k = absurd cc
    by false k = k

closing-some : (x : List Statement) (label : ℕ) → closing x ≡ Some label → (f : List Statement) × (s : Statement) × (x ≡ f ++ s ∷ []) × (s.label ≡ Some label)
closing-some [] label h = absurd cc
closing-some (s ∷ []) label h = ([], s, refl, own-some s label h)
closing-some (s ∷ t ∷ x) label h =
    let more = closing-some (t ∷ x) label h in
    (s ∷ more.0, more.1, ap (λ (xs : List Statement). s ∷ xs) more.2, more.3)

-- ---- what stays open

-- no statement but the last ends the innermost range that is open
abbrev Safe : List Frame → List Statement → Type 0
Safe frames u = (f k : List Statement) (s t : Statement) (label : ℕ) → u ≡ f ++ s ∷ (t ∷ k) → s.label ≡ Some label → begins_with_range_of label frames ≡ false

stays : (label : ℕ) (frames : List Frame) (ns : List Node) → begins_with_range_of label frames ≡ false → end_ranges label frames ns ≡ nest frames ns
stays label [] ns h = refl
stays label (in_block done l c before ∷ frames) ns h = refl
stays label (in_range l d before ∷ frames) ns h = ap (λ (b : Bool). if b then end_ranges label frames (before ++ loop l d (block ns) ∷ []) else nest (in_range l d before ∷ frames) ns) h

nested-append : (n : Nest) (x v : List Statement) → nested_from n (x ++ v) ≡ nested_from (nested_from n x) v
nested-append n [] v = refl
nested-append n (s ∷ x) v = nested-append (with_statement n s) x v

-- what ends a node in the middle ends nothing that is open around it
goes-on : (label : Option ℕ) (x : List Statement) (s : Statement) (v u : List Statement) (frames : List Frame) (ns : List Node) → closing x ≡ label → u ≡ x ++ s ∷ v
    → Safe frames u → ended label frames ns ≡ nest frames ns
goes-on None x s v u frames ns c e safe = refl
goes-on (Some label) x s v u frames ns c e safe =
    let last = closing-some x label c in
    let q : u ≡ last.0 ++ last.1 ∷ (s ∷ v) = e ∙ ap (λ (xs : List Statement). xs ++ s ∷ v) last.2 ∙ append_assoc last.0 (last.1 ∷ []) (s ∷ v) in
    stays label frames ns (safe last.0 v last.1 s label q last.3)

safe-right : (frames : List Frame) (x v u : List Statement) → u ≡ x ++ v → Safe frames u → Safe frames v
safe-right frames x v u e safe = λ f k s t label q. safe (x ++ f) k s t label (e ∙ ap (λ (xs : List Statement). x ++ xs) q ∙ sym (append_assoc x f (s ∷ (t ∷ k))))

safe-none : (frames : List Frame) → Safe frames []
safe-none frames = λ f k s t label e. absurd (not_empty f s (t ∷ k) e)

-- the range of a DO is ended by its terminal statement alone
safe-range : (line : ℕ) (h : DoHead) (before : List Node) (frames : List Frame) (range : List Statement) → Fine range → EndsWith h.terminal range → Safe (in_range line h before ∷ frames) range
safe-range line h before frames range fine last = λ f k s t label e o. by f k s t label e o (h.terminal == label) refl (split last.0 last.1 f s (t ∷ k) (sym last.2 ∙ e))
  where
    by : (f k : List Statement) (s t : Statement) (label : ℕ) → range ≡ f ++ s ∷ (t ∷ k) → s.label ≡ Some label → (b : Bool) → (h.terminal == label) ≡ b
        → ((t ∷ k ≡ []) ⊎ ((back : List Statement) × (last.0 ≡ f ++ s ∷ back))) → (h.terminal == label) ≡ false
    by f k s t label e o false p q = p
    by f k s t label e o true p (inl q) = absurd cc
    by f k s t label e o true p (inr q) =
        let cut : range ≡ f ++ s ∷ (q.0 ++ last.1 ∷ []) = last.2 ∙ ap (λ (xs : List Statement). xs ++ last.1 ∷ []) q.1 ∙ append_assoc f (s ∷ q.0) (last.1 ∷ []) in
        absurd (fine.distinct f q.0 [] s last.1 label cut o (last.3 ∙ ap (λ (l : ℕ). Some l) (eqb-true h.terminal label p)))

-- ---- trees by their lists

abbrev nodes_of : Block → List Node
nodes_of no_nodes = []
nodes_of (then_node n b) = n ∷ nodes_of b

abbrev arms_of : Arms → List Arm
arms_of no_arms = []
arms_of (then_arm line c b more) = arm_of line c (nodes_of b) ∷ arms_of more

blocks-same : (b : Block) → block (nodes_of b) ≡ b
blocks-same no_nodes = refl
blocks-same (then_node n b) = ap (λ (c : Block). then_node n c) (blocks-same b)

arms-same : (a : Arms) → arms (arms_of a) ≡ a
arms-same no_arms = refl
arms-same (then_arm line c b more) =
    ap (λ (d : Block). then_arm line c d (arms (arms_of more))) (blocks-same b) ∙ ap (λ (m : Arms). then_arm line c b m) (arms-same more)

-- ---- nesting a node, a block and arms

abbrev Nests : List Statement → List Node → Type 0
Nests u nodes = (frames : List Frame) (ns : List Node) → Safe frames u → nested_from (nest frames ns) u ≡ ended (closing u) frames (ns ++ nodes)

abbrev NestsNode : List Statement → Node → Type 0
NestsNode u n = (frames : List Frame) (ns : List Node) → nested_from (nest frames ns) u ≡ ended (closing u) frames (ns ++ n ∷ [])

abbrev NestsArms : List Statement → List Arm → Type 0
NestsArms v more = (done : List Arm) (line : ℕ) (c : Option Term) (before : List Node) (frames : List Frame) (ns : List Node)
    → nested_from (nest (in_block done line c before ∷ frames) ns) v ≡ nest frames (before ++ choose (arms (done ++ arm_of line c ns ∷ more)) ∷ [])

block-more : (n : Node) (nodes : List Node) (x v : List Statement) → NestsNode x n → Nests v nodes → Nests (x ++ v) (n ∷ nodes)
block-more n nodes x [] one rest = λ frames ns safe.
    let none : [] ≡ nodes = ap (λ (m : Nest). m.nodes) (rest [] [] (safe-none [])) in
    ap (λ (xs : List Statement). nested_from (nest frames ns) xs) (append-nil x)
    ∙ one frames ns
    ∙ ap (λ (ms : List Node). ended (closing x) frames (ns ++ n ∷ ms)) none
    ∙ ap (λ (xs : List Statement). ended (closing xs) frames (ns ++ n ∷ nodes)) (sym (append-nil x))
block-more n nodes x (s ∷ v) one rest = λ frames ns safe.
    nested-append (nest frames ns) x (s ∷ v)
    ∙ ap (λ (m : Nest). nested_from m (s ∷ v)) (one frames ns ∙ goes-on (closing x) x s v (x ++ s ∷ v) frames (ns ++ n ∷ []) refl refl safe)
    ∙ rest frames (ns ++ n ∷ []) (safe-right frames x (s ∷ v) (x ++ s ∷ v) refl safe)
    ∙ ap (λ (ms : List Node). ended (closing (s ∷ v)) frames ms) (append_assoc ns (n ∷ []) nodes)
    ∙ ap (λ (l : Option ℕ). ended l frames (ns ++ n ∷ nodes)) (sym (closing-append x s v))

plain-nests : (s : Statement) (k : Kind) → s.kind ≡ k → stands_alone k ≡ true → (frames : List Frame) (ns : List Node)
    → with_kind (nest frames ns) s k ≡ ended (if is_end_if k then None else s.label) frames (ns ++ plain (record { line = s.line; label = s.label; kind = k }) ∷ [])
plain-nests s (program x) e h frames ns = refl
plain-nests s (integer x) e h frames ns = refl
plain-nests s (dimension x) e h frames ns = refl
plain-nests s (parameters x) e h frames ns = refl
plain-nests s (assign a x) e h frames ns = refl
plain-nests s (do_loop x) e h frames ns = absurd cc
plain-nests s go_on e h frames ns = refl
plain-nests s (block_if x) e h frames ns = absurd cc
plain-nests s (else_if x) e h frames ns = absurd cc
plain-nests s else_arm e h frames ns = absurd cc
plain-nests s end_if e h frames ns = absurd cc
plain-nests s (logical_if c x) e h frames ns = absurd cc
plain-nests s (print x) e h frames ns = refl
plain-nests s (read x) e h frames ns = refl
plain-nests s stop e h frames ns = refl
plain-nests s end e h frames ns = refl

-- the terminal statement of a range closes it
range-closes : (h : DoHead) (d : Statement) (range u : List Statement) → u ≡ d ∷ range → d.kind ≡ do_loop h → Fine u → EndsWith h.terminal range → closing range ≡ Some h.terminal
range-closes h d range u e k fine last =
    ap closing last.2 ∙ closing-append last.0 last.1 []
    ∙ ap (λ (b : Bool). if b then None else last.1.label) (fine.ends [] last.0 [] d last.1 h (e ∙ ap (λ (xs : List Statement). d ∷ xs) last.2) k last.3)
    ∙ last.3

closing-behind : (s : Statement) (v : List Statement) (l : ℕ) → closing v ≡ Some l → closing (s ∷ v) ≡ closing v
closing-behind s [] l h = absurd cc
closing-behind s (t ∷ v) l h = refl

loop-nests : (line : ℕ) (label : Option ℕ) (h : DoHead) (b : Block) (range : List Statement)
    → Fine (record { line = line; label = label; kind = do_loop h } ∷ range) → EndsWith h.terminal range → Nests range (nodes_of b)
    → NestsNode (record { line = line; label = label; kind = do_loop h } ∷ range) (loop line h b)
loop-nests line label h b range fine last body = λ frames ns.
    let d : Statement = record { line = line; label = label; kind = do_loop h } in
    let fine' : Fine range = fine-right (d ∷ []) range (d ∷ range) refl fine in
    let end = range-closes h d range (d ∷ range) refl refl fine last in
    body (in_range line h ns ∷ frames) [] (safe-range line h ns frames range fine' last)
    ∙ ap (λ (l : Option ℕ). ended l (in_range line h ns ∷ frames) (nodes_of b)) end
    ∙ ap (λ (x : Bool). if x then end_ranges h.terminal frames (ns ++ loop line h (block (nodes_of b)) ∷ []) else nest (in_range line h ns ∷ frames) (nodes_of b)) (equal_itself h.terminal)
    ∙ ap (λ (c : Block). end_ranges h.terminal frames (ns ++ loop line h c ∷ [])) (blocks-same b)
    ∙ ap (λ (l : Option ℕ). ended l frames (ns ++ loop line h b ∷ [])) (sym (closing-behind d range h.terminal end ∙ end))

-- inside a block nothing is ended
block-open : (label : Option ℕ) (done : List Arm) (line : ℕ) (c : Option Term) (before : List Node) (frames : List Frame) (ns : List Node)
    → ended label (in_block done line c before ∷ frames) ns ≡ nest (in_block done line c before ∷ frames) ns
block-open None done line c before frames ns = refl
block-open (Some l) done line c before frames ns = refl

safe-block : (done : List Arm) (line : ℕ) (c : Option Term) (before : List Node) (frames : List Frame) (u : List Statement) → Safe (in_block done line c before ∷ frames) u
safe-block done line c before frames u = λ f k s t label e o. refl

body-nests : (done : List Arm) (line : ℕ) (c : Option Term) (before : List Node) (frames : List Frame) (x v : List Statement) (nodes : List Node) (more : List Arm)
    → Nests x nodes → NestsArms v more
    → nested_from (nest (in_block done line c before ∷ frames) []) (x ++ v) ≡ nest frames (before ++ choose (arms (done ++ arm_of line c nodes ∷ more)) ∷ [])
body-nests done line c before frames x v nodes more body rest =
    nested-append (nest (in_block done line c before ∷ frames) []) x v
    ∙ ap (λ (m : Nest). nested_from m v) (body (in_block done line c before ∷ frames) [] (safe-block done line c before frames x) ∙ block-open (closing x) done line c before frames nodes)
    ∙ rest done line c before frames nodes

arm-nests : (line : ℕ) (label : Option ℕ) (d : Option Term) (b : Block) (more : Arms) (x w : List Statement) → Nests x (nodes_of b) → NestsArms w (arms_of more)
    → NestsArms (record { line = line; label = label; kind = arm_head d } ∷ (x ++ w)) (arms_of (then_arm line d b more))
arm-nests line label None b more x w body rest = λ done l c before frames ns.
    body-nests (done ++ arm_of l c ns ∷ []) line None before frames x w (nodes_of b) (arms_of more) body rest
    ∙ ap (λ (all : List Arm). nest frames (before ++ choose (arms all) ∷ [])) (append_assoc done (arm_of l c ns ∷ []) (arm_of line None (nodes_of b) ∷ arms_of more))
arm-nests line label (Some e) b more x w body rest = λ done l c before frames ns.
    body-nests (done ++ arm_of l c ns ∷ []) line (Some e) before frames x w (nodes_of b) (arms_of more) body rest
    ∙ ap (λ (all : List Arm). nest frames (before ++ choose (arms all) ∷ [])) (append_assoc done (arm_of l c ns ∷ []) (arm_of line (Some e) (nodes_of b) ∷ arms_of more))

-- the arms of an IF end with END IF, which closes nothing
abbrev Closed : List Statement → Type 0
Closed v = (s : Statement) × (w : List Statement) × (v ≡ s ∷ w) × (closing v ≡ None)

closed-more : (head : Statement) (x w v : List Statement) → v ≡ head ∷ (x ++ w) → Closed w → Closed v
closed-more head x w v e h =
    let q : v ≡ (head ∷ x) ++ h.0 ∷ h.1 = e ∙ ap (λ (ws : List Statement). head ∷ (x ++ ws)) h.2 in
    (head, x ++ w, e, ap closing q ∙ closing-append (head ∷ x) h.0 h.1 ∙ sym (ap closing h.2) ∙ h.3)

arms-close : (more : Arms) (v : List Statement) → LaysArms more v → Closed v
arms-close no_arms v h = (record { line = h.0; label = h.1; kind = end_if }, [], h.2, ap closing h.2)
arms-close (then_arm line c b more) v h =
    closed-more (record { line = line; label = h.0; kind = arm_head c }) h.1 h.2 v h.3 (arms-close more h.2 h.5)

arms-end-nests : (v : List Statement) (line : ℕ) (label : Option ℕ) → v ≡ record { line = line; label = label; kind = end_if } ∷ [] → NestsArms v []
arms-end-nests v line label e = λ done l c before frames ns. ap (λ (xs : List Statement). nested_from (nest (in_block done l c before ∷ frames) ns) xs) e

if-nests : (line : ℕ) (label : Option ℕ) (c : Term) (b : Block) (more : Arms) (x v u : List Statement) → u ≡ record { line = line; label = label; kind = block_if c } ∷ (x ++ v)
    → Nests x (nodes_of b) → NestsArms v (arms_of more) → Closed v → NestsNode u (choose (then_arm line (Some c) b more))
if-nests line label c b more x v u e body rest closed = λ frames ns.
    let head : Statement = record { line = line; label = label; kind = block_if c } in
    ap (λ (xs : List Statement). nested_from (nest frames ns) xs) e
    ∙ body-nests [] line (Some c) ns frames x v (nodes_of b) (arms_of more) body rest
    ∙ ap (λ (a : Arms). nest frames (ns ++ choose a ∷ [])) (arms-same (then_arm line (Some c) b more))
    ∙ ap (λ (l : Option ℕ). ended l frames (ns ++ choose (then_arm line (Some c) b more) ∷ [])) (sym ((closed-more head x v u e closed).3))

logical-nests : (a : Arms) (u : List Statement) → LaysLogicalIf a u → Fine u → NestsNode u (choose a)
logical-nests (then_arm line (Some c) (then_node (plain s) no_nodes) no_arms) u h fine = λ frames ns.
    let whole : Statement = record { line = line; label = h.0; kind = logical_if c s.kind } in
    let only = may-be-alone s.kind (fine.holds [] [] whole h.1) in
    let same : record { line = line; label = None; kind = alone s.kind } ≡ s = λ i. record { line = sym h.2 i; label = sym h.3 i; kind = only i } in
    ap (λ (xs : List Statement). nested_from (nest frames ns) xs) h.1
    ∙ ap (λ (t : Statement). ended h.0 frames (ns ++ choose (then_arm line (Some c) (then_node (plain t) no_nodes) no_arms) ∷ [])) same
    ∙ ap (λ (l : Option ℕ). ended l frames (ns ++ choose (then_arm line (Some c) (then_node (plain s) no_nodes) no_arms) ∷ [])) (sym (ap closing h.1))
logical-nests _ u h fine = absurd h

one-nests : (s : Statement) (u : List Statement) → u ≡ s ∷ [] → stands_alone s.kind ≡ true → NestsNode u (plain s)
one-nests s u e h = λ frames ns.
    ap (λ (xs : List Statement). nested_from (nest frames ns) xs) e
    ∙ plain-nests s s.kind refl h frames ns
    ∙ ap (λ (l : Option ℕ). ended l frames (ns ++ plain s ∷ [])) (sym (ap closing e))

mutual
  block-nests : (b : Block) (u : List Statement) → Lays b u → Fine u → Nests u (nodes_of b)
  block-nests no_nodes u h fine = subst (λ (xs : List Statement). Nests xs []) (sym h) (λ frames ns safe. ap (λ (ms : List Node). nest frames ms) (sym (append-nil ns)))
  block-nests (then_node n b) u h fine =
      subst (λ (xs : List Statement). Nests xs (n ∷ nodes_of b)) (sym h.2)
      (block-more n (nodes_of b) h.0 h.1 (node-nests n h.0 h.3 (fine-left h.0 h.1 u h.2 fine)) (block-nests b h.1 h.4 (fine-right h.0 h.1 u h.2 fine)))

  node-nests : (n : Node) (u : List Statement) → LaysNode n u → Fine u → NestsNode u n
  node-nests (plain s) u h fine = one-nests s u h.0 h.1
  node-nests (loop line d b) u h fine =
      let head : Statement = record { line = line; label = h.0; kind = do_loop d } in
      subst (λ (xs : List Statement). NestsNode xs (loop line d b)) (sym h.2)
      (loop-nests line h.0 d b h.1 (subst Fine h.2 fine) h.4 (block-nests b h.1 h.3 (fine-right (head ∷ []) h.1 u h.2 fine)))
  node-nests (choose a) u (inl h) fine = if-arms-nest a u h fine
  node-nests (choose a) u (inr h) fine = logical-nests a u h fine

  if-arms-nest : (a : Arms) (u : List Statement) → LaysIf a u → Fine u → NestsNode u (choose a)
  if-arms-nest no_arms u h fine = absurd h
  if-arms-nest (then_arm line None b more) u h fine = absurd h
  if-arms-nest (then_arm line (Some c) b more) u h fine =
      let head : Statement = record { line = line; label = h.0; kind = block_if c } in
      if-nests line h.0 c b more h.1 h.2 u h.3
      (block-nests b h.1 h.4 (fine-part (head ∷ []) h.1 h.2 u h.3 fine))
      (arms-nest more h.2 h.5 (fine-right (head ∷ h.1) h.2 u h.3 fine))
      (arms-close more h.2 h.5)

  arms-nest : (a : Arms) (v : List Statement) → LaysArms a v → Fine v → NestsArms v (arms_of a)
  arms-nest no_arms v h fine = arms-end-nests v h.0 h.1 h.2
  arms-nest (then_arm line c b more) v h fine =
      let head : Statement = record { line = line; label = h.0; kind = arm_head c } in
      subst (λ (xs : List Statement). NestsArms xs (arms_of (then_arm line c b more))) (sym h.3)
      (arm-nests line h.0 c b more h.1 h.2
      (block-nests b h.1 h.4 (fine-part (head ∷ []) h.1 h.2 v h.3 fine))
      (arms-nest more h.2 h.5 (fine-right (head ∷ h.1) h.2 v h.3 fine)))

nothing-ended : (label : Option ℕ) (ns : List Node) → ended label [] ns ≡ nest [] ns
nothing-ended None ns = refl
nothing-ended (Some l) ns = refl

nests-to : (b : Block) (ss : List Statement) → Lays b ss → Fine ss → block (nested_from (nest [] []) ss).nodes ≡ b
nests-to b ss h fine =
    ap (λ (n : Nest). block n.nodes) (block-nests b ss h fine [] [] (λ f k s t label e o. refl) ∙ nothing-ended (closing ss) (nodes_of b))
    ∙ blocks-same b

pub one-tree : (b c : Block) (ss : List Statement) → Lays b ss → Lays c ss → Fine ss → b ≡ c
one-tree b c ss h k fine = sym (nests-to b ss h fine) ∙ nests-to c ss k fine

-- ---- statements that break no rule of structure

record Unbroken (front : List Statement) (s : Statement) : Type 0 where
  ends : ends_wrongly (open_after front) s ≡ false
  label : is_label_again front s ≡ false

unbroken : (front : List Statement) (s : Statement) → lowest_broken checks front s ≡ None → Unbroken front s
unbroken front s h =
    let a = none-first (is_out_of_order front s) OutOfOrder _ h in
    let b = none-first (crosses (open_after front) s) OpenLoop _ a.1 in
    let c = none-first (ends_wrongly (open_after front) s) WrongTerminal _ b.1 in
    let d = none-first (breaks_blocks (open_after front) s) CrossedBlocks _ c.1 in
    let e = none-first (is_label_again front s) RepeatedLabel _ d.1 in
    record { ends = c.0; label = e.0 }

-- the statements before have another label
others : (f g : List Statement) (s t : Statement) (l : ℕ) → t.label ≡ Some l → is_label_again (f ++ s ∷ g) t ≡ false → (has_label l s ≡ false) × (list_any (has_label l) g ≡ false)
others f g s t l e h =
    let q : list_any (has_label l) (f ++ s ∷ g) ≡ false = sym (ap (λ (o : Option ℕ). is_some_and (λ label. list_any (has_label label) (f ++ s ∷ g)) o) e) ∙ h in
    or_parts (has_label l s) (list_any (has_label l) g) ((or_parts (list_any (has_label l) f) (has_label l s || list_any (has_label l) g) (sym (list_any-append (has_label l) f (s ∷ g)) ∙ q)).1)

has-own : (l : ℕ) (s : Statement) → s.label ≡ Some l → has_label l s ≡ true
has-own l s e = ap (λ (o : Option ℕ). is_some_and (λ m. l == m) o) e ∙ equal_itself l

-- a range stays open until a statement with its label
ended-stays : (l : ℕ) (label : Option ℕ) (opened : List Open) → is_some_and (λ m. l == m) label ≡ false → list_any (is_range_of l) opened ≡ true → list_any (is_range_of l) (spec_ended label opened) ≡ true
ended-stays l None opened n h = h
ended-stays l (Some m) [] n h = h
ended-stays l (Some m) (if_block last ∷ opened) n h = h
ended-stays l (Some m) (do_range terminal x ∷ opened) n h = by (terminal == m) refl (terminal == l) refl (λ r. ended-stays l (Some m) opened n r)
  where
    by : (b : Bool) → (terminal == m) ≡ b → (c : Bool) → (terminal == l) ≡ c
        → (list_any (is_range_of l) opened ≡ true → list_any (is_range_of l) (spec_ended (Some m) opened) ≡ true)
        → list_any (is_range_of l) (if b then spec_ended (Some m) opened else do_range terminal x ∷ opened) ≡ true
    by false p c q more = h
    by true p true q more =
        let same : l ≡ m = sym (eqb-true terminal l q) ∙ eqb-true terminal m p in
        absurd (let z : true ≡ false = sym (equal_itself l) ∙ ap (λ (k : ℕ). l == k) same ∙ n in cc)
    by true p false q more = more (sym (ap (λ (b : Bool). b || list_any (is_range_of l) opened) q) ∙ h)

or-right : (b c : Bool) → c ≡ true → (b || c) ≡ true
or-right true c h = refl
or-right false c h = h

begun-stays : (l : ℕ) (k : Kind) (opened : List Open) → list_any (is_range_of l) opened ≡ true → list_any (is_range_of l) (begun k opened) ≡ true
begun-stays l (do_loop d) opened h = or-right (d.terminal == l) (list_any (is_range_of l) opened) h
begun-stays l (block_if c) opened h = h
begun-stays l else_arm [] h = h
begun-stays l else_arm (if_block last ∷ opened) h = h
begun-stays l else_arm (do_range t x ∷ opened) h = h
begun-stays l end_if [] h = h
begun-stays l end_if (if_block last ∷ opened) h = h
begun-stays l end_if (do_range t x ∷ opened) h = h
begun-stays l _ opened h = h

range-stays : (l : ℕ) (opened : List Open) (g : List Statement) → list_any (has_label l) g ≡ false → list_any (is_range_of l) opened ≡ true → list_any (is_range_of l) (open_from opened g) ≡ true
range-stays l opened [] n h = h
range-stays l opened (s ∷ g) n h =
    let p = or_parts (has_label l s) (list_any (has_label l) g) n in
    range-stays l (after opened s) g p.1 (begun-stays l s.kind (spec_ended s.label opened) (ended-stays l s.label opened p.0 h))

open-append : (opened : List Open) (f : List Statement) (g : List Statement) → open_from opened (f ++ g) ≡ open_from (open_from opened f) g
open-append opened [] g = refl
open-append opened (s ∷ f) g = open-append (after opened s) f g

range-open : (f g : List Statement) (d : Statement) (h : DoHead) → d.kind ≡ do_loop h → list_any (has_label h.terminal) g ≡ false → list_any (is_range_of h.terminal) (open_after (f ++ d ∷ g)) ≡ true
range-open f g d h e n =
    let opened = spec_ended d.label (open_after f) in
    let first : list_any (is_range_of h.terminal) (begun d.kind (spec_ended d.label (open_after f))) ≡ true =
    ap (λ (k : Kind). list_any (is_range_of h.terminal) (begun k (spec_ended d.label (open_after f)))) e
    ∙ ap (λ (b : Bool). b || list_any (is_range_of h.terminal) (spec_ended d.label (open_after f))) (equal_itself h.terminal) in
    ap (λ (o : List Open). list_any (is_range_of h.terminal) o) (open-append [] f (d ∷ g))
    ∙ range-stays h.terminal (after (open_after f) d) g n first

not-end-if : (k : Kind) → (may_not_end_a_range k && (not (is_end k) && true)) ≡ false → is_end_if k ≡ false
not-end-if end_if h = absurd cc
not-end-if _ h = refl

pub fine-kept : (ss : List Statement) → Keep checks ss → Fine ss
fine-kept ss keep = record { distinct = distinct; ends = ends; holds = λ f k s e. held (open_after f) s (kept f s (keep.each f s k e)).blocks }
  where
    known : (f g k : List Statement) (s t : Statement) → ss ≡ f ++ s ∷ (g ++ t ∷ k) → Unbroken (f ++ s ∷ g) t
    known f g k s t e = unbroken (f ++ s ∷ g) t (keep.each (f ++ s ∷ g) t k (e ∙ sym (append_assoc f (s ∷ g) (t ∷ k))))

    distinct : (f g k : List Statement) (s t : Statement) (l : ℕ) → ss ≡ f ++ s ∷ (g ++ t ∷ k) → s.label ≡ Some l → t.label ≡ Some l → ⊥
    distinct f g k s t l e p q =
        let u = known f g k s t e in
        let r : true ≡ false = sym (has-own l s p) ∙ (others f g s t l q u.label).0 in
        cc

    ends : (f g k : List Statement) (d t : Statement) (h : DoHead) → ss ≡ f ++ d ∷ (g ++ t ∷ k) → d.kind ≡ do_loop h → t.label ≡ Some h.terminal → is_end_if t.kind ≡ false
    ends f g k d t h e p q =
        let u = known f g k d t e in
        let opened = range-open f g d h p ((others f g d t h.terminal q u.label).1) in
        let by : is_some_and (λ label. list_any (is_range_of label) (open_after (f ++ d ∷ g))) t.label ≡ true =
        ap (λ (o : Option ℕ). is_some_and (λ label. list_any (is_range_of label) (open_after (f ++ d ∷ g))) o) q ∙ opened in
        not-end-if t.kind (ap (λ (b : Bool). may_not_end_a_range t.kind && (not (is_end t.kind) && b)) (sym by) ∙ u.ends)

-- Trees that lay out as the same statements, which keep the rules on structure, are equal.
pub same-tree : (b c : Block) (ss : List Statement) → Lays b ss → Lays c ss → Keep checks ss → b ≡ c
same-tree b c ss h k keep = one-tree b c ss h k (fine-kept ss keep)
