-- In a program no DO variable is given a value in its range, and END stands in no range and no arm.
use Rattle.std.proofs.Common.{◌≡◌, ◌∙◌, ℕ, ◌+◌, Bool, true, false, not, inl, inr, List, [], ◌∷◌, ◌++◌, map, refl, ap, sym, subst, Option, Some, None, append_assoc}
use Rattle.std.specs.Prelude.{◌&&◌, ◌||◌, ◌==◌, if◌then◌else◌, ⊤, ◌⊎◌}
use Rattle.std.specs.List.{list_any, list_all}
use Rattle.std.proofs.lemmas.Bool.{or_parts, and_parts, and_from, not-true, or_from}
use Rattle.std.proofs.lemmas.List.Folds.{list_any-append}
use Rattle.ast.specs.Alone.{alone}
use Rattle.ast.specs.Regular.{given_by, is_none_of, node_keeps, block_keeps, arms_keep, node_has_end, block_has_end, arms_have_end, holds_end, ends_outside}
use Rattle.ast.specs.Stops.{is_end_kind}
use Rattle.ast.specs.Store.{same_name}
use Rattle.ast.specs.Tree.{Term, Access, Statement, Kind, DoHead, do_loop, block_if, else_if, else_arm, end_if, logical_if, program, integer, dimension, parameters, assign, go_on, print, read, stop, end, Node, plain, loop, choose, block, Arm, arms}
use Rattle.ast.proofs.Lists.{all_joined}
use Rattle.structure.specs.Open.{Open, open_after, is_active}
use Rattle.structure.specs.Rules.{holds_wrong_statement, may_stand_in_if, checks, Keep}
use Rattle.profile_check.proofs.Frames.{Kept, kept, shapes, all-ended}
use Rattle.profile_check.proofs.Laid.{may-be-alone}
use Rattle.profile_check.proofs.SameShape.{Nested, nested-one, kept-alike, alike, EndsInEnd}
use Rattle.profile_check.specs.Nesting.{Frame, in_range, in_block, Nest, nest, arm_of, next_arm, end_block, end_ranges, ended, own_node, logical_node, with_kind, with_statement, nested_from, nested}
use Rattle.profile_check.specs.Resolving.{Table, kind_resolved, accesses_resolved, statement_resolved, statements_resolved, statement_count, access_count, access_resolved}
use Rattle.profile_check.specs.Uses.{Use, term_uses, terms_uses, given_uses, all_uses, optional_uses, uses}

-- ---- what stands in a range or an arm, and outside

abbrev stands_in : List (List ℕ) → Node → Bool
stands_in names n = node_keeps names n && not (node_has_end n)

abbrev arm_stands : List (List ℕ) → Arm → Bool
arm_stands names a = block_keeps names a.body && not (block_has_end a.body)

from-nodes : (names : List (List ℕ)) (ns : List Node) → list_all (stands_in names) ns ≡ true → (block_keeps names (block ns) ≡ true) × (block_has_end (block ns) ≡ false)
from-nodes names [] h = (refl, refl)
from-nodes names (n ∷ ns) h =
    let p = and_parts (stands_in names n) (list_all (stands_in names) ns) h in
    let q = and_parts (node_keeps names n) (not (node_has_end n)) p.0 in
    let more = from-nodes names ns p.1 in
    (and_from (node_keeps names n) (block_keeps names (block ns)) q.0 more.0, or_from (node_has_end n) (block_has_end (block ns)) (not-true (node_has_end n) q.1) more.1)

from-arms : (names : List (List ℕ)) (xs : List Arm) → list_all (arm_stands names) xs ≡ true → (arms_keep names (arms xs) ≡ true) × (arms_have_end (arms xs) ≡ false)
from-arms names [] h = (refl, refl)
from-arms names (a ∷ xs) h =
    let p = and_parts (arm_stands names a) (list_all (arm_stands names) xs) h in
    let q = and_parts (block_keeps names a.body) (not (block_has_end a.body)) p.0 in
    let more = from-arms names xs p.1 in
    (and_from (block_keeps names a.body) (arms_keep names (arms xs)) q.0 more.0, or_from (block_has_end a.body) (arms_have_end (arms xs)) (not-true (block_has_end a.body) q.1) more.1)

-- the DO variables of the ranges that are open
abbrev variables : List Frame → List (List ℕ)
variables [] = []
variables (in_range line h before ∷ frames) = h.variable.name ∷ variables frames
variables (in_block done line c before ∷ frames) = variables frames

abbrev stands : List Frame → Node → Bool
stands [] n = node_keeps [] n && not (holds_end n)
stands (f ∷ frames) n = stands_in (variables (f ∷ frames)) n

abbrev Around : List Frame → Type 0
Around [] = ⊤
Around (in_range line h before ∷ frames) = (is_none_of (variables frames) h.variable.name ≡ true) × (list_all (stands frames) before ≡ true) × Around frames
Around (in_block done line c before ∷ frames) = (list_all (arm_stands (variables frames)) done ≡ true) × (list_all (stands frames) before ≡ true) × Around frames

-- what is open with the nodes in it
record Orderly (frames : List Frame) (ns : List Node) : Type 0 where
  nodes : list_all (stands frames) ns ≡ true
  around : Around frames

add : (frames : List Frame) (ns : List Node) (n : Node) → list_all (stands frames) ns ≡ true → stands frames n ≡ true → list_all (stands frames) (ns ++ n ∷ []) ≡ true
add frames ns n h k = all_joined (stands frames) ns (n ∷ []) h (and_from (stands frames n) true k refl)

-- a node that holds others
a-loop : (frames : List Frame) (line : ℕ) (h : DoHead) (ns : List Node) → is_none_of (variables frames) h.variable.name ≡ true
    → list_all (stands_in (h.variable.name ∷ variables frames)) ns ≡ true → stands frames (loop line h (block ns)) ≡ true
a-loop [] line h ns v k =
    let p = from-nodes (h.variable.name ∷ []) ns k in
    and_from (block_keeps (h.variable.name ∷ []) (block ns)) _ p.0 (ap not p.1)
a-loop (f ∷ frames) line h ns v k =
    let p = from-nodes (h.variable.name ∷ variables (f ∷ frames)) ns k in
    and_from (is_none_of (variables (f ∷ frames)) h.variable.name && block_keeps (h.variable.name ∷ variables (f ∷ frames)) (block ns)) _
    (and_from (is_none_of (variables (f ∷ frames)) h.variable.name) _ v p.0) (ap not p.1)

a-choice : (frames : List Frame) (xs : List Arm) → list_all (arm_stands (variables frames)) xs ≡ true → stands frames (choose (arms xs)) ≡ true
a-choice [] xs h = let p = from-arms [] xs h in and_from (arms_keep [] (arms xs)) _ p.0 (ap not p.1)
a-choice (f ∷ frames) xs h = let p = from-arms (variables (f ∷ frames)) xs h in and_from (arms_keep (variables (f ∷ frames)) (arms xs)) _ p.0 (ap not p.1)

an-arm : (names : List (List ℕ)) (line : ℕ) (c : Option Term) (ns : List Node) → list_all (stands_in names) ns ≡ true → arm_stands names (arm_of line c ns) ≡ true
an-arm names line c ns h = let p = from-nodes names ns h in and_from (block_keeps names (block ns)) _ p.0 (ap not p.1)

more-arms : (names : List (List ℕ)) (done : List Arm) (line : ℕ) (c : Option Term) (ns : List Node) → list_all (arm_stands names) done ≡ true → list_all (stands_in names) ns ≡ true
    → list_all (arm_stands names) (done ++ arm_of line c ns ∷ []) ≡ true
more-arms names done line c ns h k = all_joined (arm_stands names) done (arm_of line c ns ∷ []) h (and_from (arm_stands names (arm_of line c ns)) true (an-arm names line c ns k) refl)

-- ---- one more statement

next-orderly : (line : ℕ) (c : Option Term) (frames : List Frame) (ns : List Node) → Orderly frames ns → Orderly (next_arm line c frames ns).frames (next_arm line c frames ns).nodes
next-orderly line c [] ns h = h
next-orderly line c (in_range l d before ∷ frames) ns h = h
next-orderly line c (in_block done l k before ∷ frames) ns h = record { nodes = refl; around = (more-arms (variables frames) done l k ns h.around.0 h.nodes, h.around.1, h.around.2) }

end-orderly : (frames : List Frame) (ns : List Node) → Orderly frames ns → Orderly (end_block frames ns).frames (end_block frames ns).nodes
end-orderly [] ns h = h
end-orderly (in_range l d before ∷ frames) ns h = h
end-orderly (in_block done l k before ∷ frames) ns h = record {
  nodes = add frames before (choose (arms (done ++ arm_of l k ns ∷ []))) h.around.1 (a-choice frames (done ++ arm_of l k ns ∷ []) (more-arms (variables frames) done l k ns h.around.0 h.nodes));
  around = h.around.2;
}

ranges-orderly : (label : ℕ) (frames : List Frame) (ns : List Node) → Orderly frames ns → Orderly (end_ranges label frames ns).frames (end_ranges label frames ns).nodes
ranges-orderly label [] ns h = h
ranges-orderly label (in_block done l c before ∷ frames) ns h = h
ranges-orderly label (in_range line d before ∷ frames) ns h =
    by (d.terminal == label)
    (ranges-orderly label frames (before ++ loop line d (block ns) ∷ []) (record {
      nodes = add frames before (loop line d (block ns)) h.around.1 (a-loop frames line d ns h.around.0 h.nodes);
      around = h.around.2;
    }))
  where
    by : (b : Bool)
        → Orderly (end_ranges label frames (before ++ loop line d (block ns) ∷ [])).frames (end_ranges label frames (before ++ loop line d (block ns) ∷ [])).nodes
        → Orderly (if b then end_ranges label frames (before ++ loop line d (block ns) ∷ []) else nest (in_range line d before ∷ frames) ns).frames (if b then end_ranges label frames (before ++ loop line d (block ns) ∷ []) else nest (in_range line d before ∷ frames) ns).nodes
    by true outer = outer
    by false outer = h

ended-orderly : (label : Option ℕ) (frames : List Frame) (ns : List Node) (n : Node) → Orderly frames ns → stands frames n ≡ true
    → Orderly (ended label frames (ns ++ n ∷ [])).frames (ended label frames (ns ++ n ∷ [])).nodes
ended-orderly None frames ns n h k = record { nodes = add frames ns n h.nodes k; around = h.around }
ended-orderly (Some l) frames ns n h k = ranges-orderly l frames (ns ++ n ∷ []) (record { nodes = add frames ns n h.nodes k; around = h.around })

-- the names that a statement gives values, a DO's variable and the statement of a logical IF
-- counted
abbrev own_given : Kind → List (List ℕ)
own_given (do_loop h) = h.variable.name ∷ []
own_given (logical_if c k) = given_by k
own_given k = given_by k

-- a statement that may follow
record Follows (frames : List Frame) (k : Kind) : Type 0 where
  gives : list_all (is_none_of (variables frames)) (own_given k) ≡ true
  inner : holds_wrong_statement k ≡ false
  outside : (is_end_kind k ≡ false) ⊎ (frames ≡ [])

a-statement : (frames : List Frame) (s : Statement) → list_all (is_none_of (variables frames)) (given_by s.kind) ≡ true → (is_end_kind s.kind ≡ false) ⊎ (frames ≡ []) → stands frames (plain s) ≡ true
a-statement [] s g o = and_from (list_all (is_none_of []) (given_by s.kind)) true g refl
a-statement (f ∷ frames) s g (inl e) = and_from (list_all (is_none_of (variables (f ∷ frames))) (given_by s.kind)) _ g (ap not e)
a-statement (f ∷ frames) s g (inr e) = absurd cc

no-end : (k : Kind) → not (may_stand_in_if k) ≡ false → is_end_kind k ≡ false
no-end end h = absurd cc
no-end k h = refl

a-logical : (frames : List Frame) (line : ℕ) (c : Term) (k : Kind) → list_all (is_none_of (variables frames)) (given_by (alone k)) ≡ true → is_end_kind (alone k) ≡ false → stands frames (logical_node line c k) ≡ true
a-logical [] line c k g e = and_from _ _ (and_from _ true (and_from _ true g refl) refl) (ap (λ (b : Bool). not ((b || false) || false)) e)
a-logical (f ∷ frames) line c k g e = and_from _ _ (and_from _ true (and_from _ true g refl) refl) (ap (λ (b : Bool). not ((b || false) || false)) e)

kind-orderly : (n : Nest) (s : Statement) (k : Kind) → Follows n.frames k → Orderly n.frames n.nodes → Orderly (with_kind n s k).frames (with_kind n s k).nodes
kind-orderly n s (do_loop d) f h = record { nodes = refl; around = ((and_parts (is_none_of (variables n.frames) d.variable.name) true f.gives).0, h.nodes, h.around) }
kind-orderly n s (block_if c) f h = record { nodes = refl; around = (refl, h.nodes, h.around) }
kind-orderly n s (else_if c) f h = next-orderly s.line (Some c) n.frames n.nodes h
kind-orderly n s else_arm f h = next-orderly s.line None n.frames n.nodes h
kind-orderly n s end_if f h = end-orderly n.frames n.nodes h
kind-orderly n s (logical_if c k) f h =
    let same = may-be-alone k f.inner in
    let gives = ap (λ (x : Kind). list_all (is_none_of (variables n.frames)) (given_by x)) same ∙ f.gives in
    ended-orderly s.label n.frames n.nodes (own_node s (logical_if c k)) h (a-logical n.frames s.line c k gives (ap is_end_kind same ∙ no-end k f.inner))
kind-orderly n s (program x) f h = ended-orderly s.label n.frames n.nodes (own_node s (program x)) h (a-statement n.frames _ f.gives f.outside)
kind-orderly n s (integer ds) f h = ended-orderly s.label n.frames n.nodes (own_node s (integer ds)) h (a-statement n.frames _ f.gives f.outside)
kind-orderly n s (dimension ds) f h = ended-orderly s.label n.frames n.nodes (own_node s (dimension ds)) h (a-statement n.frames _ f.gives f.outside)
kind-orderly n s (parameters ds) f h = ended-orderly s.label n.frames n.nodes (own_node s (parameters ds)) h (a-statement n.frames _ f.gives f.outside)
kind-orderly n s (assign a e) f h = ended-orderly s.label n.frames n.nodes (own_node s (assign a e)) h (a-statement n.frames _ f.gives f.outside)
kind-orderly n s go_on f h = ended-orderly s.label n.frames n.nodes (own_node s go_on) h (a-statement n.frames _ f.gives f.outside)
kind-orderly n s (print items) f h = ended-orderly s.label n.frames n.nodes (own_node s (print items)) h (a-statement n.frames _ f.gives f.outside)
kind-orderly n s (read elements) f h = ended-orderly s.label n.frames n.nodes (own_node s (read elements)) h (a-statement n.frames _ f.gives f.outside)
kind-orderly n s stop f h = ended-orderly s.label n.frames n.nodes (own_node s stop) h (a-statement n.frames _ f.gives f.outside)
kind-orderly n s end f h = ended-orderly s.label n.frames n.nodes (own_node s end) h (a-statement n.frames _ f.gives f.outside)

-- ---- a statement that breaks no rule may follow

active-variables : (frames : List Frame) (x : List ℕ) → is_active (shapes frames) x ≡ list_any (same_name x) (variables frames)
active-variables [] x = refl
active-variables (in_range line h before ∷ frames) x = ap (λ (b : Bool). same_name x h.variable.name || b) (active-variables frames x)
active-variables (in_block done line c before ∷ frames) x = active-variables frames x

-- a use that gives no value to what passes a test
abbrev gives : (List ℕ → Bool) → Use → Bool
gives test u = u.is_given && test u.name

any-right : {X : Type 0} (p : X → Bool) (xs ys : List X) → list_any p (xs ++ ys) ≡ false → list_any p ys ≡ false
any-right p xs ys h = (or_parts (list_any p xs) (list_any p ys) (sym (list_any-append p xs ys) ∙ h)).1

module _ (test : List ℕ → Bool) where
  abbrev None_given : List Use → Type 0
  None_given us = list_any (gives test) us ≡ false

  last-given : (us : List Use) (x : List ℕ) (n : ℕ) → None_given (us ++ record { name = x; count = n; is_given = true } ∷ []) → test x ≡ false
  last-given us x n h = (or_parts (test x) false (any-right (gives test) us _ h)).0

  none-of : (x : List ℕ) → test x ≡ false → list_all (λ y. not (test y)) (x ∷ []) ≡ true
  none-of x h = and_from (not (test x)) true (ap not h) refl

  targets-given : (es : List Access) → None_given (all_uses given_uses es) → list_all (λ y. not (test y)) (map (λ a. a.ref.name) es) ≡ true
  targets-given [] h = refl
  targets-given (a ∷ es) h =
      let p = or_parts (list_any (gives test) (given_uses a)) (list_any (gives test) (all_uses given_uses es)) (sym (list_any-append (gives test) (given_uses a) (all_uses given_uses es)) ∙ h) in
      and_from (not (test a.ref.name)) _ (ap not (last-given (terms_uses a.subscripts) a.ref.name _ p.0)) (targets-given es p.1)

  inner-given : (k : Kind) → None_given (uses k) → list_all (λ y. not (test y)) (given_by k) ≡ true
  inner-given (assign a e) h = none-of a.ref.name (last-given (terms_uses a.subscripts) a.ref.name _ (any-right (gives test) (term_uses e) (given_uses a) h))
  inner-given (read es) h = targets-given es h
  inner-given k h = refl

  kind-given : (k : Kind) → None_given (uses k) → list_all (λ y. not (test y)) (own_given k) ≡ true
  kind-given (do_loop d) h = none-of d.variable.name (last-given (term_uses d.first ++ term_uses d.last ++ optional_uses d.step) d.variable.name 0 h)
  kind-given (logical_if c k) h = inner-given k (any-right (gives test) (term_uses c) (uses k) h)
  kind-given (assign a e) h = inner-given (assign a e) h
  kind-given (read es) h = inner-given (read es) h
  kind-given k h = refl

-- resolving changes no name that is given a value
targets-alike : (t : Table) (n : ℕ) (es : List Access) → map (λ a. a.ref.name) (accesses_resolved t n es) ≡ map (λ a. a.ref.name) es
targets-alike t n [] = refl
targets-alike t n (a ∷ es) = ap (λ (xs : List (List ℕ)). a.ref.name ∷ xs) (targets-alike t (n + access_count (access_resolved t n a)) es)

inner-alike : (t : Table) (n : ℕ) (k : Kind) → given_by (kind_resolved t n k) ≡ given_by k
inner-alike t n (assign a e) = refl
inner-alike t n (read es) = targets-alike t n es
inner-alike t n (do_loop h) = refl
inner-alike t n (block_if e) = refl
inner-alike t n (else_if e) = refl
inner-alike t n (logical_if e k) = refl
inner-alike t n (print items) = refl
inner-alike t n k = refl

given-alike : (t : Table) (n : ℕ) (k : Kind) → own_given (kind_resolved t n k) ≡ own_given k
given-alike t n (assign a e) = refl
given-alike t n (read es) = targets-alike t n es
given-alike t n (do_loop h) = refl
given-alike t n (block_if e) = refl
given-alike t n (else_if e) = refl
given-alike t n (logical_if e k) = inner-alike t _ k
given-alike t n (print items) = refl
given-alike t n k = refl

is-end : (k : Kind) → is_end_kind k ≡ true → k ≡ end
is-end end h = refl
is-end k h = absurd cc

-- what `CrossedBlocks` and `ActiveVariable` say of a statement
pub record Rightly (opened : List Open) (s : Statement) : Type 0 where
  pub active : list_any (λ u. u.is_given && is_active opened u.name) (uses s.kind) ≡ false
  pub alone : holds_wrong_statement s.kind ≡ false

follows : (t : Table) (m : ℕ) (frames : List Frame) (opened : List Open) (s : Statement) → shapes frames ≡ opened → Kept (shapes frames) (statement_resolved t m s) → Rightly opened s
    → Follows frames (kind_resolved t m s.kind)
follows t m frames opened s shaped q h =
    let a : (x : List ℕ) → list_any (same_name x) (variables frames) ≡ is_active opened x = λ x. sym (active-variables frames x) ∙ ap (λ (o : List Open). is_active o x) shaped in
    let none : list_any (λ (u : Use). u.is_given && list_any (same_name u.name) (variables frames)) (uses s.kind) ≡ false =
    (λ i. list_any (λ (u : Use). u.is_given && a u.name i) (uses s.kind)) ∙ h.active in
    record {
      gives = subst (λ (xs : List (List ℕ)). list_all (is_none_of (variables frames)) xs ≡ true) (sym (given-alike t m s.kind)) (kind-given (λ x. list_any (same_name x) (variables frames)) s.kind none);
      inner = (alike t m s.kind).inner ∙ h.alone;
      outside = by (is_end_kind (kind_resolved t m s.kind)) refl;
    }
  where
    by : (b : Bool) → is_end_kind (kind_resolved t m s.kind) ≡ b → (is_end_kind (kind_resolved t m s.kind) ≡ false) ⊎ (frames ≡ [])
    by true e = inr (all-ended frames (statement_resolved t m s) (is-end (kind_resolved t m s.kind) e) q)
    by false e = inl e

-- ---- all statements

nothing-left : (label : Option ℕ) (ns : List Node) → (ended label [] ns).frames ≡ []
nothing-left None ns = refl
nothing-left (Some l) ns = refl

last-ended : (n : Nest) (r : Statement) → r.kind ≡ end → Kept (shapes n.frames) r → (with_statement n r).frames ≡ []
last-ended n r e q =
    let none : n.frames ≡ [] = all-ended n.frames r e q in
    ap (λ (j : Kind). (with_kind n r j).frames) e ∙ ap (λ (fs : List Frame). (ended r.label fs (n.nodes ++ own_node r end ∷ [])).frames) none ∙ nothing-left r.label (n.nodes ++ own_node r end ∷ [])

orderly-all : (t : Table) (m : ℕ) (n : Nest) (whole front resolved rest : List Statement) → Keep checks whole
    → ((f : List Statement) (s : Statement) (b : List Statement) → whole ≡ f ++ s ∷ b → Rightly (open_after f) s)
    → whole ≡ front ++ rest → EndsInEnd rest → Nested n front resolved → Orderly n.frames n.nodes
    → list_all (stands []) (nested_from n (statements_resolved t m rest)).nodes ≡ true
orderly-all t m n whole front resolved [] keep right cut last h o = absurd last
orderly-all t m n whole front resolved (s ∷ []) keep right cut last h o =
    let r = statement_resolved t m s in
    let k = kept-alike (open_after front) s r.kind (alike t m s.kind) (kept front s (keep.each front s [] cut)) in
    let q : Kept (shapes n.frames) r = subst (λ (o : List Open). Kept o r) (sym h.shaped) k in
    let one = kind-orderly n r r.kind (follows t m n.frames (open_after front) s h.shaped q (right front s [] cut)) o in
    (subst (λ (fs : List Frame). Orderly fs (with_statement n r).nodes) (last-ended n r (ap (λ (j : Kind). kind_resolved t m j) last) q) one).nodes
orderly-all t m n whole front resolved (s ∷ s2 ∷ ss) keep right cut last h o =
    let r = statement_resolved t m s in
    let k = kept-alike (open_after front) s r.kind (alike t m s.kind) (kept front s (keep.each front s (s2 ∷ ss) cut)) in
    let q : Kept (shapes n.frames) r = subst (λ (o : List Open). Kept o r) (sym h.shaped) k in
    orderly-all t (m + statement_count r) (with_statement n r) whole (front ++ s ∷ []) (resolved ++ r ∷ []) (s2 ∷ ss) keep right (cut ∙ sym (append_assoc front (s ∷ []) (s2 ∷ ss))) last
    (nested-one t m n front resolved s h (keep.each front s (s2 ∷ ss) cut))
    (kind-orderly n r r.kind (follows t m n.frames (open_after front) s h.shaped q (right front s (s2 ∷ ss) cut)) o)

from-top : (ns : List Node) → list_all (stands []) ns ≡ true → (block_keeps [] (block ns) ≡ true) × (ends_outside (block ns) ≡ true)
from-top [] h = (refl, refl)
from-top (n ∷ ns) h =
    let p = and_parts (stands [] n) (list_all (stands []) ns) h in
    let q = and_parts (node_keeps [] n) (not (holds_end n)) p.0 in
    let more = from-top ns p.1 in
    (and_from (node_keeps [] n) (block_keeps [] (block ns)) q.0 more.0, and_from (not (holds_end n)) (ends_outside (block ns)) q.1 more.1)

-- the resolved statements of a text that keeps the rules, nested
pub nested-orderly : (t : Table) (ss : List Statement) → Keep checks ss
    → ((f : List Statement) (s : Statement) (b : List Statement) → ss ≡ f ++ s ∷ b → Rightly (open_after f) s) → EndsInEnd ss
    → (block_keeps [] (block (nested (statements_resolved t 0 ss)).nodes) ≡ true) × (ends_outside (block (nested (statements_resolved t 0 ss)).nodes) ≡ true)
nested-orderly t ss keep right last =
    from-top (nested (statements_resolved t 0 ss)).nodes
    (orderly-all t 0 (nest [] []) ss [] [] ss keep right refl last (record { laid = refl; shaped = refl }) (record { nodes = refl; around = tt }))
