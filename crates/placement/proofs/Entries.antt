-- Before each reference of a plan that is placed its own events aren't advanced, and what is
-- awaited before its statement has been awaited.
use Rattle.std.proofs.Common.{◌≡◌, ◌∙◌, ◌+◌, ◌<◌, ◌≤◌, ◌⊎◌, inl, inr, ℕ, zero, suc, Bool, true, false, List, [], ◌∷◌, ◌++◌, length, get_or, refl, ap, sym, subst, ⊎_elim, Option, Some, None, arith, append_assoc, min}
use Rattle.std.specs.Prelude.{nat_le}
use Rattle.std.proofs.lemmas.Bool.{le-leb, leb-true}
use Rattle.ast.specs.Tree as tree
use Rattle.ast.specs.Tree.{Ref, Term, Terms, Access, PrintItem, DoHead, Kind, Block, Arms}
use Rattle.dependence.specs.Plan.{plain, loop, choose, PlanBlock, then_node}
use Rattle.loop_tree.specs.Occurrences.{Occurrence, arms_occurrences, block_occurrences, head_occurrences, kind_occurrences, optional_occurrences, term_occurrences, terms_occurrences, target_occurrences, targets_occurrences, items_occurrences}
use Rattle.loop_tree.specs.Paths.{Token, uses, defines, await, advance, term_tokens, head_tokens}
use Rattle.plan_check.specs.Checking.{Entry, at_references, entries, reference_tokens, tokens_of}
use Rattle.plan_check.specs.Flow.{Known, Near, Point, after, after_arms, after_kind, all, arms_points, block_points, has_awaited, is_free, is_near, kind_tokens, nowhere, points, step, with_await}
use Rattle.plan_check.proofs.Members.{In}
use Rattle.placement.specs.Placement.{IsEvent}
use Rattle.placement.specs.Placing.{arms_size, block_size, events, inner_arms, inner_block, node_size, placed_arms, placed_block, with_advances, with_awaits}
use Rattle.plan_check.proofs.Members.{in_which}
use Rattle.ast.specs.References.{term_references}
use Rattle.plan_check.proofs.Parallel.{arms_are, block_are, head_are, kind_are, points_are, points_two, term_are}
use Rattle.placement.proofs.Going.{goes_arms}
use Rattle.placement.proofs.Inner.{inner_arms_keep}
use Rattle.placement.proofs.Keeping.{Keeps, Plain, Room, advanced_all, awaited_all, keeps_advances, keeps_awaits, keeps_kind, keeps_nowhere, keeps_same, keeps_then, keeps_tokens, plain_head, plain_kind, plain_used, room_advances, room_nowhere, room_step}
use Rattle.placement.proofs.Lists.{all_get, await_near}
use Rattle.placement.proofs.Sources.{Ev, arm_sizes, ev_apart, ev_wider, in_source, sizes, source_in}
use Rattle.placement.proofs.Stripping.{arms_bare, arms_same, advances_bare, advances_stripped, inner_arms_bare, inner_arms_same, inner_bare, inner_same, placed_bare, placed_same}
use Rattle.plan_check.proofs.Sound.{in_entries}

-- ---- entries, one part after another

at_append : (ps qs : List Point) → at_references (ps ++ qs) ≡ at_references ps ++ at_references qs
at_append [] qs = refl
at_append ((uses r, s) ∷ ps) qs = ap (λ (ks : List Known). s ∷ ks) (at_append ps qs)
at_append ((defines r, s) ∷ ps) qs = ap (λ (ks : List Known). s ∷ ks) (at_append ps qs)
at_append ((await e d, s) ∷ ps) qs = at_append ps qs
at_append ((advance e, s) ∷ ps) qs = at_append ps qs

token_count : (os : List Occurrence) → length (tokens_of os) ≡ length os
token_count [] = refl
token_count (o ∷ os) = ap suc (token_count os)

point_count : (ps : List Point) → length (reference_tokens ps) ≡ length (at_references ps)
point_count [] = refl
point_count ((uses r, s) ∷ ps) = ap suc (point_count ps)
point_count ((defines r, s) ∷ ps) = ap suc (point_count ps)
point_count ((await e d, s) ∷ ps) = point_count ps
point_count ((advance e, s) ∷ ps) = point_count ps

split_entries : (os ps : List Occurrence) (ks ls : List Known) (x : Entry) → length os ≡ length ks → In x (entries (os ++ ps) (ks ++ ls)) → In x (entries os ks) ⊎ In x (entries ps ls)
split_entries [] ps [] ls x e i = inr i
split_entries [] ps (k ∷ ks) ls x e i = absurd (omega (arith, e))
split_entries (o ∷ os) ps [] ls x e i = absurd (omega (arith, e))
split_entries (o ∷ os) ps (k ∷ ks) ls x e (inl z) = inl (inl z)
split_entries (o ∷ os) ps (k ∷ ks) ls x e (inr i) = ⊎_elim (λ j. inl (inr j)) (λ j. inr j) (split_entries os ps ks ls x (omega (arith, e)) i)

two_parts : (os ps : List Occurrence) (xs ys : List Point) (x : Entry) → tokens_of os ≡ reference_tokens xs → In x (entries (os ++ ps) (at_references (xs ++ ys))) → In x (entries os (at_references xs)) ⊎ In x (entries ps (at_references ys))
two_parts os ps xs ys x e i =
    split_entries os ps (at_references xs) (at_references ys) x (sym (token_count os) ∙ ap (λ (t : List Token). length t) e ∙ point_count xs)
    (subst (λ (ks : List Known). In x (entries (os ++ ps) ks)) (at_append xs ys) i)

at_awaits : (xs : List (ℕ × ℕ)) (b : PlanBlock) (s : Known) → at_references (block_points (with_awaits xs b) s) ≡ at_references (block_points b (awaited_all xs s))
unfolding awaited_all
at_awaits [] b s = refl
at_awaits (a ∷ more) b s = at_awaits more b (step (await a.0 a.1) s)

at_advances : (es : List ℕ) (b : PlanBlock) (s : Known) → at_references (block_points (with_advances es b) s) ≡ at_references (block_points b (advanced_all es s))
unfolding advanced_all
at_advances [] b s = refl
at_advances (e ∷ es) b s = at_advances es b (step (advance e) (step (await e 1) s))

-- ---- awaits

all_near : (xs : List Near) (k d : ℕ) → k < length xs → is_near (get_or (all (Some 0) xs) k None) d ≡ true
all_near [] k d h = absurd (omega (arith, h))
all_near (x ∷ xs) zero d h = le-leb 0 d (omega arith)
all_near (x ∷ xs) (suc k) d h = all_near xs k d (omega (arith, h))

min_near : (m d k : ℕ) → nat_le m k ≡ true → nat_le (min m d) k ≡ true
min_near m d k h = let a = leb-true m k h in le-leb (min m d) k (omega (arith, a))

-- an event that has been awaited stays so
awaited_stays : (ns : List Near) (e d k m : ℕ) → is_near (get_or ns k None) m ≡ true → is_near (get_or (with_await ns e d) k None) m ≡ true
awaited_stays [] e d k m h = h
awaited_stays (None ∷ ns) zero d zero m h = cc
awaited_stays (Some n ∷ ns) zero d zero m h = min_near n d m h
awaited_stays (n ∷ ns) zero d (suc k) m h = h
awaited_stays (n ∷ ns) (suc e) d zero m h = h
awaited_stays (n ∷ ns) (suc e) d (suc k) m h = awaited_stays ns e d k m h

stays_awaited : (xs : List (ℕ × ℕ)) (s : Known) (e d : ℕ) → has_awaited s e d ≡ true → has_awaited (awaited_all xs s) e d ≡ true
unfolding awaited_all
stays_awaited [] s e d h = h
stays_awaited (a ∷ more) s e d h = stays_awaited more (step (await a.0 a.1) s) e d (awaited_stays s.near a.0 a.1 e d h)

awaited_in : (xs : List (ℕ × ℕ)) (s : Known) (n : ℕ × ℕ) → In n xs → Room s n.0 → has_awaited (awaited_all xs s) n.0 n.1 ≡ true
unfolding awaited_all
awaited_in [] s n i r = absurd i
awaited_in (a ∷ more) s n (inl e) r =
    stays_awaited more (step (await a.0 a.1) s) n.0 n.1 (subst (λ (z : ℕ × ℕ). has_awaited (step (await z.0 z.1) s) n.0 n.1 ≡ true) e (await_near s.near n.0 n.1 r.near))
awaited_in (a ∷ more) s n (inr i) r = awaited_in more (step (await a.0 a.1) s) n i (room_step (await a.0 a.1) s n.0 r)

-- ---- tokens without events leave the events as they are

after_near : (t : List Token) (s : Known) → Plain t → ((after t s).near ≡ s.near) × ((after t s).free ≡ s.free)
after_near [] s h = (refl, refl)
after_near (uses r ∷ t) s h = after_near t s h
after_near (defines r ∷ t) s h = after_near t (step (defines r) s) h
after_near (await e d ∷ t) s h = absurd h
after_near (advance e ∷ t) s h = absurd h

points_near : (t : List Token) (s y : Known) → Plain t → In y (at_references (points t s)) → (y.near ≡ s.near) × (y.free ≡ s.free)
points_near [] s y h i = absurd i
points_near (uses r ∷ t) s y h (inl e) = (ap (λ (z : Known). z.near) e, ap (λ (z : Known). z.free) e)
points_near (uses r ∷ t) s y h (inr i) = points_near t s y h i
points_near (defines r ∷ t) s y h (inl e) = (ap (λ (z : Known). z.near) e, ap (λ (z : Known). z.free) e)
points_near (defines r ∷ t) s y h (inr i) = points_near t (step (defines r) s) y h i
points_near (await e d ∷ t) s y h i = absurd h
points_near (advance e ∷ t) s y h i = absurd h

entry_known : (os : List Occurrence) (ks : List Known) (o : Occurrence) (y : Known) → In (o, y) (entries os ks) → In y ks
entry_known [] ks o y i = absurd i
entry_known (a ∷ os) [] o y i = absurd i
entry_known (a ∷ os) (k ∷ ks) o y (inl z) = inl (ap (λ (x : Entry). x.1) z)
entry_known (a ∷ os) (k ∷ ks) o y (inr i) = inr (entry_known os ks o y i)

-- ---- statements of occurrences

abbrev pub AllOf : ℕ → List Occurrence → Type 0
AllOf n os = (o : Occurrence) → In o os → o.statement ≡ n

of_two : (n : ℕ) (os ps : List Occurrence) → AllOf n os → AllOf n ps → AllOf n (os ++ ps)
of_two n os ps h k o i = ⊎_elim (λ j. h o j) (λ j. k o j) (in_which o os ps i)

last_of : (n : ℕ) (r : Ref) (es : Terms) (d : Bool) → AllOf n (record { ref = r; subscripts = es; defines = d; statement = n } ∷ [])
last_of n r es d o (inl e) = ap (λ (x : Occurrence). x.statement) e
last_of n r es d o (inr i) = absurd i

none_of : (n : ℕ) → AllOf n []
none_of n = λ o i. absurd i

mutual
  term_of : (n : ℕ) (e : Term) → AllOf n (term_occurrences n e)
  term_of n (tree.constant x) = λ o i. absurd i
  term_of n (tree.truth x) = λ o i. absurd i
  term_of n (tree.parameter x y) = λ o i. absurd i
  term_of n (tree.element r es) = of_two n (terms_occurrences n es) (record { ref = r; subscripts = es; defines = false; statement = n } ∷ []) (terms_of n es) (last_of n r es false)
  term_of n (tree.call f es) = terms_of n es
  term_of n (tree.parentheses e) = term_of n e
  term_of n (tree.unary p e) = term_of n e
  term_of n (tree.binary x a b) = of_two n (term_occurrences n a) (term_occurrences n b) (term_of n a) (term_of n b)

  terms_of : (n : ℕ) (es : Terms) → AllOf n (terms_occurrences n es)
  terms_of n tree.no_terms = λ o i. absurd i
  terms_of n (tree.then_term e es) = of_two n (term_occurrences n e) (terms_occurrences n es) (term_of n e) (terms_of n es)

target_of : (n : ℕ) (a : Access) → AllOf n (target_occurrences n a)
target_of n a = of_two n (terms_occurrences n a.subscripts) (record { ref = a.ref; subscripts = a.subscripts; defines = true; statement = n } ∷ []) (terms_of n a.subscripts) (last_of n a.ref a.subscripts true)

targets_of : (n : ℕ) (xs : List Access) → AllOf n (targets_occurrences n xs)
targets_of n [] = none_of n
targets_of n (a ∷ more) = of_two n (target_occurrences n a) (targets_occurrences n more) (target_of n a) (targets_of n more)

items_of : (n : ℕ) (xs : List PrintItem) → AllOf n (items_occurrences n xs)
items_of n [] = none_of n
items_of n (tree.value_item e ∷ xs) = of_two n (term_occurrences n e) (items_occurrences n xs) (term_of n e) (items_of n xs)
items_of n (tree.text_item t ∷ xs) = items_of n xs

pub kind_of : (n : ℕ) (k : Kind) → AllOf n (kind_occurrences n k)
kind_of n (tree.assign a e) = of_two n (term_occurrences n e) (target_occurrences n a) (term_of n e) (target_of n a)
kind_of n (tree.print items) = items_of n items
kind_of n (tree.read xs) = targets_of n xs
kind_of n tree.stop = none_of n
kind_of n (tree.program x) = none_of n
kind_of n (tree.integer x) = none_of n
kind_of n (tree.dimension x) = none_of n
kind_of n (tree.parameters x) = none_of n
kind_of n (tree.do_loop x) = none_of n
kind_of n tree.go_on = none_of n
kind_of n (tree.block_if x) = none_of n
kind_of n (tree.else_if x) = none_of n
kind_of n tree.else_arm = none_of n
kind_of n tree.end_if = none_of n
kind_of n (tree.logical_if x y) = none_of n
kind_of n tree.end = none_of n

pub optional_of : (n : ℕ) (o : Option Term) → AllOf n (optional_occurrences n o)
optional_of n None = none_of n
optional_of n (Some e) = term_of n e

pub head_of : (n : ℕ) (h : DoHead) → AllOf n (head_occurrences n h)
head_of n h =
    of_two n ((term_occurrences n h.first ++ term_occurrences n h.last) ++ optional_occurrences n h.step) (record { ref = h.variable; subscripts = tree.no_terms; defines = true; statement = n } ∷ [])
    (of_two n (term_occurrences n h.first ++ term_occurrences n h.last) (optional_occurrences n h.step) (of_two n (term_occurrences n h.first) (term_occurrences n h.last) (term_of n h.first) (term_of n h.last)) (optional_of n h.step))
    (last_of n h.variable tree.no_terms true)

-- ---- over the tree

module _ (sources : List ℕ) (before : ℕ → List (ℕ × ℕ)) (listed : (x : ℕ) (n : ℕ × ℕ) → In n (before x) → (s : ℕ) × IsEvent 1 sources n.0 s) where
  -- what is asked where a reference of a statement stands
  abbrev pub Own : ℕ → Known → Type 0
  Own i s = ((e : ℕ) → IsEvent 1 sources e i → is_free s e ≡ true) × ((n : ℕ × ℕ) → In n (before i) → has_awaited s n.0 n.1 ≡ true)

  abbrev pub AllFine : List Entry → Type 0
  AllFine es = (x : Entry) → In x es → Own x.0.statement x.1

  abbrev pub FreeIn : ℕ → ℕ → Known → Type 0
  FreeIn low high s = (e : ℕ) → Ev sources before low high e → is_free s e ≡ true

  abbrev pub Roomy : Known → Type 0
  Roomy s = (e t : ℕ) → IsEvent 1 sources e t → Room s e

  own_same : (i : ℕ) (s y : Known) → Own i s → y.near ≡ s.near → y.free ≡ s.free → Own i y
  own_same i s y h near free = (
    (λ e k. subst (λ (xs : List Bool). get_or xs e false ≡ true) (sym free) (h.0 e k)),
    (λ n k. subst (λ (xs : List Near). is_near (get_or xs n.0 None) n.1 ≡ true) (sym near) (h.1 n k)),
  )

  own_tokens : (i : ℕ) (os : List Occurrence) (t : List Token) (s : Known) → AllOf i os → Plain t → Own i s → AllFine (entries os (at_references (points t s)))
  own_tokens i os t s of quiet own x m =
      let y = points_near t s x.1 quiet (entry_known os (at_references (points t s)) x.0 x.1 m) in
      let is = of x.0 (in_entries os (at_references (points t s)) x.0 x.1 m) in
      subst (λ (j : ℕ). Own j x.1) (sym is) (own_same i s x.1 own y.0 y.1)

  own_after : (i : ℕ) (t : List Token) (s : Known) → Plain t → Own i s → Own i (after t s)
  own_after i t s quiet own = let y = after_near t s quiet in own_same i s (after t s) own y.0 y.1

  own_awaited : (o : ℕ) (s : Known) → Roomy s → ((e : ℕ) → IsEvent 1 sources e o → is_free s e ≡ true) → Own o (awaited_all (before o) s)
  own_awaited o s room free = (
    (λ e k. (keeps_awaits e (before o) s).free (room e o k) (free e k)),
    (λ n k. let h = listed o n k in awaited_in (before o) s n k (room n.0 h.0 h.1)),
  )

  own_nowhere : (i : ℕ) (s : Known) → Roomy s → Own i (nowhere s)
  own_nowhere i s room = (
    (λ e k. all_get s.free e (room e i k).free),
    (λ n k. let h = listed i n k in all_near s.near n.0 n.1 (room n.0 h.0 h.1).near),
  )

  has_of : (low high e : ℕ) → Ev sources before low high e → (t : ℕ) × IsEvent 1 sources e t
  has_of low high e i = let x = source_in 1 sources low high e i in (x.0, x.1)

  free_nowhere : (low high : ℕ) (s : Known) → Roomy s → FreeIn low high (nowhere s)
  free_nowhere low high s room e i = let h = has_of low high e i in all_get s.free e (room e h.0 h.1).free

  -- from one state to another that keeps what is known of these events
  roomy_to : (s r : Known) → ((e : ℕ) → Room s e → Room r e) → Roomy s → Roomy r
  roomy_to s r h room e t k = h e (room e t k)

  free_to : (low high low' high' : ℕ) (s r : Known) → low ≤ low' → high' ≤ high → Roomy s → ((e : ℕ) → Ev sources before low' high' e → Keeps e s r) → FreeIn low high s → FreeIn low' high' r
  free_to low high low' high' s r l m room keep free e i =
      let h = has_of low' high' e i in
      (keep e i).free (room e h.0 h.1) (free e (ev_wider sources before low' high' low high e l m i))

  own_free : (o high : ℕ) (s : Known) → o < high → FreeIn o high s → (e : ℕ) → IsEvent 1 sources e o → is_free s e ≡ true
  own_free o high s l free e k = free e (in_source 1 sources o high e o k (omega arith) l)

  -- the references of parts, and what is known before them
  inner_parallel : (n : ℕ) (c : Block) (u : Known) → tokens_of (block_occurrences n c) ≡ reference_tokens (block_points (inner_block sources before n c) u)
  inner_parallel n c u = ap (λ (d : Block). tokens_of (block_occurrences n d)) (sym (inner_same sources before n c)) ∙ block_are n (inner_block sources before n c) u (inner_bare sources before n c)

  inner_arms_parallel : (i n : ℕ) (a : Arms) (u : Known) → tokens_of (arms_occurrences i n a) ≡ reference_tokens (arms_points (inner_arms sources before n a) u)
  inner_arms_parallel i n a u = ap (λ (d : Arms). tokens_of (arms_occurrences i n d)) (sym (inner_arms_same sources before n a)) ∙ arms_are i n (inner_arms sources before n a) u (inner_arms_bare sources before n a)

  mutual
    pub inner_fine : (o : ℕ) (b : Block) (s : Known) → Roomy s → FreeIn o (o + block_size b) s → AllFine (entries (block_occurrences o b) (at_references (block_points (inner_block sources before o b) s)))
    inner_fine o tree.no_nodes s room free = λ x i. absurd i
    inner_fine o (tree.then_node (tree.plain k) b) s room free = λ x i.
        let m = o + node_size (tree.plain k) in
        let z = sizes o (tree.plain k) b in
        let rest = inner_block sources before m b in
        let s1 = awaited_all (before o) s in
        let s2 = after_kind k.kind s1 in
        let own = own_awaited o s room (own_free o (o + block_size (tree.then_node (tree.plain k) b)) s (omega (arith, z)) free) in
        let r1 = roomy_to s s1 (λ e. (keeps_awaits e (before o) s).room) room in
        ⊎_elim
        (λ j. own_tokens o (kind_occurrences o k.kind) (kind_tokens k.kind) s1 (kind_of o k.kind) (plain_kind k.kind) own x j)
        (λ j. inner_fine m b s2 (roomy_to s1 s2 (λ e. (keeps_kind e k.kind s1).room) r1)
        (free_to o (o + block_size (tree.then_node (tree.plain k) b)) m (m + block_size b) s s2 (omega arith) (omega (arith, z)) room (λ e g. keeps_then e s s1 s2 (keeps_awaits e (before o) s) (keeps_kind e k.kind s1)) free) x j)
        (two_parts (kind_occurrences o k.kind) (block_occurrences m b) (points (kind_tokens k.kind) s1) (block_points rest s2) x (points_are (kind_occurrences o k.kind) (kind_tokens k.kind) s1 (kind_are o k.kind))
        (subst (λ (ks : List Known). In x (entries (block_occurrences o (tree.then_node (tree.plain k) b)) ks)) (at_awaits (before o) (then_node (plain k) rest) s) i))
    inner_fine o (tree.then_node (tree.loop l h c) b) s room free = λ x i.
        let n = tree.loop l h c in
        let m = o + node_size n in
        let z = sizes o n b in
        let body = inner_block sources before (o + 1) c in
        let rest = inner_block sources before m b in
        let s1 = awaited_all (before o) s in
        let u = after (head_tokens h) s1 in
        let own = own_awaited o s room (own_free o (o + block_size (tree.then_node n b)) s (omega (arith, z)) free) in
        let r1 = roomy_to s s1 (λ e. (keeps_awaits e (before o) s).room) room in
        let ru = roomy_to s1 u (λ e. (keeps_tokens e (head_tokens h) s1 (plain_head h)).room) r1 in
        let keep : (e : ℕ) → Keeps e s u = λ e. keeps_then e s s1 u (keeps_awaits e (before o) s) (keeps_tokens e (head_tokens h) s1 (plain_head h)) in
        let ph = points_are (head_occurrences o h) (head_tokens h) s1 (head_are o h) in
        ⊎_elim
        (λ j. ⊎_elim
        (λ g. own_tokens o (head_occurrences o h) (head_tokens h) s1 (head_of o h) (plain_head h) own x g)
        (λ g. inner_fine (o + 1) c u ru (free_to o (o + block_size (tree.then_node n b)) (o + 1) (o + 1 + block_size c) s u (omega arith) (omega (arith, z)) room (λ e q. keep e) free) x g)
        (two_parts (head_occurrences o h) (block_occurrences (o + 1) c) (points (head_tokens h) s1) (block_points body u) x ph j))
        (λ j. inner_fine m b u ru (free_to o (o + block_size (tree.then_node n b)) m (m + block_size b) s u (omega arith) (omega (arith, z)) room (λ e q. keep e) free) x j)
        (two_parts (head_occurrences o h ++ block_occurrences (o + 1) c) (block_occurrences m b) (points (head_tokens h) s1 ++ block_points body u) (block_points rest u) x
        (points_two (head_occurrences o h) (block_occurrences (o + 1) c) (points (head_tokens h) s1) (block_points body u) ph (inner_parallel (o + 1) c u))
        (subst (λ (ks : List Known). In x (entries (block_occurrences o (tree.then_node n b)) ks)) (at_awaits (before o) (then_node (loop l h body) rest) s) i))
    inner_fine o (tree.then_node (tree.choose a) b) s room free = λ x i.
        let n = tree.choose a in
        let m = o + node_size n in
        let z = sizes o n b in
        let xs = inner_arms sources before (o + 1) a in
        let rest = inner_block sources before m b in
        let s1 = awaited_all (before o) s in
        let s2 = after_arms xs (nowhere s1) s1 in
        let own = own_awaited o s room (own_free o (o + block_size (tree.then_node n b)) s (omega (arith, z)) free) in
        let r1 = roomy_to s s1 (λ e. (keeps_awaits e (before o) s).room) room in
        let arms_keep : (e : ℕ) → Keeps e s1 s2 = λ e. inner_arms_keep sources before e (o + 1) a s1 (nowhere s1) s1 (keeps_nowhere e s1) (keeps_same e s1) in
        ⊎_elim
        (λ j. inner_arms_fine o (o + 1) a s1 r1 own (free_to o (o + block_size (tree.then_node n b)) (o + 1) (o + 1 + arms_size a) s s1 (omega arith) (omega (arith, z)) room (λ e q. keeps_awaits e (before o) s) free) x j)
        (λ j. inner_fine m b s2 (roomy_to s1 s2 (λ e. (arms_keep e).room) r1)
        (free_to o (o + block_size (tree.then_node n b)) m (m + block_size b) s s2 (omega arith) (omega (arith, z)) room (λ e q. keeps_then e s s1 s2 (keeps_awaits e (before o) s) (arms_keep e)) free) x j)
        (two_parts (arms_occurrences o (o + 1) a) (block_occurrences m b) (arms_points xs s1) (block_points rest s2) x (inner_arms_parallel o (o + 1) a s1)
        (subst (λ (ks : List Known). In x (entries (block_occurrences o (tree.then_node n b)) ks)) (at_awaits (before o) (then_node (choose xs) rest) s) i))

    -- i: the number of the IF
    pub inner_arms_fine : (i o : ℕ) (a : Arms) (s : Known) → Roomy s → Own i s → FreeIn o (o + arms_size a) s → AllFine (entries (arms_occurrences i o a) (at_references (arms_points (inner_arms sources before o a) s)))
    inner_arms_fine i o tree.no_arms s room own free = λ x j. absurd j
    inner_arms_fine i o (tree.then_arm l None b more) s room own free = λ x j.
        let m = o + block_size b in
        let z = arm_sizes o l None b more in
        let body = inner_block sources before o b in
        let others = inner_arms sources before m more in
        ⊎_elim
        (λ g. inner_fine o b s room (free_to o (o + arms_size (tree.then_arm l None b more)) o (o + block_size b) s s (omega arith) (omega (arith, z)) room (λ e q. keeps_same e s) free) x g)
        (λ g. inner_arms_fine i m more (nowhere s) (roomy_to s (nowhere s) (λ e. room_nowhere s e) room) (own_nowhere i s room) (free_nowhere m (m + arms_size more) s room) x g)
        (two_parts (block_occurrences o b) (arms_occurrences i m more) (block_points body s) (arms_points others (nowhere s)) x (inner_parallel o b s) j)
    inner_arms_fine i o (tree.then_arm l (Some c) b more) s room own free = λ x j.
        let m = o + block_size b in
        let z = arm_sizes o l (Some c) b more in
        let u = after (term_tokens c) s in
        let body = inner_block sources before o b in
        let others = inner_arms sources before m more in
        let keep : (e : ℕ) → Keeps e s u = λ e. keeps_tokens e (term_tokens c) s (plain_used (term_references c)) in
        let ru = roomy_to s u (λ e. (keep e).room) room in
        ⊎_elim
        (λ g. own_tokens i (term_occurrences i c) (term_tokens c) s (term_of i c) (plain_used (term_references c)) own x g)
        (λ g. ⊎_elim
        (λ q. inner_fine o b u ru (free_to o (o + arms_size (tree.then_arm l (Some c) b more)) o (o + block_size b) s u (omega arith) (omega (arith, z)) room (λ e p. keep e) free) x q)
        (λ q. inner_arms_fine i m more u ru (own_after i (term_tokens c) s (plain_used (term_references c)) own) (free_to o (o + arms_size (tree.then_arm l (Some c) b more)) m (m + arms_size more) s u (omega arith) (omega (arith, z)) room (λ e p. keep e) free) x q)
        (two_parts (block_occurrences o b) (arms_occurrences i m more) (block_points body u) (arms_points others u) x (inner_parallel o b u) g))
        (two_parts (term_occurrences i c) (block_occurrences o b ++ arms_occurrences i m more) (points (term_tokens c) s) (block_points body u ++ arms_points others u) x (points_are (term_occurrences i c) (term_tokens c) s (term_are i c))
        (subst (λ (os : List Occurrence). In x (entries os (at_references (points (term_tokens c) s ++ (block_points body u ++ arms_points others u))))) (append_assoc (term_occurrences i c) (block_occurrences o b) (arms_occurrences i m more)) j))

  -- an arm with the events of the others before it
  arm_parallel : (n : ℕ) (b : Block) (xs ys : List ℕ) (u : Known) → tokens_of (block_occurrences n b) ≡ reference_tokens (block_points (with_advances xs (with_advances ys (placed_block sources before n b))) u)
  arm_parallel n b xs ys u =
      let p = placed_block sources before n b in
      let y = with_advances ys p in
      ap (λ (d : Block). tokens_of (block_occurrences n d)) (sym (advances_stripped xs y ∙ advances_stripped ys p ∙ placed_same sources before n b))
      ∙ block_are n (with_advances xs y) u (advances_bare xs y (advances_bare ys p (placed_bare sources before n b)))

  placed_arms_parallel : (i low high o : ℕ) (a : Arms) (u : Known) → tokens_of (arms_occurrences i o a) ≡ reference_tokens (arms_points (placed_arms sources before low high o a) u)
  placed_arms_parallel i low high o a u = ap (λ (d : Arms). tokens_of (arms_occurrences i o d)) (sym (arms_same sources before low high o a)) ∙ arms_are i o (placed_arms sources before low high o a) u (arms_bare sources before low high o a)

  mutual
    pub placed_fine : (o : ℕ) (b : Block) (s : Known) → Roomy s → FreeIn o (o + block_size b) s → AllFine (entries (block_occurrences o b) (at_references (block_points (placed_block sources before o b) s)))
    placed_fine o tree.no_nodes s room free = λ x i. absurd i
    placed_fine o (tree.then_node (tree.plain k) b) s room free = λ x i.
        let n = tree.plain k in
        let m = o + node_size n in
        let z = sizes o n b in
        let es = events sources before o (o + 1) in
        let rest = placed_block sources before m b in
        let s1 = awaited_all (before o) s in
        let s2 = after_kind k.kind s1 in
        let s3 = advanced_all es s2 in
        let own = own_awaited o s room (own_free o (o + block_size (tree.then_node n b)) s (omega (arith, z)) free) in
        let r1 = roomy_to s s1 (λ e. (keeps_awaits e (before o) s).room) room in
        let r2 = roomy_to s1 s2 (λ e. (keeps_kind e k.kind s1).room) r1 in
        ⊎_elim
        (λ j. own_tokens o (kind_occurrences o k.kind) (kind_tokens k.kind) s1 (kind_of o k.kind) (plain_kind k.kind) own x j)
        (λ j. placed_fine m b s3 (roomy_to s2 s3 (λ e. room_advances e es s2) r2)
        (free_to o (o + block_size (tree.then_node n b)) m (m + block_size b) s s3 (omega arith) (omega (arith, z)) room
        (λ e g. keeps_then e s s1 s3 (keeps_awaits e (before o) s) (keeps_then e s1 s2 s3 (keeps_kind e k.kind s1) (keeps_advances e es s2 (λ q. ev_apart sources before o (o + 1) m (m + block_size b) e (omega arith) q g)))) free) x
        (subst (λ (ks : List Known). In x (entries (block_occurrences m b) ks)) (at_advances es rest s2) j))
        (two_parts (kind_occurrences o k.kind) (block_occurrences m b) (points (kind_tokens k.kind) s1) (block_points (with_advances es rest) s2) x (points_are (kind_occurrences o k.kind) (kind_tokens k.kind) s1 (kind_are o k.kind))
        (subst (λ (ks : List Known). In x (entries (block_occurrences o (tree.then_node n b)) ks)) (at_awaits (before o) (then_node (plain k) (with_advances es rest)) s) i))
    placed_fine o (tree.then_node (tree.loop l h c) b) s room free = λ x i.
        let n = tree.loop l h c in
        let m = o + node_size n in
        let z = sizes o n b in
        let es = events sources before o m in
        let body = inner_block sources before (o + 1) c in
        let rest = placed_block sources before m b in
        let s1 = awaited_all (before o) s in
        let u = after (head_tokens h) s1 in
        let s3 = advanced_all es u in
        let own = own_awaited o s room (own_free o (o + block_size (tree.then_node n b)) s (omega (arith, z)) free) in
        let r1 = roomy_to s s1 (λ e. (keeps_awaits e (before o) s).room) room in
        let ru = roomy_to s1 u (λ e. (keeps_tokens e (head_tokens h) s1 (plain_head h)).room) r1 in
        let keep : (e : ℕ) → Keeps e s u = λ e. keeps_then e s s1 u (keeps_awaits e (before o) s) (keeps_tokens e (head_tokens h) s1 (plain_head h)) in
        let ph = points_are (head_occurrences o h) (head_tokens h) s1 (head_are o h) in
        ⊎_elim
        (λ j. ⊎_elim
        (λ g. own_tokens o (head_occurrences o h) (head_tokens h) s1 (head_of o h) (plain_head h) own x g)
        (λ g. inner_fine (o + 1) c u ru (free_to o (o + block_size (tree.then_node n b)) (o + 1) (o + 1 + block_size c) s u (omega arith) (omega (arith, z)) room (λ e q. keep e) free) x g)
        (two_parts (head_occurrences o h) (block_occurrences (o + 1) c) (points (head_tokens h) s1) (block_points body u) x ph j))
        (λ j. placed_fine m b s3 (roomy_to u s3 (λ e. room_advances e es u) ru)
        (free_to o (o + block_size (tree.then_node n b)) m (m + block_size b) s s3 (omega arith) (omega (arith, z)) room
        (λ e g. keeps_then e s u s3 (keep e) (keeps_advances e es u (λ q. ev_apart sources before o m m (m + block_size b) e (omega arith) q g))) free) x
        (subst (λ (ks : List Known). In x (entries (block_occurrences m b) ks)) (at_advances es rest u) j))
        (two_parts (head_occurrences o h ++ block_occurrences (o + 1) c) (block_occurrences m b) (points (head_tokens h) s1 ++ block_points body u) (block_points (with_advances es rest) u) x
        (points_two (head_occurrences o h) (block_occurrences (o + 1) c) (points (head_tokens h) s1) (block_points body u) ph (inner_parallel (o + 1) c u))
        (subst (λ (ks : List Known). In x (entries (block_occurrences o (tree.then_node n b)) ks)) (at_awaits (before o) (then_node (loop l h body) (with_advances es rest)) s) i))
    placed_fine o (tree.then_node (tree.choose a) b) s room free = λ x i.
        let n = tree.choose a in
        let m = o + node_size n in
        let z = sizes o n b in
        let es = events sources before o (o + 1) in
        let low = o + 1 in
        let high = o + 1 + arms_size a in
        let xs = placed_arms sources before low high low a in
        let rest = placed_block sources before m b in
        let s1 = awaited_all (before o) s in
        let s2 = after_arms xs (nowhere s1) s1 in
        let s3 = advanced_all es s2 in
        let own = own_awaited o s room (own_free o (o + block_size (tree.then_node n b)) s (omega (arith, z)) free) in
        let r1 = roomy_to s s1 (λ e. (keeps_awaits e (before o) s).room) room in
        let g = goes_arms sources before low high low a (nowhere s1) s1 (omega arith) refl in
        let r2 = roomy_to s1 s2 g.room r1 in
        ⊎_elim
        (λ j. placed_arms_fine o low high low a s1 (omega arith) refl r1 own (free_to o (o + block_size (tree.then_node n b)) low high s s1 (omega arith) (omega (arith, z)) room (λ e q. keeps_awaits e (before o) s) free) x j)
        (λ j. placed_fine m b s3 (roomy_to s2 s3 (λ e. room_advances e es s2) r2)
        (free_to o (o + block_size (tree.then_node n b)) m (m + block_size b) s s3 (omega arith) (omega (arith, z)) room
        (λ e v. keeps_then e s s1 s3 (keeps_awaits e (before o) s) (keeps_then e s1 s2 s3 (g.out e (λ q. ev_apart sources before low high m (m + block_size b) e (omega arith) q v) s1 (keeps_nowhere e s1) (keeps_same e s1)) (keeps_advances e es s2 (λ q. ev_apart sources before o (o + 1) m (m + block_size b) e (omega arith) q v)))) free) x
        (subst (λ (ks : List Known). In x (entries (block_occurrences m b) ks)) (at_advances es rest s2) j))
        (two_parts (arms_occurrences o low a) (block_occurrences m b) (arms_points xs s1) (block_points (with_advances es rest) s2) x (placed_arms_parallel o low high low a s1)
        (subst (λ (ks : List Known). In x (entries (block_occurrences o (tree.then_node n b)) ks)) (at_awaits (before o) (then_node (choose xs) (with_advances es rest)) s) i))

    pub placed_arms_fine : (i low high o : ℕ) (a : Arms) (s : Known) → low ≤ o → high ≡ o + arms_size a → Roomy s → Own i s → FreeIn low high s → AllFine (entries (arms_occurrences i o a) (at_references (arms_points (placed_arms sources before low high o a) s)))
    placed_arms_fine i low high o tree.no_arms s l q room own free = λ x j. absurd j
    placed_arms_fine i low high o (tree.then_arm y None b more) s l q room own free = λ x j.
        let m = o + block_size b in
        let top : high ≡ m + arms_size more = q ∙ arm_sizes o y None b more in
        let xs = events sources before low o in
        let ys = events sources before m high in
        let body = placed_block sources before o b in
        let B = with_advances xs (with_advances ys body) in
        let others = inner_arms sources before m more in
        let w = advanced_all ys (advanced_all xs s) in
        ⊎_elim
        (λ g. placed_fine o b w (roomy_to s w (λ e r. room_advances e ys (advanced_all xs s) (room_advances e xs s r)) room)
        (free_to low high o m s w l (omega (arith, top)) room
        (λ e v. keeps_then e s (advanced_all xs s) w (keeps_advances e xs s (λ t. ev_apart sources before low o o m e (omega arith) t v)) (keeps_advances e ys (advanced_all xs s) (λ t. ev_apart sources before o m m high e (omega arith) v t))) free) x
        (subst (λ (ks : List Known). In x (entries (block_occurrences o b) ks)) (at_advances xs (with_advances ys body) s ∙ at_advances ys body (advanced_all xs s)) g))
        (λ g. inner_arms_fine i m more (nowhere s) (roomy_to s (nowhere s) (λ e. room_nowhere s e) room) (own_nowhere i s room) (free_nowhere m (m + arms_size more) s room) x g)
        (two_parts (block_occurrences o b) (arms_occurrences i m more) (block_points B s) (arms_points others (nowhere s)) x (arm_parallel o b xs ys s) j)
    placed_arms_fine i low high o (tree.then_arm y (Some c) b more) s l q room own free = λ x j.
        let m = o + block_size b in
        let top : high ≡ m + arms_size more = q ∙ arm_sizes o y (Some c) b more in
        let xs = events sources before low o in
        let ys = events sources before m high in
        let body = placed_block sources before o b in
        let B = with_advances xs (with_advances ys body) in
        let others = placed_arms sources before low high m more in
        let u = after (term_tokens c) s in
        let w = advanced_all ys (advanced_all xs u) in
        let keep : (e : ℕ) → Keeps e s u = λ e. keeps_tokens e (term_tokens c) s (plain_used (term_references c)) in
        let ru = roomy_to s u (λ e. (keep e).room) room in
        let fu : FreeIn low high u = free_to low high low high s u (omega arith) (omega arith) room (λ e v. keep e) free in
        ⊎_elim
        (λ g. own_tokens i (term_occurrences i c) (term_tokens c) s (term_of i c) (plain_used (term_references c)) own x g)
        (λ g. ⊎_elim
        (λ p. placed_fine o b w (roomy_to u w (λ e r. room_advances e ys (advanced_all xs u) (room_advances e xs u r)) ru)
        (free_to low high o m u w l (omega (arith, top)) ru
        (λ e v. keeps_then e u (advanced_all xs u) w (keeps_advances e xs u (λ t. ev_apart sources before low o o m e (omega arith) t v)) (keeps_advances e ys (advanced_all xs u) (λ t. ev_apart sources before o m m high e (omega arith) v t))) fu) x
        (subst (λ (ks : List Known). In x (entries (block_occurrences o b) ks)) (at_advances xs (with_advances ys body) u ∙ at_advances ys body (advanced_all xs u)) p))
        (λ p. placed_arms_fine i low high m more u (omega (arith, l)) top ru (own_after i (term_tokens c) s (plain_used (term_references c)) own) fu x p)
        (two_parts (block_occurrences o b) (arms_occurrences i m more) (block_points B u) (arms_points others u) x (arm_parallel o b xs ys u) g))
        (two_parts (term_occurrences i c) (block_occurrences o b ++ arms_occurrences i m more) (points (term_tokens c) s) (block_points B u ++ arms_points others u) x (points_are (term_occurrences i c) (term_tokens c) s (term_are i c))
        (subst (λ (os : List Occurrence). In x (entries os (at_references (points (term_tokens c) s ++ (block_points B u ++ arms_points others u))))) (append_assoc (term_occurrences i c) (block_occurrences o b) (arms_occurrences i m more)) j))
