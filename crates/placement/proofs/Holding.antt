-- What the check asks of pairs holds of each plan that is placed for what is kept.
use Rattle.std.proofs.Common.{◌≡◌, ◌∙◌, ◌+◌, ◌≤◌, inl, inr, ℕ, Bool, true, false, not, ◌&&◌, ◌||◌, List, [], ◌∷◌, refl, ap, sym, subst, ⊎_elim, Option, Some, None, arith}
use Rattle.std.specs.List.{list_all}
use Rattle.std.proofs.lemmas.Bool.{and_from}
use Rattle.ast.specs.Tree as tree
use Rattle.ast.specs.Tree.{Block, Arms}
use Rattle.dependence.specs.Plan.{plain, loop, choose, PlanBlock, no_nodes, then_node, PlanTree}
use Rattle.dependence.specs.Tests.{is_verified, relation}
use Rattle.dependence.specs.declared.relation.Relation.{Relation}
use Rattle.loop_tree.specs.Loops.{Loop}
use Rattle.loop_tree.specs.Occurrences.{Occurrence, block_occurrences}
use Rattle.placement.proofs.Lists.{all_from}
use Rattle.plan_check.specs.Checking.{Entry, all_ahead, all_held, all_true, at_references, claim_of, claimed, distance_of, each_pair, entries, entries_of, first, is_ahead_if, is_held_if, is_looked_at, is_true_claim}
use Rattle.plan_check.specs.Flow.{block_points, has_awaited, is_free}
use Rattle.plan_check.proofs.Members.{In}
use Rattle.plan_check.specs.GoodPlan.{named, named_arms}
use Rattle.placement.specs.Placement.{IsEvent}
use Rattle.placement.specs.Placing.{arms_size, block_size, events, inner_arms, inner_block, made_for, node_size, placed_arms, placed_block, with_advances, with_awaits}
use Rattle.plan_check.proofs.Members.{in_left, in_right}
use Rattle.placement.proofs.Entries.{FreeIn, Own, Roomy, placed_fine}
use Rattle.placement.proofs.Sources.{Ev, arm_sizes, ev_split, sizes, source_in}
use Rattle.plan_check.proofs.Sound.{in_any, in_entries}

-- ---- events are named

named_awaits : (n : ℕ × ℕ) (xs : List (ℕ × ℕ)) (b : PlanBlock) → In n (named b) → In n (named (with_awaits xs b))
named_awaits n [] b i = i
named_awaits n (x ∷ xs) b i = inr (named_awaits n xs b i)

named_right : (n : ℕ × ℕ) (es : List ℕ) (b : PlanBlock) → In n (named b) → In n (named (with_advances es b))
named_right n [] b i = i
named_right n (e ∷ es) b i = inr (inr (named_right n es b i))

named_left : (e : ℕ) (es : List ℕ) (b : PlanBlock) → In e es → In (e, 1) (named (with_advances es b))
named_left e [] b i = absurd i
named_left e (x ∷ es) b (inl q) = inl (ap (λ (z : ℕ). (z, 1)) q)
named_left e (x ∷ es) b (inr i) = inr (inr (named_left e es b i))

module _ (sources : List ℕ) (before : ℕ → List (ℕ × ℕ)) where
  -- an event of an arm, or of another
  arm_named : (low o m high e : ℕ) (body : PlanBlock) → low ≤ o → o ≤ m → m ≤ high → (Ev sources before o m e → In (e, 1) (named body)) → Ev sources before low high e
      → In (e, 1) (named (with_advances (events sources before low o) (with_advances (events sources before m high) body)))
  arm_named low o m high e body l1 l2 l3 inside i =
      let xs = events sources before low o in
      let ys = events sources before m high in
      ⊎_elim
      (λ j. named_left e xs (with_advances ys body) j)
      (λ j. ⊎_elim
      (λ g. named_right (e, 1) xs (with_advances ys body) (named_right (e, 1) ys body (inside g)))
      (λ g. named_right (e, 1) xs (with_advances ys body) (named_left e ys body g))
      (ev_split sources before o m high e l2 l3 j))
      (ev_split sources before low o high e l1 (omega (arith, l2, l3)) i)

  made_named : (e : ℕ) (es : List ℕ) → In e es → In (e, 1) (named_arms (made_for es))
  made_named e [] i = absurd i
  made_named e (x ∷ es) i = named_left e (x ∷ es) no_nodes i

  none_in : (low high e : ℕ) → high ≤ low → Ev sources before low high e → ⊥
  none_in low high e l i = let x = source_in 1 sources low high e i in let a = x.2 in let b = x.3 in omega (arith, a, b, l)

  mutual
    pub placed_named : (o : ℕ) (b : Block) (e : ℕ) → Ev sources before o (o + block_size b) e → In (e, 1) (named (placed_block sources before o b))
    placed_named o tree.no_nodes e i = absurd (none_in o (o + 0) e (omega arith) i)
    placed_named o (tree.then_node (tree.plain x) b) e i =
        let n = tree.plain x in
        let m = o + node_size n in
        let z = sizes o n b in
        let es = events sources before o (o + 1) in
        let rest = placed_block sources before m b in
        let j : Ev sources before o (m + block_size b) e = subst (λ (h : ℕ). Ev sources before o h e) (sym z) i in
        named_awaits (e, 1) (before o) (then_node (plain x) (with_advances es rest)) (⊎_elim
        (λ g. named_left e es rest g)
        (λ g. ⊎_elim (λ q. absurd (none_in (o + 1) m e (omega arith) q)) (λ q. named_right (e, 1) es rest (placed_named m b e q)) (ev_split sources before (o + 1) m (m + block_size b) e (omega arith) (omega arith) g))
        (ev_split sources before o (o + 1) (m + block_size b) e (omega arith) (omega arith) j))
    placed_named o (tree.then_node (tree.loop l h c) b) e i =
        let n = tree.loop l h c in
        let m = o + node_size n in
        let z = sizes o n b in
        let es = events sources before o m in
        let rest = placed_block sources before m b in
        let body = inner_block sources before (o + 1) c in
        let j : Ev sources before o (m + block_size b) e = subst (λ (h : ℕ). Ev sources before o h e) (sym z) i in
        named_awaits (e, 1) (before o) (then_node (loop l h body) (with_advances es rest)) (in_right (e, 1) (named body) (named (with_advances es rest)) (⊎_elim
        (λ g. named_left e es rest g)
        (λ g. named_right (e, 1) es rest (placed_named m b e g))
        (ev_split sources before o m (m + block_size b) e (omega arith) (omega arith) j)))
    placed_named o (tree.then_node (tree.choose a) b) e i =
        let n = tree.choose a in
        let m = o + node_size n in
        let z = sizes o n b in
        let es = events sources before o (o + 1) in
        let low = o + 1 in
        let high = o + 1 + arms_size a in
        let rest = placed_block sources before m b in
        let xs = placed_arms sources before low high low a in
        let j : Ev sources before o (m + block_size b) e = subst (λ (h : ℕ). Ev sources before o h e) (sym z) i in
        named_awaits (e, 1) (before o) (then_node (choose xs) (with_advances es rest)) (⊎_elim
        (λ g. in_right (e, 1) (named_arms xs) (named (with_advances es rest)) (named_left e es rest g))
        (λ g. ⊎_elim
        (λ q. in_left (e, 1) (named_arms xs) (named (with_advances es rest)) (arms_named low high low a e (omega arith) refl (subst (λ (h : ℕ). Ev sources before low h e) (let w : m ≡ high = omega arith in w) q)))
        (λ q. in_right (e, 1) (named_arms xs) (named (with_advances es rest)) (named_right (e, 1) es rest (placed_named m b e q)))
        (ev_split sources before low m (m + block_size b) e (omega arith) (omega arith) g))
        (ev_split sources before o low (m + block_size b) e (omega arith) (omega arith) j))

    arms_named : (low high o : ℕ) (a : Arms) (e : ℕ) → low ≤ o → high ≡ o + arms_size a → Ev sources before low high e → In (e, 1) (named_arms (placed_arms sources before low high o a))
    arms_named low high o tree.no_arms e l q i = made_named e (events sources before low high) i
    arms_named low high o (tree.then_arm y None b more) e l q i =
        let m = o + block_size b in
        let top : high ≡ m + arms_size more = q ∙ arm_sizes o y None b more in
        let body = placed_block sources before o b in
        let B = with_advances (events sources before low o) (with_advances (events sources before m high) body) in
        in_left (e, 1) (named B) (named_arms (inner_arms sources before m more)) (arm_named low o m high e body l (omega arith) (omega (arith, top)) (λ g. placed_named o b e g) i)
    arms_named low high o (tree.then_arm y (Some c) b more) e l q i =
        let m = o + block_size b in
        let top : high ≡ m + arms_size more = q ∙ arm_sizes o y (Some c) b more in
        let body = placed_block sources before o b in
        let B = with_advances (events sources before low o) (with_advances (events sources before m high) body) in
        in_left (e, 1) (named B) (named_arms (placed_arms sources before low high m more)) (arm_named low o m high e body l (omega arith) (omega (arith, top)) (λ g. placed_named o b e g) i)

-- ---- pairs

pairs_hold : (l : Loop) (p : PlanTree) (es : List Entry) (test : Entry → Entry → Bool) → ((x y : Entry) → In x es → In y es → is_looked_at l p x.0 y.0 ≡ true → test x y ≡ true) → each_pair l p es test ≡ true
pairs_hold l p es test h = all_from (λ x. list_all (λ (y : Entry). not (is_looked_at l p x.0 y.0) || test x y) es) es (λ x i. all_from (λ y. not (is_looked_at l p x.0 y.0) || test x y) es (λ y j. either (is_looked_at l p x.0 y.0) (test x y) (λ k. h x y i j k)))
  where
    either : (a b : Bool) → (a ≡ true → b ≡ true) → (not a || b) ≡ true
    either true b k = k refl
    either false b k = refl

-- The distance at which a pair is kept, if it is.
abbrev pub kept_at : Loop → Occurrence → Occurrence → Option ℕ
kept_at l a b = distance_of (Some (relation l a b))

-- n: the number of the first statement of the range
module _ (cells n : ℕ) (l : Loop) (p : PlanTree) (sources : List ℕ) (before : ℕ → List (ℕ × ℕ))
    (placed : l.references ≡ block_occurrences n l.body)
    (body : p.body ≡ placed_block sources before n l.body)
    (listed : (x : ℕ) (m : ℕ × ℕ) → In m (before x) → (s : ℕ) × IsEvent 1 sources m.0 s)
    (room : Roomy sources before listed (first cells))
    (free : FreeIn sources before listed n (n + block_size l.body) (first cells))
    -- each pair that is kept has its event, with a source in the range, and its await
    (kept : (a b : Occurrence) (d : ℕ) → In a l.references → In b l.references → is_looked_at l p a b ≡ true → kept_at l a b ≡ Some d → (e : ℕ) × IsEvent 1 sources e a.statement × Ev sources before n (n + block_size l.body) e × In (e, d) (before b.statement))
    -- each pair that is looked at has its relation
    (claims : (a b : Occurrence) → In a l.references → In b l.references → is_looked_at l p a b ≡ true → claimed p.relations a.ref.id b.ref.id ≡ Some (relation l a b))
    (verified : (a b : Occurrence) → is_verified l a b (relation l a b) ≡ true)
  where
    es : List Entry
    es = entries_of cells l p

    own : (x : Entry) → In x es → Own sources before listed x.0.statement x.1
    unfolding es
    own x i = placed_fine sources before listed n l.body (first cells) room free x
        (subst (λ (os : List Occurrence). In x (entries os (at_references (block_points (placed_block sources before n l.body) (first cells))))) placed
        (subst (λ (b : PlanBlock). In x (entries l.references (at_references (block_points b (first cells))))) body i))

    among : (x : Entry) → In x es → In x.0 l.references
    unfolding es
    among x i = in_entries l.references (at_references (block_points p.body (first cells))) x.0 x.1 i

    is_named : (e : ℕ) → Ev sources before n (n + block_size l.body) e → In (e, 1) (named p.body)
    is_named e i = subst (λ (b : PlanBlock). In (e, 1) (named b)) (sym body) (placed_named sources before n l.body e i)

    held : (x y : Entry) → In x es → In y es → is_looked_at l p x.0 y.0 ≡ true → (o : Option ℕ) → kept_at l x.0 y.0 ≡ o → is_held_if (named p.body) x.1 y.1 o ≡ true
    held x y i j look None e = refl
    held x y i j look (Some d) e =
        let k = kept x.0 y.0 d (among x i) (among y j) look e in
        in_any (λ (m : ℕ × ℕ). is_free x.1 m.0 && has_awaited y.1 m.0 d) (named p.body) (k.0, 1) (is_named k.0 k.2) (and_from (is_free x.1 k.0) (has_awaited y.1 k.0 d) ((own x i).0 k.0 k.1) ((own y j).1 (k.0, d) k.3))

    ahead : (x y : Entry) → In x es → In y es → is_looked_at l p x.0 y.0 ≡ true → (o : Option ℕ) → kept_at l x.0 y.0 ≡ o → is_ahead_if (named p.body) x.1 o ≡ true
    ahead x y i j look None e = refl
    ahead x y i j look (Some d) e =
        let k = kept x.0 y.0 d (among x i) (among y j) look e in
        in_any (λ (m : ℕ × ℕ). is_free x.1 m.0) (named p.body) (k.0, 1) (is_named k.0 k.2) ((own x i).0 k.0 k.1)

    claim : (x y : Entry) → In x es → In y es → is_looked_at l p x.0 y.0 ≡ true → claim_of p x y ≡ Some (relation l x.0 y.0)
    claim x y i j look = claims x.0 y.0 (among x i) (among y j) look

    pub all_kept : (all_ahead cells l p ≡ true) × (all_held cells l p ≡ true) × (all_true cells l p ≡ true)
    unfolding es
    all_kept = (
      pairs_hold l p es (λ x y. is_ahead_if (named p.body) x.1 (distance_of (claim_of p x y))) (λ x y i j look. subst (λ (c : Option Relation). is_ahead_if (named p.body) x.1 (distance_of c) ≡ true) (sym (claim x y i j look)) (ahead x y i j look (kept_at l x.0 y.0) refl)),
      pairs_hold l p es (λ x y. is_held_if (named p.body) x.1 y.1 (distance_of (claim_of p x y))) (λ x y i j look. subst (λ (c : Option Relation). is_held_if (named p.body) x.1 y.1 (distance_of c) ≡ true) (sym (claim x y i j look)) (held x y i j look (kept_at l x.0 y.0) refl)),
      pairs_hold l p es (λ x y. is_true_claim l x.0 y.0 (claim_of p x y)) (λ x y i j look. subst (λ (c : Option Relation). is_true_claim l x.0 y.0 c ≡ true) (sym (claim x y i j look)) (verified x.0 y.0)),
    )
