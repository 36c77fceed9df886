-- In a plan that is placed each event is advanced once, in order, on each path.
use Rattle.std.proofs.Common.{◌≡◌, ◌∙◌, ◌+◌, ◌≤◌, ℕ, true, List, [], ◌∷◌, ◌++◌, refl, sym, subst, ⊎_elim, Some, None, arith}
use Rattle.ast.specs.References.{term_references}
use Rattle.ast.specs.Tree as tree
use Rattle.ast.specs.Tree.{Block, Arms}
use Rattle.dependence.specs.Plan.{PlanNode, plain, loop, choose, PlanBlock, no_nodes, then_node}
use Rattle.loop_tree.specs.Paths.{term_tokens, head_tokens}
use Rattle.plan_check.specs.Flow.{Known, Point, after, after_arms, after_block, after_kind, after_node, arms_points, block_points, has_advanced, is_free, joined, kind_tokens, node_points, nowhere, points}
use Rattle.plan_check.proofs.Members.{In}
use Rattle.placement.specs.Placing.{arms_size, block_size, events, inner_arms, inner_block, made_for, node_size, placed_arms, placed_block, with_advances, with_awaits}
use Rattle.placement.proofs.Inner.{inner_arms_advanced, inner_arms_keep, inner_arms_ordered, inner_arms_room, inner_ordered}
use Rattle.placement.proofs.Keeping.{Distinct, Keeps, Ordered, Room, advanced_all, after_advances, after_awaits, all_advanced, awaited_all, keeps_advances, keeps_awaits, keeps_joined, keeps_kind, keeps_nowhere, keeps_same, keeps_then, keeps_tokens, ordered_advances, ordered_awaits, ordered_tokens, ordered_two, plain_head, plain_kind, plain_used, room_advances, room_joined, room_nowhere}
use Rattle.placement.proofs.Lists.{all_get, both_true}
use Rattle.placement.proofs.Sources.{Ev, arm_sizes, distinct_from, ev_apart, ev_split, ev_wider, sizes, source_in}

module _ (sources : List ℕ) (before : ℕ → List (ℕ × ℕ)) where
  pub record Goes (low high : ℕ) (s r : Known) (ps : List Point) : Type 0 where
    pub out : (e : ℕ) → (Ev sources before low high e → ⊥) → Keeps e s r
    pub inside : (e : ℕ) → Ev sources before low high e → Room s e → has_advanced r e ≡ true
    pub room : (e : ℕ) → Room s e → Room r e
    pub order : ((e : ℕ) → Ev sources before low high e → Room s e × (is_free s e ≡ true)) → Ordered ps

  -- awaits, a node, the advances that are anchored at it, and what is behind
  combined : (o mid m high : ℕ) (N : PlanNode) (rest : PlanBlock) (xs : List (ℕ × ℕ)) (s : Known) → o ≤ mid → mid ≤ m → m ≤ high
      → ((t : Known) → Goes mid m t (after_node N t) (node_points N t))
      → ((t : Known) → Goes m high t (after_block rest t) (block_points rest t))
      → Goes o high s (after_block (with_awaits xs (then_node N (with_advances (events sources before o mid) rest))) s) (block_points (with_awaits xs (then_node N (with_advances (events sources before o mid) rest))) s)
  combined o mid m high N rest xs s l1 l2 l3 node tail =
      let es = events sources before o mid in
      let s1 = awaited_all xs s in
      let s2 = after_node N s1 in
      let s3 = advanced_all es s2 in
      let r = after_block rest s3 in
      let B = then_node N (with_advances es rest) in
      let is : after_block (with_awaits xs B) s ≡ r = after_awaits xs B s ∙ after_advances es rest s2 in
      let n = node s1 in
      let t = tail s3 in
      let first : (e : ℕ) → Keeps e s s1 = λ e. keeps_awaits e xs s in
      let third : (e : ℕ) → (Ev sources before o mid e → ⊥) → Keeps e s2 s3 = λ e no_e. keeps_advances e es s2 no_e in
      record {
        out = λ e far. subst (λ (z : Known). Keeps e s z) (sym is)
            (keeps_then e s s1 r (first e) (keeps_then e s1 s2 r (n.out e (λ i. far (ev_wider sources before mid m o high e l1 l3 i)))
            (keeps_then e s2 s3 r (third e (λ i. far (ev_wider sources before o mid o high e (omega arith) (omega (arith, l2, l3)) i))) (t.out e (λ i. far (ev_wider sources before m high o high e (omega (arith, l1, l2)) (omega arith) i))))));
        inside = λ e i room. subst (λ (z : Known). has_advanced z e ≡ true) (sym is)
            (let r1 = (first e).room room in
            let r2 = n.room e r1 in
            let r3 = room_advances e es s2 r2 in
            ⊎_elim
            (λ j. (t.out e (λ g. ev_apart sources before o mid m high e l2 j g)).advanced r3 (all_advanced e es s2 j r2))
            (λ j. ⊎_elim
            (λ g. (t.out e (λ x. ev_apart sources before mid m m high e (omega arith) g x)).advanced r3 ((third e (λ x. ev_apart sources before o mid mid m e (omega arith) x g)).advanced r2 (n.inside e g r1)))
            (λ g. t.inside e g r3)
            (ev_split sources before mid m high e l2 l3 j))
            (ev_split sources before o mid high e l1 (omega (arith, l2, l3)) i));
        room = λ e h. subst (λ (z : Known). Room z e) (sym is) (t.room e (room_advances e es s2 (n.room e ((first e).room h))));
        order = λ clean.
            let at1 : (e : ℕ) → Ev sources before o high e → Room s1 e × (is_free s1 e ≡ true) = λ e i. ((first e).room (clean e i).0, (first e).free (clean e i).0 (clean e i).1) in
            ordered_awaits xs B s (ordered_two (node_points N s1) (block_points (with_advances es rest) s2)
            (n.order (λ e i. at1 e (ev_wider sources before mid m o high e l1 l3 i)))
            (ordered_advances es rest s2 (distinct_from 1 sources o mid)
            (λ e i.
            let a = at1 e (ev_wider sources before o mid o high e (omega arith) (omega (arith, l2, l3)) i) in
            let k = n.out e (λ g. ev_apart sources before o mid mid m e (omega arith) i g) in
            (k.room a.0, k.free a.0 a.1))
            (t.order (λ e i.
            let a = at1 e (ev_wider sources before m high o high e (omega (arith, l1, l2)) (omega arith) i) in
            let k = n.out e (λ g. ev_apart sources before mid m m high e (omega arith) g i) in
            let q = third e (λ g. ev_apart sources before o mid m high e l2 g i) in
            (q.room (k.room a.0), q.free (k.room a.0) (k.free a.0 a.1))))));
      }

  -- where no source stands
  quiet : (low high : ℕ) (s r : Known) (ps : List Point) → high ≤ low → ((e : ℕ) → Keeps e s r) → Ordered ps → Goes low high s r ps
  quiet low high s r ps le keeps ordered = record {
    out = λ e far. keeps e;
    inside = λ e i room. let x = source_in 1 sources low high e i in let a = x.2 in let b = x.3 in absurd (omega (arith, a, b, le));
    room = λ e h. (keeps e).room h;
    order = λ clean. ordered;
  }

  goes_to : (low high to : ℕ) (s r : Known) (ps : List Point) → high ≡ to → Goes low high s r ps → Goes low to s r ps
  goes_to low high to s r ps e g = subst (λ (n : ℕ). Goes low n s r ps) e g

  pub record ArmsGo (low high : ℕ) (ended s r : Known) (ps : List Point) : Type 0 where
    pub out : (e : ℕ) → (Ev sources before low high e → ⊥) → (z : Known) → Keeps e z ended → Keeps e z s → Keeps e z r
    pub inside : (e : ℕ) → Ev sources before low high e → Room s e → has_advanced ended e ≡ true → has_advanced r e ≡ true
    pub room : (e : ℕ) → Room s e → Room r e
    pub order : ((e : ℕ) → Ev sources before low high e → Room s e × (is_free s e ≡ true)) → Ordered ps

  -- an arm: the events of the other arms first
  pub arm_goes : (low o m high : ℕ) (body : PlanBlock) (s : Known) → low ≤ o → o ≤ m → m ≤ high → ((t : Known) → Goes o m t (after_block body t) (block_points body t))
      → Goes low high s (after_block (with_advances (events sources before low o) (with_advances (events sources before m high) body)) s) (block_points (with_advances (events sources before low o) (with_advances (events sources before m high) body)) s)
  arm_goes low o m high body s l1 l2 l3 goes =
      let xs = events sources before low o in
      let ys = events sources before m high in
      let s1 = advanced_all xs s in
      let s2 = advanced_all ys s1 in
      let r = after_block body s2 in
      let is : after_block (with_advances xs (with_advances ys body)) s ≡ r = after_advances xs (with_advances ys body) s ∙ after_advances ys body s1 in
      let g = goes s2 in
      record {
        out = λ e far. subst (λ (z : Known). Keeps e s z) (sym is)
            (keeps_then e s s1 r (keeps_advances e xs s (λ i. far (ev_wider sources before low o low high e (omega arith) (omega (arith, l2, l3)) i)))
            (keeps_then e s1 s2 r (keeps_advances e ys s1 (λ i. far (ev_wider sources before m high low high e (omega (arith, l1, l2)) (omega arith) i)))
            (g.out e (λ i. far (ev_wider sources before o m low high e l1 l3 i)))));
        inside = λ e i room. subst (λ (z : Known). has_advanced z e ≡ true) (sym is)
            (let r1 = room_advances e xs s room in
            let r2 = room_advances e ys s1 r1 in
            ⊎_elim
            (λ j. (g.out e (λ x. ev_apart sources before low o o m e (omega arith) j x)).advanced r2 ((keeps_advances e ys s1 (λ x. ev_apart sources before low o m high e l2 j x)).advanced r1 (all_advanced e xs s j room)))
            (λ j. ⊎_elim
            (λ x. g.inside e x r2)
            (λ x. (g.out e (λ y. ev_apart sources before o m m high e (omega arith) y x)).advanced r2 (all_advanced e ys s1 x r1))
            (ev_split sources before o m high e l2 l3 j))
            (ev_split sources before low o high e l1 (omega (arith, l2, l3)) i));
        room = λ e h. subst (λ (z : Known). Room z e) (sym is) (g.room e (room_advances e ys s1 (room_advances e xs s h)));
        order = λ clean.
            ordered_advances xs (with_advances ys body) s (distinct_from 1 sources low o) (λ e i. clean e (ev_wider sources before low o low high e (omega arith) (omega (arith, l2, l3)) i))
            (ordered_advances ys body s1 (distinct_from 1 sources m high)
            (λ e i.
            let c = clean e (ev_wider sources before m high low high e (omega (arith, l1, l2)) (omega arith) i) in
            let k = keeps_advances e xs s (λ x. ev_apart sources before low o m high e l2 x i) in
            (k.room c.0, k.free c.0 c.1))
            (g.order (λ e i.
            let c = clean e (ev_wider sources before o m low high e l1 l3 i) in
            let k = keeps_advances e xs s (λ x. ev_apart sources before low o o m e (omega arith) x i) in
            let q = keeps_advances e ys s1 (λ x. ev_apart sources before o m m high e (omega arith) i x) in
            (q.room (k.room c.0), q.free (k.room c.0) (k.free c.0 c.1)))));
      }

  -- no arm is left: an ELSE is made where there is an event
  made_goes : (low high : ℕ) (ended s : Known) (es : List ℕ) → es ≡ events sources before low high → ArmsGo low high ended s (after_arms (made_for es) ended s) (arms_points (made_for es) s)
  made_goes low high ended s [] is = record {
    out = λ e far z k h. keeps_joined e z s ended h k;
    inside = λ e i room a. absurd (subst (λ (xs : List ℕ). In e xs) (sym is) i);
    room = λ e h. room_joined s ended e h;
    order = λ clean. refl;
  }
  made_goes low high ended s (x ∷ xs) is =
      let r = advanced_all (x ∷ xs) s in
      let made : after_block (with_advances (x ∷ xs) no_nodes) s ≡ r = after_advances (x ∷ xs) no_nodes s in
      record {
        out = λ e far z k h. subst (λ (q : Known). Keeps e z (joined q ended)) (sym made) (keeps_joined e z r ended (keeps_then e z s r h (keeps_advances e (x ∷ xs) s (λ i. far (subst (λ (ys : List ℕ). In e ys) is i)))) k);
        inside = λ e i room a. subst (λ (q : Known). has_advanced (joined q ended) e ≡ true) (sym made) (both_true r.advanced ended.advanced e (all_advanced e (x ∷ xs) s (subst (λ (ys : List ℕ). In e ys) (sym is) i) room) a);
        room = λ e h. subst (λ (q : Known). Room (joined q ended) e) (sym made) (room_joined r ended e (room_advances e (x ∷ xs) s h));
        order = λ clean. ordered_advances (x ∷ xs) no_nodes s (subst Distinct (sym is) (distinct_from 1 sources low high)) (λ e i. clean e (subst (λ (ys : List ℕ). In e ys) is i)) refl;
      }

  mutual
    pub goes_block : (o : ℕ) (b : Block) (s : Known) → Goes o (o + block_size b) s (after_block (placed_block sources before o b) s) (block_points (placed_block sources before o b) s)
    goes_block o tree.no_nodes s = quiet o (o + 0) s s [] (omega arith) (λ e. keeps_same e s) refl
    goes_block o (tree.then_node (tree.plain x) b) s =
        let m = o + node_size (tree.plain x) in
        let rest = placed_block sources before m b in
        goes_to o (m + block_size b) (o + block_size (tree.then_node (tree.plain x) b)) s _ _ (sizes o (tree.plain x) b)
        (combined o (o + 1) m (m + block_size b) (plain x) rest (before o) s (omega arith) (omega arith) (omega arith)
        (λ t. quiet (o + 1) m t (after_kind x.kind t) (points (kind_tokens x.kind) t) (omega arith) (λ e. keeps_kind e x.kind t) (ordered_tokens (kind_tokens x.kind) t (plain_kind x.kind)))
        (λ t. goes_block m b t))
    goes_block o (tree.then_node (tree.loop l h c) b) s =
        let m = o + node_size (tree.loop l h c) in
        let rest = placed_block sources before m b in
        let body = inner_block sources before (o + 1) c in
        goes_to o (m + block_size b) (o + block_size (tree.then_node (tree.loop l h c) b)) s _ _ (sizes o (tree.loop l h c) b)
        (combined o m m (m + block_size b) (loop l h body) rest (before o) s (omega arith) (omega arith) (omega arith)
        (λ t. let u = after (head_tokens h) t in quiet m m t u (points (head_tokens h) t ++ block_points body u) (omega arith) (λ e. keeps_tokens e (head_tokens h) t (plain_head h)) (ordered_two (points (head_tokens h) t) (block_points body u) (ordered_tokens (head_tokens h) t (plain_head h)) (inner_ordered sources before (o + 1) c u)))
        (λ t. goes_block m b t))
    goes_block o (tree.then_node (tree.choose a) b) s =
        let m = o + node_size (tree.choose a) in
        let rest = placed_block sources before m b in
        let low = o + 1 in
        let high = o + 1 + arms_size a in
        let xs = placed_arms sources before low high low a in
        goes_to o (m + block_size b) (o + block_size (tree.then_node (tree.choose a) b)) s _ _ (sizes o (tree.choose a) b)
        (combined o low m (m + block_size b) (choose xs) rest (before o) s (omega arith) (omega arith) (omega arith)
        (λ t. goes_to low high m t (after_arms xs (nowhere t) t) (arms_points xs t) (omega arith)
        (let g = goes_arms low high low a (nowhere t) t (omega arith) refl in
        record {
          out = λ e far. g.out e far t (keeps_nowhere e t) (keeps_same e t);
          inside = λ e i room. g.inside e i room (all_get t.advanced e room.advanced);
          room = g.room;
          order = g.order;
        }))
        (λ t. goes_block m b t))

    pub goes_arms : (low high o : ℕ) (a : Arms) (ended s : Known) → low ≤ o → high ≡ o + arms_size a → ArmsGo low high ended s (after_arms (placed_arms sources before low high o a) ended s) (arms_points (placed_arms sources before low high o a) s)
    goes_arms low high o tree.no_arms ended s l e = made_goes low high ended s (events sources before low high) refl
    goes_arms low high o (tree.then_arm x None b more) ended s l q =
        let m = o + block_size b in
        let top : high ≡ m + arms_size more = q ∙ arm_sizes o x None b more in
        let body = placed_block sources before o b in
        let B = with_advances (events sources before low o) (with_advances (events sources before m high) body) in
        let g = arm_goes low o m high body s l (omega arith) (omega (arith, top)) (λ t. goes_block o b t) in
        let r = after_block B s in
        let others = inner_arms sources before m more in
        record {
          out = λ e far z k h. inner_arms_keep sources before e m more z (joined ended r) (nowhere s) (keeps_joined e z ended r k (keeps_then e z s r h (g.out e far))) (keeps_then e z s (nowhere s) h (keeps_nowhere e s));
          inside = λ e i room d. inner_arms_advanced sources before e m more (joined ended r) (nowhere s) (room_nowhere s e room) (both_true ended.advanced r.advanced e d (g.inside e i room)) (all_get s.advanced e room.advanced);
          room = λ e h. inner_arms_room sources before e m more (joined ended r) (nowhere s) (room_nowhere s e h);
          order = λ clean. ordered_two (block_points B s) (arms_points others (nowhere s)) (g.order clean) (inner_arms_ordered sources before m more (nowhere s));
        }
    goes_arms low high o (tree.then_arm x (Some c) b more) ended s l q =
        let m = o + block_size b in
        let top : high ≡ m + arms_size more = q ∙ arm_sizes o x (Some c) b more in
        let body = placed_block sources before o b in
        let B = with_advances (events sources before low o) (with_advances (events sources before m high) body) in
        let u = after (term_tokens c) s in
        let r = after_block B u in
        let keep : (e : ℕ) → Keeps e s u = λ e. keeps_tokens e (term_tokens c) s (plain_used (term_references c)) in
        let g = arm_goes low o m high body u l (omega arith) (omega (arith, top)) (λ t. goes_block o b t) in
        let h = goes_arms low high m more (joined ended r) u (omega (arith, l)) top in
        let at_u : ((e : ℕ) → Ev sources before low high e → Room s e × (is_free s e ≡ true)) → (e : ℕ) → Ev sources before low high e → Room u e × (is_free u e ≡ true) = λ clean e i. ((keep e).room (clean e i).0, (keep e).free (clean e i).0 (clean e i).1) in
        record {
          out = λ e far z k j.
              let ku = keeps_then e z s u j (keep e) in
              h.out e far z (keeps_joined e z ended r k (keeps_then e z u r ku (g.out e far))) ku;
          inside = λ e i room d. h.inside e i ((keep e).room room) (both_true ended.advanced r.advanced e d (g.inside e i ((keep e).room room)));
          room = λ e j. h.room e ((keep e).room j);
          order = λ clean. ordered_two (points (term_tokens c) s) (block_points B u ++ arms_points (placed_arms sources before low high m more) u) (ordered_tokens (term_tokens c) s (plain_used (term_references c)))
              (ordered_two (block_points B u) (arms_points (placed_arms sources before low high m more) u) (g.order (at_u clean)) (h.order (at_u clean)));
        }
