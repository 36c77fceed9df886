-- In a plan that is placed each advance has its order await, and before each statement stand the
-- awaits of what is kept and has it as its sink.
use Rattle.std.proofs.Common.{◌≡◌, ◌∙◌, ◌+◌, ◌<◌, ◌≤◌, inl, inr, ℕ, Bool, true, false, List, [], ◌∷◌, ◌++◌, refl, ap, sym, subst, ⊎_elim, Option, Some, None, arith, if◌then◌else◌}
use Rattle.std.specs.Prelude.{◌==◌, ◌&&◌, ◌||◌}
use Rattle.std.specs.List.{Contains}
use Rattle.std.proofs.lemmas.Bool.{and_from, cases_lt, eq-eqb}
use Rattle.ast.specs.Tree as tree
use Rattle.ast.specs.Tree.{Block, Arms}
use Rattle.dependence.specs.Kept.{Kept}
use Rattle.dependence.specs.Plan.{PlanNode, awaits, advances, plain, loop, choose, PlanBlock, no_nodes, then_node, PlanArms}
use Rattle.loop_tree.specs.Loops.{Loop}
use Rattle.loop_tree.specs.Occurrences.{Occurrence}
use Rattle.placement.specs.Awaiting.{AreKept, are_before, are_before_arms, are_ordered, are_ordered_arms, awaited_in, awaited_in_arms, is_order_await, leads_to_statement}
use Rattle.placement.specs.Placement.{IsEvent, is_ascending}
use Rattle.placement.specs.Placing.{anchored, arms_size, block_size, events, inner_arms, inner_block, made_for, node_size, placed_arms, placed_block, with_advances, with_awaits}
use Rattle.placement.proofs.Few.{above, tail_ascending}
use Rattle.placement.proofs.Sources.{arm_sizes, sizes}
use Rattle.placement.proofs.Ranges.{block_within}
use Rattle.placement.proofs.Stripping.{advances_stripped, arms_same, inner_arms_same, inner_same, placed_same}
use Rattle.plan_check.proofs.Members.{In, among, contained, in_left, in_right, in_which}
use Rattle.plan_check.specs.GoodPlan.{stripped, stripped_arms}

-- ---- awaits before a statement, and advances

abbrev IsStatement : PlanNode → Type 0
IsStatement (awaits e d) = ⊥
IsStatement (advances e) = ⊥
IsStatement _ = Unit {0}

awaited_advances : (n : ℕ) (es : List ℕ) (b : PlanBlock) → awaited_in n (with_advances es b) ≡ awaited_in n b
awaited_advances n [] b = refl
awaited_advances n (e ∷ es) b =
    ap (λ (c : Bool). (if c then [] else (e, 1, n) ∷ []) ++ awaited_in n (with_advances es b)) (and_from (e == e) (1 == 1) (eq-eqb e e refl) refl)
    ∙ awaited_advances n es b

tagged : ℕ → List (ℕ × ℕ) → List (ℕ × ℕ × ℕ)
tagged n [] = []
tagged n (a ∷ xs) = (a.0, a.1, n) ∷ tagged n xs

no_order : (e d : ℕ) (xs : List (ℕ × ℕ)) (N : PlanNode) (rest : PlanBlock) → IsStatement N → is_order_await e d (with_awaits xs (then_node N rest)) ≡ false
no_order e d [] (awaits x y) rest h = absurd h
no_order e d [] (advances x) rest h = absurd h
no_order e d [] (plain s) rest h = refl
no_order e d [] (loop l s c) rest h = refl
no_order e d [] (choose a) rest h = refl
no_order e d (a ∷ xs) N rest h = refl

awaited_awaits : (n : ℕ) (xs : List (ℕ × ℕ)) (N : PlanNode) (rest : PlanBlock) → IsStatement N → awaited_in n (with_awaits xs (then_node N rest)) ≡ tagged n xs ++ awaited_in n (then_node N rest)
unfolding tagged
awaited_awaits n [] N rest h = refl
awaited_awaits n (a ∷ xs) N rest h =
    ap (λ (c : Bool). (if c then [] else (a.0, a.1, n) ∷ []) ++ awaited_in n (with_awaits xs (then_node N rest))) (no_order a.0 a.1 xs N rest h)
    ∙ ap (λ (t : List (ℕ × ℕ × ℕ)). (a.0, a.1, n) ∷ t) (awaited_awaits n xs N rest h)

in_tagged : (n : ℕ) (xs : List (ℕ × ℕ)) (x : ℕ × ℕ × ℕ) → In x (tagged n xs) → (x.2 ≡ n) × In (x.0, x.1) xs
unfolding tagged
in_tagged n [] x i = absurd i
in_tagged n (a ∷ xs) x (inl e) = (ap (λ (y : ℕ × ℕ × ℕ). y.2) e, inl (ap (λ (y : ℕ × ℕ × ℕ). (y.0, y.1)) e))
in_tagged n (a ∷ xs) x (inr i) = let g = in_tagged n xs x i in (g.0, inr g.1)

tagged_in : (n : ℕ) (xs : List (ℕ × ℕ)) (a : ℕ × ℕ) → In a xs → In (a.0, a.1, n) (tagged n xs)
unfolding tagged
tagged_in n [] a i = absurd i
tagged_in n (y ∷ xs) a (inl e) = inl (ap (λ (z : ℕ × ℕ). (z.0, z.1, n)) e)
tagged_in n (y ∷ xs) a (inr i) = inr (tagged_in n xs a i)

ordered_advances : (es : List ℕ) (b : PlanBlock) → are_ordered None b ≡ true → are_ordered None (with_advances es b) ≡ true
ordered_advances [] b h = h
ordered_advances (e ∷ es) b h = and_from (e == e) (are_ordered None (with_advances es b)) (eq-eqb e e refl) (ordered_advances es b h)

ordered_awaits : (last : Option ℕ) (xs : List (ℕ × ℕ)) (b : PlanBlock) → ((x : Option ℕ) → are_ordered x b ≡ true) → are_ordered last (with_awaits xs b) ≡ true
ordered_awaits last [] b h = h last
ordered_awaits last (a ∷ xs) b h = ordered_awaits (if a.1 == 1 then Some a.0 else None) xs b h

leads : (xs : List (ℕ × ℕ)) (N : PlanNode) (rest : PlanBlock) → IsStatement N → leads_to_statement (with_awaits xs (then_node N rest)) ≡ true
leads [] (awaits x y) rest h = absurd h
leads [] (advances x) rest h = absurd h
leads [] (plain s) rest h = refl
leads [] (loop l s c) rest h = refl
leads [] (choose a) rest h = refl
leads (a ∷ xs) N rest h = leads xs N rest h

before_advances : (es : List ℕ) (b : PlanBlock) → are_before b ≡ true → are_before (with_advances es b) ≡ true
before_advances [] b h = h
before_advances (e ∷ es) b h = and_from ((e == e) && (1 == 1)) (are_before (with_advances es b)) (and_from (e == e) (1 == 1) (eq-eqb e e refl) refl) (before_advances es b h)

before_awaits : (xs : List (ℕ × ℕ)) (N : PlanNode) (rest : PlanBlock) → IsStatement N → are_before (then_node N rest) ≡ true → are_before (with_awaits xs (then_node N rest)) ≡ true
before_awaits [] N rest h k = k
before_awaits (a ∷ xs) N rest h k =
    let b = with_awaits xs (then_node N rest) in
    and_from (leads_to_statement b || is_order_await a.0 a.1 b) (are_before b) (ap (λ (c : Bool). c || is_order_await a.0 a.1 b) (leads xs N rest h)) (before_awaits xs N rest h k)

-- ---- over the range

module _ (sources : List ℕ) (before : ℕ → List (ℕ × ℕ)) where
  -- what is awaited before the statements from one number on and before another
  record Exact (low high : ℕ) (xs : List (ℕ × ℕ × ℕ)) : Type 0 where
    sound : (x : ℕ × ℕ × ℕ) → In x xs → In (x.0, x.1) (before x.2)
    whole : (x : ℕ × ℕ × ℕ) → low ≤ x.2 → x.2 < high → In (x.0, x.1) (before x.2) → In x xs

  exact_none : (n m : ℕ) → m ≤ n → Exact n m []
  exact_none n m le = record { sound = λ x i. absurd i; whole = λ x l k i. absurd (omega (arith, le, l, k)) }

  exact_cut : (a b c d : ℕ) (xs : List (ℕ × ℕ × ℕ)) → a ≤ c → d ≤ b → Exact a b xs → Exact c d xs
  exact_cut a b c d xs l m e = record { sound = e.sound; whole = λ x k j i. e.whole x (omega (arith, l, k)) (omega (arith, m, j)) i }

  exact_two : (a b c : ℕ) (xs ys : List (ℕ × ℕ × ℕ)) → Exact a b xs → Exact b c ys → Exact a c (xs ++ ys)
  exact_two a b c xs ys e f = record {
    sound = λ x i. ⊎_elim (λ j. e.sound x j) (λ j. f.sound x j) (in_which x xs ys i);
    whole = λ x l m i. ⊎_elim (λ lt. in_left x xs ys (e.whole x l lt i)) (λ ge. in_right x xs ys (f.whole x ge m i)) (cases_lt x.2 b);
  }

  exact_tagged : (n : ℕ) → Exact n (n + 1) (tagged n (before n))
  exact_tagged n = record {
    sound = λ x i. let g = in_tagged n (before n) x i in subst (λ (m : ℕ). In (x.0, x.1) (before m)) (sym g.0) g.1;
    whole = λ x l m i.
        let e : x.2 ≡ n = omega (arith, l, m) in
        subst (λ (k : ℕ). In (x.0, x.1, k) (tagged n (before n))) (sym e) (tagged_in n (before n) (x.0, x.1) (subst (λ (k : ℕ). In (x.0, x.1) (before k)) e i));
  }

  -- awaits, a statement, what is awaited in it, and what is behind
  combined : (o m top : ℕ) (N : PlanNode) (es : List ℕ) (rest : PlanBlock) (part : List (ℕ × ℕ × ℕ)) → IsStatement N → awaited_in o (then_node N (with_advances es rest)) ≡ part ++ awaited_in m rest
      → Exact (o + 1) m part → Exact m top (awaited_in m rest) → Exact o top (awaited_in o (with_awaits (before o) (then_node N (with_advances es rest))))
  combined o m top N es rest part h is e f =
      subst (λ (xs : List (ℕ × ℕ × ℕ)). Exact o top xs) (sym (awaited_awaits o (before o) N (with_advances es rest) h ∙ ap (λ (t : List (ℕ × ℕ × ℕ)). tagged o (before o) ++ t) is))
      (exact_two o (o + 1) top (tagged o (before o)) (part ++ awaited_in m rest) (exact_tagged o) (exact_two (o + 1) m top part (awaited_in m rest) e f))

  -- what is behind a statement that holds others
  behind : (k m : ℕ) (es : List ℕ) (rest : PlanBlock) (part : List (ℕ × ℕ × ℕ)) → k ≡ m → part ++ awaited_in k (with_advances es rest) ≡ part ++ awaited_in m rest
  behind k m es rest part e = ap (λ (t : List (ℕ × ℕ × ℕ)). part ++ t) (awaited_advances k es rest ∙ ap (λ (j : ℕ). awaited_in j rest) e)

  mutual
    inner_exact : (o : ℕ) (b : Block) → Exact o (o + block_size b) (awaited_in o (inner_block sources before o b))
    inner_exact o tree.no_nodes = exact_none o (o + block_size tree.no_nodes) (omega arith)
    inner_exact o (tree.then_node (tree.plain x) b) =
        let m = o + node_size (tree.plain x) in
        let z = sizes o (tree.plain x) b in
        let rest = inner_block sources before m b in
        combined o m (o + block_size (tree.then_node (tree.plain x) b)) (plain x) [] rest [] tt (behind (o + 1) m [] rest [] (omega arith))
        (exact_none (o + 1) m (omega arith))
        (exact_cut m (m + block_size b) m (o + block_size (tree.then_node (tree.plain x) b)) (awaited_in m rest) (omega arith) (omega (arith, z)) (inner_exact m b))
    inner_exact o (tree.then_node (tree.loop l h c) b) =
        let m = o + node_size (tree.loop l h c) in
        let z = sizes o (tree.loop l h c) b in
        let rest = inner_block sources before m b in
        let x = inner_block sources before (o + 1) c in
        let s = ap (λ (d : Block). block_size d) (inner_same sources before (o + 1) c) in
        combined o m (o + block_size (tree.then_node (tree.loop l h c) b)) (loop l h x) [] rest (awaited_in (o + 1) x) tt (behind (o + 1 + block_size (stripped x)) m [] rest (awaited_in (o + 1) x) (omega (arith, s)))
        (exact_cut (o + 1) (o + 1 + block_size c) (o + 1) m (awaited_in (o + 1) x) (omega arith) (omega arith) (inner_exact (o + 1) c))
        (exact_cut m (m + block_size b) m (o + block_size (tree.then_node (tree.loop l h c) b)) (awaited_in m rest) (omega arith) (omega (arith, z)) (inner_exact m b))
    inner_exact o (tree.then_node (tree.choose a) b) =
        let m = o + node_size (tree.choose a) in
        let z = sizes o (tree.choose a) b in
        let rest = inner_block sources before m b in
        let x = inner_arms sources before (o + 1) a in
        let s = ap (λ (d : Arms). arms_size d) (inner_arms_same sources before (o + 1) a) in
        combined o m (o + block_size (tree.then_node (tree.choose a) b)) (choose x) [] rest (awaited_in_arms (o + 1) x) tt (behind (o + 1 + arms_size (stripped_arms x)) m [] rest (awaited_in_arms (o + 1) x) (omega (arith, s)))
        (exact_cut (o + 1) (o + 1 + arms_size a) (o + 1) m (awaited_in_arms (o + 1) x) (omega arith) (omega arith) (inner_arms_exact (o + 1) a))
        (exact_cut m (m + block_size b) m (o + block_size (tree.then_node (tree.choose a) b)) (awaited_in m rest) (omega arith) (omega (arith, z)) (inner_exact m b))

    inner_arms_exact : (o : ℕ) (a : Arms) → Exact o (o + arms_size a) (awaited_in_arms o (inner_arms sources before o a))
    inner_arms_exact o tree.no_arms = exact_none o (o + arms_size tree.no_arms) (omega arith)
    inner_arms_exact o (tree.then_arm l c b more) =
        let m = o + block_size b in
        let z = arm_sizes o l c b more in
        let x = inner_block sources before o b in
        let y = inner_arms sources before m more in
        let top = o + arms_size (tree.then_arm l c b more) in
        let s : o + block_size (stripped x) ≡ m = ap (λ (d : Block). o + block_size d) (inner_same sources before o b) in
        subst (λ (k : ℕ). Exact o top (awaited_in o x ++ awaited_in_arms k y)) (sym s)
        (exact_two o m top (awaited_in o x) (awaited_in_arms m y) (inner_exact o b) (exact_cut m (m + arms_size more) m top (awaited_in_arms m y) (omega arith) (omega (arith, z)) (inner_arms_exact m more)))

  made_none : (n : ℕ) (es : List ℕ) → awaited_in_arms n (made_for es) ≡ []
  made_none n [] = refl
  made_none n (e ∷ es) = awaited_advances n (e ∷ es) no_nodes

  -- an arm in which events are advanced, and those behind it
  open_arm : (low high o : ℕ) (b : Block) (more : PlanArms) (top : ℕ) → Exact (o + block_size b) top (awaited_in_arms (o + block_size b) more) → Exact o (o + block_size b) (awaited_in o (placed_block sources before o b))
      → Exact o top (awaited_in o (with_advances (events sources before low o) (with_advances (events sources before (o + block_size b) high) (placed_block sources before o b)))
      ++ awaited_in_arms (o + block_size (stripped (with_advances (events sources before low o) (with_advances (events sources before (o + block_size b) high) (placed_block sources before o b))))) more)
  open_arm low high o b more top f e =
      let m = o + block_size b in
      let body = placed_block sources before o b in
      let xs = events sources before low o in
      let ys = events sources before m high in
      let B = with_advances xs (with_advances ys body) in
      let s : o + block_size (stripped B) ≡ m = ap (λ (d : Block). o + block_size d) (advances_stripped xs (with_advances ys body) ∙ advances_stripped ys body ∙ placed_same sources before o b) in
      let is : awaited_in o B ≡ awaited_in o body = awaited_advances o xs (with_advances ys body) ∙ awaited_advances o ys body in
      subst (λ (k : ℕ). Exact o top (awaited_in o B ++ awaited_in_arms k more)) (sym s)
      (exact_two o m top (awaited_in o B) (awaited_in_arms m more) (subst (λ (zs : List (ℕ × ℕ × ℕ)). Exact o m zs) (sym is) e) f)

  mutual
    placed_exact : (o : ℕ) (b : Block) → Exact o (o + block_size b) (awaited_in o (placed_block sources before o b))
    placed_exact o tree.no_nodes = exact_none o (o + block_size tree.no_nodes) (omega arith)
    placed_exact o (tree.then_node (tree.plain x) b) =
        let m = o + node_size (tree.plain x) in
        let z = sizes o (tree.plain x) b in
        let es = anchored sources before o (tree.plain x) in
        let rest = placed_block sources before m b in
        combined o m (o + block_size (tree.then_node (tree.plain x) b)) (plain x) es rest [] tt (behind (o + 1) m es rest [] (omega arith))
        (exact_none (o + 1) m (omega arith))
        (exact_cut m (m + block_size b) m (o + block_size (tree.then_node (tree.plain x) b)) (awaited_in m rest) (omega arith) (omega (arith, z)) (placed_exact m b))
    placed_exact o (tree.then_node (tree.loop l h c) b) =
        let m = o + node_size (tree.loop l h c) in
        let z = sizes o (tree.loop l h c) b in
        let es = anchored sources before o (tree.loop l h c) in
        let rest = placed_block sources before m b in
        let x = inner_block sources before (o + 1) c in
        let s = ap (λ (d : Block). block_size d) (inner_same sources before (o + 1) c) in
        combined o m (o + block_size (tree.then_node (tree.loop l h c) b)) (loop l h x) es rest (awaited_in (o + 1) x) tt (behind (o + 1 + block_size (stripped x)) m es rest (awaited_in (o + 1) x) (omega (arith, s)))
        (exact_cut (o + 1) (o + 1 + block_size c) (o + 1) m (awaited_in (o + 1) x) (omega arith) (omega arith) (inner_exact (o + 1) c))
        (exact_cut m (m + block_size b) m (o + block_size (tree.then_node (tree.loop l h c) b)) (awaited_in m rest) (omega arith) (omega (arith, z)) (placed_exact m b))
    placed_exact o (tree.then_node (tree.choose a) b) =
        let m = o + node_size (tree.choose a) in
        let z = sizes o (tree.choose a) b in
        let es = anchored sources before o (tree.choose a) in
        let rest = placed_block sources before m b in
        let low = o + 1 in
        let high = o + 1 + arms_size a in
        let x = placed_arms sources before low high low a in
        let s = ap (λ (d : Arms). arms_size d) (arms_same sources before low high low a) in
        combined o m (o + block_size (tree.then_node (tree.choose a) b)) (choose x) es rest (awaited_in_arms low x) tt (behind (o + 1 + arms_size (stripped_arms x)) m es rest (awaited_in_arms low x) (omega (arith, s)))
        (exact_cut low high low m (awaited_in_arms low x) (omega arith) (omega arith) (arms_exact low high low a))
        (exact_cut m (m + block_size b) m (o + block_size (tree.then_node (tree.choose a) b)) (awaited_in m rest) (omega arith) (omega (arith, z)) (placed_exact m b))

    arms_exact : (low high o : ℕ) (a : Arms) → Exact o (o + arms_size a) (awaited_in_arms o (placed_arms sources before low high o a))
    arms_exact low high o tree.no_arms = subst (λ (xs : List (ℕ × ℕ × ℕ)). Exact o (o + arms_size tree.no_arms) xs) (sym (made_none o (events sources before low high))) (exact_none o (o + arms_size tree.no_arms) (omega arith))
    arms_exact low high o (tree.then_arm l None b more) =
        let m = o + block_size b in
        open_arm low high o b (inner_arms sources before m more) (o + arms_size (tree.then_arm l None b more)) (exact_cut m (m + arms_size more) m (o + arms_size (tree.then_arm l None b more)) (awaited_in_arms m (inner_arms sources before m more)) (omega arith) (let z = arm_sizes o l None b more in omega (arith, z)) (inner_arms_exact m more)) (placed_exact o b)
    arms_exact low high o (tree.then_arm l (Some c) b more) =
        let m = o + block_size b in
        open_arm low high o b (placed_arms sources before low high m more) (o + arms_size (tree.then_arm l (Some c) b more)) (exact_cut m (m + arms_size more) m (o + arms_size (tree.then_arm l (Some c) b more)) (awaited_in_arms m (placed_arms sources before low high m more)) (omega arith) (let z = arm_sizes o l (Some c) b more in omega (arith, z)) (arms_exact low high m more)) (placed_exact o b)

  -- ---- order awaits

  mutual
    inner_ordered : (o : ℕ) (b : Block) → are_ordered None (inner_block sources before o b) ≡ true
    inner_ordered o tree.no_nodes = refl
    inner_ordered o (tree.then_node (tree.plain x) b) =
        let m = o + node_size (tree.plain x) in
        ordered_awaits None (before o) (then_node (plain x) (inner_block sources before m b)) (λ k. inner_ordered m b)
    inner_ordered o (tree.then_node (tree.loop l h c) b) =
        let m = o + node_size (tree.loop l h c) in
        let x = inner_block sources before (o + 1) c in
        let rest = inner_block sources before m b in
        ordered_awaits None (before o) (then_node (loop l h x) rest) (λ k. and_from (are_ordered None x) (are_ordered None rest) (inner_ordered (o + 1) c) (inner_ordered m b))
    inner_ordered o (tree.then_node (tree.choose a) b) =
        let m = o + node_size (tree.choose a) in
        let x = inner_arms sources before (o + 1) a in
        let rest = inner_block sources before m b in
        ordered_awaits None (before o) (then_node (choose x) rest) (λ k. and_from (are_ordered_arms x) (are_ordered None rest) (inner_arms_ordered (o + 1) a) (inner_ordered m b))

    inner_arms_ordered : (o : ℕ) (a : Arms) → are_ordered_arms (inner_arms sources before o a) ≡ true
    inner_arms_ordered o tree.no_arms = refl
    inner_arms_ordered o (tree.then_arm l c b more) = and_from (are_ordered None (inner_block sources before o b)) (are_ordered_arms (inner_arms sources before (o + block_size b) more)) (inner_ordered o b) (inner_arms_ordered (o + block_size b) more)

  made_ordered : (es : List ℕ) → are_ordered_arms (made_for es) ≡ true
  made_ordered [] = refl
  made_ordered (e ∷ es) = ordered_advances (e ∷ es) no_nodes refl

  mutual
    placed_ordered : (o : ℕ) (b : Block) → are_ordered None (placed_block sources before o b) ≡ true
    placed_ordered o tree.no_nodes = refl
    placed_ordered o (tree.then_node (tree.plain x) b) =
        let m = o + node_size (tree.plain x) in
        let es = anchored sources before o (tree.plain x) in
        let rest = placed_block sources before m b in
        ordered_awaits None (before o) (then_node (plain x) (with_advances es rest)) (λ k. ordered_advances es rest (placed_ordered m b))
    placed_ordered o (tree.then_node (tree.loop l h c) b) =
        let m = o + node_size (tree.loop l h c) in
        let es = anchored sources before o (tree.loop l h c) in
        let x = inner_block sources before (o + 1) c in
        let rest = placed_block sources before m b in
        ordered_awaits None (before o) (then_node (loop l h x) (with_advances es rest)) (λ k. and_from (are_ordered None x) (are_ordered None (with_advances es rest)) (inner_ordered (o + 1) c) (ordered_advances es rest (placed_ordered m b)))
    placed_ordered o (tree.then_node (tree.choose a) b) =
        let m = o + node_size (tree.choose a) in
        let es = anchored sources before o (tree.choose a) in
        let x = placed_arms sources before (o + 1) (o + 1 + arms_size a) (o + 1) a in
        let rest = placed_block sources before m b in
        ordered_awaits None (before o) (then_node (choose x) (with_advances es rest)) (λ k. and_from (are_ordered_arms x) (are_ordered None (with_advances es rest)) (arms_ordered (o + 1) (o + 1 + arms_size a) (o + 1) a) (ordered_advances es rest (placed_ordered m b)))

    arms_ordered : (low high o : ℕ) (a : Arms) → are_ordered_arms (placed_arms sources before low high o a) ≡ true
    arms_ordered low high o tree.no_arms = made_ordered (events sources before low high)
    arms_ordered low high o (tree.then_arm l None b more) =
        let m = o + block_size b in
        let x = with_advances (events sources before m high) (placed_block sources before o b) in
        let y = with_advances (events sources before low o) x in
        and_from (are_ordered None y) (are_ordered_arms (inner_arms sources before m more)) (ordered_advances (events sources before low o) x (ordered_advances (events sources before m high) (placed_block sources before o b) (placed_ordered o b))) (inner_arms_ordered m more)
    arms_ordered low high o (tree.then_arm l (Some c) b more) =
        let m = o + block_size b in
        let x = with_advances (events sources before m high) (placed_block sources before o b) in
        let y = with_advances (events sources before low o) x in
        and_from (are_ordered None y) (are_ordered_arms (placed_arms sources before low high m more)) (ordered_advances (events sources before low o) x (ordered_advances (events sources before m high) (placed_block sources before o b) (placed_ordered o b))) (arms_ordered low high m more)

  -- ---- awaits before statements

  mutual
    inner_before : (o : ℕ) (b : Block) → are_before (inner_block sources before o b) ≡ true
    inner_before o tree.no_nodes = refl
    inner_before o (tree.then_node (tree.plain x) b) =
        let m = o + node_size (tree.plain x) in
        before_awaits (before o) (plain x) (inner_block sources before m b) tt (inner_before m b)
    inner_before o (tree.then_node (tree.loop l h c) b) =
        let m = o + node_size (tree.loop l h c) in
        let x = inner_block sources before (o + 1) c in
        let rest = inner_block sources before m b in
        before_awaits (before o) (loop l h x) rest tt (and_from (are_before x) (are_before rest) (inner_before (o + 1) c) (inner_before m b))
    inner_before o (tree.then_node (tree.choose a) b) =
        let m = o + node_size (tree.choose a) in
        let x = inner_arms sources before (o + 1) a in
        let rest = inner_block sources before m b in
        before_awaits (before o) (choose x) rest tt (and_from (are_before_arms x) (are_before rest) (inner_arms_before (o + 1) a) (inner_before m b))

    inner_arms_before : (o : ℕ) (a : Arms) → are_before_arms (inner_arms sources before o a) ≡ true
    inner_arms_before o tree.no_arms = refl
    inner_arms_before o (tree.then_arm l c b more) = and_from (are_before (inner_block sources before o b)) (are_before_arms (inner_arms sources before (o + block_size b) more)) (inner_before o b) (inner_arms_before (o + block_size b) more)

  made_before : (es : List ℕ) → are_before_arms (made_for es) ≡ true
  made_before [] = refl
  made_before (e ∷ es) = before_advances (e ∷ es) no_nodes refl

  mutual
    placed_before : (o : ℕ) (b : Block) → are_before (placed_block sources before o b) ≡ true
    placed_before o tree.no_nodes = refl
    placed_before o (tree.then_node (tree.plain x) b) =
        let m = o + node_size (tree.plain x) in
        let es = anchored sources before o (tree.plain x) in
        let rest = placed_block sources before m b in
        before_awaits (before o) (plain x) (with_advances es rest) tt (before_advances es rest (placed_before m b))
    placed_before o (tree.then_node (tree.loop l h c) b) =
        let m = o + node_size (tree.loop l h c) in
        let es = anchored sources before o (tree.loop l h c) in
        let x = inner_block sources before (o + 1) c in
        let rest = placed_block sources before m b in
        before_awaits (before o) (loop l h x) (with_advances es rest) tt (and_from (are_before x) (are_before (with_advances es rest)) (inner_before (o + 1) c) (before_advances es rest (placed_before m b)))
    placed_before o (tree.then_node (tree.choose a) b) =
        let m = o + node_size (tree.choose a) in
        let es = anchored sources before o (tree.choose a) in
        let x = placed_arms sources before (o + 1) (o + 1 + arms_size a) (o + 1) a in
        let rest = placed_block sources before m b in
        before_awaits (before o) (choose x) (with_advances es rest) tt (and_from (are_before_arms x) (are_before (with_advances es rest)) (arms_before (o + 1) (o + 1 + arms_size a) (o + 1) a) (before_advances es rest (placed_before m b)))

    arms_before : (low high o : ℕ) (a : Arms) → are_before_arms (placed_arms sources before low high o a) ≡ true
    arms_before low high o tree.no_arms = made_before (events sources before low high)
    arms_before low high o (tree.then_arm l None b more) =
        let m = o + block_size b in
        let x = with_advances (events sources before m high) (placed_block sources before o b) in
        let y = with_advances (events sources before low o) x in
        and_from (are_before y) (are_before_arms (inner_arms sources before m more)) (before_advances (events sources before low o) x (before_advances (events sources before m high) (placed_block sources before o b) (placed_before o b))) (inner_arms_before m more)
    arms_before low high o (tree.then_arm l (Some c) b more) =
        let m = o + block_size b in
        let x = with_advances (events sources before m high) (placed_block sources before o b) in
        let y = with_advances (events sources before low o) x in
        and_from (are_before y) (are_before_arms (placed_arms sources before low high m more)) (before_advances (events sources before low o) x (before_advances (events sources before m high) (placed_block sources before o b) (placed_before o b))) (arms_before low high m more)

-- ---- sources and events

event_in : (k : ℕ) (ss : List ℕ) (e s : ℕ) → IsEvent k ss e s → In s ss
event_in k [] e s h = absurd h
event_in k (x ∷ ss) e s (inl q) = inl q.1
event_in k (x ∷ ss) e s (inr h) = inr (event_in (k + 1) ss e s h)

one_event : (k : ℕ) (ss : List ℕ) (e d s : ℕ) → is_ascending ss ≡ true → IsEvent k ss e s → IsEvent k ss d s → e ≡ d
one_event k [] e d s a h g = absurd h
one_event k (x ∷ ss) e d s a (inl p) (inl q) = p.0 ∙ sym q.0
one_event k (x ∷ ss) e d s a (inl p) (inr g) = let l = above x ss a s (event_in (k + 1) ss d s g) in let q = p.1 in absurd (omega (arith, l, q))
one_event k (x ∷ ss) e d s a (inr h) (inl q) = let l = above x ss a s (event_in (k + 1) ss e s h) in let p = q.1 in absurd (omega (arith, l, p))
one_event k (x ∷ ss) e d s a (inr h) (inr g) = one_event (k + 1) ss e d s (tail_ascending x ss a) h g

pub are_kept : AreKept
are_kept l p whole placed = record {
  ordered = subst (λ (b : PlanBlock). are_ordered None b ≡ true) (sym placed.body) (placed_ordered placed.sources placed.before (l.statement + 1) l.body);
  before = subst (λ (b : PlanBlock). are_before b ≡ true) (sym placed.body) (placed_before placed.sources placed.before (l.statement + 1) l.body);
  kept = λ e d t. (only e d t, all e d t);
}
  where
    exact : Exact placed.sources placed.before (l.statement + 1) (l.statement + 1 + block_size l.body) (awaited_in (l.statement + 1) p.body)
    exact = subst (λ (b : PlanBlock). Exact placed.sources placed.before (l.statement + 1) (l.statement + 1 + block_size l.body) (awaited_in (l.statement + 1) b)) (sym placed.body) (placed_exact placed.sources placed.before (l.statement + 1) l.body)

    only : (e d t : ℕ) → Contains (awaited_in (l.statement + 1) p.body) (e, d, t) → (s : ℕ) × IsEvent 1 placed.sources e s × Kept l s t d
    only e d t c = (placed.awaits t).kept e d (contained (e, d) (placed.before t) (exact.sound (e, d, t) (among (e, d, t) (awaited_in (l.statement + 1) p.body) c)))

    all : (e d t : ℕ) → (s : ℕ) × IsEvent 1 placed.sources e s × Kept l s t d → Contains (awaited_in (l.statement + 1) p.body) (e, d, t)
    all e d t k =
        let a = (placed.awaits t).all k.0 d k.2 in
        let same = one_event 1 placed.sources e a.0 k.0 placed.are_sources.ascending k.1 a.1 in
        let z = k.2 in
        let w = block_within (l.statement + 1) l.body z.b (subst (λ (os : List Occurrence). In z.b os) (ap (λ (m : Loop). m.references) whole) (among z.b l.references z.looked_at.b_in)) in
        let lo = w.0 in
        let hi = w.1 in
        let q = z.sink in
        contained (e, d, t) (awaited_in (l.statement + 1) p.body)
        (exact.whole (e, d, t) (omega (arith, lo, q)) (omega (arith, hi, q)) (among (e, d) (placed.before t) (subst (λ (x : ℕ). Contains (placed.before t) (x, d)) (sym same) a.2)))
