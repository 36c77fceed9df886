-- The loop around a loop comes before it, so what is noted of loops tells whether the next one
-- stands in one that may be open.
use Rattle.std.proofs.Common.{◌≡◌, ◌∙◌, ◌+◌, ◌<◌, ◌≤◌, ◌⊎◌, inl, inr, ℕ, zero, suc, Bool, true, false, List, [], ◌∷◌, ◌++◌, length, Option, Some, None, refl, ap, sym, subst, ⊎_elim, arith}
use Rattle.std.specs.Prelude.{◌||◌, slice_get}
use Rattle.std.proofs.lemmas.Option.{slice_get_within}
use Rattle.ast.specs.Tree.{Node, plain, loop, choose, Block, no_nodes, then_node, Arms, no_arms, then_arm}
use Rattle.ast.proofs.Lists.{one_longer}
use Rattle.loop_tree.specs.Loops.{Loop, arms_loops, block_loops, loop_around, loop_numbered, loops_of, node_loops}
use Rattle.loop_tree.specs.Occurrences.{block_lines, node_lines}
use Rattle.placement.specs.Judged.{IsInside, IsPlaced}
use Rattle.placement.specs.Placement.{around_in, loops_around, with_outer}
use Rattle.placement.specs.declared.planning.Placed.{Placed}
use Rattle.placement.proofs.Eligible.{is_outermost}
use Rattle.codegen.specs.Noted.{AreNested, AreNoted, is_noted, is_true_or_none}

-- ---- loops one after another

-- loops behind k others: the loop around each is this one, or it comes before it
abbrev Follow : Option ℕ → ℕ → List Loop → Type 0
Follow around k [] = Unit {0}
Follow around k (l ∷ ls) = ((l.around ≡ around) ⊎ ((m : ℕ) × (l.around ≡ Some m) × (m ≤ k))) × Follow around (k + 1) ls

both : (around : Option ℕ) (k : ℕ) (xs ys : List Loop) → Follow around k xs → Follow around (k + length xs) ys → Follow around k (xs ++ ys)
both around k [] ys f g = subst (λ (n : ℕ). Follow around n ys) (omega arith) g
both around k (x ∷ xs) ys f g = (f.0, both around (k + 1) xs ys f.1 (subst (λ (n : ℕ). Follow around n ys) (omega arith) g))

-- in a loop that comes before them
inside : (around : Option ℕ) (j k : ℕ) (ls : List Loop) → j ≤ k → Follow (Some j) k ls → Follow around k ls
inside around j k [] h f = tt
inside around j k (l ∷ ls) h f = (⊎_elim (λ e. inr (j, e, h)) (λ g. inr g) f.0, inside around j (k + 1) ls (omega (arith, h)) f.1)

mutual
  node_follow : (around : Option ℕ) (k n : ℕ) (x : Node) → Follow around k (node_loops around k n x)
  node_follow around k n (plain s) = tt
  node_follow around k n (loop l h b) = (inl refl, inside around (k + 1) (k + 1) (block_loops (Some (k + 1)) (k + 1) (n + 1) b) (omega arith) (block_follow (Some (k + 1)) (k + 1) (n + 1) b))
  node_follow around k n (choose a) = arms_follow around k (n + 1) a

  block_follow : (around : Option ℕ) (k n : ℕ) (b : Block) → Follow around k (block_loops around k n b)
  block_follow around k n no_nodes = tt
  block_follow around k n (then_node x b) =
      both around k (node_loops around k n x) (block_loops around (k + length (node_loops around k n x)) (n + length (node_lines x)) b)
      (node_follow around k n x)
      (block_follow around (k + length (node_loops around k n x)) (n + length (node_lines x)) b)

  arms_follow : (around : Option ℕ) (k n : ℕ) (a : Arms) → Follow around k (arms_loops around k n a)
  arms_follow around k n no_arms = tt
  arms_follow around k n (then_arm l c b more) =
      both around k (block_loops around k n b) (arms_loops around (k + length (block_loops around k n b)) (n + length (block_lines b)) more)
      (block_follow around k n b)
      (arms_follow around (k + length (block_loops around k n b)) (n + length (block_lines b)) more)

at : (k i m : ℕ) (ls : List Loop) (l : Loop) → Follow None k ls → slice_get ls i ≡ Some l → l.around ≡ Some m → m ≤ k + i
at k i m [] l f e a = cc
at k zero m (x ∷ ls) l f e a =
    let same : x ≡ l = cc in
    ⊎_elim (λ g. by (sym a ∙ ap (λ (y : Loop). y.around) (sym same) ∙ g)) (λ g. let q : Some g.0 ≡ Some m = sym g.1 ∙ ap (λ (y : Loop). y.around) same ∙ a in let r : g.0 ≡ m = cc q in let s = g.2 in omega (arith, r, s)) f.0
  where
    by : Some m ≡ None → m ≤ k + zero
    by q = cc
at k (suc i) m (x ∷ ls) l f e a = let g = at (k + 1) i m ls l f.1 e a in omega (arith, g)

pub are_nested : (b : Block) → AreNested (loops_of b)
are_nested b zero m l e a = cc
are_nested b (suc n) m l e a = let g = at 0 n m (loops_of b) l (block_follow None 0 0 b) e a in omega (arith, g)

-- ---- the loops around one

-- the number of the loop around
record Outer (all : List Loop) (l m : Loop) : Type 0 where
  number : ℕ
  is : l.around ≡ Some number
  at : loop_numbered all number ≡ Some m

outer : (all : List Loop) (l m : Loop) → loop_around all l ≡ Some m → Outer all l m
outer all l m h = by l.around refl
  where
    by : (o : Option ℕ) → l.around ≡ o → Outer all l m
    by None e = absurd (let q : None ≡ Some m = subst (λ (x : Option ℕ). loop_around all (record l { around = x }) ≡ Some m) e h in cc)
    by (Some n) e = record { number = n; is = e; at = subst (λ (x : Option ℕ). loop_around all (record l { around = x }) ≡ Some m) e h }

numbered_above : (all : List Loop) (n : ℕ) (l : Loop) → loop_numbered all n ≡ Some l → (1 ≤ n) × (n ≤ length all)
numbered_above all zero l h = cc
numbered_above all (suc n) l h = let g = slice_get_within all n l h in (omega arith, omega (arith, g))

-- one step more finds no other loop where there are steps for all
one_step : (all : List Loop) → AreNested all → (n : ℕ) (l : Loop) → ((m : ℕ) → l.around ≡ Some m → m ≤ n) → around_in (suc n) all l ≡ around_in n all l
one_step all nested zero l low = by (loop_around all l) refl
  where
    by : (o : Option Loop) → loop_around all l ≡ o → around_in 1 all l ≡ []
    by None e = ap (λ (x : Option Loop). with_outer (λ m. around_in zero all m) x) e
    by (Some m) e =
        let u = outer all l m e in
        let z = low u.number u.is in
        let g = (numbered_above all u.number m u.at).0 in
        absurd (omega (arith, z, g))
one_step all nested (suc n) l low = by (loop_around all l) refl (λ m lower. one_step all nested n m lower)
  where
    by : (o : Option Loop) → loop_around all l ≡ o → ((m : Loop) → ((i : ℕ) → m.around ≡ Some i → i ≤ n) → around_in (suc n) all m ≡ around_in n all m) → around_in (suc (suc n)) all l ≡ around_in (suc n) all l
    by None e more = ap (λ (x : Option Loop). with_outer (λ m. around_in (suc n) all m) x) e ∙ sym (ap (λ (x : Option Loop). with_outer (λ m. around_in n all m) x) e)
    by (Some m) e more =
        let u = outer all l m e in
        let z = low u.number u.is in
        ap (λ (x : Option Loop). with_outer (λ k. around_in (suc n) all k) x) e
        ∙ ap (λ (ls : List Loop). m ∷ ls) (more m (λ i q. let g = nested u.number i m u.at q in omega (arith, g, z)))
        ∙ sym (ap (λ (x : Option Loop). with_outer (λ k. around_in n all k) x) e)

-- the loops around are the one around and those around that
pub next_around : (all : List Loop) → AreNested all → (n : ℕ) (l : Loop) → loop_numbered all n ≡ Some l → loops_around all l ≡ with_outer (λ m. loops_around all m) (loop_around all l)
next_around all nested n l h = by (length all) refl (loop_around all l) refl
  where
    by : (k : ℕ) → length all ≡ k → (o : Option Loop) → loop_around all l ≡ o → around_in k all l ≡ with_outer (λ m. around_in k all m) (loop_around all l)
    by zero e o q = let g = numbered_above all n l h in let low = g.0 in let high = g.1 in absurd (omega (arith, e, low, high))
    by (suc k) e None q = ap (λ (x : Option Loop). with_outer (λ m. around_in k all m) x) q ∙ sym (ap (λ (x : Option Loop). with_outer (λ m. around_in (suc k) all m) x) q)
    by (suc k) e (Some m) q =
        let u = outer all l m q in
        let before = nested n u.number l h u.is in
        let high = (numbered_above all n l h).1 in
        ap (λ (x : Option Loop). with_outer (λ j. around_in k all j) x) q
        ∙ sym (ap (λ (ls : List Loop). m ∷ ls) (one_step all nested k m (λ i r. let g = nested u.number i m u.at r in omega (arith, g, before, high, e))))
        ∙ sym (ap (λ (x : Option Loop). with_outer (λ j. around_in (suc k) all j) x) q)

-- ---- what is noted

-- of the loop around the next one
pub noted_inside : (all : List Loop) (noted : List Bool) (l : Loop) → AreNested all → AreNoted all noted → loop_numbered all (length noted) ≡ Some l → IsInside (loops_around all l) (is_noted noted l.around)
noted_inside all noted l nested are h =
    subst (λ (ls : List Loop). IsInside ls (is_noted noted l.around)) (sym (next_around all nested (length noted) l h)) (by l.around refl)
  where
    found : (n : ℕ) (o : Option Loop) → l.around ≡ Some n → loop_numbered all n ≡ o → IsInside (with_outer (λ m. loops_around all m) o) (is_noted noted (Some n))
    found n (Some m) e q = are.each n m (nested (length noted) n l h e) q
    found zero None e q = subst (λ (b : Bool). IsInside [] b) (sym (ap is_true_or_none are.none)) tt
    found (suc n) None e q =
        let before = nested (length noted) (suc n) l h e in
        let high = (numbered_above all (length noted) l h).1 in
        absurd (let g : n < length all = omega (arith, before, high) in none_within all n g q)
      where
        none_within : (xs : List Loop) (i : ℕ) → i < length xs → slice_get xs i ≡ None → ⊥
        none_within [] i g r = omega (arith, g)
        none_within (x ∷ xs) zero g r = cc
        none_within (x ∷ xs) (suc i) g r = none_within xs i (omega (arith, g)) r

    by : (o : Option ℕ) → l.around ≡ o → IsInside (with_outer (λ m. loops_around all m) (loop_around all l)) (is_noted noted l.around)
    by None e =
        subst (λ (x : Option ℕ). IsInside (with_outer (λ m. loops_around all m) (loop_around all (record l { around = x }))) (is_noted noted x)) (sym e) tt
    by (Some n) e =
        subst (λ (x : Option ℕ). IsInside (with_outer (λ m. loops_around all m) (loop_around all (record l { around = x }))) (is_noted noted x)) (sym e)
        (found n (loop_numbered all n) e refl)

-- ---- one more is noted

or_suits : (l : Loop) (around : List Loop) (inside : Bool) (placed : Placed) → IsInside around inside → IsPlaced l inside placed → IsInside (l ∷ around) (inside || placed.suits)
or_suits l around true placed some p = inr some
or_suits l around false placed none (inl (e, suits, o)) = subst (λ (b : Bool). IsInside (l ∷ around) b) (sym e) (inl ((is_outermost l around).1 (suits, none)))
or_suits l around false placed none (inr (e, never, n)) = subst (λ (b : Bool). IsInside (l ∷ around) b) (sym e) (never, none)

get_before : (xs : List Bool) (b : Bool) (n : ℕ) → n < length xs → slice_get (xs ++ b ∷ []) n ≡ slice_get xs n
get_before [] b n h = absurd (omega (arith, h))
get_before (x ∷ xs) b zero h = refl
get_before (x ∷ xs) b (suc n) h = get_before xs b n (omega (arith, h))

get_last : (xs : List Bool) (b : Bool) → slice_get (xs ++ b ∷ []) (length xs) ≡ Some b
get_last [] b = refl
get_last (x ∷ xs) b = get_last xs b

less_or_last : (n k : ℕ) → n < k + 1 → (n < k) ⊎ (n ≡ k)
less_or_last zero zero h = inr refl
less_or_last zero (suc k) h = inl (omega arith)
less_or_last (suc n) zero h = absurd (omega (arith, h))
less_or_last (suc n) (suc k) h = ⊎_elim (λ g. inl (omega (arith, g))) (λ e. inr (ap suc e)) (less_or_last n k (omega (arith, h)))

pub noted_more : (all : List Loop) (noted : List Bool) (l : Loop) (b : Bool) → AreNoted all noted → loop_numbered all (length noted) ≡ Some l → IsInside (l ∷ loops_around all l) b → AreNoted all (noted ++ b ∷ [])
noted_more all noted l b are h inside_too = record {
  none = get_before noted b 0 (slice_get_within noted 0 false are.none) ∙ are.none;
  each = λ n m less e. by n m e (less_or_last n (length noted) (let g = one_longer noted b in omega (arith, g, less)));
}
  where
    by : (n : ℕ) (m : Loop) → loop_numbered all n ≡ Some m → (n < length noted) ⊎ (n ≡ length noted) → IsInside (m ∷ loops_around all m) (is_noted (noted ++ b ∷ []) (Some n))
    by n m e (inl less) = subst (λ (x : Bool). IsInside (m ∷ loops_around all m) x) (sym (ap is_true_or_none (get_before noted b n less))) (are.each n m less e)
    by n m e (inr last) =
        let same : Some m ≡ Some l = sym e ∙ ap (λ (k : ℕ). loop_numbered all k) last ∙ h in
        let one : m ≡ l = cc in
        let value : is_noted (noted ++ b ∷ []) (Some n) ≡ b = ap (λ (k : ℕ). is_noted (noted ++ b ∷ []) (Some k)) last ∙ ap is_true_or_none (get_last noted b) in
        subst (λ (x : Bool). IsInside (m ∷ loops_around all m) x) (sym value) (subst (λ (x : Loop). IsInside (x ∷ loops_around all x) b) (sym one) inside_too)

pub noted_next : (all : List Loop) (noted : List Bool) (l : Loop) (placed : Placed) → AreNested all → AreNoted all noted → loop_numbered all (length noted) ≡ Some l → IsPlaced l (is_noted noted l.around) placed
    → AreNoted all (noted ++ (is_noted noted l.around || placed.suits) ∷ [])
noted_next all noted l placed nested are h p =
    noted_more all noted l (is_noted noted l.around || placed.suits) are h (or_suits l (loops_around all l) (is_noted noted l.around) placed (noted_inside all noted l nested are h) p)
