-- Events by the statements that are their sources.
use Rattle.std.proofs.Common.{◌≡◌, ◌∙◌, ◌+◌, ◌<◌, ◌≤◌, ◌⊎◌, inl, inr, ℕ, Bool, true, false, ◌&&◌, List, [], ◌∷◌, refl, sym, subst, ⊎_elim, Option, arith, length-append}
use Rattle.std.specs.Prelude.{nat_le, nat_lt, if◌then◌else◌}
use Rattle.std.proofs.lemmas.Bool.{and_from, and_parts, cases_lt, le-leb, leb-true, lt-ltb, ltb-true}
use Rattle.ast.specs.Tree as tree
use Rattle.ast.specs.Tree.{Term, Node, Block, Arms}
use Rattle.loop_tree.specs.Occurrences.{arms_lines, block_lines, node_lines}
use Rattle.plan_check.proofs.Members.{In}
use Rattle.placement.specs.Placement.{IsEvent}
use Rattle.placement.specs.Placing.{arms_size, block_size, events, events_from, node_size}
use Rattle.placement.proofs.Keeping.{Distinct}

has_least : (k : ℕ) (ss : List ℕ) (e s : ℕ) → IsEvent k ss e s → k ≤ e
has_least k [] e s h = absurd h
has_least k (x ∷ ss) e s (inl q) = let a = q.0 in omega (arith, a)
has_least k (x ∷ ss) e s (inr h) = let a = has_least (k + 1) ss e s h in omega (arith, a)

has_one : (k : ℕ) (ss : List ℕ) (e s t : ℕ) → IsEvent k ss e s → IsEvent k ss e t → s ≡ t
has_one k [] e s t h g = absurd h
has_one k (x ∷ ss) e s t (inl p) (inl q) = p.1 ∙ sym q.1
has_one k (x ∷ ss) e s t (inl p) (inr g) = let a = has_least (k + 1) ss e t g in let b = p.0 in absurd (omega (arith, a, b))
has_one k (x ∷ ss) e s t (inr h) (inl q) = let a = has_least (k + 1) ss e s h in let b = q.0 in absurd (omega (arith, a, b))
has_one k (x ∷ ss) e s t (inr h) (inr g) = has_one (k + 1) ss e s t h g

pub source_in : (k : ℕ) (ss : List ℕ) (low high e : ℕ) → In e (events_from k ss low high) → (s : ℕ) × IsEvent k ss e s × (low ≤ s) × (s < high)
source_in k [] low high e i = absurd i
source_in k (x ∷ ss) low high e i = by (nat_le low x && nat_lt x high) refl (λ j. source_in (k + 1) ss low high e j) i
  where
    by : (b : Bool) → (nat_le low x && nat_lt x high) ≡ b → (In e (events_from (k + 1) ss low high) → (s : ℕ) × IsEvent (k + 1) ss e s × (low ≤ s) × (s < high)) → In e (if b then k ∷ events_from (k + 1) ss low high else events_from (k + 1) ss low high)
        → (s : ℕ) × IsEvent k (x ∷ ss) e s × (low ≤ s) × (s < high)
    by true q more (inl z) = let g = and_parts (nat_le low x) (nat_lt x high) q in (x, inl (z, refl), leb-true low x g.0, ltb-true x high g.1)
    by true q more (inr j) = let m = more j in (m.0, inr m.1, m.2, m.3)
    by false q more j = let m = more j in (m.0, inr m.1, m.2, m.3)

pub in_source : (k : ℕ) (ss : List ℕ) (low high e s : ℕ) → IsEvent k ss e s → low ≤ s → s < high → In e (events_from k ss low high)
in_source k [] low high e s h l m = absurd h
in_source k (x ∷ ss) low high e s h l m = by (nat_le low x && nat_lt x high) refl h (λ g. in_source (k + 1) ss low high e s g l m)
  where
    by : (b : Bool) → (nat_le low x && nat_lt x high) ≡ b → IsEvent k (x ∷ ss) e s → (IsEvent (k + 1) ss e s → In e (events_from (k + 1) ss low high)) → In e (if b then k ∷ events_from (k + 1) ss low high else events_from (k + 1) ss low high)
    by true q (inl z) more = inl z.0
    by true q (inr g) more = inr (more g)
    by false q (inr g) more = more g
    by false q (inl z) more =
        let a : low ≤ x = subst (λ (y : ℕ). low ≤ y) z.1 l in
        let b : x < high = subst (λ (y : ℕ). y < high) z.1 m in
        let c : (nat_le low x && nat_lt x high) ≡ true = and_from (nat_le low x) (nat_lt x high) (le-leb low x a) (lt-ltb x high b) in
        let d : true ≡ false = sym c ∙ q in
        cc

pub distinct_from : (k : ℕ) (ss : List ℕ) (low high : ℕ) → Distinct (events_from k ss low high)
distinct_from k [] low high = tt
distinct_from k (x ∷ ss) low high = by (nat_le low x && nat_lt x high) (distinct_from (k + 1) ss low high) (λ i. let m = source_in (k + 1) ss low high k i in let a = has_least (k + 1) ss k m.0 m.1 in omega (arith, a))
  where
    by : (b : Bool) → Distinct (events_from (k + 1) ss low high) → (In k (events_from (k + 1) ss low high) → ⊥) → Distinct (if b then k ∷ events_from (k + 1) ss low high else events_from (k + 1) ss low high)
    by true d none = (none, d)
    by false d none = d

pub sizes : (o : ℕ) (n : Node) (b : Block) → (o + node_size n) + block_size b ≡ o + block_size (tree.then_node n b)
sizes o n b = let e = length-append (node_lines n) (block_lines b) in omega (arith, e)

pub arm_sizes : (o x : ℕ) (c : Option Term) (b : Block) (more : Arms) → o + arms_size (tree.then_arm x c b more) ≡ (o + block_size b) + arms_size more
arm_sizes o x c b more = let e = length-append (block_lines b) (arms_lines more) in omega (arith, e)

module _ (sources : List ℕ) (before : ℕ → List (ℕ × ℕ)) where
  abbrev pub Ev : ℕ → ℕ → ℕ → Type 0
  Ev low high e = In e (events sources before low high)

  pub ev_apart : (a b c d e : ℕ) → b ≤ c → Ev a b e → Ev c d e → ⊥
  ev_apart a b c d e le i j =
      let x = source_in 1 sources a b e i in
      let y = source_in 1 sources c d e j in
      let one = has_one 1 sources e x.0 y.0 x.1 y.1 in
      let p = x.3 in
      let q = y.2 in
      omega (arith, one, p, q, le)

  pub ev_split : (a b c e : ℕ) → a ≤ b → b ≤ c → Ev a c e → Ev a b e ⊎ Ev b c e
  ev_split a b c e l m i =
      let x = source_in 1 sources a c e i in
      let lo = x.2 in
      let hi = x.3 in
      ⊎_elim (λ lt. inl (in_source 1 sources a b e x.0 x.1 lo lt)) (λ ge. inr (in_source 1 sources b c e x.0 x.1 ge hi)) (cases_lt x.0 b)

  pub ev_wider : (a b c d e : ℕ) → c ≤ a → b ≤ d → Ev a b e → Ev c d e
  ev_wider a b c d e l m i =
      let x = source_in 1 sources a b e i in
      let p = x.2 in
      let q = x.3 in
      in_source 1 sources c d e x.0 x.1 (omega (arith, p, l)) (omega (arith, q, m))
