-- What the check asks of a plan's order holds of each plan that is placed.
use Rattle.std.proofs.Common.{◌≡◌, ◌∙◌, ◌+◌, ◌<◌, ◌≤◌, inl, inr, ℕ, Bool, true, false, ◌&&◌, List, [], ◌∷◌, length, ap, sym, subst, None, arith}
use Rattle.std.proofs.lemmas.List.{length-replicate}
use Rattle.std.specs.Prelude.{nat_le}
use Rattle.std.specs.List.{list_all}
use Rattle.std.proofs.lemmas.Bool.{and_from, le-leb}
use Rattle.ast.specs.Tree.{Block}
use Rattle.dependence.specs.Kept.{most_events}
use Rattle.dependence.specs.Plan.{PlanBlock, PlanTree}
use Rattle.loop_tree.specs.Loops.{Loop}
use Rattle.placement.proofs.Lists.{all_from, get_true}
use Rattle.plan_check.specs.Checking.{first, in_order, is_in_order, is_proper}
use Rattle.plan_check.specs.Flow.{Near, Point, after_block, block_points, has_advanced, outside}
use Rattle.plan_check.proofs.Members.{In}
use Rattle.plan_check.specs.GoodPlan.{SameBody, made_bare, named, stripped}
use Rattle.placement.specs.Placement.{IsEvent}
use Rattle.placement.specs.Placing.{block_size, placed_block}
use Rattle.placement.proofs.Going.{goes_block}
use Rattle.placement.proofs.Keeping.{Room}
use Rattle.placement.proofs.Naming.{fine_block}
use Rattle.placement.proofs.Outside.{outside_placed}
use Rattle.placement.proofs.Sources.{Ev, source_in}
use Rattle.placement.proofs.Stripping.{placed_bare, placed_same}

pub has_below : (k : ℕ) (ss : List ℕ) (e s : ℕ) → IsEvent k ss e s → (k ≤ e) × (e < k + length ss)
has_below k [] e s h = absurd h
has_below k (x ∷ ss) e s (inl q) = let a = q.0 in (omega (arith, a), omega (arith, a))
has_below k (x ∷ ss) e s (inr h) = let g = has_below (k + 1) ss e s h in let a = g.0 in let b = g.1 in (omega (arith, a), omega (arith, b))

-- sources: at most 64, before: of events that have a source in the range, at distances from 1 on
module _ (cells base : ℕ) (sources : List ℕ) (before : ℕ → List (ℕ × ℕ)) (b : Block) (few : length sources ≤ most_events) (listed : (x : ℕ) (n : ℕ × ℕ) → In n (before x) → Ev sources before base (base + block_size b) n.0 × (1 ≤ n.1)) where
  abbrev body : PlanBlock
  body = placed_block sources before base b

  pub event : (e : ℕ) → Ev sources before base (base + block_size b) e → (1 ≤ e) × (e ≤ most_events)
  event e i =
      let x = source_in 1 sources base (base + block_size b) e i in
      let h = has_below 1 sources e x.0 x.1 in
      let p = h.0 in
      let q = h.1 in
      (p, omega (arith, q, few))

  pub room : (e : ℕ) → e ≤ most_events → Room (first cells) e
  room e l =
      let a = length-replicate {A = Near} (most_events + 1) None in
      let c = length-replicate {A = Bool} (most_events + 1) true in
      let d = length-replicate {A = Bool} (most_events + 1) false in
      record { near = omega (arith, a, l); free = omega (arith, c, l); advanced = omega (arith, d, l) }

  fine : (n : ℕ × ℕ) → In n (named body) → Ev sources before base (base + block_size b) n.0 × (1 ≤ n.1)
  fine = fine_block sources before base (base + block_size b) listed base b (omega arith) (omega arith)

  pub proper : list_all (λ (n : ℕ × ℕ). is_proper n) (named body) ≡ true
  proper = all_from (λ (n : ℕ × ℕ). is_proper n) (named body) (λ n i.
      let f = fine n i in
      let v = event n.0 f.0 in
      and_from (nat_le 1 n.0) (nat_le n.0 most_events && nat_le 1 n.1) (le-leb 1 n.0 v.0) (and_from (nat_le n.0 most_events) (nat_le 1 n.1) (le-leb n.0 most_events v.1) (le-leb 1 n.1 f.1)))

  pub ordered : (privates : List (List ℕ)) (p : PlanTree) → p.body ≡ body → in_order cells p ≡ true
  ordered privates p e = subst (λ (c : PlanBlock). (outside c && (list_all (λ (x : Point). is_in_order x) (block_points c (first cells)) && list_all (λ (n : ℕ × ℕ). has_advanced (after_block c (first cells)) n.0) (named c))) ≡ true) (sym e)
      (let g = goes_block sources before base b (first cells) in
      and_from (outside body) (list_all (λ (x : Point). is_in_order x) (block_points body (first cells)) && list_all (λ (n : ℕ × ℕ). has_advanced (after_block body (first cells)) n.0) (named body)) (outside_placed sources before base b)
      (and_from (list_all (λ (x : Point). is_in_order x) (block_points body (first cells))) (list_all (λ (n : ℕ × ℕ). has_advanced (after_block body (first cells)) n.0) (named body))
      (g.order (λ e i. let v = event e i in (room e v.1, (let l = v.1 in get_true (most_events + 1) e (omega (arith, l))))))
      (all_from (λ (n : ℕ × ℕ). has_advanced (after_block body (first cells)) n.0) (named body) (λ n i.
      let f = fine n i in
      g.inside n.0 f.0 (room n.0 (event n.0 f.0).1)))))

  pub same : (l : Loop) (p : PlanTree) → l.body ≡ b → p.body ≡ body → SameBody l p
  same l p e f = record {
    same = ap (λ (c : PlanBlock). stripped c) f ∙ placed_same sources before base b ∙ sym e;
    bare = ap (λ (c : PlanBlock). made_bare c) f ∙ placed_bare sources before base b;
  }
