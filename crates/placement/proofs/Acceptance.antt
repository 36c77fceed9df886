-- The check accepts each plan that is placed.
use Rattle.std.proofs.Common.{◌≡◌, ◌∙◌, ◌+◌, ◌<◌, ◌≤◌, inl, ℕ, ℤ, Bool, true, not, List, length, refl, ap, sym, subst, Option, Some, None, true≢false, arith}
use Rattle.std.specs.List.{list_all}
use Rattle.std.proofs.lemmas.Bool.{and_from, and_parts, not-true, not_from_false}
use Rattle.ast.specs.Store.{same_name}
use Rattle.ast.specs.Tree.{Ref, Block}
use Rattle.dependence.specs.Kept.{EligibleIn, IsNonzero, Kept, KeptAt, Suits, block_reads, block_variables, most_events}
use Rattle.dependence.specs.Plan.{PlanBlock, PlanTree}
use Rattle.dependence.specs.Tests.{relation}
use Rattle.dependence.specs.declared.relation.Relation.{Relation}
use Rattle.dependence.specs.declared.relation.Relation.TheVariants.{Apart, Distance, Any}
use Rattle.dependence.proofs.Agreed.{agreed}
use Rattle.loop_tree.specs.Loops.{IsWhole, Loop, has_cell}
use Rattle.loop_tree.specs.Occurrences.{Occurrence, block_occurrences}
use Rattle.loop_tree.specs.Paths.{uses}
use Rattle.loop_tree.specs.Told.{are_in_turn, are_told, known, references}
use Rattle.placement.specs.Acceptance.{IsAccepted}
use Rattle.placement.specs.Placement.{IsEvent, IsPlacedBody}
use Rattle.placement.specs.Placing.{block_size}
use Rattle.placement.proofs.AssignedOnce.{private_once}
use Rattle.placement.proofs.Cells.{has_private, known_reference, known_variable, private_cell, private_name}
use Rattle.placement.proofs.Claims.{are_claimed}
use Rattle.placement.proofs.Early.{never_early_of}
use Rattle.placement.proofs.Eligible.{suits}
use Rattle.placement.proofs.Few.{few}
use Rattle.placement.proofs.Sources.{Ev, in_source}
use Rattle.placement.proofs.Holding.{all_kept, kept_at}
use Rattle.placement.proofs.Lists.{all_from, get_true}
use Rattle.placement.proofs.Ordering.{event, has_below, ordered, proper, room, same}
use Rattle.placement.proofs.Positive.{kept_positive}
use Rattle.placement.proofs.Privates.{name_of, scalar_of}
use Rattle.placement.proofs.Ranges.{block_within}
use Rattle.plan_check.proofs.Members.{In, among, contained}
use Rattle.plan_check.proofs.Parallel.{block_are}
use Rattle.plan_check.proofs.Sound.{at_point, in_any, in_entries, is_same, ref_of}
use Rattle.plan_check.specs.Checking.{Checked, all_ahead, all_held, all_true, are_once, at_references, claimed, distance_of, first, fits, has_name, has_named, is_looked_at, is_proper, is_step, never_early, reference_tokens, tokens_of}
use Rattle.plan_check.specs.Flow.{Known, block_points}
use Rattle.plan_check.specs.GoodPlan.{SameBody, named}
use Rattle.privatise.proofs.Exactly.{isnt_private}
use Rattle.privatise.proofs.ByCell.{block_walk}
use Rattle.privatise.specs.Flow.{is_never_early}

steps : (s : Option ℤ) → IsNonzero s → is_step s ≡ true
steps None h = absurd h
steps (Some s) h = ap (λ (b : Bool). not b) h

at_distance : (r : Relation) (d : ℕ) → distance_of (Some r) ≡ Some d → KeptAt r d
at_distance (Apart n reason) d h = cc
at_distance (Distance n e) d h = cc
at_distance Any d h = cc

module _ (cells : ℕ) (l : Loop) (p : PlanTree) (around : List Loop) (whole : IsWhole l) (turn : are_in_turn (references l.references) ≡ true) (told : are_told (known l) ≡ true)
    (enough : (c : ℕ) → has_cell c l.assigned ≡ true → c < cells) (eligible : EligibleIn l around) (placed : IsPlacedBody l p) where
  suit : Suits l
  suit = suits l around eligible

  abbrev n : ℕ
  n = l.statement + 1

  refs : l.references ≡ block_occurrences (l.statement + 1) l.body
  refs = ap (λ (m : Loop). m.references) whole

  in_range : (a : Occurrence) → In a l.references → (n ≤ a.statement) × (a.statement < n + block_size l.body)
  in_range a i = block_within n l.body a (subst (λ (os : List Occurrence). In a os) refs i)

  few_sources : length placed.sources ≤ most_events
  few_sources =
      let small = suit.few in
      let g = few placed.sources suit.sources placed.are_sources.ascending (λ s i. let k = placed.are_sources.kept s (contained s placed.sources i) in among s suit.sources (suit.all s k.0 k.1 k.2)) in
      omega (arith, small, g)

  listed : (x : ℕ) (m : ℕ × ℕ) → In m (placed.before x) → Ev placed.sources placed.before n (n + block_size l.body) m.0 × (1 ≤ m.1)
  listed x m i =
      let k = (placed.awaits x).kept m.0 m.1 (contained m (placed.before x) i) in
      let z = k.2 in
      let w = in_range z.a (among z.a l.references z.looked_at.a_in) in
      let e = z.source in
      let lo = w.0 in
      let hi = w.1 in
      (in_source 1 placed.sources n (n + block_size l.body) m.0 k.0 k.1 (omega (arith, e, lo)) (omega (arith, e, hi)), kept_positive l z.a z.b m.1 z.at)

  has_source : (x : ℕ) (m : ℕ × ℕ) → In m (placed.before x) → (s : ℕ) × IsEvent 1 placed.sources m.0 s
  has_source x m i = let k = (placed.awaits x).kept m.0 m.1 (contained m (placed.before x) i) in (k.0, k.1)

  -- ---- the plan's body

  same_body : SameBody l p
  same_body = same cells n placed.sources placed.before l.body few_sources listed l p refl placed.body

  shown : tokens_of l.references ≡ reference_tokens (block_points p.body (first cells))
  shown =
      ap (λ (os : List Occurrence). tokens_of os) (refs ∙ ap (λ (b : Block). block_occurrences n b) (sym same_body.same))
      ∙ block_are n p.body (first cells) same_body.bare

  reference_at : (r : Ref) (y : Known) → In (uses r, y) (block_points p.body (first cells)) → In r (known l)
  reference_at r y i =
      let f = at_point l.references (block_points p.body (first cells)) (uses r) y shown tt i in
      let o = in_entries l.references (at_references (block_points p.body (first cells))) f.0 y f.1 in
      subst (λ (q : Ref). In q (known l)) (ref_of f.0 r (inl f.2)) (known_reference l f.0 o)

  early : never_early cells p ≡ true
  early = never_early_of cells p same_body.bare (λ r y i h.
      let v = private_name l p.privates told placed.privates r (reference_at r y i) h in
      ((λ e. isnt_private l r.cell (ap (λ w. is_never_early w) (ap (λ (b : Block). block_walk r.cell b) (sym same_body.same) ∙ e)) v), enough r.cell v.assigned))

  variable : (r : Ref) → In r (block_variables l.body) → has_name p.privates r.name ≡ true
  variable r i = private_cell l p.privates told placed.privates r (known_variable l whole r i) (suit.inner r (contained r (block_variables l.body) i))

  scalar : (name : List ℕ) → In name p.privates → has_named l.assigned name ≡ true
  scalar name i = let q = scalar_of l p.privates placed.privates name i in in_any (λ (r : Ref). same_name r.name name) l.assigned q.0 q.1 (is_same q.0.name name q.2)

  all_proper : list_all (λ (m : ℕ × ℕ). is_proper m) (named p.body) ≡ true
  all_proper = subst (λ (b : PlanBlock). list_all (λ (m : ℕ × ℕ). is_proper m) (named b) ≡ true) (sym placed.body) (proper cells n placed.sources placed.before l.body few_sources listed)

  fit : fits l p ≡ true
  fit =
      and_from (is_step l.step) _ (steps l.step suit.step)
      (and_from (not (block_reads l.body)) _ (not_from_false (block_reads l.body) suit.no_read)
      (and_from (list_all (λ (r : Ref). has_name p.privates r.name) (block_variables l.body)) _ (all_from (λ (r : Ref). has_name p.privates r.name) (block_variables l.body) variable)
      (and_from (list_all (λ (x : List ℕ). has_named l.assigned x) p.privates) _ (all_from (λ (x : List ℕ). has_named l.assigned x) p.privates scalar)
      (and_from (are_once p.privates) _ (private_once l whole told p.privates placed.privates) all_proper))))

  -- ---- pairs

  kept_pair : (a b : Occurrence) (d : ℕ) → In a l.references → In b l.references → is_looked_at l p a b ≡ true → kept_at l a b ≡ Some d → Kept l a.statement b.statement d
  kept_pair a b d i j look e =
      let x = and_parts (same_name a.ref.name b.ref.name) _ look in
      let y = and_parts (not (same_name a.ref.name l.head.variable.name)) _ x.1 in
      let z = and_parts (not (has_name p.privates a.ref.name)) _ y.1 in
      record {
        a = a;
        b = b;
        looked_at = record { a_in = contained a l.references i; b_in = contained b l.references j; name = x.0; other = not-true (same_name a.ref.name l.head.variable.name) y.0; defining = z.1 };
        shared = λ v. true≢false (sym (has_private l p.privates told placed.privates a.ref.name (subst (λ (m : List ℕ). In m p.privates) v.is (name_of l p.privates placed.privates v.ref (among v.ref l.assigned v.among) v.private))) ∙ not-true (has_name p.privates a.ref.name) z.0);
        source = refl;
        sink = refl;
        at = at_distance (relation l a b) d e;
      }

  kept : (a b : Occurrence) (d : ℕ) → In a l.references → In b l.references → is_looked_at l p a b ≡ true → kept_at l a b ≡ Some d
      → (e : ℕ) × IsEvent 1 placed.sources e a.statement × Ev placed.sources placed.before n (n + block_size l.body) e × In (e, d) (placed.before b.statement)
  kept a b d i j look h =
      let k = (placed.awaits b.statement).all a.statement d (kept_pair a b d i j look h) in
      let w = in_range a i in
      (k.0, k.1, in_source 1 placed.sources n (n + block_size l.body) k.0 a.statement k.1 w.0 w.1, among (k.0, d) (placed.before b.statement) k.2)

  claims : (a b : Occurrence) → In a l.references → In b l.references → is_looked_at l p a b ≡ true → claimed p.relations a.ref.id b.ref.id ≡ Some (relation l a b)
  claims a b i j look = ap (λ (cs : List (ℕ × ℕ × Relation)). claimed cs a.ref.id b.ref.id) placed.relations ∙ are_claimed l p.privates a b l.references turn i j look

  pairs : (all_ahead cells l p ≡ true) × (all_held cells l p ≡ true) × (all_true cells l p ≡ true)
  pairs = all_kept cells n l p placed.sources placed.before refs placed.body has_source
      (λ e t h. room cells n placed.sources placed.before l.body few_sources listed e (let q = (has_below 1 placed.sources e t h).1 in let f = few_sources in omega (arith, q, f)))
      (λ e i. get_true (most_events + 1) e (let q = (event cells n placed.sources placed.before l.body few_sources listed e i).1 in omega (arith, q)))
      kept claims (λ a b. agreed l (Some a) (Some b))

  pub checked : Checked cells l p
  checked = record {
    fit = fit;
    is_body = record { same = same_body; shown = shown };
    early = early;
    ordered = ordered cells n placed.sources placed.before l.body few_sources listed p.privates p placed.body;
    ahead = pairs.0;
    held = pairs.1;
    true_claims = pairs.2;
  }

pub are_accepted : IsAccepted
are_accepted cells l p around whole turn told enough eligible placed = checked cells l p around whole turn told enough eligible placed
