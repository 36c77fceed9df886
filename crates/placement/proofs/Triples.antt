-- What is kept of a loop's dependences, among the pairs that are looked at.
use Rattle.std.proofs.Common.{◌≡◌, ◌∙◌, inl, inr, ℕ, Bool, true, false, not, ◌||◌, List, [], ◌∷◌, refl, ap, sym, subst, ⊎_elim, Option, Some, None, if◌then◌else◌}
use Rattle.std.proofs.lemmas.Bool.{and_from, and_parts, not-true, not_from_false, true≢false}
use Rattle.ast.specs.Store.{same_name}
use Rattle.ast.proofs.SameNames.{same_is}
use Rattle.dependence.specs.Kept.{Kept, KeptAt, PrivateName}
use Rattle.dependence.specs.Tests.{relation}
use Rattle.dependence.specs.declared.relation.Relation.{Relation}
use Rattle.dependence.specs.declared.relation.Relation.TheVariants.{Apart, Distance, Any}
use Rattle.loop_tree.specs.Loops.{Loop}
use Rattle.loop_tree.specs.Occurrences.{Occurrence}
use Rattle.placement.specs.Analysed.{Triple}
use Rattle.dependence.specs.Hiding.{has_name}
use Rattle.placement.specs.Looked.{kept_by, kept_distance, triple_of}
use Rattle.placement.specs.Placement.{AreSources, is_looked_at}
use Rattle.placement.proofs.Privates.{name_of, scalar_of}
use Rattle.placement.proofs.Seconds.{Sourced, kept_of, kept_with, seconds}
use Rattle.plan_check.proofs.Members.{In, among, contained, in_left, in_right, in_which}
use Rattle.plan_check.proofs.Sound.{any_in, in_any, is_same}
use Rattle.privatise.specs.Privates.{ArePrivate}

-- ---- distances

kept_at : (r : Relation) (d : ℕ) → kept_distance r ≡ Some d → KeptAt r d
kept_at (Apart n reason) d e = cc
kept_at (Distance n x) d e = cc
kept_at Any d e = cc

at_distance : (r : Relation) (d : ℕ) → KeptAt r d → kept_distance r ≡ Some d
at_distance (Apart n reason) d k = absurd k
at_distance (Distance n x) d k = ap (λ (y : ℕ). Some y) (sym k)
at_distance Any d k = ap (λ (y : ℕ). Some y) (sym k)

-- ---- pairs

module _ (l : Loop) (ps : List (List ℕ)) where
  -- the pair of a dependence that is kept
  record Pair (firsts os : List Occurrence) (k : Triple) : Type 0 where
    a : Occurrence
    b : Occurrence
    a_in : In a firsts
    b_in : In b os
    looked_at : is_looked_at l ps a b ≡ true
    source : a.statement ≡ k.1
    sink : b.statement ≡ k.0
    distance : kept_distance (relation l a b) ≡ Some k.2

  in_seconds : (a b : Occurrence) (os : List Occurrence) → In b (seconds l ps a os) → In b os × (is_looked_at l ps a b ≡ true)
  in_seconds a b [] i = absurd i
  in_seconds a b (x ∷ os) i = by (is_looked_at l ps a x) refl (λ j. in_seconds a b os j) i
    where
      by : (c : Bool) → is_looked_at l ps a x ≡ c → (In b (seconds l ps a os) → In b os × (is_looked_at l ps a b ≡ true)) → In b (if c then x ∷ seconds l ps a os else seconds l ps a os) → In b (x ∷ os) × (is_looked_at l ps a b ≡ true)
      by true e more (inl q) = (inl q, ap (λ (y : Occurrence). is_looked_at l ps a y) q ∙ e)
      by true e more (inr j) = let m = more j in (inr m.0, m.1)
      by false e more j = let m = more j in (inr m.0, m.1)

  seconds_in : (a b : Occurrence) (os : List Occurrence) → In b os → is_looked_at l ps a b ≡ true → In b (seconds l ps a os)
  seconds_in a b [] i h = absurd i
  seconds_in a b (x ∷ os) i h = by (is_looked_at l ps a x) refl (λ j. seconds_in a b os j h) i
    where
      by : (c : Bool) → is_looked_at l ps a x ≡ c → (In b os → In b (seconds l ps a os)) → In b (x ∷ os) → In b (if c then x ∷ seconds l ps a os else seconds l ps a os)
      by true e more (inl q) = inl q
      by true e more (inr j) = inr (more j)
      by false e more (inl q) = absurd (true≢false (sym h ∙ ap (λ (y : Occurrence). is_looked_at l ps a y) q ∙ e))
      by false e more (inr j) = more j

  in_triple : (a b : Occurrence) (d : Option ℕ) (k : Triple) → In k (triple_of a b d) → (a.statement ≡ k.1) × (b.statement ≡ k.0) × (d ≡ Some k.2)
  in_triple a b None k i = absurd i
  in_triple a b (Some d) k (inl e) = (sym (ap (λ (t : Triple). t.1) e), sym (ap (λ (t : Triple). t.0) e), ap (λ (y : ℕ). Some y) (sym (ap (λ (t : Triple). t.2) e)))
  in_triple a b (Some d) k (inr i) = absurd i

  in_with : (a : Occurrence) (bs : List Occurrence) (k : Triple) → In k (kept_with l ps a bs) → (b : Occurrence) × In b bs × In k (kept_by l a b)
  in_with a [] k i = absurd i
  in_with a (b ∷ bs) k i =
      ⊎_elim (λ j. (b, inl refl, j)) (λ j. let g = in_with a bs k j in (g.0, inr g.1, g.2)) (in_which k (kept_by l a b) (kept_with l ps a bs) i)

  with_in : (a b : Occurrence) (bs : List Occurrence) (k : Triple) → In b bs → In k (kept_by l a b) → In k (kept_with l ps a bs)
  with_in a b [] k i j = absurd i
  with_in a b (x ∷ bs) k (inl e) j = in_left k (kept_by l a x) (kept_with l ps a bs) (subst (λ (y : Occurrence). In k (kept_by l a y)) e j)
  with_in a b (x ∷ bs) k (inr i) j = in_right k (kept_by l a x) (kept_with l ps a bs) (with_in a b bs k i j)

  pair_of : (firsts os : List Occurrence) (k : Triple) → In k (kept_of l ps firsts os) → Pair firsts os k
  pair_of [] os k i = absurd i
  pair_of (x ∷ firsts) os k i =
      ⊎_elim
      (λ j. let g = in_with x (seconds l ps x os) k j in
      let s = in_seconds x g.0 os g.1 in
      let t = in_triple x g.0 (kept_distance (relation l x g.0)) k g.2 in
      record { a = x; b = g.0; a_in = inl refl; b_in = s.0; looked_at = s.1; source = t.0; sink = t.1; distance = t.2 })
      (λ j. let p = pair_of firsts os k j in record { a = p.a; b = p.b; a_in = inr p.a_in; b_in = p.b_in; looked_at = p.looked_at; source = p.source; sink = p.sink; distance = p.distance })
      (in_which k (kept_with l ps x (seconds l ps x os)) (kept_of l ps firsts os) i)

  of_pair : (a b : Occurrence) (d : ℕ) (firsts os : List Occurrence) → In a firsts → In b os → is_looked_at l ps a b ≡ true → kept_distance (relation l a b) ≡ Some d → In (b.statement, a.statement, d) (kept_of l ps firsts os)
  of_pair a b d [] os i j h e = absurd i
  of_pair a b d (x ∷ firsts) os (inr i) j h e = in_right (b.statement, a.statement, d) (kept_with l ps x (seconds l ps x os)) (kept_of l ps firsts os) (of_pair a b d firsts os i j h e)
  of_pair a b d (x ∷ firsts) os (inl q) j h e =
      in_left (b.statement, a.statement, d) (kept_with l ps x (seconds l ps x os)) (kept_of l ps firsts os)
      (subst (λ (y : Occurrence). In (b.statement, a.statement, d) (kept_with l ps y (seconds l ps y os))) q
      (with_in a b (seconds l ps a os) (b.statement, a.statement, d) (seconds_in a b os j h)
      (subst (λ (o : Option ℕ). In (b.statement, a.statement, d) (triple_of a b o)) (sym e) (inl refl))))

  -- ---- what is kept

  module _ (privates : ArePrivate l ps) where
    private_name : (name : List ℕ) → PrivateName l name → has_name ps name ≡ true
    private_name name v =
        let i = name_of l ps privates v.ref (among v.ref l.assigned v.among) v.private in
        in_any (λ (x : List ℕ). same_name x name) ps v.ref.name i (is_same v.ref.name name v.is)

    name_private : (name : List ℕ) → has_name ps name ≡ true → PrivateName l name
    name_private name h =
        let x = any_in (λ (y : List ℕ). same_name y name) ps h in
        let q = scalar_of l ps privates x.0 x.1 in
        record { ref = q.0; among = contained q.0 l.assigned q.1; is = q.2 ∙ same_is x.0 name x.2; private = q.3 }

    pub kept_sound : (k : Triple) → In k (kept_of l ps l.references l.references) → Kept l k.1 k.0 k.2
    kept_sound k i =
        let p = pair_of l.references l.references k i in
        let x = and_parts (same_name p.a.ref.name p.b.ref.name) _ p.looked_at in
        let y = and_parts (not (same_name p.a.ref.name l.head.variable.name)) _ x.1 in
        let z = and_parts (not (has_name ps p.a.ref.name)) (p.a.defines || p.b.defines) y.1 in
        record {
          a = p.a;
          b = p.b;
          looked_at = record { a_in = contained p.a l.references p.a_in; b_in = contained p.b l.references p.b_in; name = x.0; other = not-true (same_name p.a.ref.name l.head.variable.name) y.0; defining = z.1 };
          shared = λ v. true≢false (sym (private_name p.a.ref.name v) ∙ not-true (has_name ps p.a.ref.name) z.0);
          source = p.source;
          sink = p.sink;
          at = kept_at (relation l p.a p.b) k.2 p.distance;
        }

    no_name : (name : List ℕ) → (PrivateName l name → ⊥) → has_name ps name ≡ false
    no_name name h = by (has_name ps name) refl
      where
        by : (b : Bool) → has_name ps name ≡ b → b ≡ false
        by true e = absurd (h (name_private name e))
        by false e = refl

    pub kept_whole : (s t d : ℕ) → Kept l s t d → In (t, s, d) (kept_of l ps l.references l.references)
    kept_whole s t d k =
        let look : is_looked_at l ps k.a k.b ≡ true =
        and_from (same_name k.a.ref.name k.b.ref.name) _ k.looked_at.name
        (and_from (not (same_name k.a.ref.name l.head.variable.name)) _ (not_from_false (same_name k.a.ref.name l.head.variable.name) k.looked_at.other)
        (and_from (not (has_name ps k.a.ref.name)) (k.a.defines || k.b.defines) (not_from_false (has_name ps k.a.ref.name) (no_name k.a.ref.name k.shared)) k.looked_at.defining)) in
        let i = of_pair k.a k.b d l.references l.references (among k.a l.references k.looked_at.a_in) (among k.b l.references k.looked_at.b_in) look (at_distance (relation l k.a k.b) d k.at) in
        subst (λ (x : ℕ). In (t, x, d) (kept_of l ps l.references l.references)) k.source
        (subst (λ (x : ℕ). In (x, k.a.statement, d) (kept_of l ps l.references l.references)) k.sink i)

    pub sources_kept : (ss : List ℕ) → Sourced ss (kept_of l ps l.references l.references) → AreSources l ss
    sources_kept ss are = record {
      ascending = are.ascending;
      kept = λ s c. let g = are.sound s (among s ss c) in let k = kept_sound g.0 g.1 in (g.0.0, g.0.2, subst (λ (x : ℕ). Kept l x g.0.0 g.0.2) g.2 k);
      all = λ s t d k. contained s ss (are.whole (t, s, d) (kept_whole s t d k));
    }
