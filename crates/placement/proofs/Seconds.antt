-- The references that one is looked at with: by their places among those that iterations share.
use Rattle.std.proofs.Common.{◌≡◌, ◌∙◌, ◌+◌, inl, inr, ℕ, Bool, true, false, not, ◌&&◌, ◌||◌, List, [], ◌∷◌, ◌++◌, length, map, refl, ap, sym, subst, ⊎_elim, Option, Some, None, arith, append_assoc, append-nil, length-append, if◌then◌else◌}
use Rattle.std.specs.Prelude.{◌==◌, nat_lt, slice_get}
use Rattle.std.specs.List.{list_all}
use Rattle.std.proofs.lemmas.Bool.{and_parts, le-ltb, lt-ltb, true≢false}
use Rattle.std.proofs.lemmas.Cmp.{nat_eq_equiv}
use Rattle.ast.specs.Store.{same_name}
use Rattle.ast.specs.Tree.{Ref}
use Rattle.ast.proofs.SameNames.{same_is}
use Rattle.dependence.specs.Tests.{relation}
use Rattle.dependence.specs.declared.relation.Relation.{Relation}
use Rattle.loop_tree.specs.Loops.{Loop}
use Rattle.loop_tree.specs.Occurrences.{Occurrence}
use Rattle.loop_tree.specs.Told.{are_told, iff, is_told, known, references}
use Rattle.placement.specs.Analysed.{Triple}
use Rattle.dependence.specs.Hiding.{has_name}
use Rattle.placement.specs.Looked.{ArePairs, Found, after_all, after_first, after_pair, after_places, after_some, all_at, all_found, defining_at, is_definition_of, is_of, is_own, kept_by, kept_distance, none_found, partners_of, places, relation_by, shared_in, shared_of, triple_of, with_new_source, with_source}
use Rattle.placement.specs.Placement.{is_ascending, is_looked_at, relations_of, relations_with}
use Rattle.placement.specs.declared.pairs.Pairs.{Pairs}
use Rattle.placement.proofs.Insertion.{has_with, in_with, with_ascending, with_keeps}
use Rattle.plan_check.proofs.Members.{In, in_left, in_right, in_which, all_in}
use Rattle.plan_check.proofs.Sound.{in_map}

-- ---- places

at_seam : {X : Type 0} (xs : List X) (y : X) (ys : List X) → slice_get (xs ++ y ∷ ys) (length xs) ≡ Some y
at_seam [] y ys = refl
at_seam (x ∷ xs) y ys = at_seam xs y ys

pub places_same : (s t : Occurrence → Bool) (n : ℕ) (os : List Occurrence) → ((b : Occurrence) → In b os → s b ≡ t b) → places s n os ≡ places t n os
places_same s t n [] h = refl
places_same s t n (o ∷ os) h =
    ap (λ (c : Bool). if c then n ∷ places s (n + 1) os else places s (n + 1) os) (h o (inl refl))
    ∙ ap (λ (ns : List ℕ). if t o then n ∷ ns else ns) (places_same s t (n + 1) os (λ b i. h b (inr i)))

-- one more
pub places_more : (test : Occurrence → Bool) (n : ℕ) (os : List Occurrence) (o : Occurrence) → places test n (os ++ o ∷ []) ≡ places test n os ++ (if test o then (n + length os) ∷ [] else [])
places_more test n [] o = by (test o)
  where
    by : (c : Bool) → (if c then n ∷ [] else []) ≡ (if c then (n + 0) ∷ [] else [])
    by true = ap (λ (m : ℕ). m ∷ []) (omega arith)
    by false = refl
places_more test n (x ∷ os) o = by (test x) (places_more test (n + 1) os o)
  where
    rest : List ℕ
    rest = places test (n + 1) os

    end : (m : ℕ) → List ℕ
    end m = if test o then m ∷ [] else []

    moved : end (n + 1 + length os) ≡ end (n + length (x ∷ os))
    moved = ap (λ (m : ℕ). if test o then m ∷ [] else []) (omega arith)

    by : (c : Bool) → places test (n + 1) (os ++ o ∷ []) ≡ rest ++ end (n + 1 + length os)
        → (if c then n ∷ places test (n + 1) (os ++ o ∷ []) else places test (n + 1) (os ++ o ∷ [])) ≡ (if c then n ∷ rest else rest) ++ end (n + length (x ∷ os))
    by true e = ap (λ (ns : List ℕ). n ∷ ns) (e ∙ ap (λ (ns : List ℕ). rest ++ ns) moved)
    by false e = e ∙ ap (λ (ns : List ℕ). rest ++ ns) moved

-- ---- sources

-- the sources of dependences, in order
pub record Sourced (ss : List ℕ) (ks : List Triple) : Type 0 where
  pub ascending : is_ascending ss ≡ true
  pub sound : (s : ℕ) → In s ss → (k : Triple) × In k ks × (k.1 ≡ s)
  pub whole : (k : Triple) → In k ks → In k.1 ss

more_sourced : (s : ℕ) (ss : List ℕ) (ks qs : List Triple) → ((k : Triple) → In k qs → k.1 ≡ s) → Sourced ss ks
    → Sourced (if nat_lt (length ks) (length (ks ++ qs)) then with_source s ss else ss) (ks ++ qs)
more_sourced s ss ks [] h are =
    let none : ks ++ [] ≡ ks = append-nil ks in
    subst (λ (rs : List Triple). Sourced (if nat_lt (length ks) (length rs) then with_source s ss else ss) rs) (sym none)
    (ap_if (nat_lt (length ks) (length ks)) (le-ltb (length ks) (length ks) (omega arith)))
  where
    ap_if : (b : Bool) → b ≡ false → Sourced (if b then with_source s ss else ss) ks
    ap_if true e = cc
    ap_if false e = are
more_sourced s ss ks (q ∷ qs) h are =
    let size = length-append ks (q ∷ qs) in
    by (nat_lt (length ks) (length (ks ++ q ∷ qs))) (lt-ltb (length ks) (length (ks ++ q ∷ qs)) (omega (arith, size)))
  where
    by : (b : Bool) → b ≡ true → Sourced (if b then with_source s ss else ss) (ks ++ q ∷ qs)
    by false e = cc
    by true e = record {
      ascending = with_ascending s ss are.ascending;
      sound = λ x i. ⊎_elim (λ e. (q, in_right q ks (q ∷ qs) (inl refl), h q (inl refl) ∙ sym e)) (λ j. let g = are.sound x j in (g.0, in_left g.0 ks (q ∷ qs) g.1, g.2)) (in_with s ss x i);
      whole = λ k i. ⊎_elim (λ j. with_keeps s ss k.1 (are.whole k j)) (λ j. subst (λ (x : ℕ). In x (with_source s ss)) (sym (h k j)) (has_with s ss)) (in_which k ks (q ∷ qs) i);
    }

-- ---- those that one is looked at with

module _ (l : Loop) (ps : List (List ℕ)) where
  abbrev pub seconds : Occurrence → List Occurrence → List Occurrence
  seconds a [] = []
  seconds a (b ∷ bs) = if is_looked_at l ps a b then b ∷ seconds a bs else seconds a bs

  abbrev pub after_each : Occurrence → List Occurrence → Found → Found
  after_each a [] f = f
  after_each a (b ∷ bs) f = after_each a bs (after_pair l a b f)

  abbrev pub kept_with : Occurrence → List Occurrence → List Triple
  kept_with a [] = []
  kept_with a (b ∷ bs) = kept_by l a b ++ kept_with a bs

  -- the kept dependences of those that stand in a list
  abbrev pub kept_of : List Occurrence → List Occurrence → List Triple
  kept_of [] os = []
  kept_of (a ∷ more) os = kept_with a (seconds a os) ++ kept_of more os

  through : (a : Occurrence) (front os : List Occurrence) (f : Found) → after_places l (front ++ os) a (places (is_looked_at l ps a) (length front) os) f ≡ after_each a (seconds a os) f
  through a front [] f = refl
  through a front (b ∷ os) f =
      let whole : List Occurrence = front ++ b ∷ os in
      let test : Occurrence → Bool = is_looked_at l ps a in
      let joined : (front ++ b ∷ []) ++ os ≡ whole = append_assoc front (b ∷ []) os in
      let size : length (front ++ b ∷ []) ≡ length front + 1 = length-append front (b ∷ []) in
      let next : (g : Found) → after_places l whole a (places test (length front + 1) os) g ≡ after_each a (seconds a os) g = λ g.
      sym (ap (λ (xs : List Occurrence). after_places l xs a (places test (length front + 1) os) g) joined)
      ∙ sym (ap (λ (n : ℕ). after_places l (front ++ b ∷ [] ++ os) a (places test n os) g) size)
      ∙ through a (front ++ b ∷ []) os g in
      by whole (length front) (places test (length front + 1) os) (at_seam front b os) next (test b)
    where
      by : (whole : List Occurrence) (n : ℕ) (rest : List ℕ) → slice_get whole n ≡ Some b → ((g : Found) → after_places l whole a rest g ≡ after_each a (seconds a os) g) → (c : Bool)
          → after_places l whole a (if c then n ∷ rest else rest) f ≡ after_each a (if c then b ∷ seconds a os else seconds a os) f
      by whole n rest e next true = ap (λ (o : Option Occurrence). after_places l whole a rest (after_some l a o f)) e ∙ next (after_pair l a b f)
      by whole n rest e next false = next f

  -- ---- their relations, and what is kept

  with_relations : (a : Occurrence) (os : List Occurrence) → relations_with l ps a os ≡ map (relation_by l a) (seconds a os)
  with_relations a [] = refl
  with_relations a (b ∷ bs) = by (is_looked_at l ps a b) (with_relations a bs)
    where
      by : (c : Bool) → relations_with l ps a bs ≡ map (relation_by l a) (seconds a bs)
          → (if c then relation_by l a b ∷ [] else []) ++ relations_with l ps a bs ≡ map (relation_by l a) (if c then b ∷ seconds a bs else seconds a bs)
      by true e = ap (λ (rs : List (ℕ × ℕ × Relation)). relation_by l a b ∷ rs) e
      by false e = e

  each_relations : (a : Occurrence) (bs : List Occurrence) (f : Found) → (after_each a bs f).relations ≡ f.relations ++ map (relation_by l a) bs
  each_relations a [] f = sym (append-nil f.relations)
  each_relations a (b ∷ bs) f = each_relations a bs (after_pair l a b f) ∙ append_assoc f.relations (relation_by l a b ∷ []) (map (relation_by l a) bs)

  each_kept : (a : Occurrence) (bs : List Occurrence) (f : Found) → (after_each a bs f).kept ≡ f.kept ++ kept_with a bs
  each_kept a [] f = sym (append-nil f.kept)
  each_kept a (b ∷ bs) f = each_kept a bs (after_pair l a b f) ∙ append_assoc f.kept (kept_by l a b) (kept_with a bs)

  each_sources : (a : Occurrence) (bs : List Occurrence) (f : Found) → (after_each a bs f).sources ≡ f.sources
  each_sources a [] f = refl
  each_sources a (b ∷ bs) f = each_sources a bs (after_pair l a b f)

  -- ---- those that iterations share

  not_own : (a : Occurrence) (v p d : Bool) → (not v && (not p && d)) ≡ true → (v || p) ≡ false
  not_own a true p d h = cc
  not_own a false true d h = cc
  not_own a false false d h = refl

  first_shared : (a b : Occurrence) → is_looked_at l ps a b ≡ true → is_own l ps a.ref ≡ false
  first_shared a b h =
      let g = and_parts (same_name a.ref.name b.ref.name) _ h in
      not_own a (same_name a.ref.name l.head.variable.name) (has_name ps a.ref.name) (a.defines || b.defines) g.1

  second_shared : (a b : Occurrence) → is_looked_at l ps a b ≡ true → is_own l ps b.ref ≡ false
  second_shared a b h =
      let g = and_parts (same_name a.ref.name b.ref.name) _ h in
      let e = same_is a.ref.name b.ref.name g.0 in
      subst (λ (n : List ℕ). (same_name n l.head.variable.name || has_name ps n) ≡ false) e (first_shared a b h)

  -- an own one has no others
  none_of : (a : Occurrence) (os : List Occurrence) → is_own l ps a.ref ≡ true → seconds a os ≡ []
  none_of a [] own = refl
  none_of a (b ∷ bs) own = by (is_looked_at l ps a b) refl (none_of a bs own)
    where
      by : (c : Bool) → is_looked_at l ps a b ≡ c → seconds a bs ≡ [] → (if c then b ∷ seconds a bs else seconds a bs) ≡ []
      by true e more = absurd (true≢false (sym own ∙ first_shared a b e))
      by false e more = more

  shared_seconds : (a : Occurrence) (os : List Occurrence) → seconds a (shared_of l ps os) ≡ seconds a os
  shared_seconds a [] = refl
  shared_seconds a (b ∷ bs) = by (is_own l ps b.ref) refl (is_looked_at l ps a b) refl (shared_seconds a bs)
    where
      by : (o : Bool) → is_own l ps b.ref ≡ o → (c : Bool) → is_looked_at l ps a b ≡ c → seconds a (shared_of l ps bs) ≡ seconds a bs
          → seconds a (if o then shared_of l ps bs else b ∷ shared_of l ps bs) ≡ (if c then b ∷ seconds a bs else seconds a bs)
      by true p true q more = absurd (true≢false (sym p ∙ second_shared a b q))
      by true p false q more = more
      by false p c q more =
          ap (λ (x : Bool). if x then b ∷ seconds a (shared_of l ps bs) else seconds a (shared_of l ps bs)) q
          ∙ ap (λ (xs : List Occurrence). if c then b ∷ xs else xs) more

  pub in_shared : (o : Occurrence) (os : List Occurrence) → In o (shared_of l ps os) → In o os × (is_own l ps o.ref ≡ false)
  in_shared o [] i = absurd i
  in_shared o (x ∷ os) i = by (is_own l ps x.ref) refl (λ j. in_shared o os j) i
    where
      by : (c : Bool) → is_own l ps x.ref ≡ c → (In o (shared_of l ps os) → In o os × (is_own l ps o.ref ≡ false)) → In o (if c then shared_of l ps os else x ∷ shared_of l ps os) → In o (x ∷ os) × (is_own l ps o.ref ≡ false)
      by true p more j = let m = more j in (inr m.0, m.1)
      by false p more (inl e) = (inl e, ap (λ (y : Occurrence). is_own l ps y.ref) e ∙ p)
      by false p more (inr j) = let m = more j in (inr m.0, m.1)

  -- those of all are those of the shared
  pub shared_relations : (firsts os : List Occurrence) → relations_of l ps (shared_of l ps firsts) os ≡ relations_of l ps firsts os
  shared_relations [] os = refl
  shared_relations (a ∷ more) os = by (is_own l ps a.ref) refl (shared_relations more os)
    where
      by : (c : Bool) → is_own l ps a.ref ≡ c → relations_of l ps (shared_of l ps more) os ≡ relations_of l ps more os
          → relations_of l ps (if c then shared_of l ps more else a ∷ shared_of l ps more) os ≡ relations_with l ps a os ++ relations_of l ps more os
      by true p e = e ∙ sym (ap (λ (rs : List (ℕ × ℕ × Relation)). rs ++ relations_of l ps more os) (with_relations a os ∙ ap (λ (xs : List Occurrence). map (relation_by l a) xs) (none_of a os p)))
      by false p e = ap (λ (rs : List (ℕ × ℕ × Relation)). relations_with l ps a os ++ rs) e

  pub shared_kept : (firsts os : List Occurrence) → kept_of (shared_of l ps firsts) os ≡ kept_of firsts os
  shared_kept [] os = refl
  shared_kept (a ∷ more) os = by (is_own l ps a.ref) refl (shared_kept more os)
    where
      by : (c : Bool) → is_own l ps a.ref ≡ c → kept_of (shared_of l ps more) os ≡ kept_of more os
          → kept_of (if c then shared_of l ps more else a ∷ shared_of l ps more) os ≡ kept_with a (seconds a os) ++ kept_of more os
      by true p e = e ∙ sym (ap (λ (xs : List Occurrence). kept_with a xs ++ kept_of more os) (none_of a os p))
      by false p e = ap (λ (rs : List Triple). kept_with a (seconds a os) ++ rs) e

  -- ---- the partners

  module _ (told : are_told (known l) ≡ true) where
    known_one : (a : Occurrence) → In a l.references → In a.ref (known l)
    known_one a i = inr (in_right a.ref l.assigned (references l.references) (in_map (λ (x : Occurrence). x.ref) a l.references i))

    one_cell : (a b : Occurrence) → In a l.references → In b l.references → (b.ref.cell == a.ref.cell) ≡ same_name a.ref.name b.ref.name
    one_cell a b i j =
        let row = all_in (λ (x : Ref). list_all (λ (s : Ref). is_told x s) (known l)) (known l) a.ref told (known_one a i) in
        let one = all_in (λ (s : Ref). is_told a.ref s) (known l) b.ref row (known_one b j) in
        nat_eq_equiv.symm b.ref.cell a.ref.cell ∙ by (a.ref.cell == b.ref.cell) (same_name a.ref.name b.ref.name) one
      where
        by : (x y : Bool) → iff x y ≡ true → x ≡ y
        by true y h = sym h
        by false true h = cc
        by false false h = refl

    looked : (a b : Occurrence) → is_own l ps a.ref ≡ false → is_looked_at l ps a b ≡ (same_name a.ref.name b.ref.name && (a.defines || b.defines))
    looked a b own = by (same_name a.ref.name l.head.variable.name) (has_name ps a.ref.name) own
      where
        by : (v p : Bool) → (v || p) ≡ false → (same_name a.ref.name b.ref.name && (not v && (not p && (a.defines || b.defines)))) ≡ (same_name a.ref.name b.ref.name && (a.defines || b.defines))
        by true p h = cc
        by false true h = cc
        by false false h = refl

    all_looked : (a b : Occurrence) → a.defines ≡ true → is_own l ps a.ref ≡ false → In a l.references → In b l.references → is_of a.ref.cell b ≡ is_looked_at l ps a b
    all_looked a b d own i j =
        one_cell a b i j
        ∙ sym (looked a b own ∙ ap (λ (x : Bool). same_name a.ref.name b.ref.name && (x || b.defines)) d ∙ by (same_name a.ref.name b.ref.name))
      where
        by : (x : Bool) → (x && true) ≡ x
        by true = refl
        by false = refl

    defining_looked : (a b : Occurrence) → a.defines ≡ false → is_own l ps a.ref ≡ false → In a l.references → In b l.references → is_definition_of a.ref.cell b ≡ is_looked_at l ps a b
    defining_looked a b d own i j =
        ap (λ (x : Bool). x && b.defines) (one_cell a b i j)
        ∙ sym (looked a b own ∙ ap (λ (x : Bool). same_name a.ref.name b.ref.name && (x || b.defines)) d)

    module _ (p : Pairs) (are : ArePairs l ps p) where
      abbrev sh : List Occurrence
      sh = shared_of l ps l.references

      partners : (a : Occurrence) → In a sh → partners_of p a ≡ places (is_looked_at l ps a) 0 sh
      partners a i = by a.defines refl ∙ ap (λ (os : List Occurrence). places (is_looked_at l ps a) 0 os) are.shared
        where
          here : In a l.references × (is_own l ps a.ref ≡ false)
          here = in_shared a l.references i

          there : (b : Occurrence) → In b (shared_in p) → In b l.references
          there b j = (in_shared b l.references (subst (λ (os : List Occurrence). In b os) are.shared j)).0

          by : (d : Bool) → a.defines ≡ d → (if d then all_at p a.ref.cell else defining_at p a.ref.cell) ≡ places (is_looked_at l ps a) 0 (shared_in p)
          by true e = are.grouped.all a.ref.cell ∙ places_same (is_of a.ref.cell) (is_looked_at l ps a) 0 (shared_in p) (λ b j. all_looked a b e here.1 here.0 (there b j))
          by false e = are.grouped.defining a.ref.cell ∙ places_same (is_definition_of a.ref.cell) (is_looked_at l ps a) 0 (shared_in p) (λ b j. defining_looked a b e here.1 here.0 (there b j))

      -- what is found with one
      first_found : (a : Occurrence) (f : Found) → In a sh → after_first l p a f ≡ with_new_source a.statement f (after_each a (seconds a l.references) f)
      first_found a f i =
          ap (λ (g : Found). with_new_source a.statement f g)
          (ap (λ (os : List Occurrence). after_places l os a (partners_of p a) f) are.shared
          ∙ ap (λ (ns : List ℕ). after_places l sh a ns f) (partners a i)
          ∙ through a [] sh f
          ∙ ap (λ (bs : List Occurrence). after_each a bs f) (shared_seconds a l.references))

      first_relations : (a : Occurrence) (f : Found) → In a sh → (after_first l p a f).relations ≡ f.relations ++ relations_with l ps a l.references
      first_relations a f i =
          ap (λ (g : Found). g.relations) (first_found a f i)
          ∙ each_relations a (seconds a l.references) f
          ∙ ap (λ (rs : List (ℕ × ℕ × Relation)). f.relations ++ rs) (sym (with_relations a l.references))

      first_kept : (a : Occurrence) (f : Found) → In a sh → (after_first l p a f).kept ≡ f.kept ++ kept_with a (seconds a l.references)
      first_kept a f i = ap (λ (g : Found). g.kept) (first_found a f i) ∙ each_kept a (seconds a l.references) f

      all_relations : (firsts : List Occurrence) (f : Found) → ((a : Occurrence) → In a firsts → In a sh) → (after_all l p firsts f).relations ≡ f.relations ++ relations_of l ps firsts l.references
      all_relations [] f h = sym (append-nil f.relations)
      all_relations (a ∷ more) f h =
          all_relations more (after_first l p a f) (λ b i. h b (inr i))
          ∙ ap (λ (rs : List (ℕ × ℕ × Relation)). rs ++ relations_of l ps more l.references) (first_relations a f (h a (inl refl)))
          ∙ append_assoc f.relations (relations_with l ps a l.references) (relations_of l ps more l.references)

      all_kept : (firsts : List Occurrence) (f : Found) → ((a : Occurrence) → In a firsts → In a sh) → (after_all l p firsts f).kept ≡ f.kept ++ kept_of firsts l.references
      all_kept [] f h = sym (append-nil f.kept)
      all_kept (a ∷ more) f h =
          all_kept more (after_first l p a f) (λ b i. h b (inr i))
          ∙ ap (λ (rs : List Triple). rs ++ kept_of more l.references) (first_kept a f (h a (inl refl)))
          ∙ append_assoc f.kept (kept_with a (seconds a l.references)) (kept_of more l.references)

      -- ---- the sources of what is kept

      kept_source : (a : Occurrence) (bs : List Occurrence) (k : Triple) → In k (kept_with a bs) → k.1 ≡ a.statement
      kept_source a [] k i = absurd i
      kept_source a (b ∷ bs) k i = ⊎_elim (λ j. by (kept_distance (relation l a b)) j) (λ j. kept_source a bs k j) (in_which k (kept_by l a b) (kept_with a bs) i)
        where
          by : (d : Option ℕ) → In k (triple_of a b d) → k.1 ≡ a.statement
          by None j = absurd j
          by (Some d) (inl e) = ap (λ (t : Triple). t.1) e
          by (Some d) (inr j) = absurd j

      first_sourced : (a : Occurrence) (f : Found) → In a sh → Sourced f.sources f.kept → Sourced (after_first l p a f).sources (after_first l p a f).kept
      first_sourced a f i h =
          let qs = kept_with a (seconds a l.references) in
          let g = after_each a (seconds a l.references) f in
          let kept = each_kept a (seconds a l.references) f in
          let whole = first_found a f i in
          let right : Sourced (with_new_source a.statement f g).sources (f.kept ++ qs) =
          subst (λ (ss : List ℕ). Sourced (if nat_lt (length f.kept) (length g.kept) then with_source a.statement ss else ss) (f.kept ++ qs)) (sym (each_sources a (seconds a l.references) f))
          (subst (λ (ks : List Triple). Sourced (if nat_lt (length f.kept) (length ks) then with_source a.statement f.sources else f.sources) (f.kept ++ qs)) (sym kept)
          (more_sourced a.statement f.sources f.kept qs (λ k j. kept_source a (seconds a l.references) k j) h)) in
          subst (λ (r : Found). Sourced r.sources r.kept) (sym whole) (subst (λ (ks : List Triple). Sourced (with_new_source a.statement f g).sources ks) (sym kept) right)

      all_sourced : (firsts : List Occurrence) (f : Found) → ((a : Occurrence) → In a firsts → In a sh) → Sourced f.sources f.kept → Sourced (after_all l p firsts f).sources (after_all l p firsts f).kept
      all_sourced [] f h s = s
      all_sourced (a ∷ more) f h s = all_sourced more (after_first l p a f) (λ b i. h b (inr i)) (first_sourced a f (h a (inl refl)) s)

      -- ---- in all

      pub found_relations : (all_found l p).relations ≡ relations_of l ps l.references l.references
      found_relations =
          ap (λ (os : List Occurrence). (after_all l p os none_found).relations) are.shared
          ∙ all_relations sh none_found (λ a i. i)
          ∙ shared_relations l.references l.references

      pub found_kept : (all_found l p).kept ≡ kept_of l.references l.references
      found_kept =
          ap (λ (os : List Occurrence). (after_all l p os none_found).kept) are.shared
          ∙ all_kept sh none_found (λ a i. i)
          ∙ shared_kept l.references l.references

      pub found_sourced : Sourced (all_found l p).sources (all_found l p).kept
      found_sourced =
          subst (λ (os : List Occurrence). Sourced (after_all l p os none_found).sources (after_all l p os none_found).kept) (sym are.shared)
          (all_sourced sh none_found (λ a i. i) (record { ascending = refl; sound = λ s i. absurd i; whole = λ k i. absurd i }))
