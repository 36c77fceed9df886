-- What is found of a loop's dependences, in the words of what is kept.
use Rattle.std.proofs.Common.{◌≡◌, ◌∙◌, ◌+◌, ◌<◌, ◌≤◌, ℕ, suc, Bool, true, false, List, [], ◌∷◌, drop, drop-cons, get_or, length, map, refl, ap, sym, subst, Option, Some, None, arith, if◌then◌else◌}
use Rattle.std.specs.Prelude.{◌↔◌, nat_lt, slice_get}
use Rattle.std.specs.List.{Contains}
use Rattle.dependence.specs.Kept.{most_events}
use Rattle.dependence.specs.Related.{relations as relations_in}
use Rattle.loop_tree.specs.Loops.{Loop}
use Rattle.placement.specs.Analysed.{AreAnalysed, HasManySources, Triple, are_sorted, triple}
use Rattle.loop_tree.specs.Occurrences.{Occurrence}
use Rattle.placement.specs.Looked.{ArePairs, Found, IsAllFound, after_all, after_first, after_places, after_some, all_found, occurrence_in, partners_of, shared_in, with_source}
use Rattle.placement.specs.declared.analysis.Analysis.{Analysis}
use Rattle.placement.specs.declared.pairs.Pairs.{Pairs}
use Rattle.placement.specs.declared.pairs.Shared.{Shared}
use Rattle.placement.specs.Placement.{AreSources}
use Rattle.placement.proofs.Insertion.{with_longer}
use Rattle.placement.proofs.Seconds.{Sourced, found_kept, found_relations, found_sourced, kept_of}
use Rattle.placement.proofs.Triples.{kept_sound, kept_whole, sources_kept}
use Rattle.plan_check.proofs.Members.{among, contained}
use Rattle.privatise.specs.Privates.{ArePrivate}

module _ (l : Loop) (ps : List (List ℕ)) (p : Pairs) (are : ArePairs l ps p) where
  abbrev all : List Triple
  all = kept_of l ps l.references l.references

  sourced : Sourced (all_found l p).sources all
  sourced = subst (λ (ks : List Triple). Sourced (all_found l p).sources ks) (found_kept l ps are.told p are) (found_sourced l ps are.told p are)

  pub is_none : IsAllFound (all_found l p) None → ArePrivate l ps → HasManySources l
  is_none many privates = ((all_found l p).sources, sources_kept l ps privates (all_found l p).sources sourced, many)

  pub is_sources : (ss : List ℕ) → ss ≡ (all_found l p).sources → ArePrivate l ps → AreSources l ss
  is_sources ss is privates = sources_kept l ps privates ss (subst (λ (rs : List ℕ). Sourced rs all) (sym is) sourced)

  pub is_analysed : (a b : Analysis) → IsAllFound (all_found l p) (Some a) → b.sources ≡ a.sources → b.relations ≡ a.relations → are_sorted (map triple b.kept.items) ≡ true
      → ((k : Triple) → Contains (map triple b.kept.items) k ↔ Contains (map triple a.kept.items) k) → ArePrivate l ps → AreAnalysed l ps b
  is_analysed a b found same_sources same_relations sorted same privates =
      let sources : b.sources.items ≡ (all_found l p).sources = ap (λ v. v.items) same_sources ∙ ap (λ (f : Found). f.sources) found.0 in
      let kept : map triple a.kept.items ≡ all = ap (λ (f : Found). f.kept) found.0 ∙ found_kept l ps are.told p are in
      record {
        sources = sources_kept l ps privates b.sources.items (subst (λ (ss : List ℕ). Sourced ss all) (sym sources) sourced);
        few = subst (λ (ss : List ℕ). length ss ≤ most_events) (sym sources) found.1;
        triples = record {
          sorted = sorted;
          each = λ s t d. (
            (λ i. kept_sound l ps privates (t, s, d) (among (t, s, d) all (subst (λ (ks : List Triple). Contains ks (t, s, d)) kept ((same (t, s, d)).0 i)))),
            (λ k. (same (t, s, d)).1 (subst (λ (ks : List Triple). Contains ks (t, s, d)) (sym kept) (contained (t, s, d) all (kept_whole l ps privates s t d k)))),
          );
        };
        relations = ap relations_in same_relations ∙ ap (λ (f : Found). f.relations) found.0 ∙ found_relations l ps are.told p are;
      }

-- ---- sources are never fewer

same_at : (l : Loop) (a : Occurrence) (o : Option Occurrence) (f : Found) → (after_some l a o f).sources ≡ f.sources
same_at l a None f = refl
same_at l a (Some b) f = refl

pub same_sources : (l : Loop) (os : List Occurrence) (a : Occurrence) (ns : List ℕ) (f : Found) → (after_places l os a ns f).sources ≡ f.sources
same_sources l os a [] f = refl
same_sources l os a (n ∷ ns) f = same_sources l os a ns (after_some l a (slice_get os n) f) ∙ same_at l a (slice_get os n) f

more_with : (s : ℕ) (b : Bool) (ss ts : List ℕ) → ts ≡ ss → length ss ≤ length (if b then with_source s ts else ts)
more_with s true ss ts e = let n = ap (λ (rs : List ℕ). length rs) e in let m = with_longer s ts in omega (arith, n, m)
more_with s false ss ts e = let n = ap (λ (rs : List ℕ). length rs) e in omega (arith, n)

first_more : (l : Loop) (p : Pairs) (a : Occurrence) (f : Found) → length f.sources ≤ length (after_first l p a f).sources
first_more l p a f =
    let g : Found = after_places l (shared_in p) a (partners_of p a) f in
    more_with a.statement (nat_lt (length f.kept) (length g.kept)) f.sources g.sources (same_sources l (shared_in p) a (partners_of p a) f)

all_more : (l : Loop) (p : Pairs) (firsts : List Occurrence) (f : Found) → length f.sources ≤ length (after_all l p firsts f).sources
all_more l p [] f = omega arith
all_more l p (a ∷ more) f = let m = first_more l p a f in let n = all_more l p more (after_first l p a f) in omega (arith, m, n)

pub many : (l : Loop) (p : Pairs) (n : ℕ) (firsts rest : List Occurrence) (a : Occurrence) (f g : Found) → firsts ≡ a ∷ rest → after_all l p firsts f ≡ all_found l p → g ≡ after_first l p a f → n < length g.sources
    → n < length (all_found l p).sources
many l p n firsts rest a f g cut whole is less =
    let all : after_all l p rest g ≡ all_found l p =
    ap (λ (h : Found). after_all l p rest h) is ∙ sym (ap (λ (os : List Occurrence). after_all l p os f) cut) ∙ whole in
    let e = ap (λ (h : Found). length h.sources) all in
    let m = all_more l p rest g in
    omega (arith, e, m, less)

pub cut_first : (items : List Shared) (at : ℕ) (x : Shared) → at < length items → x ≡ get_or items at x → map occurrence_in (drop at items) ≡ occurrence_in x ∷ map occurrence_in (drop (at + 1) items)
cut_first items at x l is =
    let next : suc at ≡ at + 1 = omega arith in
    ap (λ (xs : List Shared). map occurrence_in xs) (drop-cons items at x l ∙ ap (λ (n : ℕ). get_or items at x ∷ drop n items) next)
    ∙ ap (λ (y : Shared). occurrence_in y ∷ map occurrence_in (drop (at + 1) items)) (sym is)
