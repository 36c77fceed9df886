-- Sources, however many, are those that are found with what is kept.
use Rattle.std.proofs.Common.{◌≡◌, ◌∙◌, ◌+◌, ◌<◌, ◌≤◌, ℕ, Bool, true, false, ◌||◌, List, [], ◌∷◌, ◌++◌, length, length-append, append-nil, refl, ap, sym, Option, Some, None, arith, if◌then◌else◌}
use Rattle.std.specs.Prelude.{nat_lt, slice_get, is_some}
use Rattle.std.proofs.lemmas.Bool.{le-ltb, lt-ltb}
use Rattle.std.proofs.Math.Bool.{or-false, or-true}
use Rattle.dependence.specs.Tests.{relation}
use Rattle.loop_tree.specs.Loops.{Loop}
use Rattle.loop_tree.specs.Occurrences.{Occurrence}
use Rattle.placement.specs.Analysed.{Triple}
use Rattle.placement.specs.Looked.{ArePairs, Found, after_all, after_first, after_places, after_some, keeps, keeps_at, kept_distance, none_found, partners_of, shared_in, sources_after, sources_with, triple_of, with_source}
use Rattle.placement.specs.Placement.{AreSources}
use Rattle.placement.specs.declared.pairs.Pairs.{Pairs}
use Rattle.placement.proofs.Analysing.{is_sources, same_sources}
use Rattle.privatise.specs.Privates.{ArePrivate}

or_group : (a b c : Bool) → ((a || b) || c) ≡ (a || (b || c))
or_group true b c = refl
or_group false b c = refl

-- ---- more is kept exactly where something is kept of a pair

longer : (n : ℕ) (ks more : List Triple) → n ≤ length ks → n ≤ length (ks ++ more)
longer n ks more l = let e = length-append ks more in omega (arith, e, l)

grown_by : (n : ℕ) (ks : List Triple) (a b : Occurrence) (d : Option ℕ) → n ≤ length ks → nat_lt n (length (ks ++ triple_of a b d)) ≡ (nat_lt n (length ks) || is_some d)
grown_by n ks a b None l = ap (λ (rs : List Triple). nat_lt n (length rs)) (append-nil ks) ∙ sym (or-false (nat_lt n (length ks)))
grown_by n ks a b (Some d) l =
    let more : List Triple = (b.statement, a.statement, d) ∷ [] in
    let e : length (ks ++ more) ≡ length ks + 1 = length-append ks more in
    let less : n < length (ks ++ more) = omega (arith, e, l) in
    lt-ltb n (length (ks ++ more)) less ∙ sym (or-true (nat_lt n (length ks)))

grown_at : (l : Loop) (a : Occurrence) (o : Option Occurrence) (f : Found) (n : ℕ) → n ≤ length f.kept → nat_lt n (length (after_some l a o f).kept) ≡ (nat_lt n (length f.kept) || keeps_at l a o)
grown_at l a None f n less = sym (or-false (nat_lt n (length f.kept)))
grown_at l a (Some b) f n less = grown_by n f.kept a b (kept_distance (relation l a b)) less

longer_at : (l : Loop) (a : Occurrence) (o : Option Occurrence) (f : Found) (n : ℕ) → n ≤ length f.kept → n ≤ length (after_some l a o f).kept
longer_at l a None f n less = less
longer_at l a (Some b) f n less = longer n f.kept (triple_of a b (kept_distance (relation l a b))) less

grown : (l : Loop) (os : List Occurrence) (a : Occurrence) (ns : List ℕ) (f : Found) (n : ℕ) → n ≤ length f.kept → nat_lt n (length (after_places l os a ns f).kept) ≡ (nat_lt n (length f.kept) || keeps l os a ns)
grown l os a [] f n less = sym (or-false (nat_lt n (length f.kept)))
grown l os a (m ∷ ns) f n less =
    let o : Option Occurrence = slice_get os m in
    grown l os a ns (after_some l a o f) n (longer_at l a o f n less)
    ∙ ap (λ (b : Bool). b || keeps l os a ns) (grown_at l a o f n less)
    ∙ or_group (nat_lt n (length f.kept)) (keeps_at l a o) (keeps l os a ns)

-- ---- so the sources are the same

same_first : (l : Loop) (p : Pairs) (a : Occurrence) (f : Found) → sources_with l p a f.sources ≡ (after_first l p a f).sources
same_first l p a f =
    let ns : List ℕ = partners_of p a in
    let g : Found = after_places l (shared_in p) a ns f in
    let n : ℕ = length f.kept in
    let none : nat_lt n n ≡ false = le-ltb n n (omega arith) in
    let more : nat_lt n (length g.kept) ≡ keeps l (shared_in p) a ns =
    grown l (shared_in p) a ns f n (omega arith) ∙ ap (λ (b : Bool). b || keeps l (shared_in p) a ns) none in
    ap (λ (ss : List ℕ). if keeps l (shared_in p) a ns then with_source a.statement ss else ss) (sym (same_sources l (shared_in p) a ns f))
    ∙ ap (λ (b : Bool). if b then with_source a.statement g.sources else g.sources) (sym more)

same_all : (l : Loop) (p : Pairs) (firsts : List Occurrence) (f : Found) → sources_after l p firsts f.sources ≡ (after_all l p firsts f).sources
same_all l p [] f = refl
same_all l p (a ∷ more) f = ap (λ (ss : List ℕ). sources_after l p more ss) (same_first l p a f) ∙ same_all l p more (after_first l p a f)

pub are_sources : (l : Loop) (ps : List (List ℕ)) (p : Pairs) (ss : List ℕ) → ArePairs l ps p → ss ≡ sources_after l p (shared_in p) [] → ArePrivate l ps → AreSources l ss
are_sources l ps p ss are is privates = is_sources l ps p are ss (is ∙ same_all l p (shared_in p) none_found) privates
