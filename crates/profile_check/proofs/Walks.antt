-- A turn of a loop over a list that appends what its next element gives.
use Rattle.std.proofs.Common.{◌≡◌, ◌∙◌, ◌+◌, ◌<◌, ◌≤◌, ℕ, suc, Bool, true, false, cond, List, [], ◌∷◌, ◌++◌, Option, Some, None, option_map, length, drop, get_or, map, filter, refl, sym, ap, append_assoc, add-one, drop-cons}
use Rattle.std.proofs.lemmas.List.{append-nil, drop_all, map-append}
use Rattle.ast.specs.Symbols.{Extent}
use Rattle.ast.specs.Tree as tree
use Rattle.ast.specs.View.{bounds, extent}
use Rattle.ast.specs.declared.program.Dimension.{Dimension}
use Rattle.ast.specs.declared.statement.Bounds.{Bounds}
use Rattle.profile_check.specs.Declarations.{Constants, all_or_none, extent_of, extents_of, or_no_extents}

-- the next element, and the others
pub next_viewed : {X Y : Type 0} (view : X → Y) (xs : List X) (i : ℕ) (x : X) → i < length xs → x ≡ get_or xs i x → map view (drop i xs) ≡ view x ∷ map view (drop (i + 1) xs)
next_viewed {X} {Y} view xs i x h is =
    ap (λ (l : List X). map view l) (drop-cons xs i x h)
    ∙ ap (λ (y : X). view y ∷ map view (drop (suc i) xs)) (sym is)
    ∙ ap (λ (n : ℕ). view x ∷ map view (drop n xs)) (sym (add-one i))

pub goes_on : {X Y U : Type 0} (all : List Y → List U) (one : Y → List U) → ((y : Y) (ys : List Y) → all (y ∷ ys) ≡ one y ++ all ys)
    → (view : X → Y) (xs : List X) (i : ℕ) (x : X) (old new target : List U) → i < length xs → x ≡ get_or xs i x
    → new ≡ old ++ one (view x) → old ++ all (map view (drop i xs)) ≡ target → new ++ all (map view (drop (i + 1) xs)) ≡ target
goes_on {X} {Y} {U} all one first view xs i x old new target h is e w =
    let others = map view (drop (i + 1) xs) in
    ap (λ (us : List U). us ++ all others) e
    ∙ append_assoc old (one (view x)) (all others)
    ∙ ap (λ (us : List U). old ++ us) (sym (first (view x) others))
    ∙ ap (λ (ys : List Y). old ++ all ys) (sym (next_viewed view xs i x h is))
    ∙ w

-- the same of the elements that a test lets through
first_kept : {Y U : Type 0} (test : Y → Bool) (f : Y → U) (y : Y) (ys : List Y) → map f (filter test (y ∷ ys)) ≡ map f (filter test (y ∷ [])) ++ map f (filter test ys)
first_kept {Y} {U} test f y ys = by (test y)
  where
    by : (b : Bool) → map f (cond b (y ∷ filter test ys) (filter test ys)) ≡ map f (cond b (y ∷ []) []) ++ map f (filter test ys)
    by true = refl
    by false = refl

only_kept : {Y U : Type 0} (test : Y → Bool) (f : Y → U) (y : Y) → test y ≡ true → map f (filter test (y ∷ [])) ≡ f y ∷ []
only_kept {Y} {U} test f y h = ap (λ (b : Bool). map f (cond b (y ∷ []) [])) h

none_kept : {Y U : Type 0} (test : Y → Bool) (f : Y → U) (y : Y) → test y ≡ false → map f (filter test (y ∷ [])) ≡ []
none_kept {Y} {U} test f y h = ap (λ (b : Bool). map f (cond b (y ∷ []) [])) h

pub goes_on_with : {X Y U : Type 0} (test : Y → Bool) (f : Y → U) (view : X → Y) (xs : List X) (i : ℕ) (x : X) (old new target : List U) → i < length xs → x ≡ get_or xs i x
    → test (view x) ≡ true → new ≡ old ++ f (view x) ∷ []
    → old ++ map f (filter test (map view (drop i xs))) ≡ target → new ++ map f (filter test (map view (drop (i + 1) xs))) ≡ target
goes_on_with {X} {Y} {U} test f view xs i x old new target h is t e w =
    goes_on (λ ys. map f (filter test ys)) (λ y. map f (filter test (y ∷ []))) (first_kept test f) view xs i x old new target h is
    (e ∙ ap (λ (us : List U). old ++ us) (sym (only_kept test f (view x) t))) w

pub goes_on_without : {X Y U : Type 0} (test : Y → Bool) (f : Y → U) (view : X → Y) (xs : List X) (i : ℕ) (x : X) (old target : List U) → i < length xs → x ≡ get_or xs i x
    → test (view x) ≡ false
    → old ++ map f (filter test (map view (drop i xs))) ≡ target → old ++ map f (filter test (map view (drop (i + 1) xs))) ≡ target
goes_on_without {X} {Y} {U} test f view xs i x old target h is t w =
    goes_on (λ ys. map f (filter test ys)) (λ y. map f (filter test (y ∷ []))) (first_kept test f) view xs i x old old target h is
    (sym (append-nil old) ∙ ap (λ (us : List U). old ++ us) (sym (none_kept test f (view x) t))) w

-- a second list behind the first
pub behind : {U : Type 0} (old mid new first second : List U) → mid ≡ old ++ first → new ≡ mid ++ second → new ≡ old ++ (first ++ second)
behind {U} old mid new first second e f = f ∙ ap (λ (us : List U). us ++ second) e ∙ append_assoc old first second

-- ---- dimensions, of which one may be missing

pushed : (old : List Dimension) (d : Dimension) (o : Option (List Extent)) → option_map (λ (es : List Extent). map extent (old ++ d ∷ []) ++ es) o ≡ option_map (λ (es : List Extent). map extent old ++ es) (option_map (λ (es : List Extent). extent d ∷ es) o)
pushed old d None = refl
pushed old d (Some es) = ap Some (ap (λ (l : List Extent). l ++ es) (map-append extent old (d ∷ [])) ∙ append_assoc (map extent old) (extent d ∷ []) es)

module _ (cs : Constants) (given : List Bounds) (i : ℕ) (b : Bounds) (h : i < length given) (is : b ≡ get_or given i b) where
  pub dimension_on : (old new : List Dimension) (d : Dimension) (target : Option (List Extent)) → Some (extent d) ≡ extent_of cs (bounds b) → new ≡ old ++ d ∷ []
      → option_map (λ (es : List Extent). map extent old ++ es) (extents_of cs (map bounds (drop i given))) ≡ target
      → option_map (λ (es : List Extent). map extent new ++ es) (extents_of cs (map bounds (drop (i + 1) given))) ≡ target
  dimension_on old new d target has e w =
      let others = map bounds (drop (i + 1) given) in
      ap (λ (ds : List Dimension). option_map (λ (es : List Extent). map extent ds ++ es) (extents_of cs others)) e
      ∙ pushed old d (extents_of cs others)
      ∙ ap (λ (o : Option Extent). option_map (λ (es : List Extent). map extent old ++ es) (all_or_none (o ∷ map (extent_of cs) others))) has
      ∙ ap (λ (bs : List tree.Bounds). option_map (λ (es : List Extent). map extent old ++ es) (extents_of cs bs)) (sym (next_viewed bounds given i b h is))
      ∙ w

  pub none_on : (old : List Dimension) (target : Option (List Extent)) → None ≡ extent_of cs (bounds b)
      → option_map (λ (es : List Extent). map extent old ++ es) (extents_of cs (map bounds (drop i given))) ≡ target → target ≡ None
  none_on old target lacks w =
      sym w
      ∙ ap (λ (bs : List tree.Bounds). option_map (λ (es : List Extent). map extent old ++ es) (extents_of cs bs)) (next_viewed bounds given i b h is)
      ∙ ap (λ (o : Option Extent). option_map (λ (es : List Extent). map extent old ++ es) (all_or_none (o ∷ map (extent_of cs) (map bounds (drop (i + 1) given))))) (sym lacks)

pub all_on : (cs : Constants) (given : List Bounds) (i : ℕ) (old : List Dimension) (target : Option (List Extent)) → length given ≤ i
    → option_map (λ (es : List Extent). map extent old ++ es) (extents_of cs (map bounds (drop i given))) ≡ target → map extent old ≡ or_no_extents target
all_on cs given i old target h w =
    sym (append-nil (map extent old))
    ∙ ap or_no_extents (ap (λ (bs : List Bounds). option_map (λ (es : List Extent). map extent old ++ es) (extents_of cs (map bounds bs))) (sym (drop_all i given h)) ∙ w)
