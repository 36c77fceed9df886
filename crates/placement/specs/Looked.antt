-- An account of the code: what is found by looking at a reference with its partners, in order.
use Rattle.std.specs.Prelude.{◌≡◌, ◌<◌, ◌≤◌, ◌==◌, Vec, ◌+◌, nat_lt, ℕ, Bool, true, false}
use Rattle.std.specs.Prelude.{◌&&◌, ◌||◌, List, [], ◌∷◌, ◌++◌, length, map, Option}
use Rattle.std.specs.Prelude.{Some, None, is_some, if◌then◌else◌, slice_get, IfSome}
use Rattle.std.specs.Global.{Global}
use Rattle.std.specs.List.{All}
use Rattle.ast.specs.Store.{same_name}
use Rattle.ast.specs.Tree.{Ref}
use Rattle.dependence.specs.Formed.{forms_of}
use Rattle.dependence.specs.Kept.{most_events}
use Rattle.dependence.specs.Related.{relations as relations_in}
use Rattle.dependence.specs.Tests.{relation}
use Rattle.dependence.specs.declared.recent.Recent.{Recent}
use Rattle.dependence.specs.declared.relation.Relation.{Relation}
use Rattle.dependence.specs.declared.relation.Relation.TheVariants.{Apart, Distance, Any}
use Rattle.loop_tree.specs.Loops.{Loop}
use Rattle.loop_tree.specs.Occurrences.{Occurrence}
use Rattle.loop_tree.specs.Told.{are_told, known}
use Rattle.loop_tree.specs.View.{occurrence}
use Rattle.placement.specs.Analysed.{Triple, triple}
use Rattle.dependence.specs.Hiding.{has_name}
use Rattle.placement.specs.Listed.{list_at}
use Rattle.placement.specs.declared.analysis.Analysis.{Analysis}
use Rattle.placement.specs.declared.analysis.Earlier.{Earlier}
use Rattle.placement.specs.declared.pairs.Pairs.{Pairs}
use Rattle.placement.specs.declared.pairs.Shared.{Shared}
use Rattle.subscripts.specs.Forms.{Form}
use Rattle.subscripts.specs.View.{form_in}
use Rattle.subscripts.specs.declared.form.Affine.{Affine}

-- ---- the references that iterations share

-- the loop's variable, or a private one
abbrev pub is_own : Loop → List (List ℕ) → Ref → Bool
is_own l privates r = same_name r.name l.head.variable.name || has_name privates r.name

-- the others among references, in order
abbrev pub shared_of : Loop → List (List ℕ) → List Occurrence → List Occurrence
shared_of l privates [] = []
shared_of l privates (o ∷ os) =
    if is_own l privates o.ref then shared_of l privates os else o ∷ shared_of l privates os

-- the reference that is kept so
abbrev pub occurrence_in : Shared → Occurrence
occurrence_in s = occurrence s.occurrence

-- kinds of references: the forms of their subscripts
abbrev pub Kinds : Type 0
Kinds = List (Vec Affine Global)

-- the forms of a kind, by its number
abbrev pub forms_at : Kinds → ℕ → List (Option Form)
forms_at kinds n = map form_in (list_at kinds n)

-- its kind is that of the forms of its subscripts
abbrev pub HasForms : Loop → Kinds → Shared → Type 0
HasForms l kinds s =
    (s.kind < length kinds) × (forms_at kinds s.kind ≡ forms_of l (occurrence_in s).subscripts)

-- so are those of all that are kept
abbrev pub HaveForms : Loop → Pairs → Type 0
HaveForms l p = All (HasForms l p.kinds.items) p.shared.items

-- where kinds are added those before them stay
abbrev pub AreKept : (old new : Kinds) → Type 0
AreKept old new = (n : ℕ) → n < length old → (n < length new) × (list_at new n ≡ list_at old n)

-- the places of those that meet a test, from place n on
abbrev pub places : (Occurrence → Bool) → ℕ → List Occurrence → List ℕ
places test n [] = []
places test n (o ∷ os) = if test o then n ∷ places test (n + 1) os else places test (n + 1) os

-- a reference to the variable with this cell
abbrev pub is_of : ℕ → Occurrence → Bool
is_of cell o = o.ref.cell == cell

-- one of these that is given a value
abbrev pub is_definition_of : ℕ → Occurrence → Bool
is_definition_of cell o = (o.ref.cell == cell) && o.defines

-- the references that are kept, in order
abbrev pub shared_in : Pairs → List Occurrence
shared_in p = map occurrence_in p.shared.items

-- the places that are listed for a cell
abbrev pub all_at : Pairs → ℕ → List ℕ
all_at p cell = list_at p.all.items cell

-- those of references that are given values
abbrev pub defining_at : Pairs → ℕ → List ℕ
defining_at p cell = list_at p.defining.items cell

-- For each cell the places of the references to it are listed, and of those that are given values.
pub record AreGrouped (p : Pairs) : Type 0 where
  pub all : (cell : ℕ) → all_at p cell ≡ places (is_of cell) 0 (shared_in p)
  pub defining : (cell : ℕ) → defining_at p cell ≡ places (is_definition_of cell) 0 (shared_in p)

-- a reference is considered before others
abbrev pub HasOneMore : Loop → List (List ℕ) → Occurrence → Pairs → Pairs → Type 0
HasOneMore l privates o old new =
    (more : List Occurrence)
    → shared_in new ++ shared_of l privates more ≡ shared_in old ++ shared_of l privates (o ∷ more)

-- What is kept of a loop's references before pairs are looked at.
pub record ArePairs (l : Loop) (privates : List (List ℕ)) (p : Pairs) : Type 0 where
  pub told : are_told (known l) ≡ true
  pub shared : shared_in p ≡ shared_of l privates l.references
  pub forms : HaveForms l p
  pub grouped : AreGrouped p

-- the places of those with which a reference is looked at
abbrev pub partners_of : Pairs → Occurrence → List ℕ
partners_of p o = if o.defines then all_at p o.ref.cell else defining_at p o.ref.cell

-- ---- what is found

-- the sources so far, what is kept, and the relations
pub record Found : Type 0 where
  pub sources : List ℕ
  pub kept : List Triple
  pub relations : List (ℕ × ℕ × Relation)

-- what an analysis has found
abbrev pub found_in : Analysis → Found
found_in a = record {
  sources = a.sources.items;
  kept = map triple a.kept.items;
  relations = relations_in a.relations;
}

-- nothing so far
abbrev pub none_found : Found
none_found = record { sources = []; kept = []; relations = [] }

-- the distance at which something is kept of a relation, if it is: 1 where nothing is known
abbrev pub kept_distance : Relation → Option ℕ
kept_distance (Apart n reason) = None
kept_distance (Distance n d) = Some d
kept_distance Any = Some 1

-- what is kept at a distance, if it is: sink, source and distance
abbrev pub triple_of : Occurrence → Occurrence → Option ℕ → List Triple
triple_of a b None = []
triple_of a b (Some d) = (b.statement, a.statement, d) ∷ []

-- the relation that was found is that to each reference of this kind
abbrev pub Relates : Loop → Kinds → Occurrence → Earlier → Type 0
Relates l kinds a earlier =
    (b : Occurrence) → forms_at kinds earlier.kind ≡ forms_of l b.subscripts
    → earlier.relation ≡ relation l a b

-- so are the newest of what was found
pub record AllRelate (l : Loop) (kinds : Kinds) (a : Occurrence)
    (recent : Recent Earlier) : Type 0 where
  pub newest : IfSome recent.newest (Relates l kinds a)
  pub older : IfSome recent.older (Relates l kinds a)

-- what is kept of two references
abbrev pub kept_by : Loop → Occurrence → Occurrence → List Triple
kept_by l a b = triple_of a b (kept_distance (relation l a b))

-- two references by their numbers, with their relation
abbrev pub relation_by : Loop → Occurrence → Occurrence → ℕ × ℕ × Relation
relation_by l a b = (a.ref.id, b.ref.id, relation l a b)

-- with the relation of one more pair
abbrev pub with_relation : Occurrence → Occurrence → Relation → Found → Found
with_relation a b r f = record {
  sources = f.sources;
  kept = f.kept ++ triple_of a b (kept_distance r);
  relations = f.relations ++ (a.ref.id, b.ref.id, r) ∷ [];
}

-- with one more pair
abbrev pub after_pair : Loop → Occurrence → Occurrence → Found → Found
after_pair l a b f = with_relation a b (relation l a b) f

-- with one more pair, where there is such a reference
abbrev pub after_some : Loop → Occurrence → Option Occurrence → Found → Found
after_some l a None f = f
after_some l a (Some b) f = after_pair l a b f

-- with those at places
abbrev pub after_places : Loop → List Occurrence → Occurrence → List ℕ → Found → Found
after_places l os a [] f = f
after_places l os a (n ∷ ns) f = after_places l os a ns (after_some l a (slice_get os n) f)

-- sources with one more, each once, in order
abbrev pub with_source : ℕ → List ℕ → List ℕ
with_source s [] = s ∷ []
with_source s (x ∷ xs) =
    if nat_lt s x then s ∷ x ∷ xs
    else if s == x then x ∷ xs else x ∷ with_source s xs

-- where more is kept than before, the statement is a source
abbrev pub with_new_source : ℕ → Found → Found → Found
with_new_source s old new =
    record {
      sources =
          if nat_lt (length old.kept) (length new.kept) then with_source s new.sources
          else new.sources;
      kept = new.kept;
      relations = new.relations;
    }

-- with all pairs of one more reference and its partners
abbrev pub after_first : Loop → Pairs → Occurrence → Found → Found
after_first l p a f =
    with_new_source a.statement f (after_places l (shared_in p) a (partners_of p a) f)

-- with those of several references, one after another
abbrev pub after_all : Loop → Pairs → List Occurrence → Found → Found
after_all l p [] f = f
after_all l p (a ∷ more) f = after_all l p more (after_first l p a f)

-- what is found of a loop
abbrev pub all_found : Loop → Pairs → Found
all_found l p = after_all l p (shared_in p) none_found

-- none only where there are too many sources
abbrev pub IsAllFound : Found → Option Analysis → Type 0
IsAllFound f None = most_events < length f.sources
IsAllFound f (Some a) = (found_in a ≡ f) × (length f.sources ≤ most_events)

-- ---- sources, however many

-- something is kept of a relation
abbrev pub is_kept_by : Relation → Bool
is_kept_by r = is_some (kept_distance r)

-- something is kept of a reference and another one, where there is that
abbrev pub keeps_at : Loop → Occurrence → Option Occurrence → Bool
keeps_at l a None = false
keeps_at l a (Some b) = is_kept_by (relation l a b)

-- something is kept of a reference and one of those at places
abbrev pub keeps : Loop → List Occurrence → Occurrence → List ℕ → Bool
keeps l os a [] = false
keeps l os a (n ∷ ns) = keeps_at l a (slice_get os n) || keeps l os a ns

-- sources with the statement of a reference, where something is kept of that
abbrev pub sources_with : Loop → Pairs → Occurrence → List ℕ → List ℕ
sources_with l p a ss =
    if keeps l (shared_in p) a (partners_of p a) then with_source a.statement ss else ss

-- with those of several references
abbrev pub sources_after : Loop → Pairs → List Occurrence → List ℕ → List ℕ
sources_after l p [] ss = ss
sources_after l p (a ∷ more) ss = sources_after l p more (sources_with l p a ss)
