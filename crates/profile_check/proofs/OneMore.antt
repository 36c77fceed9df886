-- What is declared with one statement more.
use Rattle.std.proofs.Common.{◌≡◌, ◌∙◌, ℕ, List, [], ◌∷◌, ◌++◌, refl, ap, sym, Option, Some, None, append_assoc, append-nil}
use Rattle.std.specs.Prelude.{flat_map}
use Rattle.std.proofs.lemmas.List.Sums.{fold-append}
use Rattle.indexmap.specs.IndexSet.{insert_key, insert_all}
use Rattle.ast.specs.Store.{same_name}
use Rattle.ast.specs.Tree.{Definition, Statement}
use Rattle.profile_check.specs.Checking.{and_then_declared}
use Rattle.profile_check.specs.Declarations.{Constants, Arrays, declared_in, newer, program_in, once_each, arrays_by, arrays_from, with_arrays, with_constant, with_constants, constant_value, objects_by}
use Rattle.indexmap.specs.IndexMap.{insert_entry}
use Rattle.profile_check.specs.Uses.{typed_by, bounded_by, defined_by, declarator_names, names_mentioned, program_named_by}

flat-snoc : {X : Type 0} (f : Statement → List X) (front : List Statement) (s : Statement) → flat_map f (front ++ s ∷ []) ≡ flat_map f front ++ f s
flat-snoc f [] s = append-nil (f s)
flat-snoc f (t ∷ front) s = ap (λ xs. f t ++ xs) (flat-snoc f front s) ∙ sym (append_assoc (f t) (flat_map f front) (f s))

names-snoc : (f : Statement → List (List ℕ)) (front : List Statement) (s : Statement) → once_each (flat_map f (front ++ s ∷ [])) ≡ insert_all same_name (once_each (flat_map f front)) (f s)
names-snoc f front s = ap once_each (flat-snoc f front s) ∙ fold-append (insert_key same_name) [] (flat_map f front) (f s)

newer-none : {X : Type 0} (o : Option X) → o ≡ newer o None
newer-none None = refl
newer-none (Some x) = refl

newer-twice : {X : Type 0} (a b c : Option X) → newer (newer a b) c ≡ newer a (newer b c)
newer-twice None b c = refl
newer-twice (Some x) b c = refl

program-snoc : (front : List Statement) (s : Statement) → program_in (front ++ s ∷ []) ≡ newer (program_named_by s.kind) (program_in front)
program-snoc [] s = newer-none (program_named_by s.kind)
program-snoc (t ∷ front) s =
    ap (λ o. newer o (program_named_by t.kind)) (program-snoc front s) ∙ newer-twice (program_named_by s.kind) (program_in front) (program_named_by t.kind)

constants-append : (cs : Constants) (ds es : List Definition) → with_constants cs (ds ++ es) ≡ with_constants (with_constants cs ds) es
constants-append cs [] es = refl
constants-append cs (d ∷ ds) es = constants-append (with_constant cs d.name (constant_value cs d.value)) ds es

arrays-append : (arrays more others : Arrays) → with_arrays arrays (more ++ others) ≡ with_arrays (with_arrays arrays more) others
arrays-append arrays [] others = refl
arrays-append arrays (a ∷ more) others = arrays-append (insert_entry same_name arrays a.0 a.1) more others

arrays-snoc : (cs : Constants) (front : List Statement) (s : Statement)
    → arrays_from cs (front ++ s ∷ []) ≡ arrays_from cs front ++ arrays_by (with_constants cs (flat_map (λ t. defined_by t.kind) front)) (bounded_by s.kind)
arrays-snoc cs [] s = append-nil (arrays_by cs (bounded_by s.kind))
arrays-snoc cs (t ∷ front) s =
    let first = arrays_by cs (bounded_by t.kind) in
    let later = with_constants cs (defined_by t.kind) in
    let defined = flat_map (λ (u : Statement). defined_by u.kind) front in
    ap (λ (rest : Arrays). first ++ rest) (arrays-snoc later front s)
    ∙ sym (append_assoc first (arrays_from later front) (arrays_by (with_constants later defined) (bounded_by s.kind)))
    ∙ ap (λ (ks : Constants). (first ++ arrays_from later front) ++ arrays_by ks (bounded_by s.kind)) (sym (constants-append cs (defined_by t.kind) defined))

pub declared-append : (front : List Statement) (s : Statement) → declared_in (front ++ s ∷ []) ≡ and_then_declared (declared_in front) s
declared-append front s =
    let defined = flat_map (λ (t : Statement). defined_by t.kind) front in
    let p = program-snoc front s in
    let t = names-snoc (λ (u : Statement). declarator_names (typed_by u.kind)) front s in
    let o = names-snoc (λ (u : Statement). objects_by u.kind) front s in
    let a = ap (λ (more : Arrays). with_arrays [] more) (arrays-snoc [] front s) ∙ arrays-append [] (arrays_from [] front) (arrays_by (with_constants [] defined) (bounded_by s.kind)) in
    let c = ap (λ (ds : List Definition). with_constants [] ds) (flat-snoc (λ (u : Statement). defined_by u.kind) front s) ∙ constants-append [] defined (defined_by s.kind) in
    let n = names-snoc (λ (u : Statement). names_mentioned u.kind) front s in
    λ i. record { program = p i; typed = t i; objects = o i; arrays = a i; constants = c i; names = n i }
