-- What each statement of a program in the profile keeps, and that each name that it uses stands for
-- something.
use Rattle.std.proofs.Common.{◌≡◌, ◌∙◌, ℕ, ℤ, Bool, true, false, not, List, [], ◌∷◌, ◌++◌, length, map, refl, ap, sym, subst, append_assoc, append-nil, Option, Some, None, inl, inr}
use Rattle.std.specs.Prelude.{◌⊎◌, ◌&&◌, ◌||◌, ◌==◌, if◌then◌else◌, is_some}
use Rattle.std.specs.List.{list_any, list_all, filter}
use Rattle.std.proofs.lemmas.Bool.{or_parts, or_left, or_right, and_parts, and_from, not-true, not-false, or_from}
use Rattle.std.proofs.lemmas.Cmp.{nat_list_eq_equiv}
use Rattle.std.proofs.lemmas.List.Folds.{list_any-append}
use Rattle.std.proofs.Math.Bool.{or-false}
use Rattle.indexmap.specs.IndexMap.{insert_entry}
use Rattle.indexmap.specs.IndexSet.{insert_key, insert_all}
use Rattle.ast.specs.Store.{same_name}
use Rattle.ast.specs.Symbols.{Extent}
use Rattle.ast.specs.Tree.{Declarator, Definition, Statement, Kind, program, integer, dimension, parameters, assign, do_loop, go_on, block_if, else_if, else_arm, end_if, logical_if, print, read, stop, end}
use Rattle.ast.specs.declared.rule.Rule.TheVariants.{OutOfOrder, NotInteger, DeclaredTwice, WrongSubscripts, OpenLoop, WrongTerminal, CrossedBlocks, ActiveVariable, ChangedConstant, CrossedBounds, LargeProgram, RepeatedLabel, NoValue, WrongKind}
use Rattle.ast.proofs.SameNames.{same_is}
use Rattle.structure.specs.Open.{open_after}
use Rattle.structure.specs.Rules.{is_empty, is_program, is_out_of_order, is_declaration, is_executable, is_misplaced_arm, is_around, is_block, by_label, may_stand_in_if, holds_wrong_statement, crosses, ends_wrongly, breaks_blocks, is_label_again, checks as order_checks, lowest_broken as lowest_order, Keep as KeepOrder}
use Rattle.profile_check.specs.Checking.{nothing, and_then_declared}
use Rattle.profile_check.specs.Declarations.{Declared, Arrays, Constants, declared_in, arrays_by, or_no_extents, extents_of, with_arrays, constant_value, with_constant, with_constants, dimensions_named, constant_named, objects_by}
use Rattle.profile_check.specs.Rules.{Context, context_after, is_some_and, is_other, is_constant, names_real, declares_again, is_miscounted, miscounts, changes_active, changes_constant, crosses_bounds, is_too_large, lacks_value, is_well_kinded, checks, lowest_of, typed_in_whole, InProfile}
use Rattle.profile_check.specs.Resolving.{Table}
use Rattle.profile_check.specs.TakenBefore.{taken_before}
use Rattle.profile_check.specs.Uses.{Use, uses, is_among, is_call, is_name, has_its_arguments, typed_by, bounded_by, defined_by, declarator_names, definition_names, program_named_by, names_used, names_declared, names_mentioned}
use Rattle.profile_check.proofs.Entries.{turn}
use Rattle.profile_check.proofs.Fresh.{had-all, lower-none, none-first}
use Rattle.profile_check.proofs.OneMore.{declared-append}
use Rattle.profile_check.proofs.Parts.{own_expressions, table_in, is_free, is_sound}

-- ---- the rules that each statement keeps

pub keeps-structure : (ss : List Statement) → InProfile ss → KeepOrder order_checks ss
keeps-structure ss h = record { each = λ front s back e. (lower-none (lowest_order order_checks front s) _ (h.each front s back e)).0 }

pub keeps-own : (ss : List Statement) → InProfile ss → (front : List Statement) (s : Statement) (back : List Statement) → ss ≡ front ++ s ∷ back
    → lowest_of checks (context_after (typed_in_whole ss) front) s ≡ None
keeps-own ss h front s back e = (lower-none (lowest_order order_checks front s) _ (h.each front s back e)).1

-- the rules on structure
pub record InOrder (front : List Statement) (s : Statement) : Type 0 where
  pub order : is_out_of_order front s ≡ false
  pub crossing : crosses (open_after front) s ≡ false
  pub ending : ends_wrongly (open_after front) s ≡ false
  pub blocks : breaks_blocks (open_after front) s ≡ false
  pub label : is_label_again front s ≡ false

pub in-order : (ss : List Statement) → InProfile ss → (front : List Statement) (s : Statement) (back : List Statement) → ss ≡ front ++ s ∷ back → InOrder front s
in-order ss h front s back e =
    let k = (keeps-structure ss h).each front s back e in
    let a = none-first (is_out_of_order front s) OutOfOrder _ k in
    let b = none-first (crosses (open_after front) s) OpenLoop _ a.1 in
    let c = none-first (ends_wrongly (open_after front) s) WrongTerminal _ b.1 in
    let d = none-first (breaks_blocks (open_after front) s) CrossedBlocks _ c.1 in
    let f = none-first (is_label_again front s) RepeatedLabel None d.1 in
    record { order = a.0; crossing = b.0; ending = c.0; blocks = d.0; label = f.0 }

-- the rules on names, values and sizes
pub record Kept (c : Context) (s : Statement) : Type 0 where
  pub integral : names_real c.typed s.kind ≡ false
  pub once : declares_again c.declared.program c.declared.typed c.declared.objects s.kind ≡ false
  pub counts : miscounts c s.kind ≡ false
  pub active : changes_active c s.kind ≡ false
  pub constants : changes_constant c s.kind ≡ false
  pub bounds : crosses_bounds c s.kind ≡ false
  pub size : is_too_large c s ≡ false
  pub values : lacks_value c.declared.constants s.kind ≡ false
  pub kinds : not (is_well_kinded s.kind) ≡ false

kept-all : (c : Context) (s : Statement) → lowest_of checks c s ≡ None → Kept c s
kept-all c s k =
    let a = none-first (names_real c.typed s.kind) NotInteger _ k in
    let b = none-first (declares_again c.declared.program c.declared.typed c.declared.objects s.kind) DeclaredTwice _ a.1 in
    let d = none-first (miscounts c s.kind) WrongSubscripts _ b.1 in
    let f = none-first (changes_active c s.kind) ActiveVariable _ d.1 in
    let g = none-first (changes_constant c s.kind) ChangedConstant _ f.1 in
    let i = none-first (crosses_bounds c s.kind) CrossedBounds _ g.1 in
    let j = none-first (is_too_large c s) LargeProgram _ i.1 in
    let l = none-first (lacks_value c.declared.constants s.kind) NoValue _ j.1 in
    let m = none-first (not (is_well_kinded s.kind)) WrongKind None l.1 in
    record { integral = a.0; once = b.0; counts = d.0; active = f.0; constants = g.0; bounds = i.0; size = j.0; values = l.0; kinds = m.0 }

pub kept : (ss : List Statement) → InProfile ss → (front : List Statement) (s : Statement) (back : List Statement) → ss ≡ front ++ s ∷ back
    → Kept (context_after (typed_in_whole ss) front) s
kept ss h front s back e = kept-all _ s (keeps-own ss h front s back e)

-- ---- what holds of the first statements, and of one more where it holds of those before it

along-rest : (P : List Statement → Type 0) (ss : List Statement)
    → ((front : List Statement) (s : Statement) (back : List Statement) → ss ≡ front ++ s ∷ back → P front → P (front ++ s ∷ []))
    → (front back : List Statement) → ss ≡ front ++ back → P front → P ss
along-rest P ss step front [] e p = subst P (sym (e ∙ append-nil front)) p
along-rest P ss step front (s ∷ back) e p =
    along-rest P ss step (front ++ s ∷ []) back (e ∙ sym (append_assoc front (s ∷ []) back)) (step front s back e p)

pub along : (P : List Statement → Type 0) (ss : List Statement) → P []
    → ((front : List Statement) (s : Statement) (back : List Statement) → ss ≡ front ++ s ∷ back → P front → P (front ++ s ∷ []))
    → P ss
along P ss none step = along-rest P ss step [] ss refl none

-- the same of what they declare
pub along-declared : (P : Declared → Type 0) (ss : List Statement) → P nothing
    → ((front : List Statement) (s : Statement) (back : List Statement) → ss ≡ front ++ s ∷ back → P (declared_in front) → P (and_then_declared (declared_in front) s))
    → P (declared_in ss)
along-declared P ss none step =
    along (λ (front : List Statement). P (declared_in front)) ss none (λ front s back e p. subst P (sym (declared-append front s)) (step front s back e p))

-- ---- no declaration follows an executable statement

none-by : (k : Kind) → is_declaration k ≡ false → holds_wrong_statement k ≡ false → (bounded_by k ≡ []) × (defined_by k ≡ [])
none-by (integer ds) d w = absurd cc
none-by (dimension ds) d w = absurd cc
none-by (parameters ds) d w = absurd cc
none-by (program x) d w = (refl, refl)
none-by (assign a v) d w = (refl, refl)
none-by (do_loop h) d w = (refl, refl)
none-by go_on d w = (refl, refl)
none-by (block_if c) d w = (refl, refl)
none-by (else_if c) d w = (refl, refl)
none-by else_arm d w = (refl, refl)
none-by end_if d w = (refl, refl)
none-by (logical_if c k) d w = held k w
  where
    held : (k : Kind) → not (may_stand_in_if k) ≡ false → (bounded_by k ≡ []) × (defined_by k ≡ [])
    held (integer ds) w = absurd cc
    held (dimension ds) w = absurd cc
    held (parameters ds) w = absurd cc
    held (program x) w = absurd cc
    held (assign a v) w = (refl, refl)
    held (do_loop h) w = absurd cc
    held go_on w = (refl, refl)
    held (block_if c) w = absurd cc
    held (else_if c) w = absurd cc
    held else_arm w = absurd cc
    held end_if w = absurd cc
    held (logical_if c k) w = absurd cc
    held (print items) w = (refl, refl)
    held (read elements) w = (refl, refl)
    held stop w = (refl, refl)
    held end w = absurd cc
none-by (print items) d w = (refl, refl)
none-by (read elements) d w = (refl, refl)
none-by stop d w = (refl, refl)
none-by end d w = (refl, refl)

-- the statements of front, some of them executable, have the arrays and the constants of the first
-- of them
record Closed (first front : List Statement) : Type 0 where
  executes : list_any (λ f. is_executable f.kind) front ≡ true
  arrays : (declared_in front).arrays ≡ (declared_in first).arrays
  constants : (declared_in front).constants ≡ (declared_in first).constants

not-late : (declares executes : Bool) → (declares && executes) ≡ false → executes ≡ true → declares ≡ false
not-late false e h k = refl
not-late true true h k = absurd cc
not-late true false h k = absurd cc

not-wrong : (front : List Statement) (s : Statement) → InOrder front s → holds_wrong_statement s.kind ≡ false
not-wrong front s k =
    let labelled = by_label (λ label around. is_around is_block label around) (open_after front) s in
    let a = or_parts (is_misplaced_arm s.kind (open_after front)) (labelled || holds_wrong_statement s.kind) k.blocks in
    (or_parts labelled (holds_wrong_statement s.kind) a.1).1

not-declaration : (front : List Statement) (s : Statement) → InOrder front s → list_any (λ f. is_executable f.kind) front ≡ true → is_declaration s.kind ≡ false
not-declaration front s k e =
    let late = list_any (λ (f : Statement). is_executable f.kind) front in
    not-late (is_declaration s.kind) late (or_parts (is_program s.kind && not (is_empty front)) (is_declaration s.kind && late) k.order).1 e

arrays-stay : (d : Declared) (s : Statement) → bounded_by s.kind ≡ [] → (and_then_declared d s).arrays ≡ d.arrays
arrays-stay d s e = ap (λ (ds : List Declarator). with_arrays d.arrays (arrays_by d.constants ds)) e

constants-stay : (d : Declared) (s : Statement) → defined_by s.kind ≡ [] → (and_then_declared d s).constants ≡ d.constants
constants-stay d s e = ap (λ (ds : List Definition). with_constants d.constants ds) e

closed-more : (first front : List Statement) (s : Statement) → (list_any (λ f. is_executable f.kind) front || is_executable s.kind) ≡ true
    → (bounded_by s.kind ≡ []) × (defined_by s.kind ≡ [])
    → (declared_in front).arrays ≡ (declared_in first).arrays → (declared_in front).constants ≡ (declared_in first).constants
    → Closed first (front ++ s ∷ [])
closed-more first front s e none a c =
    let more = declared-append front s in
    record {
      executes = list_any-append (λ (f : Statement). is_executable f.kind) front (s ∷ [])
          ∙ ap (λ (b : Bool). list_any (λ (f : Statement). is_executable f.kind) front || b) (or-false (is_executable s.kind)) ∙ e;
      arrays = ap (λ (d : Declared). d.arrays) more ∙ arrays-stay (declared_in front) s none.0 ∙ a;
      constants = ap (λ (d : Declared). d.constants) more ∙ constants-stay (declared_in front) s none.1 ∙ c;
    }

is-declared : (k : Kind) → is_executable k ≡ true → is_declaration k ≡ false
is-declared k e = not-true (is_declaration k) (and_parts (not (is_program k)) (not (is_declaration k)) e).1

-- the whole program has no more arrays and constants
closed : (ss : List Statement) → InProfile ss → (front : List Statement) (s : Statement) (back : List Statement) → ss ≡ front ++ s ∷ back → is_executable s.kind ≡ true → Closed front ss
closed ss h front s back e x =
    along-rest (λ (f : List Statement). Closed front f) ss
    (λ f t b q p.
    let o = in-order ss h f t b q in
    closed-more front f t (or_left (list_any (λ (f : Statement). is_executable f.kind) f) (is_executable t.kind) p.executes)
    (none-by t.kind (not-declaration f t o p.executes) (not-wrong f t o)) p.arrays p.constants)
    (front ++ s ∷ []) back (e ∙ sym (append_assoc front (s ∷ []) back))
    (closed-more front front s (or_right (list_any (λ (f : Statement). is_executable f.kind) front) (is_executable s.kind) x)
    (none-by s.kind (is-declared s.kind x) (not-wrong front s (in-order ss h front s back e))) refl refl)

-- ---- names taken into a table one after another

-- a name is in no table into which it is taken
taken-new : (table names : List (List ℕ)) (x : List ℕ) → taken_before table names ≡ false → is_among names x ≡ true → is_among table x ≡ false
taken-new table [] x h m = absurd cc
taken-new table (y ∷ names) x h m =
    let p = or_parts (list_any (same_name y) table) (taken_before (insert_key same_name table y) names) h in
    by p.0 (λ k. taken-new (insert_key same_name table y) names x p.1 k) (same_name x y) refl m
  where
    by : is_among table y ≡ false → (is_among names x ≡ true → is_among (insert_key same_name table y) x ≡ false) → (b : Bool) → same_name x y ≡ b → (b || is_among names x) ≡ true → is_among table x ≡ false
    by here later true e k = ap (λ (z : List ℕ). is_among table z) (same_is x y e) ∙ here
    by here later false e k = (or_parts (is_among table x) (same_name x y || false) (sym (had-all x table (y ∷ [])) ∙ later k)).0

-- the names of a list are taken after those before them
taken-parts : (table xs ys : List (List ℕ)) → taken_before table (xs ++ ys) ≡ false → (taken_before table xs ≡ false) × (taken_before (insert_all same_name table xs) ys ≡ false)
taken-parts table [] ys h = (refl, h)
taken-parts table (x ∷ xs) ys h =
    let p = or_parts (list_any (same_name x) table) (taken_before (insert_key same_name table x) (xs ++ ys)) h in
    let q = taken-parts (insert_key same_name table x) xs ys p.1 in
    (or_from _ _ p.0 q.0, q.1)

-- ---- no array has the name of a constant

dimensions-other : (arrays : Arrays) (y : List ℕ) (ds : List Extent) (x : List ℕ) → same_name x y ≡ false → dimensions_named (insert_entry same_name arrays y ds) x ≡ dimensions_named arrays x
dimensions-other [] y ds x e = ap (λ (b : Bool). if b then ds else []) (turn y x ∙ e)
dimensions-other (a ∷ arrays) y ds x e = by (dimensions-other arrays y ds x e) (same_name y a.0) refl
  where
    by : dimensions_named (insert_entry same_name arrays y ds) x ≡ dimensions_named arrays x → (b : Bool) → same_name y a.0 ≡ b
        → dimensions_named (if b then (a.0, ds) ∷ arrays else a ∷ insert_entry same_name arrays y ds) x ≡ dimensions_named (a ∷ arrays) x
    by rest true k =
        let other : same_name a.0 x ≡ false = ap (λ (z : List ℕ). same_name z x) (sym (same_is y a.0 k)) ∙ turn y x ∙ e in
        ap (λ (b : Bool). if b then ds else dimensions_named arrays x) other ∙ sym (ap (λ (b : Bool). if b then a.1 else dimensions_named arrays x) other)
    by rest false k = ap (λ (d : List Extent). if same_name a.0 x then a.1 else d) rest

dimensions-others : (constants : Constants) (arrays : Arrays) (ds : List Declarator) (x : List ℕ) → is_among (declarator_names ds) x ≡ false
    → dimensions_named (with_arrays arrays (arrays_by constants ds)) x ≡ dimensions_named arrays x
dimensions-others constants arrays [] x h = refl
dimensions-others constants arrays (d ∷ ds) x h =
    let p = or_parts (same_name x d.name) (is_among (declarator_names ds) x) h in
    dimensions-others constants (insert_entry same_name arrays d.name (or_no_extents (extents_of constants d.bounds))) ds x p.1
    ∙ dimensions-other arrays d.name (or_no_extents (extents_of constants d.bounds)) x p.0

constant-other : (constants : Constants) (y : List ℕ) (n : ℤ) (x : List ℕ) → same_name x y ≡ false → constant_named (insert_entry same_name constants y n) x ≡ constant_named constants x
constant-other [] y n x e = ap (λ (b : Bool). if b then Some n else None) (turn y x ∙ e)
constant-other (c ∷ constants) y n x e = by (constant-other constants y n x e) (same_name y c.0) refl
  where
    by : constant_named (insert_entry same_name constants y n) x ≡ constant_named constants x → (b : Bool) → same_name y c.0 ≡ b
        → constant_named (if b then (c.0, n) ∷ constants else c ∷ insert_entry same_name constants y n) x ≡ constant_named (c ∷ constants) x
    by rest true k =
        let other : same_name c.0 x ≡ false = ap (λ (z : List ℕ). same_name z x) (sym (same_is y c.0 k)) ∙ turn y x ∙ e in
        ap (λ (b : Bool). if b then Some n else constant_named constants x) other ∙ sym (ap (λ (b : Bool). if b then Some c.1 else constant_named constants x) other)
    by rest false k = ap (λ (v : Option ℤ). if same_name c.0 x then Some c.1 else v) rest

constant-added : (constants : Constants) (y : List ℕ) (r : Option ℤ) (x : List ℕ) → same_name x y ≡ false → constant_named (with_constant constants y r) x ≡ constant_named constants x
constant-added constants y (Some n) x e = constant-other constants y n x e
constant-added constants y None x e = refl

pub constant-others : (constants : Constants) (ds : List Definition) (x : List ℕ) → is_among (definition_names ds) x ≡ false → constant_named (with_constants constants ds) x ≡ constant_named constants x
constant-others constants [] x h = refl
constant-others constants (d ∷ ds) x h =
    let p = or_parts (same_name x d.name) (is_among (definition_names ds) x) h in
    constant-others (with_constant constants d.name (constant_value constants d.value)) ds x p.1
    ∙ constant-added constants d.name (constant_value constants d.value) x p.0

-- arrays and constants are objects, and none is both
record Apart (d : Declared) : Type 0 where
  array : (x : List ℕ) → is_among d.objects x ≡ false → dimensions_named d.arrays x ≡ []
  constant : (x : List ℕ) → is_among d.objects x ≡ false → constant_named d.constants x ≡ None
  apart : (x : List ℕ) → is_constant d.constants x ≡ true → dimensions_named d.arrays x ≡ []

apart-none : Apart nothing
apart-none = record { array = λ x h. refl; constant = λ x h. refl; apart = λ x h. refl }

-- a constant is one of those before, or it is defined
constant-cases : (d : Declared) (ds : List Definition) (x : List ℕ) → is_constant (with_constants d.constants ds) x ≡ true
    → (is_constant d.constants x ≡ true) ⊎ (is_among (definition_names ds) x ≡ true)
constant-cases d ds x h = by (is_among (definition_names ds) x) refl
  where
    by : (b : Bool) → is_among (definition_names ds) x ≡ b → (is_constant d.constants x ≡ true) ⊎ (is_among (definition_names ds) x ≡ true)
    by true e = inr e
    by false e = inl (sym (ap is_some (constant-others d.constants ds x e)) ∙ h)

apart-more : (d : Declared) (s : Statement) → taken_before d.objects (objects_by s.kind) ≡ false → Apart d → Apart (and_then_declared d s)
apart-more d s h p =
    let arrays = declarator_names (bounded_by s.kind) in
    let constants = definition_names (defined_by s.kind) in
    let q = taken-parts d.objects arrays constants h in
    record {
      array = λ x k.
          let o = parts x k in
          dimensions-others d.constants d.arrays (bounded_by s.kind) x o.1 ∙ p.array x o.0;
      constant = λ x k.
          let o = parts x k in
          constant-others d.constants (defined_by s.kind) x o.2 ∙ p.constant x o.0;
      apart = λ x k. elim (constant-cases d (defined_by s.kind) x k) [
        | inl c ↦ dimensions-others d.constants d.arrays (bounded_by s.kind) x (old x c q.0 (is_among arrays x) refl) ∙ p.apart x c
        | inr c ↦
            let o = or_parts (is_among d.objects x) (is_among arrays x) (sym (had-all x d.objects arrays) ∙ taken-new (insert_all same_name d.objects arrays) constants x q.1 c) in
            dimensions-others d.constants d.arrays (bounded_by s.kind) x o.1 ∙ p.array x o.0
      ];
    }
  where
    -- a name that is no object afterwards
    parts : (x : List ℕ) → is_among (and_then_declared d s).objects x ≡ false
        → (is_among d.objects x ≡ false) × (is_among (declarator_names (bounded_by s.kind)) x ≡ false) × (is_among (definition_names (defined_by s.kind)) x ≡ false)
    parts x k =
        let a = or_parts (is_among d.objects x) (is_among (objects_by s.kind) x) (sym (had-all x d.objects (objects_by s.kind)) ∙ k) in
        let b = or_parts (is_among (declarator_names (bounded_by s.kind)) x) (is_among (definition_names (defined_by s.kind)) x)
        (sym (list_any-append (same_name x) (declarator_names (bounded_by s.kind)) (definition_names (defined_by s.kind))) ∙ a.1) in
        (a.0, b.0, b.1)

    -- a constant of those before is not declared as an array
    old : (x : List ℕ) → is_constant d.constants x ≡ true → taken_before d.objects (declarator_names (bounded_by s.kind)) ≡ false
        → (b : Bool) → is_among (declarator_names (bounded_by s.kind)) x ≡ b → b ≡ false
    old x c t false e = refl
    old x c t true e =
        let none : is_constant d.constants x ≡ false = ap is_some (p.constant x (taken-new d.objects (declarator_names (bounded_by s.kind)) x t e)) in
        let q : true ≡ false = sym c ∙ none in absurd cc

-- the parts of `DeclaredTwice`
pub record Once (d : Declared) (k : Kind) : Type 0 where
  pub objects : taken_before d.objects (objects_by k) ≡ false
  pub names : list_any (is_other d.program) (names_mentioned k) ≡ false

pub once : (c : Context) (s : Statement) → Kept c s → Once c.declared s.kind
once c s k =
    let other = is_some_and (is_other c.declared.program) (program_named_by s.kind) in
    let names = list_any (is_other c.declared.program) (names_mentioned s.kind) in
    let objects = taken_before c.declared.objects (objects_by s.kind) in
    let a = or_parts (taken_before c.declared.typed (declarator_names (typed_by s.kind))) (objects || (other || names)) k.once in
    let b = or_parts objects (other || names) a.1 in
    record { objects = b.0; names = (or_parts other names b.1).1 }

apart : (ss : List Statement) → InProfile ss → Apart (declared_in ss)
apart ss h = along-declared Apart ss apart-none
    (λ front s back e p. apart-more (declared_in front) s (once _ s (kept ss h front s back e)).objects p)

-- ---- each name of a statement is declared

named-more : (front : List Statement) (s : Statement) (x : List ℕ) → (is_among (declared_in front).names x || is_among (names_mentioned s.kind) x) ≡ true
    → is_among (declared_in (front ++ s ∷ [])).names x ≡ true
named-more front s x h =
    ap (λ (d : Declared). is_among d.names x) (declared-append front s) ∙ had-all x (declared_in front).names (names_mentioned s.kind) ∙ h

named : (ss front : List Statement) (s : Statement) (back : List Statement) (x : List ℕ) → ss ≡ front ++ s ∷ back → is_among (names_mentioned s.kind) x ≡ true
    → is_among (declared_in ss).names x ≡ true
named ss front s back x e h =
    along-rest (λ (f : List Statement). is_among (declared_in f).names x ≡ true) ss
    (λ f t b q p. named-more f t x (or_left (is_among (declared_in f).names x) (is_among (names_mentioned t.kind) x) p))
    (front ++ s ∷ []) back (e ∙ sym (append_assoc front (s ∷ []) back))
    (named-more front s x (or_right (is_among (declared_in front).names x) (is_among (names_mentioned s.kind) x) h))

-- ---- each use is sound

abbrev names_in : List Use → List (List ℕ)
names_in us = map (λ u. u.name) (filter is_name us)

-- the count of a name that is given nothing, of which no array is declared
alone : (called given constant : Bool) (u : Use) (dimensions : List Extent) → (constant ≡ true → dimensions ≡ []) → (if called then not (has_its_arguments u) else not (u.count == length dimensions)) ≡ false
    → called ≡ false → (given && constant) ≡ false → (not constant || ((u.count == 0) && not given)) ≡ true
alone called given false u ds a c n g = refl
alone true given true u ds a c n g = absurd cc
alone false true true u ds a c n g = absurd cc
alone false false true u ds a c n g =
    let none : (u.count == 0) ≡ true = sym (ap (λ (es : List Extent). u.count == length es) (a refl)) ∙ not-false (u.count == length ds) c in
    ap (λ (b : Bool). b && true) none

sound-use : (t : Table) (arrays : Arrays) (u : Use) → (is_constant t.constants u.name ≡ true → dimensions_named arrays u.name ≡ [])
    → (called : Bool) → is_call u ≡ called → (called ≡ false → is_among t.names u.name ≡ true)
    → is_miscounted arrays u ≡ false → (u.is_given && is_constant t.constants u.name) ≡ false
    → (called || (is_among t.names u.name && (is_free t.constants u.name || ((u.count == 0) && not u.is_given)))) ≡ true
sound-use t arrays u a true e n m g = refl
sound-use t arrays u a false e n m g =
    and_from (is_among t.names u.name) (is_free t.constants u.name || ((u.count == 0) && not u.is_given)) (n refl)
    (alone (is_call u) u.is_given (is_constant t.constants u.name) u (dimensions_named arrays u.name) a m e g)

sound-uses : (t : Table) (arrays : Arrays) → ((x : List ℕ) → is_constant t.constants x ≡ true → dimensions_named arrays x ≡ []) → (us : List Use)
    → ((x : List ℕ) → is_among (names_in us) x ≡ true → is_among t.names x ≡ true)
    → list_any (is_miscounted arrays) us ≡ false → list_any (λ u. u.is_given && is_constant t.constants u.name) us ≡ false
    → list_all (λ u. is_sound t u) us ≡ true
sound-uses t arrays a [] n m g = refl
sound-uses t arrays a (u ∷ us) n m g =
    let p = or_parts (is_miscounted arrays u) (list_any (is_miscounted arrays) us) m in
    let q = or_parts (u.is_given && is_constant t.constants u.name) (list_any (λ (v : Use). v.is_given && is_constant t.constants v.name) us) g in
    and_from (is_sound t u) (list_all (λ (v : Use). is_sound t v) us)
    (sound-use t arrays u (a u.name) (is_call u) refl (λ e. own e n) p.0 q.0)
    (sound-uses t arrays a us (λ x k. n x (more x (is_name u) k)) p.1 q.1)
  where
    own : is_call u ≡ false → ((x : List ℕ) → is_among (names_in (u ∷ us)) x ≡ true → is_among t.names x ≡ true) → is_among t.names u.name ≡ true
    own e n = n u.name (ap (λ (b : Bool). is_among (map (λ (v : Use). v.name) (if not b then u ∷ filter is_name us else filter is_name us)) u.name) e
        ∙ ap (λ (b : Bool). b || is_among (names_in us) u.name) (nat_list_eq_equiv.refl u.name))

    more : (x : List ℕ) (b : Bool) → is_among (names_in us) x ≡ true → is_among (map (λ (v : Use). v.name) (if b then u ∷ filter is_name us else filter is_name us)) x ≡ true
    more x true k = or_right (same_name x u.name) (is_among (names_in us) x) k
    more x false k = k

no-expressions : (k : Kind) → is_executable k ≡ false → own_expressions k ≡ []
no-expressions (program x) h = refl
no-expressions (integer ds) h = refl
no-expressions (dimension ds) h = refl
no-expressions (parameters ds) h = refl
no-expressions (assign a v) h = absurd cc
no-expressions (do_loop d) h = absurd cc
no-expressions go_on h = absurd cc
no-expressions (block_if c) h = absurd cc
no-expressions (else_if c) h = absurd cc
no-expressions else_arm h = absurd cc
no-expressions end_if h = absurd cc
no-expressions (logical_if c k) h = absurd cc
no-expressions (print items) h = absurd cc
no-expressions (read elements) h = absurd cc
no-expressions stop h = absurd cc
no-expressions end h = absurd cc

-- by the arrays of the whole program
executable-counts : (ss front : List Statement) (s : Statement) (back : List Statement) → InProfile ss → ss ≡ front ++ s ∷ back → is_executable s.kind ≡ true
    → list_any (is_miscounted (declared_in ss).arrays) (uses s.kind) ≡ false
executable-counts ss front s back h e x =
    ap (λ (arrays : Arrays). list_any (is_miscounted arrays) (uses s.kind)) (closed ss h front s back e x).arrays ∙ (kept ss h front s back e).counts

executable-sound : (ss front : List Statement) (s : Statement) (back : List Statement) → InProfile ss → ss ≡ front ++ s ∷ back → is_executable s.kind ≡ true
    → list_all (λ u. is_sound (table_in (declared_in ss)) u) (uses s.kind) ≡ true
executable-sound ss front s back h e x =
    let c = closed ss h front s back e x in
    let k = kept ss h front s back e in
    sound-uses (table_in (declared_in ss)) (declared_in ss).arrays (apart ss h).apart (uses s.kind)
    (λ x m. named ss front s back x e (among x m))
    (executable-counts ss front s back h e x)
    (ap (λ (constants : Constants). list_any (λ (u : Use). u.is_given && is_constant constants u.name) (uses s.kind)) c.constants ∙ k.constants)
  where
    among : (x : List ℕ) → is_among (names_in (uses s.kind)) x ≡ true → is_among (names_mentioned s.kind) x ≡ true
    among x m = list_any-append (same_name x) (names_declared s.kind) (names_used s.kind) ∙ or_right (is_among (names_declared s.kind) x) (is_among (names_used s.kind) x) m

-- each name in an expression of a statement is one that is declared, and used as what it stands for
pub sound : (ss front : List Statement) (s : Statement) (back : List Statement) → InProfile ss → ss ≡ front ++ s ∷ back
    → (own_expressions s.kind ≡ []) ⊎ (list_all (λ u. is_sound (table_in (declared_in ss)) u) (uses s.kind) ≡ true)
sound ss front s back h e = by (is_executable s.kind) refl
  where
    by : (b : Bool) → is_executable s.kind ≡ b → (own_expressions s.kind ≡ []) ⊎ (list_all (λ u. is_sound (table_in (declared_in ss)) u) (uses s.kind) ≡ true)
    by true x = inr (executable-sound ss front s back h e x)
    by false x = inl (no-expressions s.kind x)

-- each name in an expression of a statement has as many subscripts or arguments as it should
pub counts : (ss front : List Statement) (s : Statement) (back : List Statement) → InProfile ss → ss ≡ front ++ s ∷ back
    → (own_expressions s.kind ≡ []) ⊎ (list_any (is_miscounted (declared_in ss).arrays) (uses s.kind) ≡ false)
counts ss front s back h e = by (is_executable s.kind) refl
  where
    by : (b : Bool) → is_executable s.kind ≡ b → (own_expressions s.kind ≡ []) ⊎ (list_any (is_miscounted (declared_in ss).arrays) (uses s.kind) ≡ false)
    by true x = inr (executable-counts ss front s back h e x)
    by false x = inl (no-expressions s.kind x)
