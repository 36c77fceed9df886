-- Going through the statements one by one finds the first that breaks a rule.
use Rattle.std.proofs.Common.{◌≡◌, ℕ, ◌+◌, ◌||◌, not, Bool, false, List, [], ◌∷◌, ◌++◌, refl, ap, ap₂, ◌∙◌, sym, subst, length, Option, Some, None, Ok, Err, append_assoc, length-append, append-nil}
use Rattle.std.specs.Prelude.{◌&&◌, nat_le, nat_lt, if◌then◌else◌}
use Rattle.std.proofs.lemmas.Bool.{or_parts}
use Rattle.std.specs.List.{list_any}
use Rattle.ast.specs.Answers.{Break}
use Rattle.ast.specs.Store.{same_name}
use Rattle.ast.specs.Tree.{Statement}
use Rattle.ast.specs.declared.rule.Rule.{Rule}
use Rattle.ast.specs.declared.rule.Rule.TheVariants.{NotInteger, DeclaredTwice, WrongSubscripts, ActiveVariable, ChangedConstant, CrossedBounds, LargeProgram, NoValue, WrongKind}
use Rattle.structure.proofs.Agreement.{agrees as order-agrees, one-more}
use Rattle.structure.specs.Open.{open_after}
use Rattle.structure.specs.Rules.{checks as order_checks, lowest_broken as lowest_order}
use Rattle.profile_check.proofs.Fresh.{had-all, lower-none, none-first, elements-more}
use Rattle.profile_check.proofs.OneMore.{declared-append}
use Rattle.profile_check.proofs.Sums.{counted_law, limit_before}
use Rattle.profile_check.specs.Checking.{and_then_declared, before_of, and_one, context_by, rule_by, going_on, checked, table_of}
use Rattle.profile_check.specs.Counted.{few_or_more, counted}
use Rattle.profile_check.specs.Declarations.{Declared, declared_in, arrays_by, total_elements, objects_by}
use Rattle.profile_check.specs.Rules.{Context, rule_broken, lower, begins_i_to_n, are_real, context_after, names_real, declares_again, miscounts, changes_active, changes_constant, crosses_bounds, opens, most_statements, most_nested, most_names, is_too_large, lacks_value, is_well_kinded}
use Rattle.profile_check.specs.TakenBefore.{taken_before}
use Rattle.profile_check.specs.Uses.{typed_by, bounded_by, dimensioned_by, defined_by, declarator_names, definition_names, names_used}

in-table : (names : List (List ℕ)) (x : List ℕ) → list_any (same_name x) (table_of names) ≡ list_any (same_name x) names
in-table names x = had-all x [] names

real-table : (typed names : List (List ℕ)) → are_real (table_of typed) names ≡ are_real typed names
real-table typed names = λ i. list_any (λ x. not (begins_i_to_n x || in-table typed x i)) names

-- the rules on values where it is known whether a program is too large
abbrev by_size : Context → Statement → Bool → Option Rule
by_size c s large =
    if declares_again c.declared.program c.declared.typed c.declared.objects s.kind then Some DeclaredTwice
    else if miscounts c s.kind then Some WrongSubscripts
    else if changes_active c s.kind then Some ActiveVariable
    else if changes_constant c s.kind then Some ChangedConstant
    else if crosses_bounds c s.kind then Some CrossedBounds
    else if large then Some LargeProgram
    else if lacks_value c.declared.constants s.kind then Some NoValue
    else if not (is_well_kinded s.kind) then Some WrongKind
    else None

size-agrees : (typed : List (List ℕ)) (front : List Statement) (s : Statement) → is_too_large (context_by typed (before_of front)) s ≡ is_too_large (context_after typed front) s
size-agrees typed front s =
    let d = declared_in front in
    let limit = limit_before (total_elements d.arrays) (total_elements (arrays_by d.constants (bounded_by s.kind))) in
    λ i. nat_le most_statements (length front) || ((opens s.kind && nat_le most_nested (length (open_after front))) || (nat_lt most_names (length (and_then_declared d s).names) || limit i))

agrees : (typed : List (List ℕ)) (front : List Statement) (s : Statement) → rule_by (table_of typed) (before_of front) s ≡ rule_broken typed front s
agrees typed front s =
    let a = real-table typed (declarator_names (dimensioned_by s.kind)) in
    let b = real-table typed (definition_names (defined_by s.kind)) in
    let d = real-table typed (names_used s.kind) in
    let large = size-agrees typed front s in
    ap₂ lower (order-agrees front s) (λ i. if (a i || (b i || d i)) then Some NotInteger else by_size (context_after typed front) s (large i))

-- how many elements there are with those of one more statement
elements-snoc : (front : List Statement) (s : Statement) → taken_before (declared_in front).objects (objects_by s.kind) ≡ false
    → few_or_more (total_elements (declared_in (front ++ s ∷ [])).arrays)
    ≡ counted (few_or_more (total_elements (declared_in front).arrays)) (arrays_by (declared_in front).constants (bounded_by s.kind))
elements-snoc front s h =
    let d = declared_in front in
    ap (λ (e : Declared). few_or_more (total_elements e.arrays)) (declared-append front s)
    ∙ ap few_or_more (elements-more front s h)
    ∙ sym (counted_law (total_elements d.arrays) (arrays_by d.constants (bounded_by s.kind)))

before-snoc : (front : List Statement) (s : Statement) → taken_before (declared_in front).objects (objects_by s.kind) ≡ false → before_of (front ++ s ∷ []) ≡ and_one (before_of front) s
before-snoc front s h =
    let o = one-more front s in
    let d = declared-append front s in
    let e = elements-snoc front s h in
    let c : length (front ++ s ∷ []) ≡ length front + 1 = length-append front (s ∷ []) in
    λ i. record { order = o i; declared = d i; elements = e i; count = c i }

-- No statement of ps breaks a rule where they follow a front.
pub record Keep (typed : List (List ℕ)) (front ps : List Statement) : Type 0 where
  pub each : (f : List Statement) (p : Statement) (b : List Statement) → ps ≡ f ++ p ∷ b → rule_broken typed (front ++ f) p ≡ None

pub record Breaking (typed : List (List ℕ)) (front ps : List Statement) (d : Break) : Type 0 where
  pub kept : List Statement
  pub statement : Statement
  pub back : List Statement
  pub cut : ps ≡ kept ++ statement ∷ back
  pub keep : Keep typed front kept
  pub broken : rule_broken typed (front ++ kept) statement ≡ Some d.rule
  pub place : d.line ≡ statement.line

grown : (typed : List (List ℕ)) (front f : List Statement) (q p : Statement) {r : Option Rule}
    → rule_broken typed ((front ++ q ∷ []) ++ f) p ≡ r → rule_broken typed (front ++ q ∷ f) p ≡ r
grown typed front f q p h = ap (λ xs. rule_broken typed xs p) (sym (append_assoc front (q ∷ []) f)) ∙ h

here : (typed : List (List ℕ)) (front : List Statement) (p : Statement) {r : Option Rule} → rule_broken typed front p ≡ r → rule_broken typed (front ++ []) p ≡ r
here typed front p h = ap (λ xs. rule_broken typed xs p) (append-nil front) ∙ h

-- a statement that breaks no rule declares nothing again
declares-new : (typed : List (List ℕ)) (front : List Statement) (q : Statement) → rule_broken typed front q ≡ None → taken_before (declared_in front).objects (objects_by q.kind) ≡ false
declares-new typed front q h =
    let d = declared_in front in
    let own = (lower-none (lowest_order order_checks front q) _ h).1 in
    let real = none-first (names_real typed q.kind) NotInteger _ own in
    let again = none-first (declares_again d.program d.typed d.objects q.kind) DeclaredTwice _ real.1 in
    let names = or_parts (taken_before d.typed (declarator_names (typed_by q.kind))) _ again.0 in
    (or_parts (taken_before d.objects (objects_by q.kind)) _ names.1).0

there : (typed : List (List ℕ)) (front : List Statement) (q : Statement) (qs : List Statement) → rule_by (table_of typed) (before_of front) q ≡ None
    → checked (table_of typed) (before_of (front ++ q ∷ [])) qs ≡ checked (table_of typed) (and_one (before_of front) q) qs
there typed front q qs h = ap (λ b. checked (table_of typed) b qs) (before-snoc front q (declares-new typed front q (sym (agrees typed front q) ∙ h)))

keep-cons : (typed : List (List ℕ)) (front : List Statement) (q : Statement) (qs : List Statement)
    → rule_broken typed front q ≡ None → Keep typed (front ++ q ∷ []) qs
    → (f : List Statement) (p : Statement) (b : List Statement) → q ∷ qs ≡ f ++ p ∷ b → rule_broken typed (front ++ f) p ≡ None
keep-cons typed front q qs h keep [] p b e = here typed front p (let same : q ≡ p = cc in ap (λ x. rule_broken typed front x) (sym same) ∙ h)
keep-cons typed front q qs h keep (x ∷ f) p b e =
    let same : q ≡ x = cc in
    ap (λ y. rule_broken typed (front ++ y ∷ f) p) (sym same)
    ∙ grown typed front f q p (keep.each f p b (let rest : qs ≡ f ++ p ∷ b = cc in rest))

keep-none : (typed : List (List ℕ)) (front : List Statement) → Keep typed front []
keep-none typed front = record { each = nothing_there }
  where
    nothing_there : (f : List Statement) (p : Statement) (b : List Statement) → [] ≡ f ++ p ∷ b → rule_broken typed (front ++ f) p ≡ None
    nothing_there [] p b e = cc
    nothing_there (x ∷ f) p b e = cc

-- all is kept, and so much is declared
pub record Whole (typed : List (List ℕ)) (front ps : List Statement) (d : Declared) : Type 0 where
  pub keep : Keep typed front ps
  pub declared : d ≡ declared_in (front ++ ps)

whole-step : (typed : List (List ℕ)) (front : List Statement) (q : Statement) (qs : List Statement) (d : Declared)
    → (checked (table_of typed) (before_of (front ++ q ∷ [])) qs ≡ Ok d → Whole typed (front ++ q ∷ []) qs d)
    → (r : Option Rule) → rule_by (table_of typed) (before_of front) q ≡ r
    → going_on r q (checked (table_of typed) (and_one (before_of front) q) qs) ≡ Ok d → Whole typed front (q ∷ qs) d
whole-step typed front q qs d later (Some n) h e = cc
whole-step typed front q qs d later None h e =
    let w = later (there typed front q qs h ∙ e) in
    record {
      keep = record { each = keep-cons typed front q qs (sym (agrees typed front q) ∙ h) w.keep };
      declared = w.declared ∙ ap declared_in (append_assoc front (q ∷ []) qs);
    }

pub ok-whole : (typed : List (List ℕ)) (front ps : List Statement) (d : Declared) → checked (table_of typed) (before_of front) ps ≡ Ok d → Whole typed front ps d
ok-whole typed front [] d h = record {
  keep = keep-none typed front;
  declared = let same : declared_in front ≡ d = cc in sym same ∙ ap declared_in (sym (append-nil front));
}
ok-whole typed front (q ∷ qs) d h = whole-step typed front q qs d (ok-whole typed (front ++ q ∷ []) qs d) (rule_by (table_of typed) (before_of front) q) refl h

break-step : (typed : List (List ℕ)) (front : List Statement) (q : Statement) (qs : List Statement) (d : Break)
    → (checked (table_of typed) (before_of (front ++ q ∷ [])) qs ≡ Err d → Breaking typed (front ++ q ∷ []) qs d)
    → (r : Option Rule) → rule_by (table_of typed) (before_of front) q ≡ r
    → going_on r q (checked (table_of typed) (and_one (before_of front) q) qs) ≡ Err d → Breaking typed front (q ∷ qs) d
break-step typed front q qs d later None h e =
    let b = later (there typed front q qs h ∙ e) in
    record {
      kept = q ∷ b.kept;
      statement = b.statement;
      back = b.back;
      cut = ap (λ xs. q ∷ xs) b.cut;
      keep = record { each = keep-cons typed front q b.kept (sym (agrees typed front q) ∙ h) b.keep };
      broken = grown typed front b.kept q b.statement b.broken;
      place = b.place;
    }
break-step typed front q qs d later (Some n) h e =
    let same : record { rule = n; line = q.line } ≡ d = cc in
    let P : Break → Type 0 = λ x. Breaking typed front (q ∷ qs) x in
    subst P same (record {
      kept = [];
      statement = q;
      back = qs;
      cut = refl;
      keep = keep-none typed front;
      broken = here typed front q (sym (agrees typed front q) ∙ h);
      place = refl;
    })

pub err-breaks : (typed : List (List ℕ)) (front ps : List Statement) (d : Break) → checked (table_of typed) (before_of front) ps ≡ Err d → Breaking typed front ps d
err-breaks typed front [] d h = cc
err-breaks typed front (q ∷ qs) d h = break-step typed front q qs d (err-breaks typed (front ++ q ∷ []) qs d) (rule_by (table_of typed) (before_of front) q) refl h
