-- Run alone, the code of an expression leaves its value, or its fault.
use Rattle.std.proofs.Common.{◌≡◌, ◌∙◌, ◌≤◌, ◌+◌, ◌^◌, ℕ, suc, ℤ, true, List, [], ◌∷◌, ◌++◌, Option, Some, None, Result, Ok, Err, length, refl, sym, ap, subst, arith}
use Rattle.std.specs.Prelude.{max}
use Rattle.std.specs.List.{IsDistinct, list_all}
use Rattle.std.proofs.Math.Nat.{le-max_left, le-max_right}
use Rattle.std.proofs.lemmas.Bool.{and_parts}
use Rattle.std.proofs.lemmas.Option.{get_or_from_slice_get}
use Rattle.ast.specs.Meaning.{looked_up, target, value}
use Rattle.ast.specs.Program.{is_placed}
use Rattle.ast.specs.References.{term_references, terms_references}
use Rattle.ast.specs.Store.{StoreOf, same_name}
use Rattle.ast.specs.Symbols.{Extent, dimensions_in, is_sized, names_of}
use Rattle.ast.specs.Tree.{Ref, Access, accessed, Term, constant, truth, parameter, element, call, parentheses, unary, binary, Terms, no_terms, then_term}
use Rattle.ast.specs.declared.expression.Intrinsic.TheVariants.{Abs, Iabs, Max, Max0, Min, Min0, Mod}
use Rattle.ast.specs.declared.fault.Fault.{Fault}
use Rattle.ast.proofs.Lists.{all_parts}
use Rattle.machine.specs.Code.{Code}
use Rattle.machine.specs.Frame.{Frame, with_items}
use Rattle.machine.specs.Local.{and_then, defined, faulted}
use Rattle.machine.specs.View.{view}
use Rattle.machine.specs.declared.instr.Instr.{Instr}
use Rattle.expr_code.specs.Alone.{alone, taken_on}
use Rattle.expr_code.specs.Computes.{Appended, Computes, HasVariables, Leaves, Locates, PlaceAppended, operands, operands_kept, operands_chosen, operands_further, with_place}
use Rattle.expr_code.specs.Emitted.{target_code, term_code}
use Rattle.expr_code.specs.Places.{Places, Home, dimensions_at, held_or, private_value, seen_from}
use Rattle.expr_code.specs.Process.{Steps, count, target_into, term_into}
use Rattle.expr_code.proofs.Finding.{dimensions_same, reach}
use Rattle.expr_code.proofs.Meaning.{AllNamed, Means, Named, on, on_all, target_meant, term_meant}
use Rattle.expr_code.proofs.Running.{AllReach, Reaches, Rules, target_runs, term_runs}
use Rattle.expr_code.proofs.Standing.{HasAt, at, has_here}

-- ---- what holds of each part of an expression

counts_kept : (es : Terms) → count es ≤ operands_kept es
counts_kept no_terms = omega arith
counts_kept (then_term e es) = let k = counts_kept es in let l = le-max_right (operands e) (operands_kept es + 1) in omega (arith, k, l)

module _ (p : Places) (distinct : IsDistinct same_name (names_of p.symbols)) (sized : list_all is_sized p.symbols ≡ true) where
  abbrev all_placed : List Ref → Type 0
  all_placed rs = list_all (λ r. is_placed p.symbols r) rs ≡ true

  mutual
    named : (e : Term) → all_placed (term_references e) → Named p e
    named (element r es) h =
        let k = all_parts (λ r. is_placed p.symbols r) (terms_references es) (r ∷ []) h in
        (dimensions_same p.symbols r distinct (and_parts (is_placed p.symbols r) true k.1).0, all_named es k.0)
    named (call g es) h = all_named es h
    named (parentheses e) h = named e h
    named (unary o e) h = named e h
    named (binary o a b) h = let k = all_parts (λ r. is_placed p.symbols r) (term_references a) (term_references b) h in (named a k.0, named b k.1)
    named (constant n) h = tt
    named (truth b) h = tt
    named (parameter x n) h = tt

    all_named : (es : Terms) → all_placed (terms_references es) → AllNamed p es
    all_named no_terms h = tt
    all_named (then_term e es) h = let k = all_parts (λ r. is_placed p.symbols r) (term_references e) (terms_references es) h in (named e k.0, all_named es k.1)

  module _ (code : Code) (variables : HasVariables code p.symbols) (few : length p.symbols ≤ 2 ^ 32) where
    left_few : (a b : ℕ) → max a b ≤ 2 ^ 32 → a ≤ 2 ^ 32
    left_few a b h = let k = le-max_left a b in omega (arith, h, k)

    right_few : (a b : ℕ) → max a b ≤ 2 ^ 32 → b ≤ 2 ^ 32
    right_few a b h = let k = le-max_right a b in omega (arith, h, k)

    next_few : (n : ℕ) → n + 1 ≤ 2 ^ 32 → n ≤ 2 ^ 32
    next_few n h = omega (arith, h)

    mutual
      reaches : (e : Term) → all_placed (term_references e) → operands e ≤ 2 ^ 32 → Reaches code p e
      reaches (element r es) h s =
          let k = all_parts (λ r. is_placed p.symbols r) (terms_references es) (r ∷ []) h in
          let kept = right_few 1 (operands_kept es) s in
          (reach code.variables p.symbols r variables sized few (and_parts (is_placed p.symbols r) true k.1).0, omega (arith, kept, counts_kept es), all_reach es k.0 kept)
      reaches (call Mod es) h s = all_reach es h (right_few 1 (operands_kept es) s)
      reaches (call Abs es) h s = all_reach es h (right_few 1 (operands_kept es) s)
      reaches (call Iabs es) h s = all_reach es h (right_few 1 (operands_kept es) s)
      reaches (call Max es) h s = chosen_reach es h s
      reaches (call Max0 es) h s = chosen_reach es h s
      reaches (call Min es) h s = chosen_reach es h s
      reaches (call Min0 es) h s = chosen_reach es h s
      reaches (parentheses e) h s = reaches e h s
      reaches (unary o e) h s = reaches e h s
      reaches (binary o a b) h s =
          let k = all_parts (λ r. is_placed p.symbols r) (term_references a) (term_references b) h in
          (reaches a k.0 (left_few (operands a) (operands b + 1) s), reaches b k.1 (next_few (operands b) (right_few (operands a) (operands b + 1) s)))
      reaches (constant n) h s = tt
      reaches (truth b) h s = tt
      reaches (parameter x n) h s = tt

      all_reach : (es : Terms) → all_placed (terms_references es) → operands_kept es ≤ 2 ^ 32 → AllReach code p es
      all_reach no_terms h s = tt
      all_reach (then_term e es) h s =
          let k = all_parts (λ r. is_placed p.symbols r) (term_references e) (terms_references es) h in
          (reaches e k.0 (left_few (operands e) (operands_kept es + 1) s), all_reach es k.1 (next_few (operands_kept es) (right_few (operands e) (operands_kept es + 1) s)))

      chosen_reach : (es : Terms) → all_placed (terms_references es) → operands_chosen es ≤ 2 ^ 32 → AllReach code p es
      chosen_reach no_terms h s = tt
      chosen_reach (then_term e es) h s =
          let k = all_parts (λ r. is_placed p.symbols r) (term_references e) (terms_references es) h in
          (reaches e k.0 (left_few (operands e) (operands_further es) s), further_reach es k.1 (right_few (operands e) (operands_further es) s))

      further_reach : (es : Terms) → all_placed (terms_references es) → operands_further es ≤ 2 ^ 32 → AllReach code p es
      further_reach no_terms h s = tt
      further_reach (then_term e es) h s =
          let k = all_parts (λ r. is_placed p.symbols r) (term_references e) (terms_references es) h in
          (reaches e k.0 (next_few (operands e) (left_few (operands e + 1) (operands_further es) s)), further_reach es k.1 (right_few (operands e + 1) (operands_further es) s))

-- ---- steps alone on a store

module _ (X : Type 0) (p : Places) (code : Code) (f : Frame) (store : StoreOf) (end : ℕ) (put : X → List ℤ) where
  -- what a process comes to on the store
  abbrev steps : Steps (Result X Fault)
  steps = record {
    load = λ r c κ. κ (store c.name c.place);
    own = λ r x κ. κ (private_value f x);
    index = λ r κ. κ f.index;
    local = λ a. a;
    fails = λ e. Err e;
  }

  -- the frame comes there alone, at most to the end of the code
  abbrev Comes : Result X Fault → Frame → Type 0
  Comes (Ok v) g = (n : ℕ) × (g.place + n ≡ end) × (alone code store n g ≡ Some (at code f end (put v)))
  Comes (Err e) g = (n : ℕ) × (h : Frame) × (g.place + n ≤ end) × (alone code store n g ≡ Some h) × (h.fault ≡ Some (e, p.line))

  later : (a : Result X Fault) (g h : Frame) → taken_on store (view code g) ≡ Some h → h.place ≡ g.place + 1 → Comes a h → Comes a g
  later (Ok v) g h e next c = (suc c.0, omega (arith, next, c.1), ap (λ (o : Option Frame). and_then o (λ x. alone code store c.0 x)) e ∙ c.2)
  later (Err k) g h e next c = (suc c.0, c.1, omega (arith, next, c.2), ap (λ (o : Option Frame). and_then o (λ x. alone code store c.0 x)) e ∙ c.3, c.4)

  rules : Rules (Result X Fault) steps code f p.line end Comes
  rules = record {
    loads = λ r c κ pc us vs e next. later (κ (store c.name c.place)) (at code f pc us) (at code f (pc + 1) (store c.name c.place ∷ vs)) (ap (taken_on store) e) refl (next (store c.name c.place));
    owns = λ r x κ pc us o is e next.
        later (κ (private_value f x)) (at code f pc us) (at code f (pc + 1) (private_value f x ∷ us))
        (ap (taken_on store) e ∙ ap (λ (v : ℤ). Some (at code f (pc + 1) (v ∷ us))) (sym (ap defined (get_or_from_slice_get f.privates x o None is)))) refl (next (private_value f x));
    indexes = λ r κ pc us e next. later (κ f.index) (at code f pc us) (at code f (pc + 1) (f.index ∷ us)) (ap (taken_on store) e) refl next;
    goes = λ a pc us vs e next. later a (at code f pc us) (at code f (pc + 1) vs) (ap (taken_on store) e) refl next;
    faults = λ e pc us near seen. (1, faulted e p.line (at code f pc us), omega (arith, near), ap (λ (o : Option Frame). and_then o (λ x. Some x)) (ap (taken_on store) seen), refl);
  }

  sees : Means (Result X Fault) steps p (seen_from p f store) (Result X Fault) (λ a. a) (λ e. Err e)
  sees = record {
    loads = λ r n κ h. ap κ (sym (ap (λ (k : Home). held_or k f (store r.name n)) h));
    owns = λ r x κ h. ap κ (sym (ap (λ (k : Home). held_or k f (store r.name 0)) h));
    indexes = λ r κ h. ap κ (sym (ap (λ (k : Home). held_or k f (store r.name 0)) h));
    goes = λ a. refl;
    faults = λ e. refl;
  }

  left : (a : Result X Fault) (lay : X → List ℤ → List ℤ) (before n : ℕ) → before + n ≡ end → ((v : X) → put v ≡ lay v f.operands.items) → f.place ≡ before → f.fault ≡ None → Comes a (at code f before f.operands.items) → Leaves lay p.line code store f n a
  left (Ok v) lay before n e same there sound c =
      let is = sound_frame before there sound in
      let steps_same : c.0 ≡ n = omega (arith, e, c.1) in
      let far : end ≡ f.place + n = omega (arith, e, there) in
      ap (λ (x : Frame). alone code store n x) is
      ∙ ap (λ (k : ℕ). alone code store k (at code f before f.operands.items)) (sym steps_same)
      ∙ c.2
      ∙ ap (λ (us : List ℤ). Some (at code f end us)) (same v)
      ∙ ap (λ (k : ℕ). Some (at code f k (lay v f.operands.items))) far
      ∙ ap (λ (o : Option (Fault × ℕ)). Some (record f { place = f.place + n; operands = with_items (lay v f.operands.items) f.operands; fault = o })) (sym sound)
    where
      sound_frame : (k : ℕ) → f.place ≡ k → f.fault ≡ None → f ≡ at code f k f.operands.items
      sound_frame k e s = ap (λ (j : ℕ). record f { place = j }) e ∙ ap (λ (o : Option (Fault × ℕ)). record f { place = k; fault = o }) s
  left (Err k) lay before n e same there sound c =
      let is = ap (λ (j : ℕ). record f { place = j }) there ∙ ap (λ (o : Option (Fault × ℕ)). record f { place = before; fault = o }) sound in
      (c.0, c.1, omega (arith, e, c.2), ap (λ (x : Frame). alone code store c.0 x) is ∙ c.3, c.4)

-- ---- together

told : {X : Type 0} (r : Result X Fault) → on_all (λ e. Err e) r (λ v. Ok v) ≡ r
told (Ok v) = refl
told (Err e) = refl

told_value : (r : Result ℤ Fault) → on (λ e. Err e) r (λ v. Ok v) ≡ r
told_value (Ok v) = refl
told_value (Err e) = refl

pub computes : (p : Places) (e : Term) → IsDistinct same_name (names_of p.symbols) → list_all is_sized p.symbols ≡ true → Computes p e (term_code p e)
computes p e distinct sized can code before after f store variables stands there fits =
    let st = f.operands.items in
    let end = length before + length (term_code p e) in
    let S = steps ℤ p code f store end (λ v. v ∷ st) in
    let has : HasAt code.instructions end (length before) (term_code p e) = subst (λ (is : List Instr). HasAt is end (length before) (term_code p e)) (sym stands) (has_here before (term_code p e) after end (omega arith)) in
    let come : Comes ℤ p code f store end (λ v. v ∷ st) (term_into (Result ℤ Fault) S p e (λ v. Ok v)) (at code f (length before) st) =
    term_runs (Result ℤ Fault) S code f p.line end (Comes ℤ p code f store end (λ v. v ∷ st)) (rules ℤ p code f store end (λ v. v ∷ st)) p fits.privates can.few_privates refl e (λ v. Ok v) (length before) st
    (reaches p distinct sized code variables can.few_symbols e can.placed can.few_operands) has fits.room (λ v. (0, omega arith, refl)) in
    let means : term_into (Result ℤ Fault) S p e (λ v. Ok v) ≡ value (looked_up p.symbols (seen_from p f store)) e =
    term_meant (Result ℤ Fault) S p (seen_from p f store) (Result ℤ Fault) (λ a. a) (λ k. Err k) (sees ℤ p code f store end (λ v. v ∷ st)) e (λ v. Ok v) (named p distinct sized e can.placed)
    ∙ told_value (value (looked_up p.symbols (seen_from p f store)) e) in
    left ℤ p code f store end (λ v. v ∷ st) (value (looked_up p.symbols (seen_from p f store)) e) (λ v xs. v ∷ xs) (length before) (length (term_code p e)) refl (λ v. refl) there fits.sound
    (subst (λ (a : Result ℤ Fault). Comes ℤ p code f store end (λ v. v ∷ st) a (at code f (length before) st)) means come)

pub locates : (p : Places) (a : Access) → IsDistinct same_name (names_of p.symbols) → list_all is_sized p.symbols ≡ true → Locates p a (target_code p a.ref a.subscripts)
locates p a distinct sized can code before after f store variables stands there fits =
    let st = f.operands.items in
    let ds = dimensions_at p.symbols a.ref.cell in
    let is = target_code p a.ref a.subscripts in
    let end = length before + length is in
    let put : ℕ → List ℤ = λ n. with_place ds n st in
    let S = steps ℕ p code f store end put in
    let has : HasAt code.instructions end (length before) is = subst (λ (js : List Instr). HasAt js end (length before) is) (sym stands) (has_here before is after end (omega arith)) in
    let known = named p distinct sized (accessed a) can.placed in
    let come : Comes ℕ p code f store end put (target_into (Result ℕ Fault) S p a.ref a.subscripts (λ n. Ok n)) (at code f (length before) st) =
    target_runs (Result ℕ Fault) S code f p.line end (Comes ℕ p code f store end put) (rules ℕ p code f store end put) p fits.privates can.few_privates refl a.ref a.subscripts (λ n. Ok n) (length before) st
    (reaches p distinct sized code variables can.few_symbols (accessed a) can.placed can.few_operands) has fits.room (λ n below. (0, omega arith, refl)) in
    let means : target_into (Result ℕ Fault) S p a.ref a.subscripts (λ n. Ok n) ≡ target p.symbols (seen_from p f store) a =
    target_meant (Result ℕ Fault) S p (seen_from p f store) (Result ℕ Fault) (λ k. k) (λ k. Err k) (sees ℕ p code f store end put) a.ref a.subscripts (λ n. Ok n) known
    ∙ told (target p.symbols (seen_from p f store) a) in
    left ℕ p code f store end put (target p.symbols (seen_from p f store) a) (with_place (dimensions_in p.symbols a.ref.name)) (length before) (length is) refl (λ n. ap (λ (fs : List Extent). with_place fs n st) (sym known.0)) there fits.sound
    (subst (λ (r : Result ℕ Fault). Comes ℕ p code f store end put r (at code f (length before) st)) means come)

pub appended : (p : Places) (e : Term) (old new : List Instr) → IsDistinct same_name (names_of p.symbols) → list_all is_sized p.symbols ≡ true → new ≡ old ++ term_code p e → Appended p e old new
appended p e old new distinct sized is = record { more = term_code p e; is = is; computes = computes p e distinct sized }

pub place_appended : (p : Places) (a : Access) (old new : List Instr) → IsDistinct same_name (names_of p.symbols) → list_all is_sized p.symbols ≡ true → new ≡ old ++ target_code p a.ref a.subscripts → PlaceAppended p a old new
place_appended p a old new distinct sized is = record { more = target_code p a.ref a.subscripts; is = is; locates = locates p a distinct sized }
