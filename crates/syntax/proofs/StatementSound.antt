-- What is read of a statement is derived from it.
use Rattle.std.proofs.Common.{◌≡◌, ℕ, zero, suc, ◌+◌, ◌<◌, ◌≤◌, Bool, true, false, cond, eqb, leb, List, [], ◌∷◌, ◌++◌, length, take, drop, Option, Some, None, Result, Ok, refl, sym, ap, subst, ◌∙◌, inl, inr, append_assoc, arith}
use Rattle.std.specs.Prelude.{codes}
use Rattle.std.specs.List.{prefix_len}
use Rattle.std.proofs.lemmas.Bool.{eqb-true, eqb-false, leb-true}
use Rattle.std.proofs.lemmas.List.{append-nil, nil_from_length, take-append-drop, length-take}
use Rattle.ast.specs.Answers.{Break}
use Rattle.ast.specs.Results.{◌>>=◌}
use Rattle.ast.specs.Tree.{Term, Access, PrintItem, value_item, text_item, Bounds, Declarator, Definition, DoHead, Kind, program, integer, dimension, parameters, assign, do_loop, go_on, block_if, else_if, else_arm, end_if, logical_if, print, read, stop, end, Statement}
use Rattle.ast.specs.declared.rule.Rule.TheVariants.{Malformed, Deep}
use Rattle.expressions.specs.Answers.{refuse}
use Rattle.expressions.specs.Characters.{is_digit, begins_digit, after, value}
use Rattle.expressions.specs.Grammar.{IsName, IsAccess, reference_to, Spells, depth_limit}
use Rattle.expressions.specs.Levels.{top}
use Rattle.expressions.specs.Reading.{name_at, wanted_at, end_at, front_at, whole_at, ended, element_at}
use Rattle.expressions.proofs.Sound.{wanted_law, end_law, name_sound, front_sound, element_sound, whole_sound, digits_some}
use Rattle.expressions.proofs.Tools.{done, bind_ok, ok_is, on_true, on_false, choice, joined, front_passes, after_law}
use Rattle.syntax.specs.declared.class.Keyword.{Keyword}
use Rattle.syntax.specs.declared.class.Keyword.TheVariants.{Program, Integer, Dimension, Parameter, Print, Write, Read, ReadUnit, Continue, Else, ElseIf, EndIf, Stop, End, LeftOut}
use Rattle.syntax.specs.Classes as classes
use Rattle.syntax.specs.Classes.{Class, class_of, without_comma, is_word}
use Rattle.syntax.specs.Depths.{depth_of_kind}
use Rattle.syntax.specs.Statements.{AreFurther, AreParts, AreOptional, AreBehindComma, closing, nothing, IsBounds, IsDeclarator, IsArray, IsDefinition, most_digits, IsLabel, IsStep, IsComma, AreParameters, IsDoHead, IsItem, AreFurtherItems, AreItems, is_stop_text, IsKind, is_initial}
use Rattle.syntax.specs.ReadingStatements.{parts_at, closed_list, open_list, listed, list_behind_unit, list_behind_star, upper_at, bounds_at, array_of, array_at, declared_at, declarator_at, definition_at, next_constant, item_at, items_from, items_at, step_at, head_of, do_at, assigned_at, definitions_at, arm_at, else_if_at, whole_name_at, alone, worded_at, class_at, kind_at, initial, shallow, checked_at, statement_at}
use Rattle.syntax.proofs.DoTexts.{do_begins}

-- ---- lists

-- how a part is read, and how a list ends
abbrev pub PartSound : {X : Type 0} → (List ℕ → Result (X × List ℕ) Break) → (X → List ℕ → Type 0) → Type 0
PartSound {X} part Is = (t : List ℕ) (x : X × List ℕ) → part t ≡ Ok x → (u : List ℕ) × (t ≡ u ++ x.1) × Is x.0 u

abbrev EndSound : (List ℕ → Result (List ℕ) Break) → List ℕ → (List ℕ → Type 0) → Type 0
EndSound ending mark R = (t u : List ℕ) → ending t ≡ Ok u → (t ≡ mark ++ u) × R u

-- what was read of a list: its parts, what ends it, and what stands behind that
abbrev ListRead : {X : Type 0} → (X → List ℕ → Type 0) → List ℕ → (List ℕ → Type 0) → List X → List ℕ → List X × List ℕ → Type 0
ListRead {X} Is mark R xs t y = (x : X) × (zs : List X) × (u : List ℕ) × (v : List ℕ) × (y.0 ≡ xs ++ x ∷ zs) × (t ≡ (u ++ v) ++ y.1) × Is x u × AreFurther Is mark zs v × R y.1

list_ends : {X : Type 0} (Is : X → List ℕ → Type 0) (mark : List ℕ) (R : List ℕ → Type 0) (xs : List X) (t u : List ℕ) (x : X × List ℕ) (r : List ℕ) (y : List X × List ℕ) → t ≡ u ++ x.1 → Is x.0 u → x.1 ≡ mark ++ r → R r → done (xs ++ x.0 ∷ [], r) ≡ Ok y → ListRead Is mark R xs t y
list_ends {X} Is mark R xs t u x r y cut is ends left e =
    subst (λ (z : List X × List ℕ). ListRead Is mark R xs t z) (ok_is (xs ++ x.0 ∷ [], r) y e) (x.0, [], u, mark, refl, joined t u x.1 mark r cut ends, is, refl, left)

list_goes_on : {X : Type 0} (Is : X → List ℕ → Type 0) (mark : List ℕ) (R : List ℕ → Type 0) (xs : List X) (t u : List ℕ) (x : X × List ℕ) (r : List ℕ) (y : List X × List ℕ) → t ≡ u ++ x.1 → Is x.0 u → x.1 ≡ codes "," ++ r → ListRead Is mark R (xs ++ x.0 ∷ []) r y → ListRead Is mark R xs t y
list_goes_on Is mark R xs t u x r y cut is comma more =
    let behind : x.1 ≡ (44 ∷ (more.2 ++ more.3)) ++ y.1 = comma ∙ ap (λ (w : List ℕ). 44 ∷ w) more.5 in
    (x.0, more.0 ∷ more.1, u, 44 ∷ (more.2 ++ more.3), more.4 ∙ append_assoc xs (x.0 ∷ []) (more.0 ∷ more.1), joined t u x.1 (44 ∷ (more.2 ++ more.3)) y.1 cut behind, is, (more.2, more.3, refl, more.6, more.7), more.8)

parts_sound : {X : Type 0} (line : ℕ) (part : List ℕ → Result (X × List ℕ) Break) (ending : List ℕ → Result (List ℕ) Break) (Is : X → List ℕ → Type 0) (mark : List ℕ) (R : List ℕ → Type 0) → PartSound part Is → EndSound ending mark R
    → (n : ℕ) (xs : List X) (t : List ℕ) (y : List X × List ℕ) → parts_at line part ending n xs t ≡ Ok y → ListRead Is mark R xs t y
parts_sound line part ending Is mark R sound ends zero xs t y e = absurd cc
parts_sound {X} line part ending Is mark R sound ends (suc n) xs t y e =
    let next : X × List ℕ → Result (List X × List ℕ) Break = λ x. elim (after (codes ",") x.1) [ Some u ↦ parts_at line part ending n (xs ++ x.0 ∷ []) u | None ↦ ending x.1 >>= λ u. Ok (xs ++ x.0 ∷ [], u) ] in
    let b = bind_ok (part t) next y e in
    let s = sound t b.0 b.1 in
    go b.0 s.0 s.1 s.2 (after (codes ",") b.0.1) refl b.2 (λ u f. parts_sound line part ending Is mark R sound ends n (xs ++ b.0.0 ∷ []) u y f)
  where
    go : (x : X × List ℕ) (v : List ℕ) → t ≡ v ++ x.1 → Is x.0 v → (o : Option (List ℕ)) → after (codes ",") x.1 ≡ o
        → ◌≡◌ {A = Result (List X × List ℕ) Break} (elim o [ Some u ↦ parts_at line part ending n (xs ++ x.0 ∷ []) u | None ↦ ending x.1 >>= λ u. Ok (xs ++ x.0 ∷ [], u) ]) (Ok y)
        → ((u : List ℕ) → parts_at line part ending n (xs ++ x.0 ∷ []) u ≡ Ok y → ListRead Is mark R (xs ++ x.0 ∷ []) u y)
        → ListRead Is mark R xs t y
    go x v cut is (Some u) comma f more = list_goes_on Is mark R xs t v x u y cut is (after_law (codes ",") x.1 u comma) (more u f)
    go x v cut is None comma f more =
        let b = bind_ok (ending x.1) (λ u. done (xs ++ x.0 ∷ [], u)) y f in
        let l = ends x.1 b.0 b.1 in
        list_ends Is mark R xs t v x b.0 y cut is l.0 l.1 b.2

abbrev Any : List ℕ → Type 0
Any u = Unit {0}

abbrev IsEmpty : List ℕ → Type 0
IsEmpty u = u ≡ []

closes : (line : ℕ) → EndSound (wanted_at line closing) closing Any
closes line t u e = (wanted_law line closing t u e, tt)

ends_text : (line : ℕ) → EndSound (end_at line) nothing IsEmpty
ends_text line t u e = let l = end_law line t u e in (l.0 ∙ sym l.1, l.1)

pub closed_sound : {X : Type 0} (line : ℕ) (part : List ℕ → Result (X × List ℕ) Break) (Is : X → List ℕ → Type 0) → PartSound part Is → (t : List ℕ) (y : List X × List ℕ) → closed_list line part t ≡ Ok y
    → (u : List ℕ) × (t ≡ u ++ y.1) × AreParts Is closing y.0 u
closed_sound {X} line part Is sound t y e =
    let l = parts_sound line part (wanted_at line closing) Is closing Any sound (closes line) (length t + 1) [] t y e in
    (l.2 ++ l.3, l.5, subst (λ (ys : List X). AreParts Is closing ys (l.2 ++ l.3)) (sym l.4) (l.2, l.3, refl, l.6, l.7))

open_sound : {X : Type 0} (line : ℕ) (part : List ℕ → Result (X × List ℕ) Break) (Is : X → List ℕ → Type 0) → PartSound part Is → (t : List ℕ) (y : List X) → open_list line part t ≡ Ok y → AreParts Is nothing y t
open_sound {X} line part Is sound t y e =
    let b = bind_ok (parts_at line part (end_at line) (length t + 1) [] t) (λ x. done x.0) y e in
    let l = parts_sound line part (end_at line) Is nothing IsEmpty sound (ends_text line) (length t + 1) [] t b.0 b.1 in
    let whole : t ≡ l.2 ++ l.3 = l.5 ∙ ap (λ (w : List ℕ). (l.2 ++ l.3) ++ w) l.8 ∙ append-nil (l.2 ++ l.3) in
    subst (λ (ys : List X). AreParts Is nothing ys t) (sym l.4 ∙ ok_is b.0.0 y b.2) (l.2, l.3, whole, l.6, l.7)

-- ---- optional lists

-- a list of items or of elements may be absent
listed_sound : {X : Type 0} (list : List ℕ → Result (List X) Break) (Are : List X → List ℕ → Type 0) → ((t : List ℕ) (ys : List X) → list t ≡ Ok ys → Are ys t) → ((t : List ℕ) → Are [] t → ⊥)
    → (t : List ℕ) (ys : List X) → listed list (list_behind_unit t) ≡ Ok ys → AreOptional Are ys t
listed_sound {X} list Are sound some t ys e = go (eqb (length t) 0) refl e
  where
    whole : (ys : List X) → list t ≡ Ok ys → AreOptional Are ys t
    whole [] f = absurd (some t (sound t [] f))
    whole (y ∷ ys) f = sound t (y ∷ ys) f

    go : (b : Bool) → eqb (length t) 0 ≡ b → listed list (cond b None (Some t)) ≡ Ok ys → AreOptional Are ys t
    go true none f = subst (λ (zs : List X). AreOptional Are zs t) (ok_is [] ys f) (nil_from_length t (eqb-true _ _ none))
    go false more f = whole ys f

behind_comma_sound : {X : Type 0} (line : ℕ) (list : List ℕ → Result (List X) Break) (Are : List X → List ℕ → Type 0) → ((t : List ℕ) (ys : List X) → list t ≡ Ok ys → Are ys t) → ((t : List ℕ) → Are [] t → ⊥)
    → (t : List ℕ) (ys : List X) → (list_behind_star line t >>= listed list) ≡ Ok ys → AreBehindComma Are ys t
behind_comma_sound {X} line list Are sound some t ys e =
    let b = bind_ok (list_behind_star line t) (listed list) ys e in
    elim (choice (eqb (length t) 0) (Ok None) (elim (after (codes ",") t) [ Some u ↦ Ok (Some u) | None ↦ refuse line Malformed ]) (Ok b.0) b.1) [
      | on_true none f ↦
          let is : listed list None ≡ Ok ys = ap (listed list) (ok_is None b.0 f) ∙ b.2 in
          subst (λ (zs : List X). AreBehindComma Are zs t) (ok_is [] ys is) (nil_from_length t (eqb-true _ _ none))
      | on_false more f ↦ go b.0 b.2 (after (codes ",") t) refl f
    ]
  where
    whole : (u : List ℕ) → t ≡ codes "," ++ u → (ys : List X) → list u ≡ Ok ys → AreBehindComma Are ys t
    whole u comma [] f = absurd (some u (sound u [] f))
    whole u comma (y ∷ ys) f = (u, comma, sound u (y ∷ ys) f)

    go : (a : Option (List ℕ)) → listed list a ≡ Ok ys → (o : Option (List ℕ)) → after (codes ",") t ≡ o → ◌≡◌ {A = Result (Option (List ℕ)) Break} (elim o [ Some u ↦ Ok (Some u) | None ↦ refuse line Malformed ]) (Ok a) → AreBehindComma Are ys t
    go a got None is f = absurd cc
    go a got (Some u) is f = whole u (after_law (codes ",") t u is) ys (ap (listed list) (ok_is (Some u) a f) ∙ got)

-- ---- parts

upper_sound : (line : ℕ) (e : Term) (t u r : List ℕ) (x : Bounds × List ℕ) → t ≡ u ++ r → Spells top e u → upper_at line e r ≡ Ok x → (v : List ℕ) × (t ≡ v ++ x.1) × IsBounds x.0 v
upper_sound line e t u r x cut is f = go (after (codes ":") r) refl f
  where
    go : (o : Option (List ℕ)) → after (codes ":") r ≡ o
        → ◌≡◌ {A = Result (Bounds × List ℕ) Break} (elim o [ Some v ↦ front_at line v >>= λ y. Ok (record { lower = Some e; upper = y.0 }, y.1) | None ↦ Ok (record { lower = None; upper = e }, r) ]) (Ok x)
        → (v : List ℕ) × (t ≡ v ++ x.1) × IsBounds x.0 v
    go None colon g = subst (λ (z : Bounds × List ℕ). (v : List ℕ) × (t ≡ v ++ z.1) × IsBounds z.0 v) (ok_is (record { lower = None; upper = e }, r) x g) (u, cut, is)
    go (Some v) colon g =
        let b = bind_ok (front_at line v) (λ y. done (record { lower = Some e; upper = y.0 }, y.1)) x g in
        let s = front_sound line v b.0 b.1 in
        let behind : r ≡ (58 ∷ s.0) ++ b.0.1 = after_law (codes ":") r v colon ∙ ap (λ (w : List ℕ). 58 ∷ w) s.1 in
        subst (λ (z : Bounds × List ℕ). (v : List ℕ) × (t ≡ v ++ z.1) × IsBounds z.0 v) (ok_is (record { lower = Some e; upper = b.0.0 }, b.0.1) x b.2)
        (u ++ 58 ∷ s.0, joined t u r (58 ∷ s.0) b.0.1 cut behind, (u, s.0, refl, is, s.2))

pub bounds_sound : (line : ℕ) → PartSound (bounds_at line) IsBounds
bounds_sound line t x e =
    let b = bind_ok (front_at line t) (λ y. upper_at line y.0 y.1) x e in
    let s = front_sound line t b.0 b.1 in
    upper_sound line b.0.0 t s.0 b.0.1 x s.1 s.2 b.2

-- a name with bounds, behind whose parenthesis the text u stands
array_of_sound : (line : ℕ) (t n r u : List ℕ) (name : List ℕ) (x : Declarator × List ℕ) → t ≡ n ++ r → IsName name n → r ≡ codes "(" ++ u → array_of line name u ≡ Ok x → (v : List ℕ) × (t ≡ v ++ x.1) × IsArray x.0 v
array_of_sound line t n r u name x cut is opened e =
    let b = bind_ok (closed_list line (bounds_at line) u) (λ y. done (record { name = name; bounds = y.0 }, y.1)) x e in
    let s = closed_sound line (bounds_at line) IsBounds (bounds_sound line) u b.0 b.1 in
    let behind : r ≡ (40 ∷ s.0) ++ b.0.1 = opened ∙ ap (λ (w : List ℕ). 40 ∷ w) s.1 in
    subst (λ (z : Declarator × List ℕ). (v : List ℕ) × (t ≡ v ++ z.1) × IsArray z.0 v) (ok_is (record { name = name; bounds = b.0.0 }, b.0.1) x b.2)
    (n ++ 40 ∷ s.0, joined t n r (40 ∷ s.0) b.0.1 cut behind, whole b.0.0 s.0 s.2)
  where
    whole : (bs : List Bounds) (w : List ℕ) → AreParts IsBounds closing bs w → IsArray (record { name = name; bounds = bs }) (n ++ 40 ∷ w)
    whole [] w h = absurd h
    whole (c ∷ cs) w h = (omega arith, (n, 40 ∷ w, refl, is, (w, refl, h)))

pub array_sound : (line : ℕ) → PartSound (array_at line) IsArray
array_sound line t x e =
    let next : List ℕ × List ℕ → Result (Declarator × List ℕ) Break = λ y. wanted_at line (codes "(") y.1 >>= λ u. array_of line y.0 u in
    let b = bind_ok (name_at line t) next x e in
    let s = name_sound line t b.0 b.1 in
    let c = bind_ok (wanted_at line (codes "(") b.0.1) (array_of line b.0.0) x b.2 in
    array_of_sound line t s.0 b.0.1 c.0 b.0.0 x s.1 s.2 (wanted_law line (codes "(") b.0.1 c.0 c.1) c.2

declared_sound : (line : ℕ) (t n r : List ℕ) (name : List ℕ) (x : Declarator × List ℕ) → t ≡ n ++ r → IsName name n → declared_at line name r ≡ Ok x → (v : List ℕ) × (t ≡ v ++ x.1) × IsDeclarator x.0 v
declared_sound line t n r name x cut is e = go (after (codes "(") r) refl e
  where
    go : (o : Option (List ℕ)) → after (codes "(") r ≡ o → ◌≡◌ {A = Result (Declarator × List ℕ) Break} (elim o [ Some u ↦ array_of line name u | None ↦ Ok (record { name = name; bounds = [] }, r) ]) (Ok x)
        → (v : List ℕ) × (t ≡ v ++ x.1) × IsDeclarator x.0 v
    go None opened f = subst (λ (z : Declarator × List ℕ). (v : List ℕ) × (t ≡ v ++ z.1) × IsDeclarator z.0 v) (ok_is (record { name = name; bounds = [] }, r) x f) (n, cut, (n, [], sym (append-nil n), is, refl))
    go (Some u) opened f = let s = array_of_sound line t n r u name x cut is (after_law (codes "(") r u opened) f in (s.0, s.1, s.2.1)

pub declarator_sound : (line : ℕ) → PartSound (declarator_at line) IsDeclarator
declarator_sound line t x e =
    let b = bind_ok (name_at line t) (λ y. declared_at line y.0 y.1) x e in
    let s = name_sound line t b.0 b.1 in
    declared_sound line t s.0 b.0.1 b.0.0 x s.1 s.2 b.2

definition_made : (name t rest u others spelled written : List ℕ) (e : Term) (x : Definition × List ℕ)
    → t ≡ spelled ++ rest → IsName name spelled → rest ≡ 61 ∷ u → u ≡ written ++ others → Spells top e written
    → done {A = Definition × List ℕ} (record { name = name; value = e }, others) ≡ Ok x → (v : List ℕ) × (t ≡ v ++ x.1) × IsDefinition x.0 v
definition_made name t rest u others spelled written e x is named at behind spells made =
    subst (λ (z : Definition × List ℕ). (v : List ℕ) × (t ≡ v ++ z.1) × IsDefinition z.0 v) (ok_is (record { name = name; value = e }, others) x made)
    (spelled ++ 61 ∷ written, joined t spelled rest (61 ∷ written) others is (at ∙ ap (λ (w : List ℕ). 61 ∷ w) behind), (spelled, written, refl, named, spells))

pub definition_sound : (line : ℕ) → PartSound (definition_at line) IsDefinition
definition_sound line t x e =
    let value_of : List ℕ → List ℕ → Result (Definition × List ℕ) Break = λ name u. front_at line u >>= λ y. Ok (record { name = name; value = y.0 }, y.1) in
    let next : List ℕ × List ℕ → Result (Definition × List ℕ) Break = λ y. wanted_at line (codes "=") y.1 >>= λ u. value_of y.0 u in
    let b = bind_ok (name_at line t) next x e in
    let s = name_sound line t b.0 b.1 in
    let c = bind_ok (wanted_at line (codes "=") b.0.1) (value_of b.0.0) x b.2 in
    let d = bind_ok (front_at line c.0) (λ y. done (record { name = b.0.0; value = y.0 }, y.1)) x c.2 in
    let v = front_sound line c.0 d.0 d.1 in
    definition_made b.0.0 t b.0.1 c.0 d.0.1 s.0 v.0 d.0.0 x s.1 s.2 (wanted_law line (codes "=") b.0.1 c.0 c.1) v.1 v.2 d.2

-- ---- items

abbrev Next : List (List ℕ) → PrintItem × List (List ℕ) → Type 0
Next cs y = (s : List ℕ) × (y.0 ≡ text_item s) × (cs ≡ s ∷ y.1) × (0 < length s)

next_law : (line : ℕ) (cs : List (List ℕ)) (y : PrintItem × List (List ℕ)) → next_constant line cs ≡ Ok y → Next cs y
next_law line [] y e = absurd cc
next_law line (s ∷ cs) y e =
    elim (choice (eqb (length s) 0) (refuse line Malformed) (Ok (text_item s, cs)) (Ok y) e) [
      | on_true none is ↦ absurd cc
      | on_false some is ↦
          let long : 0 < length s = omega (arith, eqb-false (length s) 0 some) in
          subst (λ (z : PrintItem × List (List ℕ)). Next (s ∷ cs) z) (ok_is (text_item s, cs) y is) (s, refl, refl, long)
    ]

abbrev pub ItemRead : List ℕ → List (List ℕ) → PrintItem × List ℕ × List (List ℕ) → Type 0
ItemRead t cs x = (u : List ℕ) × (t ≡ u ++ x.1) × IsItem x.0 u cs x.2

pub item_sound : (line : ℕ) (t : List ℕ) (cs : List (List ℕ)) (x : PrintItem × List ℕ × List (List ℕ)) → item_at line t cs ≡ Ok x → ItemRead t cs x
item_sound line t cs x e = go (after (codes "'") t) refl e
  where
    go : (o : Option (List ℕ)) → after (codes "'") t ≡ o
        → ◌≡◌ {A = Result (PrintItem × List ℕ × List (List ℕ)) Break} (elim o [ None ↦ front_at line t >>= λ y. Ok (value_item y.0, y.1, cs) | Some u ↦ next_constant line cs >>= λ y. Ok (y.0, u, y.1) ]) (Ok x)
        → ItemRead t cs x
    go None quote f =
        let b = bind_ok (front_at line t) (λ y. done (value_item y.0, y.1, cs)) x f in
        let s = front_sound line t b.0 b.1 in
        subst (λ (z : PrintItem × List ℕ × List (List ℕ)). ItemRead t cs z) (ok_is (value_item b.0.0, b.0.1, cs) x b.2) (s.0, s.1, (s.2, refl))
    go (Some u) quote f =
        let b = bind_ok (next_constant line cs) (λ y. done (y.0, u, y.1)) x f in
        let n = next_law line cs b.0 b.1 in
        subst (λ (z : PrintItem × List ℕ × List (List ℕ)). ItemRead t cs z) (ok_is (b.0.0, u, b.0.1) x b.2)
        (codes "'", after_law (codes "'") t u quote, subst (λ (i : PrintItem). IsItem i (codes "'") cs b.0.1) (sym n.1) (refl, n.2, n.3))

abbrev ItemsRead : List PrintItem → List ℕ → List (List ℕ) → List PrintItem → Type 0
ItemsRead is t cs ys = (i : PrintItem) × (js : List PrintItem) × (u : List ℕ) × (v : List ℕ) × (left : List (List ℕ)) × (ys ≡ is ++ i ∷ js) × (t ≡ u ++ v) × IsItem i u cs left × AreFurtherItems left js v

items_sound : (line n : ℕ) (is : List PrintItem) (t : List ℕ) (cs : List (List ℕ)) (ys : List PrintItem) → items_from line n is t cs ≡ Ok ys → ItemsRead is t cs ys
items_sound line zero is t cs ys e = absurd cc
items_sound line (suc n) is t cs ys e =
    let next : PrintItem × List ℕ × List (List ℕ) → Result (List PrintItem) Break = λ x. elim (after (codes ",") x.1) [ Some u ↦ items_from line n (is ++ x.0 ∷ []) u x.2 | None ↦ end_at line x.1 >>= λ u. Ok (is ++ x.0 ∷ []) ] in
    let b = bind_ok (item_at line t cs) next ys e in
    let s = item_sound line t cs b.0 b.1 in
    go b.0 s.0 s.1 s.2 (after (codes ",") b.0.1) refl b.2 (λ u f. items_sound line n (is ++ b.0.0 ∷ []) u b.0.2 ys f)
  where
    go : (x : PrintItem × List ℕ × List (List ℕ)) (v : List ℕ) → t ≡ v ++ x.1 → IsItem x.0 v cs x.2 → (o : Option (List ℕ)) → after (codes ",") x.1 ≡ o
        → ◌≡◌ {A = Result (List PrintItem) Break} (elim o [ Some u ↦ items_from line n (is ++ x.0 ∷ []) u x.2 | None ↦ end_at line x.1 >>= λ u. Ok (is ++ x.0 ∷ []) ]) (Ok ys)
        → ((u : List ℕ) → items_from line n (is ++ x.0 ∷ []) u x.2 ≡ Ok ys → ItemsRead (is ++ x.0 ∷ []) u x.2 ys)
        → ItemsRead is t cs ys
    go x v cut item (Some u) comma f more =
        let m = more u f in
        let behind : x.1 ≡ 44 ∷ (m.2 ++ m.3) = after_law (codes ",") x.1 u comma ∙ ap (λ (w : List ℕ). 44 ∷ w) m.6 in
        (x.0, m.0 ∷ m.1, v, 44 ∷ (m.2 ++ m.3), x.2, m.5 ∙ append_assoc is (x.0 ∷ []) (m.0 ∷ m.1), cut ∙ ap (λ (w : List ℕ). v ++ w) behind, item, (m.2, m.3, m.4, refl, m.7, m.8))
    go x v cut item None comma f more =
        let b = bind_ok (end_at line x.1) (λ u. done (is ++ x.0 ∷ [])) ys f in
        let l = end_law line x.1 b.0 b.1 in
        (x.0, [], v, [], x.2, sym (ok_is (is ++ x.0 ∷ []) ys b.2), cut ∙ ap (λ (w : List ℕ). v ++ w) l.0, item, refl)

items_at_sound : (line : ℕ) (cs : List (List ℕ)) (t : List ℕ) (ys : List PrintItem) → items_at line cs t ≡ Ok ys → AreItems cs ys t
items_at_sound line cs t ys e =
    let l = items_sound line (length t + 1) [] t cs ys e in
    subst (λ (zs : List PrintItem). AreItems cs zs t) (sym l.5) (l.2, l.3, l.4, l.6, l.7, l.8)

-- ---- DO

step_sound : (line : ℕ) (t : List ℕ) (s : Option Term) → step_at line t ≡ Ok s → IsStep s t
step_sound line t s e =
    elim (choice (eqb (length t) 0) (Ok None) (wanted_at line (codes ",") t >>= λ u. whole_at line u >>= λ x. Ok (Some x)) (Ok s) e) [
      | on_true none f ↦ subst (λ (z : Option Term). IsStep z t) (ok_is None s f) (nil_from_length t (eqb-true _ _ none))
      | on_false more f ↦
          let next : List ℕ → Result (Option Term) Break = λ u. whole_at line u >>= λ x. Ok (Some x) in
          let b = bind_ok (wanted_at line (codes ",") t) next s f in
          let c = bind_ok (whole_at line b.0) (λ x. done (Some x)) s b.2 in
          subst (λ (z : Option Term). IsStep z t) (ok_is (Some c.0) s c.2) (b.0, wanted_law line (codes ",") t b.0 b.1, whole_sound line b.0 c.0 c.1)
    ]

head_made : (label : ℕ) (name t rest u others spelled written : List ℕ) (a b : Term) (s : Option Term) (h : DoHead)
    → t ≡ spelled ++ rest → Spells top a spelled → rest ≡ 44 ∷ u → u ≡ written ++ others → Spells top b written → IsStep s others
    → done (record { terminal = label; variable = reference_to name; first = a; last = b; step = s }) ≡ Ok h → (h.terminal ≡ label) × (h.variable ≡ reference_to name) × AreParameters h t
head_made label name t rest u others spelled written a b s h is first_is at behind last_is step_is made =
    subst (λ (z : DoHead). (z.terminal ≡ label) × (z.variable ≡ reference_to name) × AreParameters z t) (ok_is (record { terminal = label; variable = reference_to name; first = a; last = b; step = s }) h made)
    (refl, refl, (spelled, written, others, is ∙ ap (λ (w : List ℕ). spelled ++ w) (at ∙ ap (λ (w : List ℕ). 44 ∷ w) behind), first_is, last_is, step_is))

head_sound : (line label : ℕ) (name t : List ℕ) (h : DoHead) → head_of line label name t ≡ Ok h → (h.terminal ≡ label) × (h.variable ≡ reference_to name) × AreParameters h t
head_sound line label name t h e =
    let made : Term → Term → Option Term → DoHead = λ a b s. record { terminal = label; variable = reference_to name; first = a; last = b; step = s } in
    let third : Term → Term × List ℕ → Result DoHead Break = λ a b. step_at line b.1 >>= λ s. Ok (made a b.0 s) in
    let second : Term → List ℕ → Result DoHead Break = λ a u. front_at line u >>= λ b. third a b in
    let first : Term × List ℕ → Result DoHead Break = λ a. wanted_at line (codes ",") a.1 >>= λ u. second a.0 u in
    let a = bind_ok (front_at line t) first h e in
    let first_is = front_sound line t a.0 a.1 in
    let c = bind_ok (wanted_at line (codes ",") a.0.1) (second a.0.0) h a.2 in
    let b = bind_ok (front_at line c.0) (third a.0.0) h c.2 in
    let last_is = front_sound line c.0 b.0 b.1 in
    let s = bind_ok (step_at line b.0.1) (λ s. done (made a.0.0 b.0.0 s)) h b.2 in
    head_made label name t a.0.1 c.0 b.0.1 first_is.0 last_is.0 a.0.0 b.0.0 s.0 h first_is.1 first_is.2 (wanted_law line (codes ",") a.0.1 c.0 c.1) last_is.1 last_is.2 (step_sound line b.0.1 s.0 s.1) s.2

comma_law : (t : List ℕ) → (c : List ℕ) × (t ≡ c ++ without_comma t) × IsComma c
comma_law t = go (after (codes ",") t) refl
  where
    go : (o : Option (List ℕ)) → after (codes ",") t ≡ o → (c : List ℕ) × (t ≡ c ++ elim o as (λ x. List ℕ) [ Some u ↦ u | None ↦ t ]) × IsComma c
    go None is = ([], refl, inl refl)
    go (Some u) is = (codes ",", after_law (codes ",") t u is, inr refl)

do_sound : (line : ℕ) (t : List ℕ) (h : DoHead) → begins_digit t ≡ true → do_at line t ≡ Ok h → IsDoHead h t
do_sound line t h digit e =
    let n = prefix_len is_digit t in
    let rest = drop n t in
    let next : List ℕ × List ℕ → Result DoHead Break = λ x. wanted_at line (codes "=") x.1 >>= λ u. head_of line (value (take n t)) x.0 u in
    elim (choice (leb n most_digits) (name_at line (without_comma rest) >>= next) (refuse line Malformed) (Ok h) e) [
      | on_true few f ↦
          let b = bind_ok (name_at line (without_comma rest)) next h f in
          let s = name_sound line (without_comma rest) b.0 b.1 in
          let w = bind_ok (wanted_at line (codes "=") b.0.1) (head_of line (value (take n t)) b.0.0) h b.2 in
          let p = head_sound line (value (take n t)) b.0.0 w.0 h w.2 in
          let c = comma_law rest in
          let named : without_comma rest ≡ s.0 ++ 61 ∷ w.0 = s.1 ∙ ap (λ (l : List ℕ). s.0 ++ l) (wanted_law line (codes "=") b.0.1 w.0 w.1) in
          let cut : t ≡ take n t ++ (c.0 ++ (s.0 ++ 61 ∷ w.0)) = sym (take-append-drop n t) ∙ ap (λ (l : List ℕ). take n t ++ l) (c.1 ∙ ap (λ (l : List ℕ). c.0 ++ l) named) in
          let label : IsLabel h.terminal (take n t) = (digits_some t digit, front_passes is_digit t, omega (arith, leb-true n most_digits few, length-take n t), p.0) in
          (take n t, c.0, s.0, w.0, cut, label, c.2, (b.0.0, s.2, p.1), p.2)
      | on_false many f ↦ absurd cc
    ]

-- ---- statements

assigned_sound : (line : ℕ) (t : List ℕ) (k : Kind) → assigned_at line t ≡ Ok k → (a : Access) × (x : Term) × (u : List ℕ) × (v : List ℕ) × (k ≡ assign a x) × (t ≡ u ++ 61 ∷ v) × IsAccess a u × Spells top x v
assigned_sound line t k e =
    let value_of : Access → List ℕ → Result Kind Break = λ a u. whole_at line u >>= λ x. Ok (assign a x) in
    let next : Access × List ℕ → Result Kind Break = λ x. wanted_at line (codes "=") x.1 >>= λ u. value_of x.0 u in
    let b = bind_ok (element_at line t) next k e in
    let s = element_sound line t b.0 b.1 in
    let c = bind_ok (wanted_at line (codes "=") b.0.1) (value_of b.0.0) k b.2 in
    let d = bind_ok (whole_at line c.0) (λ x. done (assign b.0.0 x)) k c.2 in
    (b.0.0, d.0, s.0, c.0, sym (ok_is (assign b.0.0 d.0) k d.2), s.1 ∙ ap (λ (l : List ℕ). s.0 ++ l) (wanted_law line (codes "=") b.0.1 c.0 c.1), s.2, whole_sound line c.0 d.0 d.1)

definitions_sound : (line : ℕ) (t : List ℕ) (ds : List Definition) → definitions_at line t ≡ Ok ds → (u : List ℕ) × (t ≡ codes "(" ++ u) × AreParts IsDefinition closing ds u
definitions_sound line t ds e = go (after (codes "(") t) refl e
  where
    go : (o : Option (List ℕ)) → after (codes "(") t ≡ o
        → ◌≡◌ {A = Result (List Definition) Break} (elim o [ Some u ↦ closed_list line (definition_at line) u >>= λ x. end_at line x.1 >>= λ v. Ok x.0 | None ↦ refuse line Malformed ]) (Ok ds)
        → (u : List ℕ) × (t ≡ codes "(" ++ u) × AreParts IsDefinition closing ds u
    go None is f = absurd cc
    go (Some u) is f =
        let next : List Definition × List ℕ → Result (List Definition) Break = λ x. end_at line x.1 >>= λ v. Ok x.0 in
        let b = bind_ok (closed_list line (definition_at line) u) next ds f in
        let s = closed_sound line (definition_at line) IsDefinition (definition_sound line) u b.0 b.1 in
        let c = bind_ok (end_at line b.0.1) (λ v. done b.0.0) ds b.2 in
        let whole : u ≡ s.0 = s.1 ∙ ap (λ (w : List ℕ). s.0 ++ w) (end_law line b.0.1 c.0 c.1).0 ∙ append-nil s.0 in
        (u, after_law (codes "(") t u is, subst (λ (w : List ℕ). AreParts IsDefinition closing ds w) (sym whole) (subst (λ (xs : List Definition). AreParts IsDefinition closing xs s.0) (ok_is b.0.0 ds c.2) s.2))

word_law : (word t : List ℕ) → is_word word t ≡ true → t ≡ word
word_law word t e = go (after word t) refl e
  where
    go : (o : Option (List ℕ)) → after word t ≡ o → ◌≡◌ {A = Bool} (elim o [ Some u ↦ eqb (length u) 0 | None ↦ false ]) true → t ≡ word
    go None is f = absurd cc
    go (Some u) is f = after_law word t u is ∙ ap (λ (w : List ℕ). word ++ w) (nil_from_length u (eqb-true (length u) 0 f)) ∙ append-nil word

else_if_sound : (line : ℕ) (t : List ℕ) (k : Kind) → else_if_at line t ≡ Ok k → (e : Term) × (u : List ℕ) × (k ≡ else_if e) × (t ≡ codes "(" ++ u ++ codes ")THEN") × Spells top e u
else_if_sound line t k e = go (after (codes "(") t) refl e
  where
    go : (o : Option (List ℕ)) → after (codes "(") t ≡ o → ◌≡◌ {A = Result Kind Break} (elim o [ Some u ↦ arm_at line u | None ↦ refuse line Malformed ]) (Ok k)
        → (e : Term) × (u : List ℕ) × (k ≡ else_if e) × (t ≡ codes "(" ++ u ++ codes ")THEN") × Spells top e u
    go None is f = absurd cc
    go (Some r) is f =
        let last : Term → List ℕ → Result Kind Break = λ x u. cond (is_word (codes "THEN") u) (Ok (else_if x)) (refuse line Malformed) in
        let next : Term × List ℕ → Result Kind Break = λ x. wanted_at line (codes ")") x.1 >>= λ u. last x.0 u in
        let b = bind_ok (front_at line r) next k f in
        let s = front_sound line r b.0 b.1 in
        let c = bind_ok (wanted_at line (codes ")") b.0.1) (last b.0.0) k b.2 in
        elim (choice (is_word (codes "THEN") c.0) (Ok (else_if b.0.0)) (refuse line Malformed) (Ok k) c.2) [
          | on_true then_word g ↦
              let behind : b.0.1 ≡ codes ")THEN" = wanted_law line (codes ")") b.0.1 c.0 c.1 ∙ ap (λ (w : List ℕ). 41 ∷ w) (word_law (codes "THEN") c.0 then_word) in
              (b.0.0, s.0, sym (ok_is (else_if b.0.0) k g), after_law (codes "(") t r is ∙ ap (λ (w : List ℕ). 40 ∷ w) (s.1 ∙ ap (λ (w : List ℕ). s.0 ++ w) behind), s.2)
          | on_false other g ↦ absurd cc
        ]

alone_sound : (line : ℕ) (k : Kind) (t : List ℕ) (x : Kind) → alone line k t ≡ Ok x → (x ≡ k) × (t ≡ [])
alone_sound line k t x e =
    elim (choice (eqb (length t) 0) (Ok k) (refuse line Malformed) (Ok x) e) [
      | on_true none f ↦ (sym (ok_is k x f), nil_from_length t (eqb-true _ _ none))
      | on_false more f ↦ absurd cc
    ]

-- a list that was read as nothing is no list
no_items : (cs : List (List ℕ)) (t : List ℕ) → AreItems cs [] t → ⊥
no_items cs t h = h

no_elements : (t : List ℕ) → AreParts IsAccess nothing [] t → ⊥
no_elements t h = h

moved : (k x : Kind) (t : List ℕ) (cs : List (List ℕ)) → k ≡ x → IsKind k t cs → IsKind x t cs
moved k x t cs e h = subst (λ (z : Kind). IsKind z t cs) e h

worded_sound : (line : ℕ) (w : Keyword) (u t : List ℕ) (cs : List (List ℕ)) (k : Kind) → class_of t ≡ classes.worded w u → worded_at line w u cs ≡ Ok k → IsKind k t cs
worded_sound line Program u t cs k is e =
    let b = bind_ok (whole_name_at line u) (λ x. done (program x)) k e in
    let c = bind_ok (name_at line u) (ended line) b.0 b.1 in
    let s = name_sound line u c.0 c.1 in
    let d = bind_ok (end_at line c.0.1) (λ v. done c.0.0) b.0 c.2 in
    let whole : u ≡ s.0 = s.1 ∙ ap (λ (w : List ℕ). s.0 ++ w) (end_law line c.0.1 d.0 d.1).0 ∙ append-nil s.0 in
    moved (program b.0) k t cs (ok_is (program b.0) k b.2) (u, is, subst (λ (w : List ℕ). IsName b.0 w) (sym whole) (subst (λ (x : List ℕ). IsName x s.0) (ok_is c.0.0 b.0 d.2) s.2))
worded_sound line Integer u t cs k is e =
    let b = bind_ok (open_list line (declarator_at line) u) (λ ds. done (integer ds)) k e in
    moved (integer b.0) k t cs (ok_is (integer b.0) k b.2) (u, is, open_sound line (declarator_at line) IsDeclarator (declarator_sound line) u b.0 b.1)
worded_sound line Dimension u t cs k is e =
    let b = bind_ok (open_list line (array_at line) u) (λ ds. done (dimension ds)) k e in
    moved (dimension b.0) k t cs (ok_is (dimension b.0) k b.2) (u, is, open_sound line (array_at line) IsArray (array_sound line) u b.0 b.1)
worded_sound line Parameter u t cs k is e =
    let b = bind_ok (definitions_at line u) (λ ds. done (parameters ds)) k e in
    let s = definitions_sound line u b.0 b.1 in
    moved (parameters b.0) k t cs (ok_is (parameters b.0) k b.2) (s.0, is ∙ ap (λ (v : List ℕ). classes.worded Parameter v) s.1, s.2)
worded_sound line Print u t cs k is e =
    let b = bind_ok (list_behind_star line u >>= listed (items_at line cs)) (λ is. done (print is)) k e in
    moved (print b.0) k t cs (ok_is (print b.0) k b.2) (u, inl (is, behind_comma_sound line (items_at line cs) (AreItems cs) (items_at_sound line cs) (no_items cs) u b.0 b.1))
worded_sound line Write u t cs k is e =
    let b = bind_ok (listed (items_at line cs) (list_behind_unit u)) (λ is. done (print is)) k e in
    moved (print b.0) k t cs (ok_is (print b.0) k b.2) (u, inr (is, listed_sound (items_at line cs) (AreItems cs) (items_at_sound line cs) (no_items cs) u b.0 b.1))
worded_sound line Read u t cs k is e =
    let b = bind_ok (list_behind_star line u >>= listed (open_list line (element_at line))) (λ es. done (read es)) k e in
    moved (read b.0) k t cs (ok_is (read b.0) k b.2) (u, inl (is, behind_comma_sound line (open_list line (element_at line)) (AreParts IsAccess nothing) (open_sound line (element_at line) IsAccess (element_sound line)) no_elements u b.0 b.1))
worded_sound line ReadUnit u t cs k is e =
    let b = bind_ok (listed (open_list line (element_at line)) (list_behind_unit u)) (λ es. done (read es)) k e in
    moved (read b.0) k t cs (ok_is (read b.0) k b.2) (u, inr (is, listed_sound (open_list line (element_at line)) (AreParts IsAccess nothing) (open_sound line (element_at line) IsAccess (element_sound line)) no_elements u b.0 b.1))
worded_sound line Continue u t cs k is e = let a = alone_sound line go_on u k e in moved go_on k t cs (sym a.0) (is ∙ ap (λ (v : List ℕ). classes.worded Continue v) a.1)
worded_sound line Else u t cs k is e = let a = alone_sound line else_arm u k e in moved else_arm k t cs (sym a.0) (is ∙ ap (λ (v : List ℕ). classes.worded Else v) a.1)
worded_sound line ElseIf u t cs k is e =
    let s = else_if_sound line u k e in
    moved (else_if s.0) k t cs (sym s.2) (s.1, is ∙ ap (λ (v : List ℕ). classes.worded ElseIf v) s.3, s.4)
worded_sound line EndIf u t cs k is e = let a = alone_sound line end_if u k e in moved end_if k t cs (sym a.0) (is ∙ ap (λ (v : List ℕ). classes.worded EndIf v) a.1)
worded_sound line Stop u t cs k is e =
    elim (choice (is_stop_text u cs) (Ok stop) (refuse line Malformed) (Ok k) e) [
      | on_true text f ↦ moved stop k t cs (ok_is stop k f) (u, is, text)
      | on_false other f ↦ absurd cc
    ]
worded_sound line End u t cs k is e = let a = alone_sound line end u k e in moved end k t cs (sym a.0) (is ∙ ap (λ (v : List ℕ). classes.worded End v) a.1)
worded_sound line LeftOut u t cs k is e = absurd cc

class_sound : (line : ℕ) (inner : List ℕ → Result Kind Break) (c : Class) (t : List ℕ) (cs : List (List ℕ)) (k : Kind) → ((v : List ℕ) (x : Kind) → inner v ≡ Ok x → IsKind x v cs) → class_of t ≡ c → class_at line inner c cs ≡ Ok k → IsKind k t cs
class_sound line inner (classes.block_if u) t cs k sound is e =
    let b = bind_ok (whole_at line u) (λ x. done (block_if x)) k e in
    moved (block_if b.0) k t cs (ok_is (block_if b.0) k b.2) (u, is, whole_sound line u b.0 b.1)
class_sound line inner (classes.logical_if u v) t cs k sound is e =
    let next : Term → Result Kind Break = λ x. inner v >>= λ y. Ok (logical_if x y) in
    let b = bind_ok (whole_at line u) next k e in
    let c = bind_ok (inner v) (λ y. done (logical_if b.0 y)) k b.2 in
    moved (logical_if b.0 c.0) k t cs (ok_is (logical_if b.0 c.0) k c.2) (u, v, is, whole_sound line u b.0 b.1, sound v c.0 c.1)
class_sound line inner (classes.do_loop u) t cs k sound is e =
    let b = bind_ok (do_at line u) (λ h. done (do_loop h)) k e in
    moved (do_loop b.0) k t cs (ok_is (do_loop b.0) k b.2) (u, is, do_sound line u b.0 (do_begins t u is) b.1)
class_sound line inner (classes.assignment u) t cs k sound is e =
    let s = assigned_sound line u k e in
    moved (assign s.0 s.1) k t cs (sym s.4) (s.2, s.3, is ∙ ap (λ (w : List ℕ). classes.assignment w) s.5, s.6, s.7)
class_sound line inner (classes.worded w u) t cs k sound is e = worded_sound line w u t cs k is e
class_sound line inner classes.unclosed t cs k sound is e = absurd cc
class_sound line inner classes.unknown t cs k sound is e = absurd cc

kind_sound : (line n : ℕ) (t : List ℕ) (cs : List (List ℕ)) (k : Kind) → kind_at line n t cs ≡ Ok k → IsKind k t cs
kind_sound line zero t cs k e = absurd cc
kind_sound line (suc n) t cs k e = class_sound line (λ v. kind_at line n v cs) (class_of t) t cs k (λ v x f. kind_sound line n v cs x f) refl e

-- what was read, and that it stands as it may
pub record Derived (line : ℕ) (label : Option ℕ) (text t : List ℕ) (cs : List (List ℕ)) (s : Statement) : Type 0 where
  pub derived : IsKind s.kind t cs
  pub initial : is_initial s.kind text ≡ true
  pub shallow : depth_of_kind s.kind ≤ depth_limit
  pub at : s.line ≡ line
  pub labelled : s.label ≡ label

pub statement_sound : (line : ℕ) (label : Option ℕ) (text t : List ℕ) (cs : List (List ℕ)) (s : Statement) → statement_at line label text t cs ≡ Ok s → Derived line label text t cs s
statement_sound line label text t cs s e =
    let made : Kind → Result Statement Break = λ k. Ok (record { line = line; label = label; kind = k }) in
    let a = bind_ok (kind_at line (length t + 1) t cs) (checked_at line label text) s e in
    let b = bind_ok (initial line text a.0 >>= shallow line) made s a.2 in
    let c = bind_ok (initial line text a.0) (shallow line) b.0 b.1 in
    elim (choice (is_initial a.0 text) (Ok a.0) (refuse line Malformed) (Ok c.0) c.1) [
      | on_true whole f ↦ elim (choice (leb (depth_of_kind c.0) depth_limit) (Ok c.0) (refuse line Deep) (Ok b.0) c.2) [
        | on_true low g ↦
            let first : a.0 ≡ c.0 = ok_is a.0 c.0 f in
            let second : c.0 ≡ b.0 = ok_is c.0 b.0 g in
            let same : a.0 ≡ b.0 = first ∙ second in
            let deep : depth_of_kind b.0 ≤ depth_limit = subst (λ (k : Kind). depth_of_kind k ≤ depth_limit) second (leb-true (depth_of_kind c.0) depth_limit low) in
            let here : is_initial b.0 text ≡ true = subst (λ (k : Kind). is_initial k text ≡ true) same whole in
            let kind : IsKind b.0 t cs = moved a.0 b.0 t cs same (kind_sound line (length t + 1) t cs a.0 a.1) in
            subst (λ (x : Statement). Derived line label text t cs x) (ok_is (record { line = line; label = label; kind = b.0 }) s b.2)
            (record { derived = kind; initial = here; shallow = deep; at = refl; labelled = refl })
        | on_false deep g ↦ absurd cc
      ]
      | on_false other f ↦ absurd cc
    ]
