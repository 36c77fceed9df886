-- What is derived from a statement is read.
use Rattle.std.proofs.Common.{◌≡◌, ℕ, zero, suc, ◌+◌, ◌<◌, ◌≤◌, Bool, true, cond, leb, List, [], ◌∷◌, ◌++◌, length, Option, Some, None, Result, Ok, refl, sym, ap, subst, ◌∙◌, ◌⊎◌, inl, inr, append_assoc, arith}
use Rattle.std.specs.Prelude.{codes}
use Rattle.std.specs.List.{prefix_len}
use Rattle.std.proofs.lemmas.Bool.{ne_eqb, le-leb, leb-true, lt-leb, and_parts}
use Rattle.std.proofs.lemmas.List.{append-nil, length-append, take_at, drop_at}
use Rattle.ast.specs.Answers.{Break}
use Rattle.ast.specs.Results.{◌>>=◌}
use Rattle.ast.specs.Tree.{Ref, Term, Access, accessed, PrintItem, value_item, text_item, Bounds, Definition, DoHead, Kind, program, integer, dimension, parameters, assign, do_loop, go_on, block_if, else_if, else_arm, end_if, logical_if, print, read, stop, end, Statement}
use Rattle.ast.specs.declared.rule.Rule.TheVariants.{Malformed}
use Rattle.expressions.specs.Answers.{refuse}
use Rattle.expressions.specs.Characters.{is_digit, is_alphanumeric, begins_letter, after, value}
use Rattle.expressions.specs.Grammar.{IsName, IsAccess, reference_to, Spells, depth_limit}
use Rattle.expressions.specs.Levels.{top}
use Rattle.expressions.specs.Reading.{name_at, wanted_at, end_at, front_at, whole_at, ended, element_at}
use Rattle.expressions.proofs.Complete.{name_again, front_again, element_again, whole_again}
use Rattle.expressions.proofs.Followers.{Stops, stops_at_end, stops_at_closing, stops_at_comma, stops_at_colon, follows_equals, some_spelled, no_quote}
use Rattle.expressions.proofs.Tools.{done, then_reads, front_is}
use Rattle.syntax.specs.declared.class.Keyword.{Keyword}
use Rattle.syntax.specs.declared.class.Keyword.TheVariants.{Program, Integer, Dimension, Parameter, Print, Write, Read, ReadUnit, Continue, Else, ElseIf, EndIf, Stop, End}
use Rattle.syntax.specs.Classes as classes
use Rattle.syntax.specs.Classes.{Class, class_of, without_comma, is_word}
use Rattle.syntax.specs.Depths.{depth_of_kind}
use Rattle.syntax.specs.Statements.{AreFurther, AreParts, AreOptional, AreBehindComma, closing, nothing, HaveBounds, IsBounds, IsBoundsList, IsDeclarator, IsArray, IsDefinition, most_digits, IsStep, IsComma, AreParameters, IsDoHead, IsItem, AreFurtherItems, AreItems, IsKind}
use Rattle.syntax.specs.ReadingStatements.{parts_at, closed_list, open_list, listed, list_behind_unit, list_behind_star, upper_at, bounds_at, array_of, array_at, declared_at, declarator_at, definition_at, item_at, items_from, items_at, step_at, head_of, do_at, assigned_at, definitions_at, arm_at, whole_name_at, worded_at, class_at, kind_at, checked_at, statement_at}
use Rattle.syntax.proofs.StatementSound.{Derived}

-- ---- lists

-- what may follow a part of a list
record Parted (v : List ℕ) : Type 0 where
  stops : Stops top v
  colon : after (codes ":") v ≡ None

-- how a part is read again, before what may follow it
abbrev PartAgain : {X : Type 0} → (List ℕ → Result (X × List ℕ) Break) → (X → List ℕ → Type 0) → Type 0
PartAgain {X} part Is = (x : X) (u v : List ℕ) → Is x u → Parted v → part (u ++ v) ≡ Ok (x, v)

-- what ends a list, before the text behind it
record Ending (ending : List ℕ → Result (List ℕ) Break) (mark rest : List ℕ) : Type 0 where
  none : after (codes ",") (mark ++ rest) ≡ None
  parted : Parted (mark ++ rest)
  ends : ending (mark ++ rest) ≡ Ok rest

further_stop : {X : Type 0} (ending : List ℕ → Result (List ℕ) Break) (Is : X → List ℕ → Type 0) (mark rest : List ℕ) → Ending ending mark rest → (zs : List X) (v : List ℕ) → AreFurther Is mark zs v → Parted (v ++ rest)
further_stop ending Is mark rest ending_is [] v h = subst (λ (w : List ℕ). Parted (w ++ rest)) (sym h) ending_is.parted
further_stop ending Is mark rest ending_is (z ∷ zs) v h = subst (λ (w : List ℕ). Parted (w ++ rest)) (sym h.2) (record { stops = stops_at_comma ((h.0 ++ h.1) ++ rest); colon = refl })

abbrev next_part : {X : Type 0} → ℕ → (List ℕ → Result (X × List ℕ) Break) → (List ℕ → Result (List ℕ) Break) → ℕ → List X → X → List ℕ → Option (List ℕ) → Result (List X × List ℕ) Break
next_part line part ending n xs x t (Some u) = parts_at line part ending n (xs ++ x ∷ []) u
next_part line part ending n xs x t None = ending t >>= λ u. Ok (xs ++ x ∷ [], u)

next_is : {X : Type 0} (line : ℕ) (part : List ℕ → Result (X × List ℕ) Break) (ending : List ℕ → Result (List ℕ) Break) (n : ℕ) (xs : List X) (x : X) (t : List ℕ) (o : Option (List ℕ)) → after (codes ",") t ≡ o
    → ◌≡◌ {A = Result (List X × List ℕ) Break} (elim (after (codes ",") t) [ Some u ↦ parts_at line part ending n (xs ++ x ∷ []) u | None ↦ ending t >>= λ u. Ok (xs ++ x ∷ [], u) ]) (next_part line part ending n xs x t o)
next_is {X} line part ending n xs x t o h = go (after (codes ",") t) ∙ ap (next_part line part ending n xs x t) h
  where
    go : (q : Option (List ℕ)) → ◌≡◌ {A = Result (List X × List ℕ) Break} (elim q [ Some u ↦ parts_at line part ending n (xs ++ x ∷ []) u | None ↦ ending t >>= λ u. Ok (xs ++ x ∷ [], u) ]) (next_part line part ending n xs x t q)
    go None = refl
    go (Some u) = refl

parts_again : {X : Type 0} (line : ℕ) (part : List ℕ → Result (X × List ℕ) Break) (ending : List ℕ → Result (List ℕ) Break) (Is : X → List ℕ → Type 0) (mark rest : List ℕ) → PartAgain part Is → Ending ending mark rest
    → (zs : List X) (n : ℕ) (xs : List X) (x : X) (u v : List ℕ) → Is x u → AreFurther Is mark zs v → length (u ++ v) < n → parts_at line part ending n xs (u ++ (v ++ rest)) ≡ Ok (xs ++ x ∷ zs, rest)
parts_again line part ending Is mark rest again ending_is zs zero xs x u v is are room = absurd (omega arith)
parts_again {X} line part ending Is mark rest again ending_is [] (suc n) xs x u v is are room =
    let next : X × List ℕ → Result (List X × List ℕ) Break = λ y. elim (after (codes ",") y.1) [ Some w ↦ parts_at line part ending n (xs ++ y.0 ∷ []) w | None ↦ ending y.1 >>= λ w. Ok (xs ++ y.0 ∷ [], w) ] in
    let stops : Parted (v ++ rest) = further_stop ending Is mark rest ending_is [] v are in
    let text : v ++ rest ≡ mark ++ rest = ap (λ (w : List ℕ). w ++ rest) are in
    then_reads (part (u ++ (v ++ rest))) next (x, v ++ rest) (again x u (v ++ rest) is stops)
    ∙ next_is line part ending n xs x (v ++ rest) None (ap (after (codes ",")) text ∙ ending_is.none)
    ∙ then_reads (ending (v ++ rest)) (λ w. done (xs ++ x ∷ [], w)) rest (ap ending text ∙ ending_is.ends)
parts_again {X} line part ending Is mark rest again ending_is (z ∷ zs) (suc n) xs x u v is are room =
    let next : X × List ℕ → Result (List X × List ℕ) Break = λ y. elim (after (codes ",") y.1) [ Some w ↦ parts_at line part ending n (xs ++ y.0 ∷ []) w | None ↦ ending y.1 >>= λ w. Ok (xs ++ y.0 ∷ [], w) ] in
    let stops : Parted (v ++ rest) = further_stop ending Is mark rest ending_is (z ∷ zs) v are in
    let text : v ++ rest ≡ 44 ∷ (are.0 ++ (are.1 ++ rest)) = ap (λ (w : List ℕ). w ++ rest) are.2 ∙ ap (λ (w : List ℕ). 44 ∷ w) (append_assoc are.0 are.1 rest) in
    let short : length (are.0 ++ are.1) < n = omega (arith, ap length are.2, length-append u v) in
    then_reads (part (u ++ (v ++ rest))) next (x, v ++ rest) (again x u (v ++ rest) is stops)
    ∙ next_is line part ending n xs x (v ++ rest) (Some (are.0 ++ (are.1 ++ rest))) (ap (after (codes ",")) text)
    ∙ parts_again line part ending Is mark rest again ending_is zs n (xs ++ x ∷ []) z are.0 are.1 are.3 are.4 short
    ∙ ap (λ (ys : List X). done (ys, rest)) (append_assoc xs (x ∷ []) (z ∷ zs))

closes : (line : ℕ) (rest : List ℕ) → Ending (wanted_at line closing) closing rest
closes line rest = record { none = refl; parted = record { stops = stops_at_closing rest; colon = refl }; ends = refl }

ends_text : (line : ℕ) → Ending (end_at line) nothing []
ends_text line = record { none = refl; parted = record { stops = stops_at_end; colon = refl }; ends = refl }

closed_again : {X : Type 0} (line : ℕ) (part : List ℕ → Result (X × List ℕ) Break) (Is : X → List ℕ → Type 0) → PartAgain part Is → (xs : List X) (u rest : List ℕ) → AreParts Is closing xs u → closed_list line part (u ++ rest) ≡ Ok (xs, rest)
closed_again line part Is again [] u rest h = absurd h
closed_again line part Is again (x ∷ xs) u rest h =
    let text : u ++ rest ≡ h.0 ++ (h.1 ++ rest) = ap (λ (w : List ℕ). w ++ rest) h.2 ∙ append_assoc h.0 h.1 rest in
    ap (λ (w : List ℕ). parts_at line part (wanted_at line closing) (length (u ++ rest) + 1) [] w) text
    ∙ parts_again line part (wanted_at line closing) Is closing rest again (closes line rest) xs (length (u ++ rest) + 1) [] x h.0 h.1 h.3 h.4 (omega (arith, ap length h.2, length-append u rest))

open_again : {X : Type 0} (line : ℕ) (part : List ℕ → Result (X × List ℕ) Break) (Is : X → List ℕ → Type 0) → PartAgain part Is → (xs : List X) (t : List ℕ) → AreParts Is nothing xs t → open_list line part t ≡ Ok xs
open_again line part Is again [] t h = absurd h
open_again line part Is again (x ∷ xs) t h =
    let text : t ≡ h.0 ++ (h.1 ++ []) = h.2 ∙ ap (λ (w : List ℕ). h.0 ++ w) (sym (append-nil h.1)) in
    let read : parts_at line part (end_at line) (length t + 1) [] t ≡ Ok (x ∷ xs, []) =
    ap (λ (w : List ℕ). parts_at line part (end_at line) (length t + 1) [] w) text
    ∙ parts_again line part (end_at line) Is nothing [] again (ends_text line) xs (length t + 1) [] x h.0 h.1 h.3 h.4 (omega (arith, ap length h.2)) in
    then_reads (parts_at line part (end_at line) (length t + 1) [] t) (λ y. done y.0) (x ∷ xs, []) read

-- ---- optional lists

parts_some : {X : Type 0} (Is : X → List ℕ → Type 0) → ((x : X) (u : List ℕ) → Is x u → 0 < length u) → (xs : List X) (t : List ℕ) → AreParts Is nothing xs t → 0 < length t
parts_some Is some [] t h = absurd h
parts_some Is some (x ∷ xs) t h = omega (arith, ap length h.2, length-append h.0 h.1, some x h.0 h.3)

listed_again : {X : Type 0} (list : List ℕ → Result (List X) Break) (Are : List X → List ℕ → Type 0) → ((t : List ℕ) (ys : List X) → Are ys t → list t ≡ Ok ys) → ((t : List ℕ) (ys : List X) → Are ys t → 0 < length t)
    → (t : List ℕ) (ys : List X) → AreOptional Are ys t → listed list (list_behind_unit t) ≡ Ok ys
listed_again list Are again some t [] h = rw h refl
listed_again list Are again some t (y ∷ ys) h =
    ap (λ (b : Bool). listed list (cond b None (Some t))) (ne_eqb (length t) 0 (λ e. omega (arith, some t (y ∷ ys) h))) ∙ again t (y ∷ ys) h

behind_comma_again : {X : Type 0} (line : ℕ) (list : List ℕ → Result (List X) Break) (Are : List X → List ℕ → Type 0) → ((t : List ℕ) (ys : List X) → Are ys t → list t ≡ Ok ys)
    → (t : List ℕ) (ys : List X) → AreBehindComma Are ys t → (list_behind_star line t >>= listed list) ≡ Ok ys
behind_comma_again line list Are again t [] h = rw h refl
behind_comma_again line list Are again t (y ∷ ys) h =
    let found : list_behind_star line t ≡ Ok (Some h.0) = ap (list_behind_star line) h.1 ∙ ap (λ (b : Bool). cond b (done None) (done (Some h.0))) (ne_eqb (length (44 ∷ h.0)) 0 (λ e. omega arith)) in
    then_reads (list_behind_star line t) (listed list) (Some h.0) found ∙ again h.0 (y ∷ ys) h.2

-- ---- parts

no_colon : (line : ℕ) (e : Term) (t : List ℕ) → after (codes ":") t ≡ None → upper_at line e t ≡ Ok (record { lower = None; upper = e }, t)
no_colon line e t is = rw is refl

upper_again : (line : ℕ) (lower : Option Term) (upper : Term) (u v : List ℕ) → HaveBounds lower upper u → Parted v → bounds_at line (u ++ v) ≡ Ok (record { lower = lower; upper = upper }, v)
upper_again line None upper u v h parted =
    then_reads (front_at line (u ++ v)) (λ y. upper_at line y.0 y.1) (upper, v) (front_again line upper u v h parted.stops) ∙ no_colon line upper v parted.colon
upper_again line (Some lower) upper u v h parted =
    let text : u ++ v ≡ h.0 ++ 58 ∷ (h.1 ++ v) = ap (λ (w : List ℕ). w ++ v) h.2 ∙ append_assoc h.0 (58 ∷ h.1) v in
    ap (bounds_at line) text
    ∙ then_reads (front_at line (h.0 ++ 58 ∷ (h.1 ++ v))) (λ y. upper_at line y.0 y.1) (lower, 58 ∷ (h.1 ++ v)) (front_again line lower h.0 (58 ∷ (h.1 ++ v)) h.3 (stops_at_colon (h.1 ++ v)))
    ∙ then_reads (front_at line (h.1 ++ v)) (λ y. done (record { lower = Some lower; upper = y.0 }, y.1)) (upper, v) (front_again line upper h.1 v h.4 parted.stops)

bounds_again : (line : ℕ) → PartAgain (bounds_at line) IsBounds
bounds_again line b u v h parted = upper_again line b.lower b.upper u v h parted

array_of_again : (line : ℕ) (name : List ℕ) (bs : List Bounds) (u v : List ℕ) → AreParts IsBounds closing bs u → array_of line name (u ++ v) ≡ Ok (record { name = name; bounds = bs }, v)
array_of_again line name bs u v h = then_reads (closed_list line (bounds_at line) (u ++ v)) (λ y. done (record { name = name; bounds = y.0 }, y.1)) (bs, v) (closed_again line (bounds_at line) IsBounds (bounds_again line) bs u v h)

no_parenthesis : (line : ℕ) (name t : List ℕ) → after (codes "(") t ≡ None → declared_at line name t ≡ Ok (record { name = name; bounds = [] }, t)
no_parenthesis line name t is = rw is refl

-- what stands behind the name of a declarator
bounds_follow : (bs : List Bounds) (w v : List ℕ) → IsBoundsList bs w → Parted v → prefix_len is_alphanumeric (w ++ v) ≡ 0
bounds_follow [] w v h parted = rw h parted.stops.follows.letters
bounds_follow (b ∷ bs) w v h parted = rw h.1 refl

declared_again : (line : ℕ) (name : List ℕ) (bs : List Bounds) (w v : List ℕ) → IsBoundsList bs w → Parted v → declared_at line name (w ++ v) ≡ Ok (record { name = name; bounds = bs }, v)
declared_again line name [] w v h parted = ap (λ (l : List ℕ). declared_at line name (l ++ v)) h ∙ no_parenthesis line name v parted.stops.follows.closed
declared_again line name (b ∷ bs) w v h parted = ap (λ (l : List ℕ). declared_at line name (l ++ v)) h.1 ∙ array_of_again line name (b ∷ bs) h.0 v h.2

declarator_again : (line : ℕ) → PartAgain (declarator_at line) IsDeclarator
declarator_again line d u v h parted =
    ap (declarator_at line) (ap (λ (w : List ℕ). w ++ v) h.2 ∙ append_assoc h.0 h.1 v)
    ∙ then_reads (name_at line (h.0 ++ (h.1 ++ v))) (λ y. declared_at line y.0 y.1) (d.name, h.1 ++ v) (name_again line d.name h.0 (h.1 ++ v) h.3 (bounds_follow d.bounds h.1 v h.4 parted))
    ∙ declared_again line d.name d.bounds h.1 v h.4 parted

array_named : (line : ℕ) (name : List ℕ) (bs : List Bounds) (w v : List ℕ) → 0 < length bs → IsBoundsList bs w → (wanted_at line (codes "(") (w ++ v) >>= array_of line name) ≡ Ok (record { name = name; bounds = bs }, v)
array_named line name [] w v some h = absurd (omega arith)
array_named line name (b ∷ bs) w v some h =
    ap (λ (l : List ℕ). wanted_at line (codes "(") (l ++ v) >>= array_of line name) h.1 ∙ array_of_again line name (b ∷ bs) h.0 v h.2

array_again : (line : ℕ) → PartAgain (array_at line) IsArray
array_again line d u v is parted =
    let h = is.1 in
    ap (array_at line) (ap (λ (w : List ℕ). w ++ v) h.2 ∙ append_assoc h.0 h.1 v)
    ∙ then_reads (name_at line (h.0 ++ (h.1 ++ v))) (λ x. wanted_at line (codes "(") x.1 >>= λ u. array_of line x.0 u) (d.name, h.1 ++ v) (name_again line d.name h.0 (h.1 ++ v) h.3 (bounds_follow d.bounds h.1 v h.4 parted))
    ∙ array_named line d.name d.bounds h.1 v is.0 h.4

definition_again : (line : ℕ) → PartAgain (definition_at line) IsDefinition
definition_again line d u v h parted =
    let next : List ℕ × List ℕ → Result (Definition × List ℕ) Break = λ x. wanted_at line (codes "=") x.1 >>= λ u. front_at line u >>= λ y. Ok (record { name = x.0; value = y.0 }, y.1) in
    ap (definition_at line) (ap (λ (w : List ℕ). w ++ v) h.2 ∙ append_assoc h.0 (61 ∷ h.1) v)
    ∙ then_reads (name_at line (h.0 ++ 61 ∷ (h.1 ++ v))) next (d.name, 61 ∷ (h.1 ++ v)) (name_again line d.name h.0 (61 ∷ (h.1 ++ v)) h.3 refl)
    ∙ then_reads (front_at line (h.1 ++ v)) (λ y. done (record { name = d.name; value = y.0 }, y.1)) (d.value, v) (front_again line d.value h.1 v h.4 parted.stops)

element_part : (line : ℕ) → PartAgain (element_at line) IsAccess
element_part line a u v h parted = element_again line a u v h parted.stops.follows

access_some : (a : Access) (u : List ℕ) → IsAccess a u → 0 < length u
access_some a u h = some_spelled (accessed a) 0 u (omega arith) h

-- ---- items

item_quoted : (line : ℕ) (t : List ℕ) (cs : List (List ℕ)) → after (codes "'") t ≡ None → item_at line t cs ≡ (front_at line t >>= λ x. Ok (value_item x.0, x.1, cs))
item_quoted line t cs is = rw is refl

item_again : (line : ℕ) (i : PrintItem) (u v : List ℕ) (cs left : List (List ℕ)) → IsItem i u cs left → Stops top v → item_at line (u ++ v) cs ≡ Ok (i, v, left)
item_again line (value_item e) u v cs left h stops =
    item_quoted line (u ++ v) cs (no_quote e u v h.0)
    ∙ then_reads (front_at line (u ++ v)) (λ x. done (value_item x.0, x.1, cs)) (e, v) (front_again line e u v h.0 stops)
    ∙ ap (λ (ds : List (List ℕ)). done (value_item e, v, ds)) (sym h.1)
item_again line (text_item s) u v cs left h stops =
    ap (λ (w : List ℕ). item_at line (w ++ v) cs) h.0
    ∙ ap (λ (ds : List (List ℕ)). item_at line (39 ∷ v) ds) h.1
    ∙ ap (λ (b : Bool). cond {A = Result (PrintItem × List (List ℕ)) Break} b (refuse line Malformed) (Ok (text_item s, left)) >>= λ x. Ok (x.0, v, x.1)) (ne_eqb (length s) 0 (λ e. omega (arith, h.2)))

items_follow : (is : List PrintItem) (t : List ℕ) (cs : List (List ℕ)) → AreFurtherItems cs is t → Stops top t
items_follow [] t cs h = subst (λ (w : List ℕ). Stops top w) (sym h) stops_at_end
items_follow (i ∷ is) t cs h = subst (λ (w : List ℕ). Stops top w) (sym h.3) (stops_at_comma (h.0 ++ h.1))

abbrev next_item : ℕ → ℕ → List PrintItem → PrintItem → List ℕ → List (List ℕ) → Option (List ℕ) → Result (List PrintItem) Break
next_item line n is i t cs (Some u) = items_from line n (is ++ i ∷ []) u cs
next_item line n is i t cs None = end_at line t >>= λ u. Ok (is ++ i ∷ [])

next_item_is : (line n : ℕ) (is : List PrintItem) (i : PrintItem) (t : List ℕ) (cs : List (List ℕ)) (o : Option (List ℕ)) → after (codes ",") t ≡ o
    → ◌≡◌ {A = Result (List PrintItem) Break} (elim (after (codes ",") t) [ Some u ↦ items_from line n (is ++ i ∷ []) u cs | None ↦ end_at line t >>= λ u. Ok (is ++ i ∷ []) ]) (next_item line n is i t cs o)
next_item_is line n is i t cs o h = go (after (codes ",") t) ∙ ap (next_item line n is i t cs) h
  where
    go : (q : Option (List ℕ)) → ◌≡◌ {A = Result (List PrintItem) Break} (elim q [ Some u ↦ items_from line n (is ++ i ∷ []) u cs | None ↦ end_at line t >>= λ u. Ok (is ++ i ∷ []) ]) (next_item line n is i t cs q)
    go None = refl
    go (Some u) = refl

items_again : (line : ℕ) (js : List PrintItem) (n : ℕ) (is : List PrintItem) (i : PrintItem) (u v : List ℕ) (cs left : List (List ℕ)) → IsItem i u cs left → AreFurtherItems left js v → length (u ++ v) < n
    → items_from line n is (u ++ v) cs ≡ Ok (is ++ i ∷ js)
items_again line js zero is i u v cs left item more room = absurd (omega arith)
items_again line [] (suc n) is i u v cs left item more room =
    let next : PrintItem × List ℕ × List (List ℕ) → Result (List PrintItem) Break = λ x. elim (after (codes ",") x.1) [ Some u ↦ items_from line n (is ++ x.0 ∷ []) u x.2 | None ↦ end_at line x.1 >>= λ u. Ok (is ++ x.0 ∷ []) ] in
    then_reads (item_at line (u ++ v) cs) next (i, v, left) (item_again line i u v cs left item (items_follow [] v left more))
    ∙ next_item_is line n is i v left None (ap (after (codes ",")) more)
    ∙ ap (λ (w : List ℕ). end_at line w >>= λ z. done (is ++ i ∷ [])) more
items_again line (j ∷ js) (suc n) is i u v cs left item more room =
    let next : PrintItem × List ℕ × List (List ℕ) → Result (List PrintItem) Break = λ x. elim (after (codes ",") x.1) [ Some u ↦ items_from line n (is ++ x.0 ∷ []) u x.2 | None ↦ end_at line x.1 >>= λ u. Ok (is ++ x.0 ∷ []) ] in
    let short : length (more.0 ++ more.1) < n = omega (arith, ap length more.3, length-append u v) in
    then_reads (item_at line (u ++ v) cs) next (i, v, left) (item_again line i u v cs left item (items_follow (j ∷ js) v left more))
    ∙ next_item_is line n is i v left (Some (more.0 ++ more.1)) (ap (after (codes ",")) more.3)
    ∙ items_again line js n (is ++ i ∷ []) j more.0 more.1 left more.2 more.4 more.5 short
    ∙ ap (λ (ks : List PrintItem). done ks) (append_assoc is (i ∷ []) (j ∷ js))

items_at_again : (line : ℕ) (cs : List (List ℕ)) (t : List ℕ) (is : List PrintItem) → AreItems cs is t → items_at line cs t ≡ Ok is
items_at_again line cs t [] h = absurd h
items_at_again line cs t (i ∷ is) h =
    ap (λ (w : List ℕ). items_from line (length t + 1) [] w cs) h.3
    ∙ items_again line is (length t + 1) [] i h.0 h.1 cs h.2 h.4 h.5 (omega (arith, ap length h.3))

items_some : (cs : List (List ℕ)) (t : List ℕ) (is : List PrintItem) → AreItems cs is t → 0 < length t
items_some cs t [] h = absurd h
items_some cs t (i ∷ is) h = omega (arith, ap length h.3, length-append h.0 h.1, some i h.4)
  where
    some : (i : PrintItem) → IsItem i h.0 cs h.2 → 0 < length h.0
    some (value_item e) item = some_spelled e 7 h.0 (omega arith) item.0
    some (text_item s) item = omega (arith, ap length item.0)

-- ---- DO

step_again : (line : ℕ) (s : Option Term) (t : List ℕ) → IsStep s t → step_at line t ≡ Ok s
step_again line None t h = rw h refl
step_again line (Some e) t h =
    ap (step_at line) h.1
    ∙ ap (λ (b : Bool). cond b (done None) (whole_at line h.0 >>= λ x. done (Some x))) (ne_eqb (length (44 ∷ h.0)) 0 (λ z. omega arith))
    ∙ then_reads (whole_at line h.0) (λ x. done (Some x)) e (whole_again line h.0 e h.2)

step_stops : (s : Option Term) (t : List ℕ) → IsStep s t → Stops top t
step_stops None t h = subst (λ (w : List ℕ). Stops top w) (sym h) stops_at_end
step_stops (Some e) t h = subst (λ (w : List ℕ). Stops top w) (sym h.1) (stops_at_comma h.0)

head_again : (line : ℕ) (h : DoHead) (name t : List ℕ) → h.variable ≡ reference_to name → AreParameters h t → head_of line h.terminal name t ≡ Ok h
head_again line h name t named p =
    let made : Term → Term → Option Term → DoHead = λ a b s. record { terminal = h.terminal; variable = reference_to name; first = a; last = b; step = s } in
    let third : Term → Term × List ℕ → Result DoHead Break = λ a b. step_at line b.1 >>= λ s. Ok (made a b.0 s) in
    let first : Term × List ℕ → Result DoHead Break = λ a. wanted_at line (codes ",") a.1 >>= λ u. front_at line u >>= λ b. third a.0 b in
    ap (head_of line h.terminal name) p.3
    ∙ then_reads (front_at line (p.0 ++ 44 ∷ (p.1 ++ p.2))) first (h.first, 44 ∷ (p.1 ++ p.2)) (front_again line h.first p.0 (44 ∷ (p.1 ++ p.2)) p.4 (stops_at_comma (p.1 ++ p.2)))
    ∙ then_reads (front_at line (p.1 ++ p.2)) (third h.first) (h.last, p.2) (front_again line h.last p.1 p.2 p.5 (step_stops h.step p.2 p.6))
    ∙ then_reads (step_at line p.2) (λ s. done (made h.first h.last s)) h.step (step_again line h.step p.2 p.6)
    ∙ ap (λ (r : Ref). done (record { terminal = h.terminal; variable = r; first = h.first; last = h.last; step = h.step })) (sym named)

-- a name begins with no digit and no comma
name_begins : (u rest : List ℕ) → begins_letter u ≡ true → (prefix_len is_digit (u ++ rest) ≡ 0) × (after (codes ",") (u ++ rest) ≡ None)
name_begins [] rest h = absurd cc
name_begins (c ∷ cs) rest h =
    let low : 65 ≤ c = leb-true 65 c (and_parts (leb 65 c) (leb c 90) h).0 in
    (rw (le-leb 48 c (omega arith), lt-leb c 57 (omega arith)) refl, rw (ne_eqb 44 c (λ e. omega arith)) refl)

no_comma : (t : List ℕ) → after (codes ",") t ≡ None → without_comma t ≡ t
no_comma t is = rw is refl

comma_passed : (c v : List ℕ) → IsComma c → after (codes ",") v ≡ None → prefix_len is_digit v ≡ 0 → (without_comma (c ++ v) ≡ v) × (prefix_len is_digit (c ++ v) ≡ 0)
comma_passed c v (inl e) none digit = (ap (λ (w : List ℕ). without_comma (w ++ v)) e ∙ no_comma v none, rw e digit)
comma_passed c v (inr e) none digit = (rw e refl, rw e refl)

do_again : (line : ℕ) (h : DoHead) (t : List ℕ) → IsDoHead h t → do_at line t ≡ Ok h
do_again line h t d =
    let u = d.0 in
    let named = d.7.1 in
    let x = d.7.0 in
    let rest = d.2 ++ 61 ∷ d.3 in
    let first = name_begins d.2 (61 ∷ d.3) named.0 in
    let comma = comma_passed d.1 rest d.6 first.1 first.0 in
    let run : prefix_len is_digit (u ++ (d.1 ++ rest)) ≡ length u = front_is is_digit u (d.1 ++ rest) d.5.1 comma.1 in
    let next : ℕ → List ℕ × List ℕ → Result DoHead Break = λ label y. wanted_at line (codes "=") y.1 >>= λ w. head_of line label y.0 w in
    let last : (label : ℕ) → label ≡ h.terminal → (name_at line rest >>= next label) ≡ Ok h =
    λ label is. then_reads (name_at line rest) (next label) (x, 61 ∷ d.3) (name_again line x d.2 (61 ∷ d.3) named refl) ∙ ap (λ (l : ℕ). head_of line l x d.3) is ∙ head_again line h x d.3 d.7.2 d.8 in
    ap (do_at line) d.4
    ∙ rw (run, take_at u (d.1 ++ rest) (length u) refl, drop_at u (d.1 ++ rest) (length u) refl, le-leb (length u) most_digits d.5.2, comma.0) (last (value u) (sym d.5.3))

-- ---- statements

assigned_again : (line : ℕ) (a : Access) (e : Term) (u v : List ℕ) → IsAccess a u → Spells top e v → assigned_at line (u ++ 61 ∷ v) ≡ Ok (assign a e)
assigned_again line a e u v access value =
    let next : Access × List ℕ → Result Kind Break = λ x. wanted_at line (codes "=") x.1 >>= λ w. whole_at line w >>= λ y. Ok (assign x.0 y) in
    then_reads (element_at line (u ++ 61 ∷ v)) next (a, 61 ∷ v) (element_again line a u (61 ∷ v) access (follows_equals v))
    ∙ then_reads (whole_at line v) (λ y. done (assign a y)) e (whole_again line v e value)

definitions_again : (line : ℕ) (ds : List Definition) (u : List ℕ) → AreParts IsDefinition closing ds u → definitions_at line (40 ∷ u) ≡ Ok ds
definitions_again line ds u h =
    let read : closed_list line (definition_at line) u ≡ Ok (ds, []) = ap (closed_list line (definition_at line)) (sym (append-nil u)) ∙ closed_again line (definition_at line) IsDefinition (definition_again line) ds u [] h in
    then_reads (closed_list line (definition_at line) u) (λ x. end_at line x.1 >>= λ v. done x.0) (ds, []) read

arm_again : (line : ℕ) (e : Term) (u : List ℕ) → Spells top e u → arm_at line (u ++ codes ")THEN") ≡ Ok (else_if e)
arm_again line e u h =
    let next : Term × List ℕ → Result Kind Break = λ x. wanted_at line (codes ")") x.1 >>= λ w. cond (is_word (codes "THEN") w) (Ok (else_if x.0)) (refuse line Malformed) in
    then_reads (front_at line (u ++ codes ")THEN")) next (e, codes ")THEN") (front_again line e u (codes ")THEN") h (stops_at_closing (codes "THEN")))

name_whole : (line : ℕ) (x u : List ℕ) → IsName x u → whole_name_at line u ≡ Ok x
name_whole line x u h =
    let read : name_at line u ≡ Ok (x, []) = ap (name_at line) (sym (append-nil u)) ∙ name_again line x u [] h refl in
    then_reads (name_at line u) (ended line) (x, []) read

worded_reads : (line : ℕ) (inner : List ℕ → Result Kind Break) (w : Keyword) (u t : List ℕ) (cs : List (List ℕ)) (k : Kind) → class_of t ≡ classes.worded w u → worded_at line w u cs ≡ Ok k → class_at line inner (class_of t) cs ≡ Ok k
worded_reads line inner w u t cs k is e = ap (λ (c : Class). class_at line inner c cs) is ∙ e

-- how many logical IFs hold one another
abbrev pub nested : Kind → ℕ
nested (logical_if e k) = nested k + 1
nested k = 0

kind_again : (line n : ℕ) (k : Kind) (t : List ℕ) (cs : List (List ℕ)) → IsKind k t cs → nested k < n → kind_at line n t cs ≡ Ok k
kind_again line zero k t cs h room = absurd (omega arith)
kind_again line (suc n) (program x) t cs h room = worded_reads line (λ v. kind_at line n v cs) Program h.0 t cs (program x) h.1 (then_reads (whole_name_at line h.0) (λ y. done (program y)) x (name_whole line x h.0 h.2))
kind_again line (suc n) (integer ds) t cs h room =
    worded_reads line (λ v. kind_at line n v cs) Integer h.0 t cs (integer ds) h.1 (then_reads (open_list line (declarator_at line) h.0) (λ y. done (integer y)) ds (open_again line (declarator_at line) IsDeclarator (declarator_again line) ds h.0 h.2))
kind_again line (suc n) (dimension ds) t cs h room =
    worded_reads line (λ v. kind_at line n v cs) Dimension h.0 t cs (dimension ds) h.1 (then_reads (open_list line (array_at line) h.0) (λ y. done (dimension y)) ds (open_again line (array_at line) IsArray (array_again line) ds h.0 h.2))
kind_again line (suc n) (parameters ds) t cs h room =
    worded_reads line (λ v. kind_at line n v cs) Parameter (40 ∷ h.0) t cs (parameters ds) h.1 (then_reads (definitions_at line (40 ∷ h.0)) (λ y. done (parameters y)) ds (definitions_again line ds h.0 h.2))
kind_again line (suc n) (assign a e) t cs h room = ap (λ (c : Class). class_at line (λ v. kind_at line n v cs) c cs) h.2 ∙ assigned_again line a e h.0 h.1 h.3 h.4
kind_again line (suc n) (do_loop d) t cs h room = ap (λ (c : Class). class_at line (λ v. kind_at line n v cs) c cs) h.1 ∙ then_reads (do_at line h.0) (λ y. done (do_loop y)) d (do_again line d h.0 h.2)
kind_again line (suc n) go_on t cs h room = worded_reads line (λ v. kind_at line n v cs) Continue [] t cs go_on h refl
kind_again line (suc n) (block_if e) t cs h room = ap (λ (c : Class). class_at line (λ v. kind_at line n v cs) c cs) h.1 ∙ then_reads (whole_at line h.0) (λ y. done (block_if y)) e (whole_again line h.0 e h.2)
kind_again line (suc n) (else_if e) t cs h room = worded_reads line (λ v. kind_at line n v cs) ElseIf (40 ∷ (h.0 ++ codes ")THEN")) t cs (else_if e) h.1 (arm_again line e h.0 h.2)
kind_again line (suc n) else_arm t cs h room = worded_reads line (λ v. kind_at line n v cs) Else [] t cs else_arm h refl
kind_again line (suc n) end_if t cs h room = worded_reads line (λ v. kind_at line n v cs) EndIf [] t cs end_if h refl
kind_again line (suc n) (logical_if e k) t cs h room =
    let next : Term → Result Kind Break = λ x. kind_at line n h.1 cs >>= λ y. Ok (logical_if x y) in
    ap (λ (c : Class). class_at line (λ v. kind_at line n v cs) c cs) h.2
    ∙ then_reads (whole_at line h.0) next e (whole_again line h.0 e h.3)
    ∙ then_reads (kind_at line n h.1 cs) (λ y. done (logical_if e y)) k (kind_again line n k h.1 cs h.4 (omega arith))
kind_again line (suc n) (print is) t cs h room = go h.1
  where
    go : ((class_of t ≡ classes.worded Print h.0) × AreBehindComma (AreItems cs) is h.0) ⊎ ((class_of t ≡ classes.worded Write h.0) × AreOptional (AreItems cs) is h.0) → class_at line (λ v. kind_at line n v cs) (class_of t) cs ≡ Ok (print is)
    go (inl p) = worded_reads line (λ v. kind_at line n v cs) Print h.0 t cs (print is) p.0
        (then_reads (list_behind_star line h.0 >>= listed (items_at line cs)) (λ y. done (print y)) is (behind_comma_again line (items_at line cs) (AreItems cs) (λ w js q. items_at_again line cs w js q) h.0 is p.1))
    go (inr p) = worded_reads line (λ v. kind_at line n v cs) Write h.0 t cs (print is) p.0
        (then_reads (listed (items_at line cs) (list_behind_unit h.0)) (λ y. done (print y)) is (listed_again (items_at line cs) (AreItems cs) (λ w js q. items_at_again line cs w js q) (λ w js q. items_some cs w js q) h.0 is p.1))
kind_again line (suc n) (read es) t cs h room = go h.1
  where
    again : (w : List ℕ) (js : List Access) → AreParts IsAccess nothing js w → open_list line (element_at line) w ≡ Ok js
    again w js q = open_again line (element_at line) IsAccess (element_part line) js w q

    go : ((class_of t ≡ classes.worded Read h.0) × AreBehindComma (AreParts IsAccess nothing) es h.0) ⊎ ((class_of t ≡ classes.worded ReadUnit h.0) × AreOptional (AreParts IsAccess nothing) es h.0) → class_at line (λ v. kind_at line n v cs) (class_of t) cs ≡ Ok (read es)
    go (inl p) = worded_reads line (λ v. kind_at line n v cs) Read h.0 t cs (read es) p.0
        (then_reads (list_behind_star line h.0 >>= listed (open_list line (element_at line))) (λ y. done (read y)) es (behind_comma_again line (open_list line (element_at line)) (AreParts IsAccess nothing) again h.0 es p.1))
    go (inr p) = worded_reads line (λ v. kind_at line n v cs) ReadUnit h.0 t cs (read es) p.0
        (then_reads (listed (open_list line (element_at line)) (list_behind_unit h.0)) (λ y. done (read y)) es (listed_again (open_list line (element_at line)) (AreParts IsAccess nothing) again (λ w js q. parts_some IsAccess access_some js w q) h.0 es p.1))
kind_again line (suc n) stop t cs h room = worded_reads line (λ v. kind_at line n v cs) Stop h.0 t cs stop h.1 (rw h.2 refl)
kind_again line (suc n) end t cs h room = worded_reads line (λ v. kind_at line n v cs) End [] t cs end h refl

pub statement_again : (line : ℕ) (label : Option ℕ) (text t : List ℕ) (cs : List (List ℕ)) (s : Statement) → Derived line label text t cs s → nested s.kind < length t + 1 → statement_at line label text t cs ≡ Ok s
statement_again line label text t cs s d room =
    then_reads (kind_at line (length t + 1) t cs) (checked_at line label text) s.kind (kind_again line (length t + 1) s.kind t cs d.derived room)
    ∙ rw (d.initial, le-leb (depth_of_kind s.kind) depth_limit d.shallow) refl
    ∙ ap (λ (l : ℕ). done (record { line = l; label = label; kind = s.kind })) (sym d.at)
    ∙ ap (λ (l : Option ℕ). done (record { line = s.line; label = l; kind = s.kind })) (sym d.labelled)
