-- Each fault that reading a statement gives is at its line and of a rule of statements.
use Rattle.std.proofs.Common.{◌≡◌, ℕ, zero, suc, ◌+◌, ◌<◌, ◌≤◌, cond, eqb, leb, List, [], ◌∷◌, ◌++◌, length, take, drop, Option, Some, None, Result, Ok, refl, ap, arith}
use Rattle.std.specs.Prelude.{codes}
use Rattle.std.specs.List.{prefix_len}
use Rattle.std.proofs.lemmas.List.{length-append}
use Rattle.ast.specs.Answers.{Break}
use Rattle.ast.specs.Results.{◌>>=◌}
use Rattle.ast.specs.Tree.{Term, PrintItem, value_item, text_item, Bounds, Declarator, Definition, DoHead, Kind, program, integer, dimension, parameters, assign, do_loop, go_on, block_if, else_if, else_arm, end_if, logical_if, print, read, stop, end}
use Rattle.ast.specs.declared.rule.Rule.TheVariants.{UnknownStatement, Malformed, Deep}
use Rattle.ast.specs.declared.rule.Rule.TheVariants as rules
use Rattle.expressions.specs.Answers.{refuse}
use Rattle.expressions.specs.Characters.{is_digit, after, value}
use Rattle.expressions.specs.Grammar.{reference_to, depth_limit}
use Rattle.expressions.specs.Reading.{name_at, wanted_at, end_at, front_at, whole_at, ended, element_at}
use Rattle.expressions.proofs.Numbered.{IsFault, Numbered, bind, either, of_rule, wanted_numbered, end_numbered, name_numbered, front_numbered, element_numbered, ended_numbered, whole_numbered}
use Rattle.expressions.proofs.Sound.{element_sound}
use Rattle.expressions.proofs.Tools.{after_law}
use Rattle.syntax.specs.declared.class.Keyword.{Keyword}
use Rattle.syntax.specs.declared.class.Keyword.TheVariants.{Program, Integer, Dimension, Parameter, Print, Write, Read, ReadUnit, Continue, Else, ElseIf, EndIf, Stop, End, LeftOut}
use Rattle.syntax.specs.Classes as classes
use Rattle.syntax.specs.Classes.{Class, class_of, without_comma, is_word}
use Rattle.syntax.specs.Depths.{depth_of_kind}
use Rattle.syntax.specs.Statements.{most_digits, IsBounds, IsDeclarator, IsArray, IsDefinition, is_stop_text, is_initial}
use Rattle.syntax.specs.ReadingStatements.{parts_at, closed_list, open_list, listed, list_behind_unit, list_behind_star, upper_at, bounds_at, array_of, array_at, declared_at, declarator_at, definition_at, next_constant, item_at, items_from, items_at, step_at, head_of, do_at, assigned_at, definitions_at, arm_at, else_if_at, whole_name_at, alone, worded_at, class_at, kind_at, initial, shallow, checked_at, statement_at}
use Rattle.syntax.proofs.Rest.{rest_shorter}
use Rattle.syntax.proofs.StatementSound.{bounds_sound, array_sound, declarator_sound, definition_sound, item_sound}

malformed : (line : ℕ) → IsFault line (record { rule = Malformed; line = line })
malformed line = of_rule line Malformed (omega arith) (omega arith) (λ e. cc)

-- ---- lists

-- a part never lengthens the text
abbrev Shortens : {X : Type 0} → (List ℕ → Result (X × List ℕ) Break) → Type 0
Shortens {X} part = (t : List ℕ) (x : X × List ℕ) → part t ≡ Ok x → length x.1 ≤ length t

shortens : {X : Type 0} (part : List ℕ → Result (X × List ℕ) Break) (Is : X → List ℕ → Type 0) → ((t : List ℕ) (x : X × List ℕ) → part t ≡ Ok x → (u : List ℕ) × (t ≡ u ++ x.1) × Is x.0 u) → Shortens part
shortens part Is sound t x e = let s = sound t x e in omega (arith, ap length s.1, length-append s.0 x.1)

parts_numbered : {X : Type 0} (line : ℕ) (part : List ℕ → Result (X × List ℕ) Break) (ending : List ℕ → Result (List ℕ) Break) → ((t : List ℕ) → Numbered line (part t)) → Shortens part → ((t : List ℕ) → Numbered line (ending t))
    → (n : ℕ) (xs : List X) (t : List ℕ) → length t < n → Numbered line (parts_at line part ending n xs t)
parts_numbered line part ending numbered shorter ends zero xs t room = absurd (omega arith)
parts_numbered {X} line part ending numbered shorter ends (suc n) xs t room =
    let next : X × List ℕ → Result (List X × List ℕ) Break = λ x. elim (after (codes ",") x.1) [ Some u ↦ parts_at line part ending n (xs ++ x.0 ∷ []) u | None ↦ ending x.1 >>= λ u. Ok (xs ++ x.0 ∷ [], u) ] in
    bind line (part t) next (numbered t) (λ x e. go x (shorter t x e) (after (codes ",") x.1) refl (λ u r. parts_numbered line part ending numbered shorter ends n (xs ++ x.0 ∷ []) u r))
  where
    go : (x : X × List ℕ) → length x.1 ≤ length t → (o : Option (List ℕ)) → after (codes ",") x.1 ≡ o → ((u : List ℕ) → length u < n → Numbered line (parts_at line part ending n (xs ++ x.0 ∷ []) u))
        → Numbered {X = List X × List ℕ} line (elim o [ Some u ↦ parts_at line part ending n (xs ++ x.0 ∷ []) u | None ↦ ending x.1 >>= λ u. Ok (xs ++ x.0 ∷ [], u) ])
    go x short None comma more = bind line (ending x.1) (λ u. Ok (xs ++ x.0 ∷ [], u)) (ends x.1) (λ u e. tt)
    go x short (Some u) comma more = more u (omega (arith, ap length (after_law (codes ",") x.1 u comma)))

closed_numbered : {X : Type 0} (line : ℕ) (part : List ℕ → Result (X × List ℕ) Break) → ((t : List ℕ) → Numbered line (part t)) → Shortens part → (t : List ℕ) → Numbered line (closed_list line part t)
closed_numbered line part numbered shorter t = parts_numbered line part (wanted_at line (codes ")")) numbered shorter (wanted_numbered line (codes ")")) (length t + 1) [] t (omega arith)

open_numbered : {X : Type 0} (line : ℕ) (part : List ℕ → Result (X × List ℕ) Break) → ((t : List ℕ) → Numbered line (part t)) → Shortens part → (t : List ℕ) → Numbered line (open_list line part t)
open_numbered line part numbered shorter t =
    bind line (parts_at line part (end_at line) (length t + 1) [] t) (λ x. Ok x.0) (parts_numbered line part (end_at line) numbered shorter (end_numbered line) (length t + 1) [] t (omega arith)) (λ x e. tt)

listed_numbered : {X : Type 0} (line : ℕ) (list : List ℕ → Result (List X) Break) → ((t : List ℕ) → Numbered line (list t)) → (o : Option (List ℕ)) → Numbered line (listed list o)
listed_numbered line list numbered None = tt
listed_numbered line list numbered (Some t) = numbered t

star_numbered : (line : ℕ) (t : List ℕ) → Numbered line (list_behind_star line t)
star_numbered line t = either line (eqb (length t) 0) (Ok None) (elim (after (codes ",") t) [ Some u ↦ Ok (Some u) | None ↦ refuse line Malformed ]) (λ _. tt) (λ _. go (after (codes ",") t))
  where
    go : (o : Option (List ℕ)) → Numbered {X = Option (List ℕ)} line (elim o [ Some u ↦ Ok (Some u) | None ↦ refuse line Malformed ])
    go None = malformed line
    go (Some u) = tt

behind_numbered : {X : Type 0} (line : ℕ) (list : List ℕ → Result (List X) Break) → ((t : List ℕ) → Numbered line (list t)) → (t : List ℕ) → Numbered line (list_behind_star line t >>= listed list)
behind_numbered line list numbered t = bind line (list_behind_star line t) (listed list) (star_numbered line t) (λ o e. listed_numbered line list numbered o)

-- ---- parts

upper_numbered : (line : ℕ) (e : Term) (t : List ℕ) → Numbered line (upper_at line e t)
upper_numbered line e t = go (after (codes ":") t)
  where
    go : (o : Option (List ℕ)) → Numbered {X = Bounds × List ℕ} line (elim o [ Some u ↦ front_at line u >>= λ x. Ok (record { lower = Some e; upper = x.0 }, x.1) | None ↦ Ok (record { lower = None; upper = e }, t) ])
    go None = tt
    go (Some u) = bind line (front_at line u) (λ x. Ok (record { lower = Some e; upper = x.0 }, x.1)) (front_numbered line u) (λ x f. tt)

bounds_numbered : (line : ℕ) (t : List ℕ) → Numbered line (bounds_at line t)
bounds_numbered line t = bind line (front_at line t) (λ x. upper_at line x.0 x.1) (front_numbered line t) (λ x e. upper_numbered line x.0 x.1)

array_of_numbered : (line : ℕ) (name t : List ℕ) → Numbered line (array_of line name t)
array_of_numbered line name t =
    bind line (closed_list line (bounds_at line) t) (λ x. Ok (record { name = name; bounds = x.0 }, x.1)) (closed_numbered line (bounds_at line) (bounds_numbered line) (shortens (bounds_at line) IsBounds (bounds_sound line)) t) (λ x e. tt)

array_numbered : (line : ℕ) (t : List ℕ) → Numbered line (array_at line t)
array_numbered line t =
    bind line (name_at line t) (λ x. wanted_at line (codes "(") x.1 >>= λ u. array_of line x.0 u) (name_numbered line t)
    (λ x e. bind line (wanted_at line (codes "(") x.1) (array_of line x.0) (wanted_numbered line (codes "(") x.1) (λ u f. array_of_numbered line x.0 u))

declared_numbered : (line : ℕ) (name t : List ℕ) → Numbered line (declared_at line name t)
declared_numbered line name t = go (after (codes "(") t)
  where
    go : (o : Option (List ℕ)) → Numbered {X = Declarator × List ℕ} line (elim o [ Some u ↦ array_of line name u | None ↦ Ok (record { name = name; bounds = [] }, t) ])
    go None = tt
    go (Some u) = array_of_numbered line name u

declarator_numbered : (line : ℕ) (t : List ℕ) → Numbered line (declarator_at line t)
declarator_numbered line t = bind line (name_at line t) (λ x. declared_at line x.0 x.1) (name_numbered line t) (λ x e. declared_numbered line x.0 x.1)

definition_numbered : (line : ℕ) (t : List ℕ) → Numbered line (definition_at line t)
definition_numbered line t =
    bind line (name_at line t) (λ x. wanted_at line (codes "=") x.1 >>= λ u. front_at line u >>= λ y. Ok (record { name = x.0; value = y.0 }, y.1)) (name_numbered line t)
    (λ x e. bind line (wanted_at line (codes "=") x.1) (λ u. front_at line u >>= λ y. Ok (record { name = x.0; value = y.0 }, y.1)) (wanted_numbered line (codes "=") x.1)
    (λ u f. bind line (front_at line u) (λ y. Ok (record { name = x.0; value = y.0 }, y.1)) (front_numbered line u) (λ y g. tt)))

elements_numbered : (line : ℕ) (t : List ℕ) → Numbered line (open_list line (element_at line) t)
elements_numbered line t = open_numbered line (element_at line) (element_numbered line) (λ u x e. let s = element_sound line u x e in omega (arith, ap length s.1, length-append s.0 x.1)) t

constant_numbered : (line : ℕ) (cs : List (List ℕ)) → Numbered line (next_constant line cs)
constant_numbered line [] = malformed line
constant_numbered line (s ∷ cs) = either line (eqb (length s) 0) (refuse line Malformed) (Ok (text_item s, cs)) (λ _. malformed line) (λ _. tt)

item_numbered : (line : ℕ) (t : List ℕ) (cs : List (List ℕ)) → Numbered line (item_at line t cs)
item_numbered line t cs = go (after (codes "'") t)
  where
    go : (o : Option (List ℕ)) → Numbered {X = PrintItem × List ℕ × List (List ℕ)} line (elim o [ None ↦ front_at line t >>= λ x. Ok (value_item x.0, x.1, cs) | Some u ↦ next_constant line cs >>= λ x. Ok (x.0, u, x.1) ])
    go None = bind line (front_at line t) (λ x. Ok (value_item x.0, x.1, cs)) (front_numbered line t) (λ x e. tt)
    go (Some u) = bind line (next_constant line cs) (λ x. Ok (x.0, u, x.1)) (constant_numbered line cs) (λ x e. tt)

items_numbered : (line n : ℕ) (is : List PrintItem) (t : List ℕ) (cs : List (List ℕ)) → length t < n → Numbered line (items_from line n is t cs)
items_numbered line zero is t cs room = absurd (omega arith)
items_numbered line (suc n) is t cs room =
    let next : PrintItem × List ℕ × List (List ℕ) → Result (List PrintItem) Break = λ x. elim (after (codes ",") x.1) [ Some u ↦ items_from line n (is ++ x.0 ∷ []) u x.2 | None ↦ end_at line x.1 >>= λ u. Ok (is ++ x.0 ∷ []) ] in
    bind line (item_at line t cs) next (item_numbered line t cs)
    (λ x e. let s = item_sound line t cs x e in go x (omega (arith, ap length s.1, length-append s.0 x.1)) (after (codes ",") x.1) refl (λ u r. items_numbered line n (is ++ x.0 ∷ []) u x.2 r))
  where
    go : (x : PrintItem × List ℕ × List (List ℕ)) → length x.1 ≤ length t → (o : Option (List ℕ)) → after (codes ",") x.1 ≡ o → ((u : List ℕ) → length u < n → Numbered line (items_from line n (is ++ x.0 ∷ []) u x.2))
        → Numbered {X = List PrintItem} line (elim o [ Some u ↦ items_from line n (is ++ x.0 ∷ []) u x.2 | None ↦ end_at line x.1 >>= λ u. Ok (is ++ x.0 ∷ []) ])
    go x short None comma more = bind line (end_at line x.1) (λ u. Ok (is ++ x.0 ∷ [])) (end_numbered line x.1) (λ u e. tt)
    go x short (Some u) comma more = more u (omega (arith, ap length (after_law (codes ",") x.1 u comma)))

items_all : (line : ℕ) (cs : List (List ℕ)) (t : List ℕ) → Numbered line (items_at line cs t)
items_all line cs t = items_numbered line (length t + 1) [] t cs (omega arith)

-- ---- DO

step_numbered : (line : ℕ) (t : List ℕ) → Numbered line (step_at line t)
step_numbered line t =
    either line (eqb (length t) 0) (Ok None) (wanted_at line (codes ",") t >>= λ u. whole_at line u >>= λ e. Ok (Some e)) (λ _. tt)
    (λ _. bind line (wanted_at line (codes ",") t) (λ u. whole_at line u >>= λ e. Ok (Some e)) (wanted_numbered line (codes ",") t)
    (λ u e. bind line (whole_at line u) (λ x. Ok (Some x)) (whole_numbered line u) (λ x f. tt)))

head_numbered : (line label : ℕ) (name t : List ℕ) → Numbered line (head_of line label name t)
head_numbered line label name t =
    let made : Term → Term → Option Term → DoHead = λ a b s. record { terminal = label; variable = reference_to name; first = a; last = b; step = s } in
    let third : Term → Term × List ℕ → Result DoHead Break = λ a b. step_at line b.1 >>= λ s. Ok (made a b.0 s) in
    let second : Term → List ℕ → Result DoHead Break = λ a u. front_at line u >>= λ b. third a b in
    bind line (front_at line t) (λ a. wanted_at line (codes ",") a.1 >>= λ u. second a.0 u) (front_numbered line t)
    (λ a e. bind line (wanted_at line (codes ",") a.1) (second a.0) (wanted_numbered line (codes ",") a.1)
    (λ u f. bind line (front_at line u) (third a.0) (front_numbered line u)
    (λ b g. bind line (step_at line b.1) (λ s. Ok (made a.0 b.0 s)) (step_numbered line b.1) (λ s h. tt))))

do_numbered : (line : ℕ) (t : List ℕ) → Numbered line (do_at line t)
do_numbered line t =
    let n = prefix_len is_digit t in
    let next : List ℕ × List ℕ → Result DoHead Break = λ x. wanted_at line (codes "=") x.1 >>= λ u. head_of line (value (take n t)) x.0 u in
    either line (leb n most_digits) (name_at line (without_comma (drop n t)) >>= next) (refuse line Malformed)
    (λ _. bind line (name_at line (without_comma (drop n t))) next (name_numbered line (without_comma (drop n t)))
    (λ x e. bind line (wanted_at line (codes "=") x.1) (λ u. head_of line (value (take n t)) x.0 u) (wanted_numbered line (codes "=") x.1) (λ u f. head_numbered line (value (take n t)) x.0 u)))
    (λ _. malformed line)

-- ---- statements

assigned_numbered : (line : ℕ) (t : List ℕ) → Numbered line (assigned_at line t)
assigned_numbered line t =
    bind line (element_at line t) (λ x. wanted_at line (codes "=") x.1 >>= λ u. whole_at line u >>= λ e. Ok (assign x.0 e)) (element_numbered line t)
    (λ x e. bind line (wanted_at line (codes "=") x.1) (λ u. whole_at line u >>= λ e. Ok (assign x.0 e)) (wanted_numbered line (codes "=") x.1)
    (λ u f. bind line (whole_at line u) (λ e. Ok (assign x.0 e)) (whole_numbered line u) (λ y g. tt)))

definitions_numbered : (line : ℕ) (t : List ℕ) → Numbered line (definitions_at line t)
definitions_numbered line t = go (after (codes "(") t)
  where
    go : (o : Option (List ℕ)) → Numbered {X = List Definition} line (elim o [ Some u ↦ closed_list line (definition_at line) u >>= λ x. end_at line x.1 >>= λ v. Ok x.0 | None ↦ refuse line Malformed ])
    go None = malformed line
    go (Some u) = bind line (closed_list line (definition_at line) u) (λ x. end_at line x.1 >>= λ v. Ok x.0) (closed_numbered line (definition_at line) (definition_numbered line) (shortens (definition_at line) IsDefinition (definition_sound line)) u)
        (λ x e. bind line (end_at line x.1) (λ v. Ok x.0) (end_numbered line x.1) (λ v f. tt))

arm_numbered : (line : ℕ) (t : List ℕ) → Numbered line (arm_at line t)
arm_numbered line t =
    let last : Term → List ℕ → Result Kind Break = λ e u. cond (is_word (codes "THEN") u) (Ok (else_if e)) (refuse line Malformed) in
    bind line (front_at line t) (λ x. wanted_at line (codes ")") x.1 >>= λ u. last x.0 u) (front_numbered line t)
    (λ x e. bind line (wanted_at line (codes ")") x.1) (last x.0) (wanted_numbered line (codes ")") x.1)
    (λ u f. either line (is_word (codes "THEN") u) (Ok (else_if x.0)) (refuse line Malformed) (λ _. tt) (λ _. malformed line)))

else_if_numbered : (line : ℕ) (t : List ℕ) → Numbered line (else_if_at line t)
else_if_numbered line t = go (after (codes "(") t)
  where
    go : (o : Option (List ℕ)) → Numbered {X = Kind} line (elim o [ Some u ↦ arm_at line u | None ↦ refuse line Malformed ])
    go None = malformed line
    go (Some u) = arm_numbered line u

alone_numbered : (line : ℕ) (k : Kind) (t : List ℕ) → Numbered line (alone line k t)
alone_numbered line k t = either line (eqb (length t) 0) (Ok k) (refuse line Malformed) (λ _. tt) (λ _. malformed line)

worded_numbered : (line : ℕ) (w : Keyword) (t : List ℕ) (cs : List (List ℕ)) → Numbered line (worded_at line w t cs)
worded_numbered line Program t cs =
    bind line (whole_name_at line t) (λ x. Ok (program x)) (bind line (name_at line t) (ended line) (name_numbered line t) (λ x e. ended_numbered line x)) (λ x e. tt)
worded_numbered line Integer t cs =
    bind line (open_list line (declarator_at line) t) (λ ds. Ok (integer ds)) (open_numbered line (declarator_at line) (declarator_numbered line) (shortens (declarator_at line) IsDeclarator (declarator_sound line)) t) (λ x e. tt)
worded_numbered line Dimension t cs =
    bind line (open_list line (array_at line) t) (λ ds. Ok (dimension ds)) (open_numbered line (array_at line) (array_numbered line) (shortens (array_at line) IsArray (array_sound line)) t) (λ x e. tt)
worded_numbered line Parameter t cs = bind line (definitions_at line t) (λ ds. Ok (parameters ds)) (definitions_numbered line t) (λ x e. tt)
worded_numbered line Print t cs = bind line (list_behind_star line t >>= listed (items_at line cs)) (λ is. Ok (print is)) (behind_numbered line (items_at line cs) (items_all line cs) t) (λ x e. tt)
worded_numbered line Write t cs = bind line (listed (items_at line cs) (list_behind_unit t)) (λ is. Ok (print is)) (listed_numbered line (items_at line cs) (items_all line cs) (list_behind_unit t)) (λ x e. tt)
worded_numbered line Read t cs = bind line (list_behind_star line t >>= listed (open_list line (element_at line))) (λ es. Ok (read es)) (behind_numbered line (open_list line (element_at line)) (elements_numbered line) t) (λ x e. tt)
worded_numbered line ReadUnit t cs = bind line (listed (open_list line (element_at line)) (list_behind_unit t)) (λ es. Ok (read es)) (listed_numbered line (open_list line (element_at line)) (elements_numbered line) (list_behind_unit t)) (λ x e. tt)
worded_numbered line Continue t cs = alone_numbered line go_on t
worded_numbered line Else t cs = alone_numbered line else_arm t
worded_numbered line ElseIf t cs = else_if_numbered line t
worded_numbered line EndIf t cs = alone_numbered line end_if t
worded_numbered line Stop t cs = either line (is_stop_text t cs) (Ok stop) (refuse line Malformed) (λ _. tt) (λ _. malformed line)
worded_numbered line End t cs = alone_numbered line end t
worded_numbered line LeftOut t cs = of_rule line rules.LeftOut (omega arith) (omega arith) (λ e. cc)

class_numbered : (line : ℕ) (inner : List ℕ → Result Kind Break) (c : Class) (cs : List (List ℕ)) → ((u v : List ℕ) → c ≡ classes.logical_if u v → Numbered line (inner v)) → Numbered line (class_at line inner c cs)
class_numbered line inner (classes.block_if u) cs h = bind line (whole_at line u) (λ e. Ok (block_if e)) (whole_numbered line u) (λ x e. tt)
class_numbered line inner (classes.logical_if u v) cs h =
    bind line (whole_at line u) (λ e. inner v >>= λ k. Ok (logical_if e k)) (whole_numbered line u) (λ x e. bind line (inner v) (λ k. Ok (logical_if x k)) (h u v refl) (λ k f. tt))
class_numbered line inner (classes.do_loop u) cs h = bind line (do_at line u) (λ d. Ok (do_loop d)) (do_numbered line u) (λ x e. tt)
class_numbered line inner (classes.assignment u) cs h = assigned_numbered line u
class_numbered line inner (classes.worded w u) cs h = worded_numbered line w u cs
class_numbered line inner classes.unclosed cs h = malformed line
class_numbered line inner classes.unknown cs h = of_rule line UnknownStatement (omega arith) (omega arith) (λ e. cc)

kind_numbered : (line n : ℕ) (t : List ℕ) (cs : List (List ℕ)) → length t < n → Numbered line (kind_at line n t cs)
kind_numbered line zero t cs room = absurd (omega arith)
kind_numbered line (suc n) t cs room = class_numbered line (λ v. kind_at line n v cs) (class_of t) cs (λ u v is. kind_numbered line n v cs (omega (arith, rest_shorter t u v is)))

checked_numbered : (line : ℕ) (label : Option ℕ) (text : List ℕ) (k : Kind) → Numbered line (checked_at line label text k)
checked_numbered line label text k =
    bind line (initial line text k >>= shallow line) (λ x. Ok (record { line = line; label = label; kind = x }))
    (bind line (initial line text k) (shallow line) (either line (is_initial k text) (Ok k) (refuse line Malformed) (λ _. tt) (λ _. malformed line))
    (λ x e. either line (leb (depth_of_kind x) depth_limit) (Ok x) (refuse line Deep) (λ _. tt) (λ _. of_rule line Deep (omega arith) (omega arith) (λ e. cc))))
    (λ x e. tt)

pub statement_numbered : (line : ℕ) (label : Option ℕ) (text t : List ℕ) (cs : List (List ℕ)) → Numbered line (statement_at line label text t cs)
statement_numbered line label text t cs =
    bind line (kind_at line (length t + 1) t cs) (checked_at line label text) (kind_numbered line (length t + 1) t cs (omega arith)) (λ k e. checked_numbered line label text k)
