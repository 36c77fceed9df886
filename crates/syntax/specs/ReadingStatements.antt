-- Reading a statement from left to right, with the rule of the first fault that is met.
use Rattle.std.specs.Prelude.{ℕ, zero, suc, ◌+◌, nat_le, ◌==◌, if◌then◌else◌, Bool, List, [], ◌∷◌}
use Rattle.std.specs.Prelude.{◌++◌, length, take, drop, Option, Some, None, Result, Ok, codes}
use Rattle.std.specs.List.{prefix_len}
use Rattle.ast.specs.Answers.{Break}
use Rattle.ast.specs.Results.{◌>>=◌}
use Rattle.ast.specs.Tree.{Term, Access, PrintItem, value_item, text_item, Bounds}
use Rattle.ast.specs.Tree.{Declarator, Definition, DoHead, Kind, program, integer}
use Rattle.ast.specs.Tree.{dimension, parameters, assign, do_loop, go_on, block_if, else_if}
use Rattle.ast.specs.Tree.{else_arm, end_if, logical_if, print, read, stop, end, Statement}
use Rattle.ast.specs.declared.rule.Rule.TheVariants.{UnknownStatement, Malformed, Deep}
use Rattle.ast.specs.declared.rule.Rule.TheVariants as rules
use Rattle.expressions.specs.Answers.{refuse}
use Rattle.expressions.specs.Characters.{is_digit, after, value}
use Rattle.expressions.specs.Grammar.{reference_to, depth_limit}
use Rattle.expressions.specs.Reading.{name_at, wanted_at, end_at, front_at}
use Rattle.expressions.specs.Reading.{whole_at, ended, element_at, spent}
use Rattle.syntax.specs.declared.class.Keyword.{Keyword}
use Rattle.syntax.specs.declared.class.Keyword.TheVariants.{Program, Integer, Dimension, Parameter}
use Rattle.syntax.specs.declared.class.Keyword.TheVariants.{Print, Write, Read, ReadUnit, Continue}
use Rattle.syntax.specs.declared.class.Keyword.TheVariants.{Else, ElseIf, EndIf, Stop, End, LeftOut}
use Rattle.syntax.specs.Classes as classes
use Rattle.syntax.specs.Classes.{Class, class_of, without_comma, is_word}
use Rattle.syntax.specs.Depths.{depth_of_kind}
use Rattle.syntax.specs.Statements.{most_digits, is_stop_text, is_initial}

-- ---- lists

-- Parts after those that were read, the first right here; they end where no comma stands. n bounds
-- their number.
abbrev pub parts_at : {X : Type 0} → ℕ → (List ℕ → Result (X × List ℕ) Break)
    → (List ℕ → Result (List ℕ) Break) → ℕ → List X → List ℕ → Result (List X × List ℕ) Break
parts_at line part ending zero xs t = refuse line spent
parts_at line part ending (suc n) xs t = part t >>= λ x. elim (after (codes ",") x.1) [
  | Some u ↦ parts_at line part ending n (xs ++ x.0 ∷ []) u
  | None ↦ ending x.1 >>= λ u. Ok (xs ++ x.0 ∷ [], u)
]

-- a list in parentheses, behind the opening one; a list that goes to the end of the text
abbrev pub closed_list : {X : Type 0} → ℕ → (List ℕ → Result (X × List ℕ) Break)
    → List ℕ → Result (List X × List ℕ) Break
closed_list line part t = parts_at line part (wanted_at line (codes ")")) (length t + 1) [] t

abbrev pub open_list : {X : Type 0} → ℕ → (List ℕ → Result (X × List ℕ) Break)
    → List ℕ → Result (List X) Break
open_list line part t = parts_at line part (end_at line) (length t + 1) [] t >>= λ x. Ok x.0

-- a list, where one stands
abbrev pub listed : {X : Type 0} → (List ℕ → Result (List X) Break) → Option (List ℕ)
    → Result (List X) Break
listed list None = Ok []
listed list (Some t) = list t

-- behind `(*,*)`: nothing, or a list; behind `*`: nothing, or a comma and a list
abbrev pub list_behind_unit : List ℕ → Option (List ℕ)
list_behind_unit t = if length t == 0 then None else Some t

abbrev pub list_behind_star : ℕ → List ℕ → Result (Option (List ℕ)) Break
list_behind_star line t = if length t == 0 then Ok None else elim (after (codes ",") t) [
  | Some u ↦ Ok (Some u)
  | None ↦ refuse line Malformed
]

-- ---- parts

-- after the first expression of bounds
abbrev pub upper_at : ℕ → Term → List ℕ → Result (Bounds × List ℕ) Break
upper_at line e t = elim (after (codes ":") t) [
  | Some u ↦ front_at line u >>= λ x. Ok (record { lower = Some e; upper = x.0 }, x.1)
  | None ↦ Ok (record { lower = None; upper = e }, t)
]

abbrev pub bounds_at : ℕ → List ℕ → Result (Bounds × List ℕ) Break
bounds_at line t = front_at line t >>= λ x. upper_at line x.0 x.1

-- behind a name and its opening parenthesis
abbrev pub array_of : ℕ → List ℕ → List ℕ → Result (Declarator × List ℕ) Break
array_of line name t =
    closed_list line (bounds_at line) t >>= λ x. Ok (record { name = name; bounds = x.0 }, x.1)

abbrev pub array_at : ℕ → List ℕ → Result (Declarator × List ℕ) Break
array_at line t =
    name_at line t >>= λ x. wanted_at line (codes "(") x.1 >>= λ u. array_of line x.0 u

abbrev pub declared_at : ℕ → List ℕ → List ℕ → Result (Declarator × List ℕ) Break
declared_at line name t = elim (after (codes "(") t) [
  | Some u ↦ array_of line name u
  | None ↦ Ok (record { name = name; bounds = [] }, t)
]

abbrev pub declarator_at : ℕ → List ℕ → Result (Declarator × List ℕ) Break
declarator_at line t = name_at line t >>= λ x. declared_at line x.0 x.1

-- a declarator, bounds being wanted or not
abbrev pub part_at : Bool → ℕ → List ℕ → Result (Declarator × List ℕ) Break
part_at bounded line t = if bounded then array_at line t else declarator_at line t

abbrev pub definition_at : ℕ → List ℕ → Result (Definition × List ℕ) Break
definition_at line t =
    name_at line t >>= λ x. wanted_at line (codes "=") x.1 >>= λ u. front_at line u
    >>= λ y. Ok (record { name = x.0; value = y.0 }, y.1)

-- the next character constant, which isn't empty; there are as many as apostrophes
abbrev pub next_constant : ℕ → List (List ℕ) → Result (PrintItem × List (List ℕ)) Break
next_constant line [] = refuse line Malformed
next_constant line (s ∷ cs) = if length s == 0 then refuse line Malformed else Ok (text_item s, cs)

-- an item, the text after it and the constants that are left
abbrev pub item_at : ℕ → List ℕ → List (List ℕ) → Result (PrintItem × List ℕ × List (List ℕ)) Break
item_at line t cs = elim (after (codes "'") t) [
  | None ↦ front_at line t >>= λ x. Ok (value_item x.0, x.1, cs)
  | Some u ↦ next_constant line cs >>= λ x. Ok (x.0, u, x.1)
]

-- items after those that were read, the first right here; n bounds their number
abbrev pub items_from : ℕ → ℕ → List PrintItem → List ℕ → List (List ℕ)
    → Result (List PrintItem) Break
items_from line zero is t cs = refuse line spent
items_from line (suc n) is t cs = item_at line t cs >>= λ x. elim (after (codes ",") x.1) [
  | Some u ↦ items_from line n (is ++ x.0 ∷ []) u x.2
  | None ↦ end_at line x.1 >>= λ u. Ok (is ++ x.0 ∷ [])
]

abbrev pub items_at : ℕ → List (List ℕ) → List ℕ → Result (List PrintItem) Break
items_at line cs t = items_from line (length t + 1) [] t cs

-- ---- DO

abbrev pub step_at : ℕ → List ℕ → Result (Option Term) Break
step_at line t =
    if length t == 0 then Ok None
    else (wanted_at line (codes ",") t >>= λ u. whole_at line u >>= λ e. Ok (Some e))

abbrev pub head_of : ℕ → ℕ → List ℕ → List ℕ → Result DoHead Break
head_of line label name t =
    front_at line t >>= λ a. wanted_at line (codes ",") a.1 >>= λ u. front_at line u
    >>= λ b. step_at line b.1 >>= λ s.
    Ok
    (record { terminal = label; variable = reference_to name; first = a.0; last = b.0; step = s })

-- behind the comma of the initial parameter, and behind the label
abbrev pub bounded_by : ℕ → ℕ → List ℕ → Term → List ℕ → Result DoHead Break
bounded_by line label name first t =
    front_at line t >>= λ b. step_at line b.1 >>= λ s.
    Ok
    (record { terminal = label; variable = reference_to name; first = first; last = b.0; step = s })

abbrev pub counted_by : ℕ → ℕ → List ℕ → Result DoHead Break
counted_by line label t =
    name_at line t >>= λ x. wanted_at line (codes "=") x.1 >>= λ u. head_of line label x.0 u

abbrev pub do_at : ℕ → List ℕ → Result DoHead Break
do_at line t =
    let n = prefix_len is_digit t in
    if nat_le n most_digits then (name_at line (without_comma (drop n t)) >>= λ x.
    wanted_at line (codes "=") x.1 >>= λ u. head_of line (value (take n t)) x.0 u)
    else refuse line Malformed

-- ---- statements

abbrev pub assigned_at : ℕ → List ℕ → Result Kind Break
assigned_at line t =
    element_at line t >>= λ x. wanted_at line (codes "=") x.1 >>= λ u. whole_at line u
    >>= λ e. Ok (assign x.0 e)

-- behind the target of an assignment
abbrev pub assigned_behind : ℕ → Access → List ℕ → Result Kind Break
assigned_behind line a t =
    wanted_at line (codes "=") t >>= λ u. whole_at line u >>= λ e. Ok (assign a e)

abbrev pub definitions_at : ℕ → List ℕ → Result (List Definition) Break
definitions_at line t = elim (after (codes "(") t) [
  | Some u ↦ closed_list line (definition_at line) u >>= λ x. end_at line x.1 >>= λ v. Ok x.0
  | None ↦ refuse line Malformed
]

-- behind the parenthesis of a PARAMETER
abbrev pub enclosed_definitions_at : ℕ → List ℕ → Result (List Definition) Break
enclosed_definitions_at line t =
    closed_list line (definition_at line) t >>= λ x. end_at line x.1 >>= λ v. Ok x.0

-- behind the parenthesis of an ELSE IF
abbrev pub arm_at : ℕ → List ℕ → Result Kind Break
arm_at line t =
    front_at line t >>= λ x. wanted_at line (codes ")") x.1 >>= λ u.
    if is_word (codes "THEN") u then Ok (else_if x.0) else refuse line Malformed

abbrev pub else_if_at : ℕ → List ℕ → Result Kind Break
else_if_at line t =
    elim (after (codes "(") t) [ Some u ↦ arm_at line u | None ↦ refuse line Malformed ]

-- a text that is a name as a whole
abbrev pub whole_name_at : ℕ → List ℕ → Result (List ℕ) Break
whole_name_at line t = name_at line t >>= ended line

-- a keyword that stands alone
abbrev pub alone : ℕ → Kind → List ℕ → Result Kind Break
alone line k t = if length t == 0 then Ok k else refuse line Malformed

-- what stands behind a keyword
abbrev pub worded_at : ℕ → Keyword → List ℕ → List (List ℕ) → Result Kind Break
worded_at line Program t cs = whole_name_at line t >>= λ x. Ok (program x)
worded_at line Integer t cs = open_list line (declarator_at line) t >>= λ ds. Ok (integer ds)
worded_at line Dimension t cs = open_list line (array_at line) t >>= λ ds. Ok (dimension ds)
worded_at line Parameter t cs = definitions_at line t >>= λ ds. Ok (parameters ds)
worded_at line Print t cs =
    list_behind_star line t >>= listed (items_at line cs) >>= λ is. Ok (print is)
worded_at line Write t cs = listed (items_at line cs) (list_behind_unit t) >>= λ is. Ok (print is)
worded_at line Read t cs =
    list_behind_star line t >>= listed (open_list line (element_at line)) >>= λ es. Ok (read es)
worded_at line ReadUnit t cs =
    listed (open_list line (element_at line)) (list_behind_unit t) >>= λ es. Ok (read es)
worded_at line Continue t cs = alone line go_on t
worded_at line Else t cs = alone line else_arm t
worded_at line ElseIf t cs = else_if_at line t
worded_at line EndIf t cs = alone line end_if t
worded_at line Stop t cs = if is_stop_text t cs then Ok stop else refuse line Malformed
worded_at line End t cs = alone line end t
worded_at line LeftOut t cs = refuse line rules.LeftOut

abbrev pub block_if_at : ℕ → List ℕ → Result Kind Break
block_if_at line t = whole_at line t >>= λ e. Ok (block_if e)

abbrev pub do_loop_at : ℕ → List ℕ → Result Kind Break
do_loop_at line t = do_at line t >>= λ h. Ok (do_loop h)

-- the statement of a class, the statement of a logical IF being read by `inner`
abbrev pub class_at : ℕ → (List ℕ → Result Kind Break) → Class → List (List ℕ) → Result Kind Break
class_at line inner (classes.block_if u) cs = whole_at line u >>= λ e. Ok (block_if e)
class_at line inner (classes.logical_if u v) cs =
    whole_at line u >>= λ e. inner v >>= λ k. Ok (logical_if e k)
class_at line inner (classes.do_loop u) cs = do_at line u >>= λ h. Ok (do_loop h)
class_at line inner (classes.assignment u) cs = assigned_at line u
class_at line inner (classes.worded k u) cs = worded_at line k u cs
class_at line inner classes.unclosed cs = refuse line Malformed
class_at line inner classes.unknown cs = refuse line UnknownStatement

-- n bounds how many logical IFs hold one another
abbrev pub kind_at : ℕ → ℕ → List ℕ → List (List ℕ) → Result Kind Break
kind_at line zero t cs = refuse line spent
kind_at line (suc n) t cs = class_at line (λ v. kind_at line n v cs) (class_of t) cs

abbrev pub initial : ℕ → List ℕ → Kind → Result Kind Break
initial line text k = if is_initial k text then Ok k else refuse line Malformed

abbrev pub shallow : ℕ → Kind → Result Kind Break
shallow line k = if nat_le (depth_of_kind k) depth_limit then Ok k else refuse line Deep

abbrev pub accepted : ℕ → List ℕ → Kind → Result Kind Break
accepted line text k = initial line text k >>= shallow line

-- what is left to look at, once it is known what the statement does
abbrev pub checked_at : ℕ → Option ℕ → List ℕ → Kind → Result Statement Break
checked_at line label text k =
    initial line text k >>= shallow line >>= λ k.
    Ok (record { line = line; label = label; kind = k })

-- the statement of a text with these marks and constants, with a label, at a line
abbrev pub statement_at : ℕ → Option ℕ → List ℕ → List ℕ → List (List ℕ) → Result Statement Break
statement_at line label text t cs = kind_at line (length t + 1) t cs >>= checked_at line label text
