-- Reading from left to right, with the rule of the first fault that is met, at a line.
use Rattle.std.specs.Prelude.{ℕ, zero, suc, pos, ◌+◌, ◌-◌, ◌*◌, nat_lt, nat_le, ◌==◌}
use Rattle.std.specs.Prelude.{if◌then◌else◌, true, false, List, [], ◌∷◌, ◌++◌, length}
use Rattle.std.specs.Prelude.{take, drop, Option, Some, None, Result, Ok, codes}
use Rattle.std.specs.List.{prefix_len}
use Rattle.ast.specs.Answers.{Break}
use Rattle.ast.specs.Name.{padded}
use Rattle.ast.specs.Results.{◌>>=◌}
use Rattle.ast.specs.Tree.{Term, constant, truth, parentheses, unary}
use Rattle.ast.specs.Tree.{binary, terms, Access, accessed, depth}
use Rattle.ast.specs.declared.expression.Operator.{Operator}
use Rattle.ast.specs.declared.expression.Operator.TheVariants.{Add, Subtract, Multiply, Divide}
use Rattle.ast.specs.declared.expression.Operator.TheVariants.{Less, LessOrEqual, Equal, NotEqual}
use Rattle.ast.specs.declared.expression.Operator.TheVariants.{Greater, GreaterOrEqual, And}
use Rattle.ast.specs.declared.expression.Operator.TheVariants.{Or, Equivalent, NotEquivalent}
use Rattle.ast.specs.declared.expression.Prefix.{Prefix}
use Rattle.ast.specs.declared.expression.Prefix.TheVariants.{Plus, Minus, Not}
use Rattle.expressions.specs.Answers.{refuse}
use Rattle.expressions.specs.Characters.{is_digit, is_alphanumeric, begins_digit, begins_letter}
use Rattle.expressions.specs.Characters.{after, value, constant_limit, longest_name}
use Rattle.expressions.specs.Grammar.{reference_to, depth_limit}
use Rattle.ast.specs.Spelling.{prefix_spelling, spelling}
use Rattle.ast.specs.declared.rule.Rule.{Rule}
use Rattle.ast.specs.declared.rule.Rule.TheVariants.{RealConstant, LargeConstant, LongName}
use Rattle.ast.specs.declared.rule.Rule.TheVariants.{Malformed, Deep, LargeProgram}
use Rattle.expressions.specs.Levels.{relation, top, truth_spelling}
use Rattle.expressions.specs.Real.{begins_real}

-- what stands after an operand, a name, an item or a parenthesis, where it may not stand
abbrev pub misplaced : List ℕ → Rule
misplaced t = if begins_real t then RealConstant else Malformed

-- a constant and the text after it: the digits, as many as there are
abbrev pub constant_at : ℕ → List ℕ → Result (Term × List ℕ) Break
constant_at line t =
    let n = prefix_len is_digit t in
    if nat_lt (value (take n t)) constant_limit
    then Ok (constant (pos (value (take n t))), drop n t)
    else refuse line LargeConstant

-- a name and the text after it: letters and digits, as many as there are
abbrev pub name_at : ℕ → List ℕ → Result (List ℕ × List ℕ) Break
name_at line t =
    let n = prefix_len is_alphanumeric t in
    if begins_letter t
    then (if nat_le n longest_name then Ok (padded (take n t), drop n t) else refuse line LongName)
    else refuse line Malformed

abbrev pub truth_at : List ℕ → Option (Term × List ℕ)
truth_at t = elim (after (truth_spelling true) t) [
  | Some u ↦ Some (truth true, u)
  | None ↦ elim (after (truth_spelling false) t) [ Some u ↦ Some (truth false, u) | None ↦ None ]
]

-- a constant or a logical constant, if one stands there
abbrev pub literal_at : ℕ → List ℕ → Result (Option (Term × List ℕ)) Break
literal_at line t =
    if begins_real t then refuse line RealConstant
    else (if begins_digit t then (constant_at line t >>= λ x. Ok (Some x)) else Ok (truth_at t))

-- the operators and the prefixes of each level
abbrev pub operators_of : ℕ → List Operator
operators_of level =
    if level == 1 then (Multiply ∷ Divide ∷ [])
    else (if level == 2 then (Add ∷ Subtract ∷ [])
    else (if level == 3 then (Less ∷ LessOrEqual ∷ Equal ∷ NotEqual ∷ Greater ∷ GreaterOrEqual ∷ [])
    else (if level == 5 then (And ∷ [])
    else (if level == 6 then (Or ∷ [])
    else (if level == 7 then (Equivalent ∷ NotEquivalent ∷ []) else [])))))

abbrev pub prefixes_of : ℕ → List Prefix
prefixes_of level =
    if level == 2 then (Plus ∷ Minus ∷ []) else (if level == 4 then (Not ∷ []) else [])

-- the first of these that the text begins with, and the text after it
abbrev pub first_operator : List Operator → List ℕ → Option (Operator × List ℕ)
first_operator [] t = None
first_operator (o ∷ os) t =
    elim (after (spelling o) t) [ Some u ↦ Some (o, u) | None ↦ first_operator os t ]

abbrev pub first_prefix : List Prefix → List ℕ → Option Prefix × List ℕ
first_prefix [] t = (None, t)
first_prefix (p ∷ ps) t =
    elim (after (prefix_spelling p) t) [ Some u ↦ (Some p, u) | None ↦ first_prefix ps t ]

abbrev pub operator_at : ℕ → List ℕ → Option (Operator × List ℕ)
operator_at level t = first_operator (operators_of level) t

abbrev pub prefix_at : ℕ → List ℕ → Option Prefix × List ℕ
prefix_at level t = first_prefix (prefixes_of level) t

abbrev pub with_prefix : Option Prefix → Term → Term
with_prefix None e = e
with_prefix (Some p) e = unary p e

-- the text behind a mark that is wanted after an operand, a name or a parenthesis
abbrev pub wanted_at : ℕ → List ℕ → List ℕ → Result (List ℕ) Break
wanted_at line mark t = elim (after mark t) [ Some u ↦ Ok u | None ↦ refuse line (misplaced t) ]

-- nothing is wanted any more
abbrev pub end_at : ℕ → List ℕ → Result (List ℕ) Break
end_at line t = if length t == 0 then Ok [] else refuse line (misplaced t)

-- after the opening parenthesis and the expression
abbrev pub closed_at : ℕ → Term → List ℕ → Result (Term × List ℕ) Break
closed_at line e t = wanted_at line (codes ")") t >>= λ u. Ok (parentheses e, u)

-- Where the room for calls ends. It is no rule of statements, and no text comes there.
abbrev pub spent : Rule
spent = LargeProgram

-- Reading one expression of a level. n bounds the depth of the calls.
abbrev mutual
  pub level_at : ℕ → ℕ → ℕ → List ℕ → Result (Term × List ℕ) Break
  level_at line zero level t = refuse line spent
  level_at line (suc n) level t =
      if level == 0 then primary_at line n t
      else (level_at line n (level - 1) (prefix_at level t).1 >>= λ x.
      chain_at line n level (with_prefix (prefix_at level t).0 x.0) x.1)

  -- after the operand on the left; a relation doesn't chain
  pub chain_at : ℕ → ℕ → ℕ → Term → List ℕ → Result (Term × List ℕ) Break
  chain_at line zero level left t = refuse line spent
  chain_at line (suc n) level left t = elim (operator_at level t) [
    | None ↦ Ok (left, t)
    | Some o ↦ level_at line n (level - 1) o.1 >>= λ x.
        if level == relation then Ok (binary o.0 left x.0, x.1)
        else chain_at line n level (binary o.0 left x.0) x.1
  ]

  pub primary_at : ℕ → ℕ → List ℕ → Result (Term × List ℕ) Break
  primary_at line zero t = refuse line spent
  primary_at line (suc n) t = elim (after (codes "(") t) [
    | None ↦ literal_at line t >>= λ o. operand_at line n o t
    | Some u ↦ level_at line n top u >>= λ x. closed_at line x.0 x.1
  ]

  -- the literal, if there is one, or what a name begins
  pub operand_at : ℕ → ℕ → Option (Term × List ℕ) → List ℕ → Result (Term × List ℕ) Break
  operand_at line zero o t = refuse line spent
  operand_at line (suc n) o t =
      elim o [ Some x ↦ Ok x | None ↦ access_at line n t >>= λ x. Ok (accessed x.0, x.1) ]

  pub access_at : ℕ → ℕ → List ℕ → Result (Access × List ℕ) Break
  access_at line zero t = refuse line spent
  access_at line (suc n) t =
      name_at line t >>= λ x. subscripts_at line n x.1 >>= λ y.
      Ok (record { ref = reference_to x.0; subscripts = terms y.0 }, y.1)

  pub subscripts_at : ℕ → ℕ → List ℕ → Result (List Term × List ℕ) Break
  subscripts_at line zero t = refuse line spent
  subscripts_at line (suc n) t =
      elim (after (codes "(") t) [ None ↦ Ok ([], t) | Some u ↦ list_at line n [] u ]

  -- expressions after those that were read, the first right here
  pub list_at : ℕ → ℕ → List Term → List ℕ → Result (List Term × List ℕ) Break
  list_at line zero es t = refuse line spent
  list_at line (suc n) es t = level_at line n top t >>= λ x. further_at line n (es ++ x.0 ∷ []) x.1

  -- expressions after those that were read, each behind a comma, and the closing parenthesis
  pub further_at : ℕ → ℕ → List Term → List ℕ → Result (List Term × List ℕ) Break
  further_at line zero es t = refuse line spent
  further_at line (suc n) es t = elim (after (codes ",") t) [
    | Some u ↦ list_at line n es u
    | None ↦ wanted_at line (codes ")") t >>= λ u. Ok (es, u)
  ]

-- room for the calls that a text may need
abbrev pub room : List ℕ → ℕ
room t = 12 * length t + 12

-- the expression, or the access, at the beginning of a text, and what stands after it
abbrev pub front_at : ℕ → List ℕ → Result (Term × List ℕ) Break
front_at line t = level_at line (room t) top t

abbrev pub element_at : ℕ → List ℕ → Result (Access × List ℕ) Break
element_at line t = access_at line (room t) t

-- a text that is an expression as a whole
abbrev pub ended : {X : Type 0} → ℕ → X × List ℕ → Result X Break
ended line x = end_at line x.1 >>= λ u. Ok x.0

abbrev pub whole_at : ℕ → List ℕ → Result Term Break
whole_at line t = front_at line t >>= ended line

abbrev pub shallow : ℕ → Term → Result Term Break
shallow line e = if nat_le (depth e) depth_limit then Ok e else refuse line Deep

-- the expression that is a whole text, folded and without blanks
abbrev pub expression_at : ℕ → List ℕ → Result Term Break
expression_at line t = whole_at line t >>= shallow line
