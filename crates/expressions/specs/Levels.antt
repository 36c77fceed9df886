-- The levels of precedence, from a primary up to a whole expression, and where each operator
-- stands.
use Rattle.std.specs.Prelude.{ℕ, List, Bool, true, false, codes}
use Rattle.ast.specs.declared.expression.Operator.{Operator}
use Rattle.ast.specs.declared.expression.Operator.TheVariants.{Add, Subtract, Multiply, Divide}
use Rattle.ast.specs.declared.expression.Operator.TheVariants.{And, Or, Equivalent, NotEquivalent}
use Rattle.ast.specs.declared.expression.Prefix.{Prefix}
use Rattle.ast.specs.declared.expression.Prefix.TheVariants.{Plus, Minus, Not}

-- a constant, a name, an element, a call, or an expression in parentheses
abbrev pub primary : ℕ
primary = 0

-- `*` and `/`
abbrev pub product : ℕ
product = 1

-- `+` and `-`
abbrev pub sum : ℕ
sum = 2

-- comparisons
abbrev pub relation : ℕ
relation = 3

-- `.NOT.`
abbrev pub factor : ℕ
factor = 4

-- `.AND.`
abbrev pub conjunction : ℕ
conjunction = 5

-- `.OR.`
abbrev pub disjunction : ℕ
disjunction = 6

-- `.EQV.` and `.NEQV.`
abbrev pub equivalence : ℕ
equivalence = 7

-- the level of a whole expression
abbrev pub top : ℕ
top = equivalence

abbrev pub level_of : Operator → ℕ
level_of Add = sum
level_of Subtract = sum
level_of Multiply = product
level_of Divide = product
level_of And = conjunction
level_of Or = disjunction
level_of Equivalent = equivalence
level_of NotEquivalent = equivalence
level_of _ = relation

-- the level of the operand on the left: operators go from the left, and a relation doesn't chain
abbrev pub left_level : Operator → ℕ
left_level Add = sum
left_level Subtract = sum
left_level Multiply = product
left_level Divide = product
left_level And = conjunction
left_level Or = disjunction
left_level Equivalent = equivalence
left_level NotEquivalent = equivalence
left_level _ = sum

-- the level of the operand on the right
abbrev pub right_level : Operator → ℕ
right_level Add = product
right_level Subtract = product
right_level Multiply = primary
right_level Divide = primary
right_level And = factor
right_level Or = conjunction
right_level Equivalent = disjunction
right_level NotEquivalent = disjunction
right_level _ = sum

-- the level at which a prefix stands: a sign applies to the first term of its sum
abbrev pub prefix_level : Prefix → ℕ
prefix_level Plus = sum
prefix_level Minus = sum
prefix_level Not = factor

-- the level of what it stands before
abbrev pub operand_level : Prefix → ℕ
operand_level Plus = product
operand_level Minus = product
operand_level Not = relation

abbrev pub truth_spelling : Bool → List ℕ
truth_spelling true = codes ".TRUE."
truth_spelling false = codes ".FALSE."
