-- Whether an expression of a text is integer or logical. Names are integer, in the profile, and so
-- are elements and calls with integer subscripts and arguments.
use Rattle.std.specs.Prelude.{Bool, true, false, ◌&&◌}
use Rattle.ast.specs.Tree.{Term, constant, truth, parameter, element, call}
use Rattle.ast.specs.Tree.{parentheses, unary, binary, Terms, no_terms, then_term}
use Rattle.ast.specs.declared.expression.Operator.{Operator}
use Rattle.ast.specs.declared.expression.Operator.TheVariants.{Add, Subtract, Multiply, Divide}
use Rattle.ast.specs.declared.expression.Operator.TheVariants.{And, Or, Equivalent, NotEquivalent}
use Rattle.ast.specs.declared.expression.Prefix.{Prefix}
use Rattle.ast.specs.declared.expression.Prefix.TheVariants.{Not}

-- the two kinds of values
pub data ValueKind : Type 0 where
  integral : ValueKind
  logical : ValueKind

-- two kinds are one
abbrev pub is_same : ValueKind → ValueKind → Bool
is_same integral integral = true
is_same logical logical = true
is_same _ _ = false

-- what an operator takes and gives
abbrev pub takes : Operator → ValueKind
takes And = logical
takes Or = logical
takes Equivalent = logical
takes NotEquivalent = logical
takes _ = integral

-- what an operator gives: comparisons and logical operators a logical value
abbrev pub gives : Operator → ValueKind
gives Add = integral
gives Subtract = integral
gives Multiply = integral
gives Divide = integral
gives _ = logical

-- what a prefix takes and gives
abbrev pub prefix_kind : Prefix → ValueKind
prefix_kind Not = logical
prefix_kind _ = integral

abbrev mutual
  -- the expression is of this kind, and so are its operands of those that its operators take
  pub is_of : ValueKind → Term → Bool
  is_of kind (constant n) = is_same kind integral
  is_of kind (truth b) = is_same kind logical
  is_of kind (parameter x n) = is_same kind integral
  is_of kind (element r es) = is_same kind integral && are_integral es
  is_of kind (call f es) = is_same kind integral && are_integral es
  is_of kind (parentheses e) = is_of kind e
  is_of kind (unary p e) = is_same kind (prefix_kind p) && is_of (prefix_kind p) e
  is_of kind (binary o a b) = is_same kind (gives o) && (is_of (takes o) a && is_of (takes o) b)

  pub are_integral : Terms → Bool
  are_integral no_terms = true
  are_integral (then_term e es) = is_of integral e && are_integral es
