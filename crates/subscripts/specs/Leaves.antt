-- Expressions without parts, and their forms.
use Rattle.std.specs.Prelude.{ℤ, Option, Some, None}
use Rattle.ast.specs.Tree.{Ref, Term, Terms, constant, parameter, element, no_terms, then_term}
use Rattle.loop_tree.specs.Loops.{Loop}
use Rattle.subscripts.specs.Forms.{Form, number_form, scalar_form}
use Rattle.subscripts.specs.declared.leaf.Leaf.{Leaf}
use Rattle.subscripts.specs.declared.leaf.Leaf.TheVariants.{Number, Scalar}

abbrev pub number_leaf : ℤ → Leaf
number_leaf n = Number n

abbrev pub scalar_of : Ref → Terms → Option Leaf
scalar_of r no_terms = Some (Scalar r.cell)
scalar_of r (then_term e es) = None

-- an expression that is a number or a scalar
abbrev pub leaf_of : Term → Option Leaf
leaf_of (constant n) = Some (number_leaf n)
leaf_of (parameter x n) = Some (number_leaf n)
leaf_of (element r es) = scalar_of r es
leaf_of _ = None

abbrev pub leaf_form : Loop → Leaf → Form
leaf_form l (Number n) = number_form n
leaf_form l (Scalar c) = scalar_form l c
