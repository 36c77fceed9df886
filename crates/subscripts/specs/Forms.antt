-- Affine forms of subscripts: c0 + c*I + the sum of u*x over at most 8 other scalars x, where I is
-- the loop's variable. All numbers are exact; where one is no 64-bit integer, there is no form.
use Rattle.std.specs.Prelude.{ℕ, ℤ, pos, ◌+ℤ◌, ◌-ℤ◌, ◌*ℤ◌, nat_le, Bool, true}
use Rattle.std.specs.Prelude.{false, not, ◌&&◌, ◌==◌, if◌then◌else◌, List, []}
use Rattle.std.specs.Prelude.{◌∷◌, ◌++◌, map, filter, length, Option, Some, None}
use Rattle.std.specs.List.{list_any, list_all}
use Rattle.std.specs.Ordering.{int_eq}
use Rattle.ast.specs.Exact.{fits}
use Rattle.ast.specs.Tree.{Ref, Term, Terms, constant, truth, parameter, element}
use Rattle.ast.specs.Tree.{call, parentheses, unary, binary, no_terms, then_term}
use Rattle.ast.specs.declared.expression.Operator.{Operator}
use Rattle.ast.specs.declared.expression.Operator.TheVariants.{Add, Subtract, Multiply}
use Rattle.ast.specs.declared.expression.Prefix.{Prefix}
use Rattle.ast.specs.declared.expression.Prefix.TheVariants.{Plus, Minus, Not}
use Rattle.loop_tree.specs.Constants.{if_some}
use Rattle.loop_tree.specs.Loops.{Loop, has_cell}

-- so many times a scalar, which is told by its cell
pub record Share : Type 0 where
  pub cell : ℕ
  pub factor : ℤ

-- a form: its constant, how often it takes the loop's variable, and other scalars
pub record Form : Type 0 where
  pub constant : ℤ
  pub coefficient : ℤ
  pub shares : List Share

-- A scalar that the range gives values varies; the loop's variable is looked at before.
abbrev pub varies : Loop → ℕ → Bool
varies l c = has_cell c l.assigned

-- the cell is that of the loop's variable
abbrev pub is_variable : Loop → ℕ → Bool
is_variable l c = c == l.head.variable.cell

-- a scalar is among those of shares
abbrev pub has_share : ℕ → List Share → Bool
has_share c ss = list_any (λ (s : Share). s.cell == c) ss

-- how often a scalar is taken
abbrev pub factor_in : List Share → ℕ → ℤ
factor_in [] c = pos 0
factor_in (s ∷ ss) c = if s.cell == c then s.factor else factor_in ss c

-- a scalar is taken at all
abbrev pub is_nonzero : Share → Bool
is_nonzero s = not (int_eq s.factor (pos 0))

-- a scalar whose factor becomes 0 is dropped
abbrev pub nonzero : List Share → List Share
nonzero ss = filter is_nonzero ss

-- a form has at most so many other scalars
abbrev pub most_shares : ℕ
most_shares = 8

-- the factor is a 64-bit integer
abbrev pub share_fits : Share → Bool
share_fits s = fits s.factor

-- all factors are, and there are few enough
abbrev pub shares_fit : List Share → Bool
shares_fit ss = list_all share_fits ss && nat_le (length ss) most_shares

-- a form whose numbers are all 64-bit integers, over at most 8 scalars
abbrev pub has_room : Form → Bool
has_room f = fits f.constant && fits f.coefficient && shares_fit f.shares

-- a form, where it has room
abbrev pub in_room : Form → Option Form
in_room f = if has_room f then Some f else None

-- a sum, or a difference where `minus` holds
abbrev pub total : Bool → ℤ → ℤ → ℤ
total false a b = a +ℤ b
total true a b = a -ℤ b

-- a share of the first, with the second's of the same scalar
abbrev pub total_share : Bool → List Share → Share → Share
total_share minus gs s =
    record { cell = s.cell; factor = total minus s.factor (factor_in gs s.cell) }

-- a share of the second alone
abbrev pub new_share : Bool → Share → Share
new_share minus s = record { cell = s.cell; factor = total minus (pos 0) s.factor }

-- those of the second that the first lacks
abbrev pub others : List Share → List Share → List Share
others fs gs = filter (λ (s : Share). not (has_share s.cell fs)) gs

-- the shares of a sum or a difference
abbrev pub total_shares : Bool → List Share → List Share → List Share
total_shares minus fs gs =
    nonzero (map (total_share minus gs) fs ++ map (new_share minus) (others fs gs))

-- the sum or the difference of two forms
abbrev pub total_form : Bool → Form → Form → Form
total_form minus f g = record {
  constant = total minus f.constant g.constant;
  coefficient = total minus f.coefficient g.coefficient;
  shares = total_shares minus f.shares g.shares;
}

-- both sides have a share of one varying scalar
abbrev pub share_varying : Loop → List Share → List Share → Bool
share_varying l fs gs = list_any (λ (s : Share). varies l s.cell && has_share s.cell gs) fs

-- the same, where they share no varying scalar and the numbers fit
abbrev pub total_of : Loop → Bool → Form → Form → Option Form
total_of l minus f g =
    if share_varying l f.shares g.shares then None else in_room (total_form minus f g)

abbrev pub times_share : ℤ → Share → Share
times_share k s = record { cell = s.cell; factor = k *ℤ s.factor }

abbrev pub times : ℤ → Form → Form
times k f = record {
  constant = k *ℤ f.constant;
  coefficient = k *ℤ f.coefficient;
  shares = nonzero (map (times_share k) f.shares);
}

abbrev pub are_none : List Share → Bool
are_none [] = true
are_none (s ∷ ss) = false

abbrev pub is_constant : Form → Bool
is_constant f = int_eq f.coefficient (pos 0) && are_none f.shares

-- a product with a factor whose form is a constant
abbrev pub product : Form → Form → Option Form
product f g =
    if is_constant f then in_room (times f.constant g)
    else if is_constant g then in_room (times g.constant f) else None

abbrev pub number_form : ℤ → Form
number_form n = record { constant = n; coefficient = pos 0; shares = [] }

abbrev pub variable_form : Form
variable_form = record { constant = pos 0; coefficient = pos 1; shares = [] }

-- another scalar
abbrev pub other_form : ℕ → Form
other_form c = record {
  constant = pos 0;
  coefficient = pos 0;
  shares = record { cell = c; factor = pos 1 } ∷ [];
}

abbrev pub scalar_form : Loop → ℕ → Form
scalar_form l c = if is_variable l c then variable_form else other_form c

abbrev pub prefixed_form : Loop → Prefix → Form → Option Form
prefixed_form l Plus f = Some f
prefixed_form l Minus f = in_room (total_form true (number_form (pos 0)) f)
prefixed_form l Not f = None

abbrev pub binary_form : Loop → Operator → Form → Form → Option Form
binary_form l Add f g = total_of l false f g
binary_form l Subtract f g = total_of l true f g
binary_form l Multiply f g = product f g
binary_form l _ f g = None

abbrev pub element_form : Loop → Ref → Terms → Option Form
element_form l r no_terms = Some (scalar_form l r.cell)
element_form l r (then_term e es) = None

-- The affine form of an expression; None where it has none: elements of arrays, intrinsics,
-- divisions and other products, whatever has a part without a form, and what is out of room.
abbrev pub form_of : Loop → Term → Option Form
form_of l (constant n) = Some (number_form n)
form_of l (truth b) = None
form_of l (parameter x n) = Some (number_form n)
form_of l (element r es) = element_form l r es
form_of l (call f es) = None
form_of l (parentheses e) = form_of l e
form_of l (unary p e) = if_some (form_of l e) (λ f. prefixed_form l p f)
form_of l (binary o a b) =
    if_some (form_of l a) (λ f. if_some (form_of l b) (λ g. binary_form l o f g))
