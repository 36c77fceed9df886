-- How a statement without blanks spells operators, prefixes and the intrinsic functions.
use Rattle.std.specs.Prelude.{ℕ, List, Option, Some, None, codes, if◌then◌else◌}
use Rattle.ast.specs.Store.{same_name}
use Rattle.ast.specs.declared.expression.Intrinsic.{Intrinsic}
use Rattle.ast.specs.declared.expression.Intrinsic.TheVariants.{Abs, Iabs, Max, Max0}
use Rattle.ast.specs.declared.expression.Intrinsic.TheVariants.{Min, Min0, Mod}
use Rattle.ast.specs.declared.expression.Operator.{Operator}
use Rattle.ast.specs.declared.expression.Operator.TheVariants.{Add, Subtract, Multiply, Divide}
use Rattle.ast.specs.declared.expression.Operator.TheVariants.{Less, LessOrEqual, Equal, NotEqual}
use Rattle.ast.specs.declared.expression.Operator.TheVariants.{Greater, GreaterOrEqual, And}
use Rattle.ast.specs.declared.expression.Operator.TheVariants.{Or, Equivalent, NotEquivalent}
use Rattle.ast.specs.declared.expression.Prefix.{Prefix}
use Rattle.ast.specs.declared.expression.Prefix.TheVariants.{Plus, Minus, Not}

abbrev pub spelling : Operator → List ℕ
spelling Add = codes "+"
spelling Subtract = codes "-"
spelling Multiply = codes "*"
spelling Divide = codes "/"
spelling Less = codes ".LT."
spelling LessOrEqual = codes ".LE."
spelling Equal = codes ".EQ."
spelling NotEqual = codes ".NE."
spelling Greater = codes ".GT."
spelling GreaterOrEqual = codes ".GE."
spelling And = codes ".AND."
spelling Or = codes ".OR."
spelling Equivalent = codes ".EQV."
spelling NotEquivalent = codes ".NEQV."

abbrev pub prefix_spelling : Prefix → List ℕ
prefix_spelling Plus = codes "+"
prefix_spelling Minus = codes "-"
prefix_spelling Not = codes ".NOT."

-- the name of an intrinsic function, filled with blanks as names are
abbrev pub intrinsic_name : Intrinsic → List ℕ
intrinsic_name Abs = codes "ABS   "
intrinsic_name Iabs = codes "IABS  "
intrinsic_name Max = codes "MAX   "
intrinsic_name Max0 = codes "MAX0  "
intrinsic_name Min = codes "MIN   "
intrinsic_name Min0 = codes "MIN0  "
intrinsic_name Mod = codes "MOD   "

-- the intrinsic function of a name
abbrev pub intrinsic_named : List ℕ → Option Intrinsic
intrinsic_named name =
    if same_name name (codes "ABS   ") then Some Abs
    else if same_name name (codes "IABS  ") then Some Iabs
    else if same_name name (codes "MAX   ") then Some Max
    else if same_name name (codes "MAX0  ") then Some Max0
    else if same_name name (codes "MIN   ") then Some Min
    else if same_name name (codes "MIN0  ") then Some Min0
    else if same_name name (codes "MOD   ") then Some Mod
    else None
