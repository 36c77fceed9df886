-- Exact values: the whole number that an operation gives, or the fault where it leaves the 64-bit
-- integers or divides by zero. 64-bit two's complement is the profile's INTEGER; the standard says
-- that a quotient is truncated toward zero and that MOD(a,b) is a - INT(a/b)*b. A truth value is 1
-- where it is true and 0 where it is false.
use Rattle.std.specs.Prelude.{ℕ, ℤ, pos, negsuc, zero, suc, Bool, true, false, nat_lt, ◌^◌}
use Rattle.std.specs.Prelude.{◌+ℤ◌, ◌-ℤ◌, ◌*ℤ◌, neg_ℤ, int_div, int_rem, int_lt, unsigned_abs}
use Rattle.std.specs.Prelude.{not, ◌&&◌, ◌||◌, if◌then◌else◌, List, [], ◌∷◌, Result, Ok, Err}
use Rattle.std.specs.Ordering.{int_eq}
use Rattle.ast.specs.declared.expression.Operator.{Operator}
use Rattle.ast.specs.declared.expression.Operator.TheVariants.{Add, Subtract, Multiply, Divide}
use Rattle.ast.specs.declared.expression.Operator.TheVariants.{Less, LessOrEqual, Equal, NotEqual}
use Rattle.ast.specs.declared.expression.Operator.TheVariants.{Greater, GreaterOrEqual, And}
use Rattle.ast.specs.declared.expression.Operator.TheVariants.{Or, Equivalent, NotEquivalent}
use Rattle.ast.specs.declared.expression.Prefix.{Prefix}
use Rattle.ast.specs.declared.expression.Prefix.TheVariants.{Plus, Minus, Not}
use Rattle.ast.specs.declared.expression.Intrinsic.{Intrinsic}
use Rattle.ast.specs.declared.expression.Intrinsic.TheVariants.{Abs, Iabs, Max, Max0}
use Rattle.ast.specs.declared.expression.Intrinsic.TheVariants.{Min, Min0, Mod}
use Rattle.ast.specs.declared.fault.Fault.{Fault}
use Rattle.ast.specs.declared.fault.Fault.TheVariants.{Overflow, ZeroDivisor}

-- whether a whole number is a 64-bit integer: -n-1 is written negsuc n
abbrev pub fits : ℤ → Bool
fits (pos n) = nat_lt n (2 ^ 63)
fits (negsuc n) = nat_lt n (2 ^ 63)

-- a whole number that is a 64-bit integer, otherwise OVERFLOW
abbrev pub in_range : ℤ → Result ℤ Fault
in_range z = if fits z then Ok z else Err Overflow

-- the quotient, truncated toward zero, in range, or ZERO DIVISOR
abbrev pub quotient : ℤ → ℤ → Result ℤ Fault
quotient a (pos zero) = Err ZeroDivisor
quotient a (pos (suc n)) = in_range (int_div a (pos (suc n)))
quotient a (negsuc n) = in_range (int_div a (negsuc n))

-- what a truncated quotient leaves, or ZERO DIVISOR; it is always in range
abbrev pub remainder : ℤ → ℤ → Result ℤ Fault
remainder a (pos zero) = Err ZeroDivisor
remainder a (pos (suc n)) = Ok (int_rem a (pos (suc n)))
remainder a (negsuc n) = Ok (int_rem a (negsuc n))

-- the absolute value, in range: that of -2**63 is not
abbrev pub absolute : ℤ → Result ℤ Fault
absolute a = in_range (pos (unsigned_abs a))

-- the number with the other sign, in range
abbrev pub negated : ℤ → Result ℤ Fault
negated a = in_range (neg_ℤ a)

-- 1 for true, 0 for false
abbrev pub truth_value : Bool → ℤ
truth_value true = pos 1
truth_value false = pos 0

-- every other number than 0 counts as true
abbrev pub is_true : ℤ → Bool
is_true v = not (int_eq v (pos 0))

-- The exact sum, difference, product or truncated quotient, in range, or ZERO DIVISOR; of a
-- comparison or a logical operator a truth value.
abbrev pub value_of : Operator → ℤ → ℤ → Result ℤ Fault
value_of Add a b = in_range (a +ℤ b)
value_of Subtract a b = in_range (a -ℤ b)
value_of Multiply a b = in_range (a *ℤ b)
value_of Divide a b = quotient a b
value_of Less a b = Ok (truth_value (int_lt a b))
value_of LessOrEqual a b = Ok (truth_value (not (int_lt b a)))
value_of Equal a b = Ok (truth_value (int_eq a b))
value_of NotEqual a b = Ok (truth_value (not (int_eq a b)))
value_of Greater a b = Ok (truth_value (int_lt b a))
value_of GreaterOrEqual a b = Ok (truth_value (not (int_lt a b)))
value_of And a b = Ok (truth_value (is_true a && is_true b))
value_of Or a b = Ok (truth_value (is_true a || is_true b))
value_of Equivalent a b = Ok (truth_value (if is_true a then is_true b else not (is_true b)))
value_of NotEquivalent a b = Ok (truth_value (if is_true a then not (is_true b) else is_true b))

-- the value of a prefix with its operand
abbrev pub prefixed_value : Prefix → ℤ → Result ℤ Fault
prefixed_value Plus a = Ok a
prefixed_value Minus a = negated a
prefixed_value Not a = Ok (truth_value (not (is_true a)))

-- the greater of two numbers
abbrev pub greater : ℤ → ℤ → ℤ
greater a b = if int_lt a b then b else a

-- the lesser of two numbers
abbrev pub less : ℤ → ℤ → ℤ
less a b = if int_lt b a then b else a

-- the greatest and the least of numbers, a the first
abbrev pub greatest : ℤ → List ℤ → ℤ
greatest a [] = a
greatest a (b ∷ bs) = greatest (greater a b) bs

abbrev pub least : ℤ → List ℤ → ℤ
least a [] = a
least a (b ∷ bs) = least (less a b) bs

-- the value of an intrinsic function; no program in the profile has another number of arguments
abbrev pub intrinsic_value : Intrinsic → List ℤ → Result ℤ Fault
intrinsic_value Mod (a ∷ b ∷ []) = remainder a b
intrinsic_value Abs (a ∷ []) = absolute a
intrinsic_value Iabs (a ∷ []) = absolute a
intrinsic_value Max (a ∷ more) = Ok (greatest a more)
intrinsic_value Max0 (a ∷ more) = Ok (greatest a more)
intrinsic_value Min (a ∷ more) = Ok (least a more)
intrinsic_value Min0 (a ∷ more) = Ok (least a more)
intrinsic_value _ _ = Ok (pos 0)

-- how often a loop's range is gone through: max(int((m2 - m1 + m3) / m3), 0), for m3 other than 0
abbrev pub positive_part : ℤ → ℕ
positive_part (pos n) = n
positive_part (negsuc n) = 0

-- by the first value, the last and the step
abbrev pub trips : ℤ → ℤ → ℤ → ℕ
trips m1 m2 m3 = positive_part (int_div ((m2 -ℤ m1) +ℤ m3) m3)
