-- Expressions whose value doesn't depend on variables: of constants, names of constants, operators
-- and intrinsics.
use Rattle.std.specs.Prelude.{ℕ, ℤ, pos, if◌then◌else◌, List, Option, Some, None, Err}
use Rattle.std.specs.Ordering.{int_eq}
use Rattle.std.specs.Result.{result_ok}
use Rattle.ast.specs.Exact.{trips}
use Rattle.ast.specs.Meaning.{LookUp, value, values, step_value}
use Rattle.ast.specs.Tree.{Term, Terms, DoHead}
use Rattle.ast.specs.declared.fault.Fault.TheVariants.{Index}

-- goes on where something is there
abbrev pub if_some : {X Y : Type 0} → Option X → (X → Option Y) → Option Y
if_some None next = None
if_some (Some x) next = next x

-- A look-up that knows no variable; which fault it gives counts for nothing.
abbrev pub no_variables : LookUp
no_variables r xs = Err Index

-- The value of a constant expression, which is that of the meaning; None of one with a variable, or
-- that faults.
abbrev pub constant_value : Term → Option ℤ
constant_value e = result_ok (value no_variables e)

-- the values of arguments
abbrev pub constant_values : Terms → Option (List ℤ)
constant_values es = result_ok (values no_variables es)

-- the step of a loop where it is constant; 1 where it is absent
abbrev pub step_of : DoHead → Option ℤ
step_of h = result_ok (step_value no_variables h.step)

-- how many trips parameters make, where the step isn't 0
abbrev pub trips_by : ℤ → ℤ → ℤ → Option ℕ
trips_by m1 m2 m3 = if int_eq m3 (pos 0) then None else Some (trips m1 m2 m3)

-- How often a loop's range is gone through, where that is known: all parameters are constant, and
-- the step isn't 0.
abbrev pub trips_of : DoHead → Option ℕ
trips_of h =
    if_some (constant_value h.first)
    (λ m1. if_some (constant_value h.last) (λ m2. if_some (step_of h) (λ m3. trips_by m1 m2 m3)))
