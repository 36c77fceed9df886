-- An account of the code: what is emitted for an expression, by recursion on its tree.
use Rattle.std.specs.Prelude.{◌≡◌, ℕ, zero, suc, pos, ◌+◌, ◌*◌, ◌-ℤ◌, unsigned_abs}
use Rattle.std.specs.Prelude.{nat_lt, if◌then◌else◌, List, [], ◌∷◌, ◌++◌, length}
use Rattle.ast.specs.Exact.{truth_value}
use Rattle.ast.specs.Symbols.{Extent}
use Rattle.ast.specs.Tree.{Ref, Term, constant, truth, parameter, element, call}
use Rattle.ast.specs.Tree.{parentheses, unary, binary, Terms, no_terms, then_term}
use Rattle.ast.specs.declared.expression.Intrinsic.TheVariants as intrinsics
use Rattle.ast.specs.declared.expression.Operator.TheVariants.{Add}
use Rattle.machine.specs.declared.instr.Act.{Act}
use Rattle.machine.specs.declared.instr.Act.TheVariants.{Constant, Private, Index, Binary, Modulo}
use Rattle.machine.specs.declared.instr.Act.TheVariants.{Greatest, Least, Unary, Absolute}
use Rattle.machine.specs.declared.instr.Act.TheVariants.{Check, SetPrivate, SkipUnless, Load}
use Rattle.machine.specs.declared.instr.Act.TheVariants.{LoadElement, Store, StoreElement}
use Rattle.machine.specs.declared.instr.Axis.{Axis}
use Rattle.machine.specs.declared.instr.Instr.{Instr}
use Rattle.expr_code.specs.Places.{Places, Home, loop_index, private_scalar}
use Rattle.expr_code.specs.Places.{in_store, home, dimensions_at}
use Rattle.expr_code.specs.Process.{count, fewer, just}

-- a list begins with another
abbrev pub Begins : List Instr → List Instr → Type 0
Begins xs ys = (zs : List Instr) × (ys ≡ xs ++ zs)

-- a number in 32 bits
abbrev pub short : ℕ → ℕ
short n = if nat_lt n 4294967296 then n else 4294967295

abbrev pub capped : ℕ → ℕ
capped n = if nat_lt n 2147483648 then n else 2147483648

-- a dimension whose neighbours lie so far apart
abbrev pub axis : ℕ → Extent → Axis
axis stride d = record {
  lower = d.lower;
  width = capped (unsigned_abs (d.upper -ℤ d.lower)) + 1;
  stride = stride;
}

abbrev pub next_stride : ℕ → Extent → ℕ
next_stride stride d = capped (stride * (capped (unsigned_abs (d.upper -ℤ d.lower)) + 1))

-- a dimension that has no subscript
abbrev pub nowhere : Axis
nowhere = record { lower = pos 0; width = 0; stride = 0 }

abbrev pub instr : ℕ → Act → Instr
instr line act = record { line = line; act = act }

-- a number that is dropped at once
abbrev pub dropping : Act
dropping = SkipUnless 0

abbrev pub missing_code : ℕ → List Instr
missing_code line = instr line (Check 0 nowhere) ∷ []

-- so many subscripts are checked
abbrev pub checks_code : ℕ → ℕ → List Extent → ℕ → List Instr
checks_code line stride [] m = []
checks_code line stride (d ∷ ds) zero = missing_code line
checks_code line stride (d ∷ ds) (suc m) =
    instr line (Check (short m) (axis stride d)) ∷ checks_code line (next_stride stride d) ds m

abbrev pub sums_code : ℕ → ℕ → List Instr
sums_code line zero = []
sums_code line (suc n) = instr line (Binary Add) ∷ sums_code line n

-- the place of an element, by so many subscripts
abbrev pub place_code : ℕ → Extent → List Extent → ℕ → List Instr
place_code line d ds zero = instr line (Constant (pos 0)) ∷ missing_code line
place_code line d ds (suc m) = checks_code line 1 (d ∷ ds) (suc m) ++ sums_code line (length ds)

-- the same of a variable with these dimensions; a scalar needs none
abbrev pub located_code : ℕ → List Extent → ℕ → List Instr
located_code line [] m = []
located_code line (d ∷ ds) m = place_code line d ds m

abbrev pub scalar_act : Home → ℕ → Act
scalar_act loop_index c = Index
scalar_act (private_scalar x) c = Private (short x)
scalar_act in_store c = Load (short c)

-- a variable with these dimensions, by so many subscripts
abbrev pub reached_code : Places → Ref → List Extent → ℕ → List Instr
reached_code p r [] m = instr p.line (scalar_act (home p [] r.name) r.cell) ∷ []
reached_code p r (d ∷ ds) m =
    place_code p.line d ds m ++ instr p.line (LoadElement (short r.cell)) ∷ []

-- the new value of a variable is popped, above it the place of an element
abbrev pub given_act : List Extent → Home → ℕ → Act
given_act [] (private_scalar x) c = SetPrivate (short x)
given_act [] loop_index c = Store (short c)
given_act [] in_store c = Store (short c)
given_act (d ∷ ds) h c = StoreElement (short c)

-- an instruction on so many operands; 0 where there are none
abbrev pub applied_act : Act → ℕ → Act
applied_act act zero = Constant (pos 0)
applied_act act (suc n) = act

-- an instruction on so many values; 0 where there aren't as many as are wanted
abbrev pub applied_to : ℕ → Act → ℕ → List Instr
applied_to line act n = instr line (applied_act act n) ∷ []

abbrev mutual
  pub term_code : Places → Term → List Instr
  term_code p (constant n) = instr p.line (Constant n) ∷ []
  term_code p (truth b) = instr p.line (Constant (truth_value b)) ∷ []
  term_code p (parameter x n) = instr p.line (Constant n) ∷ []
  term_code p (element r es) =
      terms_code p es (length (dimensions_at p.symbols r.cell)) ++ reached_code p r
      (dimensions_at p.symbols r.cell) (fewer (count es) (length (dimensions_at p.symbols r.cell)))
  term_code p (call intrinsics.Mod es) =
      terms_code p es (just 2 (count es)) ++ applied_to p.line Modulo (just 2 (count es))
  term_code p (call intrinsics.Abs es) =
      terms_code p es (just 1 (count es)) ++ applied_to p.line Absolute (just 1 (count es))
  term_code p (call intrinsics.Iabs es) =
      terms_code p es (just 1 (count es)) ++ applied_to p.line Absolute (just 1 (count es))
  term_code p (call intrinsics.Max es) = chosen_code p es Greatest
  term_code p (call intrinsics.Max0 es) = chosen_code p es Greatest
  term_code p (call intrinsics.Min es) = chosen_code p es Least
  term_code p (call intrinsics.Min0 es) = chosen_code p es Least
  term_code p (parentheses e) = term_code p e
  term_code p (unary o e) = term_code p e ++ instr p.line (Unary o) ∷ []
  term_code p (binary o a b) = term_code p a ++ (term_code p b ++ instr p.line (Binary o) ∷ [])

  -- the first n stay, each other one is dropped
  pub terms_code : Places → Terms → ℕ → List Instr
  terms_code p no_terms n = []
  terms_code p (then_term e es) zero =
      term_code p e ++ (instr p.line dropping ∷ terms_code p es zero)
  terms_code p (then_term e es) (suc n) = term_code p e ++ terms_code p es n

  pub chosen_code : Places → Terms → Act → List Instr
  chosen_code p no_terms act = instr p.line (Constant (pos 0)) ∷ []
  chosen_code p (then_term e es) act = term_code p e ++ further_code p es act

  pub further_code : Places → Terms → Act → List Instr
  further_code p no_terms act = []
  further_code p (then_term e es) act = term_code p e ++ (instr p.line act ∷ further_code p es act)

-- an instruction on all arguments
abbrev pub applied_code : Places → Terms → ℕ → Act → List Instr
applied_code p es n act =
    terms_code p es (just n (count es)) ++ applied_to p.line act (just n (count es))

abbrev pub element_code : Places → Ref → Terms → List Instr
element_code p r es =
    terms_code p es (length (dimensions_at p.symbols r.cell)) ++ reached_code p r
    (dimensions_at p.symbols r.cell) (fewer (count es) (length (dimensions_at p.symbols r.cell)))

-- the place of a variable that is given a value
abbrev pub target_code : Places → Ref → Terms → List Instr
target_code p r es =
    terms_code p es (length (dimensions_at p.symbols r.cell)) ++ located_code p.line
    (dimensions_at p.symbols r.cell) (fewer (count es) (length (dimensions_at p.symbols r.cell)))
