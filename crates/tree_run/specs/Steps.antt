-- Accounts of the code, which the laws of proofs/ join to the program's meaning.
use Rattle.std.specs.Prelude.{ℕ, ℤ, ◌+◌, ◌*◌, pos, unsigned_abs, ◌-ℤ◌, if◌then◌else◌}
use Rattle.std.specs.Prelude.{List, [], ◌∷◌, Option, Some, None, Result, Ok, Err}
use Rattle.ast.specs.Exact.{greater, less, remainder, absolute}
use Rattle.ast.specs.Meaning.{LookUp, value}
use Rattle.ast.specs.Results.{◌>>=◌}
use Rattle.ast.specs.Symbols.{Extent, elements, is_within, width}
use Rattle.ast.specs.Tree.{Terms, no_terms, then_term}
use Rattle.ast.specs.declared.expression.Intrinsic.{Intrinsic}
use Rattle.ast.specs.declared.expression.Intrinsic.TheVariants.{Abs, Iabs, Max, Max0}
use Rattle.ast.specs.declared.expression.Intrinsic.TheVariants.{Min, Min0, Mod}
use Rattle.ast.specs.declared.fault.Fault.{Fault}
use Rattle.ast.specs.declared.fault.Fault.TheVariants.{Index}

-- expressions evaluated for their faults alone
abbrev pub evaluated : LookUp → Terms → Result (Unit {0}) Fault
evaluated look no_terms = Ok tt
evaluated look (then_term e es) = value look e >>= λ x. evaluated look es

-- how far the subscripts of an element have led: the dimensions that are left, how many elements
-- lie between two neighbours by the next subscript, and the place, unless a subscript left its
-- bounds
pub record Way : Type 0 where
  pub rest : List Extent
  pub stride : ℕ
  pub place : Option ℕ

-- how many elements the place may be of
abbrev pub room : Way → ℕ
room w = w.stride * elements w.rest

abbrev pub opening : List Extent → Way
opening ds = record { rest = ds; stride = 1; place = Some 0 }

abbrev pub further : ℕ → Extent → ℤ → ℕ → Option ℕ
further stride d x p =
    if is_within d x then Some (p + stride * unsigned_abs (x -ℤ d.lower)) else None

abbrev pub further_from : ℕ → Extent → ℤ → Option ℕ → Option ℕ
further_from stride d x None = None
further_from stride d x (Some p) = further stride d x p

abbrev pub step_on : List Extent → ℕ → Option ℕ → ℤ → Way
step_on [] stride place x = record { rest = []; stride = stride; place = place }
step_on (d ∷ ds) stride place x =
    record { rest = ds; stride = stride * width d; place = further_from stride d x place }

abbrev pub stepped : Way → ℤ → Way
stepped w x = step_on w.rest w.stride w.place x

abbrev pub arrived_at : List Extent → Option ℕ → Result ℕ Fault
arrived_at [] (Some p) = Ok p
arrived_at _ _ = Err Index

abbrev pub arrived : Way → Result ℕ Fault
arrived w = arrived_at w.rest w.place

-- the place of an element by its subscripts, each counted in as it is evaluated
abbrev pub place_at : LookUp → Way → Terms → Result ℕ Fault
place_at look w no_terms = arrived w
place_at look w (then_term e es) = value look e >>= λ x. place_at look (stepped w x) es

abbrev pub greatest_at : LookUp → ℤ → Terms → Result ℤ Fault
greatest_at look best no_terms = Ok best
greatest_at look best (then_term e es) = value look e >>= λ x. greatest_at look (greater best x) es

abbrev pub least_at : LookUp → ℤ → Terms → Result ℤ Fault
least_at look best no_terms = Ok best
least_at look best (then_term e es) = value look e >>= λ x. least_at look (less best x) es

-- MOD of a number by its second argument
abbrev pub remainder_at : LookUp → ℤ → Terms → Result ℤ Fault
remainder_at look x (then_term b no_terms) = value look b >>= λ y. remainder x y
remainder_at look x es = evaluated look es >>= λ done. Ok (pos 0)

-- an intrinsic function by its arguments
abbrev pub call_at : LookUp → Intrinsic → Terms → Result ℤ Fault
call_at look Mod (then_term a es) = value look a >>= λ x. remainder_at look x es
call_at look Abs (then_term a no_terms) = value look a >>= λ x. absolute x
call_at look Iabs (then_term a no_terms) = value look a >>= λ x. absolute x
call_at look Max (then_term a es) = value look a >>= λ x. greatest_at look x es
call_at look Max0 (then_term a es) = value look a >>= λ x. greatest_at look x es
call_at look Min (then_term a es) = value look a >>= λ x. least_at look x es
call_at look Min0 (then_term a es) = value look a >>= λ x. least_at look x es
call_at look f es = evaluated look es >>= λ done. Ok (pos 0)
