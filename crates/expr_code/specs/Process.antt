-- What an expression does, one step after another, each going on with what it gives: the one order
-- of evaluation, over any kind of steps. Its code does these steps, and its value is what they come
-- to.
use Rattle.std.specs.Prelude.{ℕ, ℤ, zero, suc, pos, ◌==◌, if◌then◌else◌}
use Rattle.std.specs.Prelude.{List, [], ◌∷◌, length, Result, Ok, Err}
use Rattle.ast.specs.Exact.{greater, intrinsic_value, less, prefixed_value, truth_value, value_of}
use Rattle.ast.specs.Symbols.{Extent, is_within, place_of}
use Rattle.ast.specs.Tree.{Ref, Term, constant, truth, parameter, element, call}
use Rattle.ast.specs.Tree.{parentheses, unary, binary, Terms, no_terms, then_term}
use Rattle.ast.specs.declared.expression.Intrinsic.TheVariants.{Abs, Iabs, Max, Max0}
use Rattle.ast.specs.declared.expression.Intrinsic.TheVariants.{Min, Min0, Mod}
use Rattle.ast.specs.declared.fault.Fault.{Fault}
use Rattle.ast.specs.declared.fault.Fault.TheVariants.{Index as BadIndex}
use Rattle.machine.specs.Code.{Cell}
use Rattle.expr_code.specs.Places.{Places, Home, loop_index, private_scalar}
use Rattle.expr_code.specs.Places.{in_store, home, dimensions_at}

-- The steps of an expression: a reference reads a cell, a private scalar, by its number, or the
-- open loop's variable, and what follows goes by the value; a local instruction; one that faults.
pub record Steps (A : Type 0) : Type 0 where
  pub load : Ref → Cell → (ℤ → A) → A
  pub own : Ref → ℕ → (ℤ → A) → A
  pub index : Ref → (ℤ → A) → A
  pub local : A → A
  pub fails : Fault → A

-- how many terms there are
abbrev pub count : Terms → ℕ
count no_terms = 0
count (then_term e es) = suc (count es)

-- the fewer of two
abbrev pub fewer : ℕ → ℕ → ℕ
fewer zero n = 0
fewer (suc m) zero = 0
fewer (suc m) (suc n) = suc (fewer m n)

-- so many where there are just as many, none otherwise
abbrev pub just : ℕ → ℕ → ℕ
just n m = if m == n then n else 0

module _ (A : Type 0) (S : Steps A) where
  -- a local instruction that makes a value, or faults
  abbrev pub answered_into : Result ℤ Fault → (ℤ → A) → A
  answered_into (Ok v) κ = S.local (κ v)
  answered_into (Err e) κ = S.fails e

  -- so many local instructions
  abbrev pub locals_into : ℕ → A → A
  locals_into zero a = a
  locals_into (suc n) a = S.local (locals_into n a)

  -- subscripts are checked from the left; one that lacks is out of its bounds
  abbrev pub checked_into : List Extent → List ℤ → A → A
  checked_into [] xs a = a
  checked_into (d ∷ ds) [] a = S.fails BadIndex
  checked_into (d ∷ ds) (x ∷ xs) a =
      if is_within d x then S.local (checked_into ds xs a) else S.fails BadIndex

  abbrev pub at_place : Result ℕ Fault → (ℕ → A) → A
  at_place (Ok p) κ = κ p
  at_place (Err e) κ = S.fails e

  -- the place of an element: its subscripts are checked, then added up
  abbrev pub place_into : Extent → List Extent → List ℤ → (ℕ → A) → A
  place_into d ds [] κ = S.local (S.fails BadIndex)
  place_into d ds (x ∷ xs) κ =
      checked_into (d ∷ ds) (x ∷ xs)
      (locals_into (length ds) (at_place (place_of (d ∷ ds) (x ∷ xs)) κ))

  -- the place of a variable with these dimensions; a scalar has one cell
  abbrev pub located_into : List Extent → List ℤ → (ℕ → A) → A
  located_into [] xs κ = κ 0
  located_into (d ∷ ds) xs κ = place_into d ds xs κ

  abbrev pub scalar_into : Home → Ref → (ℤ → A) → A
  scalar_into loop_index r κ = S.index r κ
  scalar_into (private_scalar x) r κ = S.own r x κ
  scalar_into in_store r κ = S.load r (record { name = r.name; place = 0 }) κ

  module _ (p : Places) where
    -- a variable with these dimensions, by the values of its subscripts
    abbrev pub reached_into : Ref → List Extent → List ℤ → (ℤ → A) → A
    reached_into r [] xs κ = scalar_into (home p [] r.name) r κ
    reached_into r (d ∷ ds) xs κ =
        place_into d ds xs (λ n. S.load r (record { name = r.name; place = n }) κ)

    abbrev mutual
      pub term_into : Term → (ℤ → A) → A
      term_into (constant n) κ = S.local (κ n)
      term_into (truth b) κ = S.local (κ (truth_value b))
      term_into (parameter x n) κ = S.local (κ n)
      term_into (element r es) κ =
          terms_into es (length (dimensions_at p.symbols r.cell))
          (λ xs. reached_into r (dimensions_at p.symbols r.cell) xs κ)
      term_into (call Mod es) κ =
          terms_into es (just 2 (count es)) (λ xs. answered_into (intrinsic_value Mod xs) κ)
      term_into (call Abs es) κ =
          terms_into es (just 1 (count es)) (λ xs. answered_into (intrinsic_value Abs xs) κ)
      term_into (call Iabs es) κ =
          terms_into es (just 1 (count es)) (λ xs. answered_into (intrinsic_value Iabs xs) κ)
      term_into (call Max es) κ = chosen_into es greater κ
      term_into (call Max0 es) κ = chosen_into es greater κ
      term_into (call Min es) κ = chosen_into es less κ
      term_into (call Min0 es) κ = chosen_into es less κ
      term_into (parentheses e) κ = term_into e κ
      term_into (unary o e) κ = term_into e (λ a. answered_into (prefixed_value o a) κ)
      term_into (binary o a b) κ =
          term_into a (λ u. term_into b (λ v. answered_into (value_of o u v) κ))

      -- all are evaluated, from the left; the first n are kept, each other one is dropped at once
      pub terms_into : Terms → ℕ → (List ℤ → A) → A
      terms_into no_terms n κ = κ []
      terms_into (then_term e es) zero κ = term_into e (λ x. S.local (terms_into es zero κ))
      terms_into (then_term e es) (suc n) κ = term_into e (λ x. terms_into es n (λ xs. κ (x ∷ xs)))

      -- the greatest or the least of arguments, by the choice of one of two
      pub chosen_into : Terms → (ℤ → ℤ → ℤ) → (ℤ → A) → A
      chosen_into no_terms choice κ = S.local (κ (pos 0))
      chosen_into (then_term e es) choice κ = term_into e (λ x. further_into es choice x κ)

      pub further_into : Terms → (ℤ → ℤ → ℤ) → ℤ → (ℤ → A) → A
      further_into no_terms choice best κ = κ best
      further_into (then_term e es) choice best κ =
          term_into e (λ x. S.local (further_into es choice (choice best x) κ))

    -- the place of a variable that is given a value
    abbrev pub target_into : Ref → Terms → (ℕ → A) → A
    target_into r es κ =
        terms_into es (length (dimensions_at p.symbols r.cell))
        (λ xs. located_into (dimensions_at p.symbols r.cell) xs κ)
