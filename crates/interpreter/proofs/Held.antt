-- The values that the store of an answer holds.
use Rattle.std.proofs.Common.{◌≡◌, ◌∙◌, ℕ, zero, suc, ◌+◌, Bool, true, false, List, [], ◌∷◌, Some, None, refl, ap, arith}
use Rattle.std.specs.Prelude.{ℤ, nat_lt, if◌then◌else◌, slice_get, IfOk, Result, Ok, Err}
use Rattle.std.proofs.lemmas.Bool.{le-leb}
use Rattle.std.proofs.Math.Dec.{leb-suc-suc, leb-suc-zero}
use Rattle.std.specs.declared.alloc.AllocError.{AllocError}
use Rattle.ast.specs.Meaning.{seq}
use Rattle.ast.specs.Program.{ProgramTree}
use Rattle.ast.specs.Store.{StoreOf, same_name, value_at, values_from}
use Rattle.ast.specs.Symbols.{Symbol, size, cells_of}
use Rattle.ast.specs.declared.answer.Answer.{Answer}
use Rattle.ast.proofs.SameNames.{same_is}
use Rattle.tree_run.specs.Answers.{IsAnswer}
use Rattle.interpreter.specs.Answers.{HoldsValues, element_value}

value_listed : (f : ℕ → ℤ) (k n p : ℕ) → slice_get (values_from f k n) p ≡ (if nat_lt p n then Some (f (k + p)) else None)
value_listed f k zero p = rw (leb-suc-zero p) refl
value_listed f k (suc n) zero =
    let some : nat_lt 0 (suc n) ≡ true = le-leb 1 (suc n) (omega arith) in
    rw some (ap (λ (i : ℕ). Some (f i)) (omega arith))
value_listed f k (suc n) (suc p) =
    rw (leb-suc-suc (suc p) n) (value_listed f (k + 1) n p ∙ ap (λ (i : ℕ). if nat_lt p n then Some (f i) else None) (omega arith))

element_held : (ss : List Symbol) (store : StoreOf) (x : List ℕ) (p : ℕ) → value_at (cells_of ss store) x p ≡ element_value ss store x p
element_held [] store x p = refl
element_held (s ∷ ss) store x p = by (same_name s.name x) refl (element_held ss store x p)
  where
    by : (b : Bool) → same_name s.name x ≡ b → value_at (cells_of ss store) x p ≡ element_value ss store x p → (if b then slice_get (values_from (store s.name) 0 (size s.sort)) p else value_at (cells_of ss store) x p) ≡ (if b then (if nat_lt p (size s.sort) then Some (store x p) else None) else element_value ss store x p)
    by true e h =
        value_listed (store s.name) 0 (size s.sort) p
        ∙ ap (λ (i : ℕ). if nat_lt p (size s.sort) then Some (store s.name i) else None) (omega arith)
        ∙ ap (λ (n : List ℕ). if nat_lt p (size s.sort) then Some (store n p) else None) (same_is s.name x e)
    by false e h = h

values_told : (program : ProgramTree) (input : List ℕ) (answer : Answer) → IsAnswer program input answer → HoldsValues program input answer
values_told program input answer h = λ name place. ap (λ (cs : List (List ℕ × List ℤ)). value_at cs name place) h.store ∙ element_held program.symbols (seq program input).store name place

pub values_held : (program : ProgramTree) (input : List ℕ) (result : Result Answer AllocError) → IfOk result (IsAnswer program input) → IfOk result (HoldsValues program input)
values_held program input (Ok answer) h = values_told program input answer h
values_held program input (Err e) h = tt
