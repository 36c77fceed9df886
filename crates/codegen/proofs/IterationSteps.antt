-- What an iteration may still do, as a tree over the values that it reads; what it did; and several
-- iterations one after another.
use Rattle.std.proofs.Common.{◌≡◌, ℕ, zero, suc, ℤ, pos, List, [], ◌∷◌, ◌++◌, Option, Some, None, ◌⊎◌}
use Rattle.ast.specs.Store.{StoreOf}
use Rattle.ast.specs.Tree.{Ref}
use Rattle.machine.specs.Code.{Cell}
use Rattle.machine.specs.State.{put_cell, put_cells}
use Rattle.machine.specs.View.{Cause}
pub use Rattle.plan_check.proofs.Members.{In}

-- What an iteration may still do: by a reference a cell is read, or given a value; a record is
-- printed; an event is awaited or advanced; a local instruction; a fault or a STOP; it retires with
-- its private scalars; it has retired.
pub data Process : Type 0 where
  load : Ref → Cell → (ℤ → Process) → Process
  store : Ref → Cell → ℤ → Process → Process
  print : List ℕ → Process → Process
  await : (e d : ℕ) → Process → Process
  advance : (e : ℕ) → Process → Process
  tick : Process → Process
  fault : Cause → Process
  leave : List (Cell × ℤ) → Process
  gone : Process

-- what it did in one step
pub data Act : Type 0 where
  loaded : Ref → Cell → ℤ → Act
  stored : Ref → Cell → ℤ → Act
  printed : List ℕ → Act
  awaited : (e d : ℕ) → Act
  advanced : (e : ℕ) → Act
  ticked : Act
  left : List (Cell × ℤ) → Act
  nothing : Act

abbrev pub cell_value : StoreOf → Cell → ℤ
cell_value σ c = σ c.name c.place

-- one step, where v is read
abbrev pub follow : Process → ℤ → Process
follow (load r c κ) v = κ v
follow (store r c w P) v = P
follow (print w P) v = P
follow (await e d P) v = P
follow (advance e P) v = P
follow (tick P) v = P
follow (fault f) v = fault f
follow (leave xs) v = gone
follow gone v = gone

abbrev pub act : Process → ℤ → Act
act (load r c κ) v = loaded r c v
act (store r c w P) v = stored r c w
act (print w P) v = printed w
act (await e d P) v = awaited e d
act (advance e P) v = advanced e
act (tick P) v = ticked
act (fault f) v = nothing
act (leave xs) v = left xs
act gone v = nothing

-- after steps that were given these values, 0 where nothing is read
abbrev pub after : Process → List ℤ → Process
after P [] = P
after P (v ∷ vs) = after (follow P v) vs

abbrev pub acts : Process → List ℤ → List Act
acts P [] = []
acts P (v ∷ vs) = act P v ∷ acts (follow P v) vs

abbrev pub IsKey : Cell → List (Cell × ℤ) → Type 0
IsKey c [] = ⊥
IsKey c (x ∷ xs) = (x.0 ≡ c) ⊎ IsKey c xs

-- the whole run of an iteration alone
pub record Ran : Type 0 where
  pub values : List ℤ
  pub end : StoreOf
  pub bad : Option Cause

abbrev pub first : ℤ → Ran → Ran
first v r = record { values = v ∷ r.values; end = r.end; bad = r.bad }

abbrev pub run : Process → StoreOf → Ran
run (load r c κ) σ = first (cell_value σ c) (run (κ (cell_value σ c)) σ)
run (store r c v P) σ = first (pos 0) (run P (put_cell σ c v))
run (print v P) σ = first (pos 0) (run P σ)
run (await e d P) σ = first (pos 0) (run P σ)
run (advance e P) σ = first (pos 0) (run P σ)
run (tick P) σ = first (pos 0) (run P σ)
run (fault f) σ = record { values = []; end = σ; bad = Some f }
run (leave xs) σ = record { values = pos 0 ∷ []; end = put_cells σ xs; bad = None }
run gone σ = record { values = []; end = σ; bad = None }

-- several iterations one after another, up to the first fault
pub data Whole : Type 0 where
  went : List (List ℤ) → StoreOf → Whole
  stopped : List (List ℤ) → Cause → Whole

abbrev pub add : List ℤ → Whole → Whole
add vs (went ls σ) = went (vs ∷ ls) σ
add vs (stopped ls f) = stopped (vs ∷ ls) f

abbrev pub going : Option Cause → List ℤ → StoreOf → (StoreOf → Whole) → Whole
going None vs σ next = add vs (next σ)
going (Some f) vs σ next = stopped (vs ∷ []) f

-- what was done and what is left, and on
abbrev pub joined : List ℤ → Ran → (StoreOf → Whole) → Whole
joined vs r next = going r.bad (vs ++ r.values) r.end next

-- iterations k, k+1, .., so many of them, each from where it is now, one after another
abbrev pub finish : (ℕ → Process) → (ℕ → List ℤ) → ℕ → ℕ → StoreOf → Whole
finish start past zero k σ = went [] σ
finish start past (suc n) k σ = joined (past k) (run (after (start k) (past k)) σ) (finish start past n (suc k))

abbrev pub sequential : (ℕ → Process) → ℕ → StoreOf → Whole
sequential start n σ = finish start (λ k. []) n 0 σ
