-- What goes alone: the run with one processor and one open iteration, and, within a loop, an
-- iteration on the store that those before it have left. States of other runs are compared with
-- these.
use Rattle.std.specs.Prelude.{◌≡◌, ◌<◌, ℕ, zero, suc, ℤ, List, [], ◌++◌}
use Rattle.ast.specs.Store.{StoreOf}
use Rattle.machine.specs.Code.{Code, Cell}
use Rattle.machine.specs.State.{Machine, CodeRun, Init, put_cell, put_cells}
use Rattle.machine.specs.View.{Cause, View, doing, loading, storing, printing}
use Rattle.machine.specs.View.{awaiting, advancing, leaving, breaking}

-- the run alone comes to this state
abbrev pub Alone : Code → List ℕ → Machine → Type 0
Alone code input n = (qs : List ℕ) × CodeRun code 1 1 (Init code input) qs n

-- an iteration alone: its frame, the store, and what it has printed
pub record Own (F : Type 0) : Type 0 where
  pub frame : F
  pub store : StoreOf
  pub out : List ℕ

module _ (F L : Type 0) (view : F → View F L) where
  -- One step of it. Awaits and advances are passed, as there is none to wait for; where it would
  -- retire or break off it stays.
  abbrev pub own_by : View F L → Own F → Own F
  own_by (doing g) x = record x { frame = g }
  own_by (loading c φ) x = record x { frame = φ (x.store c.name c.place) }
  own_by (storing c v g) x = record { frame = g; store = put_cell x.store c v; out = x.out }
  own_by (printing bytes g) x = record { frame = g; store = x.store; out = x.out ++ bytes }
  own_by (awaiting e d g) x = record x { frame = g }
  own_by (advancing e g) x = record x { frame = g }
  own_by _ x = x

  -- so many steps of it
  abbrev pub own_after : ℕ → Own F → Own F
  own_after zero x = x
  own_after (suc n) x = own_after n (own_by (view x.frame) x)

  module _ (begin : L → ℕ → F) (l : L) where
    -- iteration k of the loop at its beginning, on this store
    abbrev pub begun : ℕ → StoreOf → Own F
    begun k σ = record { frame = begin l k; store = σ; out = [] }

    -- Iterations j, j+1, .., n of them, one after another, each alone until it retires, lead from
    -- one store to another.
    abbrev pub Before : (n j : ℕ) → StoreOf → StoreOf → Type 0
    Before zero j σ τ = σ ≡ τ
    Before (suc n) j σ τ =
        (i : ℕ) × (xs : List (Cell × ℤ)) × (view (own_after i (begun j σ)).frame ≡ leaving xs)
        × Before n (suc j) (put_cells (own_after i (begun j σ)).store xs) τ

    -- all of the first n do, from this store on
    abbrev pub AllRetire : ℕ → StoreOf → Type 0
    AllRetire n σ = (τ : StoreOf) × Before n 0 σ τ

    -- One of the first n faults or stops, for this cause, once those before it have retired.
    abbrev pub BreaksOff : ℕ → StoreOf → Cause → Type 0
    BreaksOff n σ b =
        (j : ℕ) × (j < n) × (τ : StoreOf) × Before j 0 σ τ
        × (i : ℕ) × (view (own_after i (begun j τ)).frame ≡ breaking b)
