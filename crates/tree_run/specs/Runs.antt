-- What the parts of a run answer, against the program's meaning.
use Rattle.std.specs.Prelude.{◌≡◌, ℕ, ℤ, List, [], drop, Result, Ok, Err}
use Rattle.ast.specs.Meaning.{Run}
use Rattle.ast.specs.Symbols.{Symbol}
use Rattle.ast.specs.declared.fault.End.{End}
use Rattle.ast.specs.declared.fault.End.TheVariants.{Done, Stopped, Fault as Faulted}
use Rattle.ast.specs.declared.fault.Fault.{Fault}
use Rattle.tree_run.specs.declared.input.Input.{Input}
use Rattle.tree_run.specs.declared.machine.Machine.{Machine}
use Rattle.tree_run.specs.declared.stop.Stop.{Stop}
use Rattle.tree_run.specs.declared.stop.Stop.TheVariants.{Memory, Fault as Fails, Stopped as Stops}
use Rattle.tree_run.specs.View.{store_in, symbols_in}

-- the integers of the last record taken that are left
abbrev pub left : Input → List ℤ
left i = drop i.given i.integers.items

-- where a machine's run stands
abbrev pub run_of : Machine → End → Run
run_of m end = record {
  store = store_in m.memory;
  input = m.input.records;
  output = m.output.items;
  end = end;
}

-- the symbols of the program that a machine runs
abbrev pub symbols_of : Machine → List Symbol
symbols_of m = symbols_in m.memory

-- a run that reads no more: its input is set aside
abbrev pub closed : Run → Run
closed run = record run { input = [] }

-- From a call that answered so, the run stands as it is meant to; at an end its input is set aside,
-- and so is all at want of memory.
abbrev pub Reaches : Result (Unit {0}) Stop → (End → Run) → Run → Type 0
Reaches (Ok done) stands meant = stands Done ≡ meant
Reaches (Err (Memory e)) stands meant = Unit {0}
Reaches (Err (Fails f l)) stands meant = closed (stands (Faulted f l)) ≡ closed meant
Reaches (Err (Stops l)) stands meant = closed (stands (Stopped l)) ≡ closed meant

-- the same of a call that allocates nothing, and so never wants memory
abbrev pub Completes : Result (Unit {0}) Stop → (End → Run) → Run → Type 0
Completes (Err (Memory e)) stands meant = ⊥
Completes answered stands meant = Reaches answered stands meant

-- A call that answered so left what is meant, or answered the fault that is meant at the line.
abbrev pub Gives : {X : Type 0} → Result (Unit {0}) Stop → ℕ → X → Result X Fault → Type 0
Gives (Ok done) line left meant = meant ≡ Ok left
Gives (Err (Memory e)) line left meant = Unit {0}
Gives (Err (Fails f l)) line left meant = (meant ≡ Err f) × (l ≡ line)
Gives (Err (Stops l)) line left meant = ⊥

-- the same of a call that answers an integer
abbrev pub GivesInteger : Result ℤ Stop → ℕ → List ℤ → List (List ℕ)
    → Result (ℤ × List ℤ × List (List ℕ)) Fault → Type 0
GivesInteger (Ok n) line xs rs meant = meant ≡ Ok (n, xs, rs)
GivesInteger (Err (Memory e)) line xs rs meant = Unit {0}
GivesInteger (Err (Fails f l)) line xs rs meant = (meant ≡ Err f) × (l ≡ line)
GivesInteger (Err (Stops l)) line xs rs meant = ⊥

-- and of one that leaves nothing and allocates nothing, so that it never wants memory
abbrev pub GivesValue : {X : Type 0} → Result X Stop → ℕ → Result X Fault → Type 0
GivesValue (Ok x) line meant = meant ≡ Ok x
GivesValue (Err (Memory e)) line meant = ⊥
GivesValue (Err (Fails f l)) line meant = (meant ≡ Err f) × (l ≡ line)
GivesValue (Err (Stops l)) line meant = ⊥
