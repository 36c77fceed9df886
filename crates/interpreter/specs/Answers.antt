-- Answers of a run.
use Rattle.std.specs.Prelude.{◌≡◌, ℕ, ℤ, nat_lt, if◌then◌else◌, List, []}
use Rattle.std.specs.Prelude.{◌∷◌, Option, Some, None, Result, Ok, Err}
use Rattle.std.specs.declared.alloc.AllocError.{AllocError}
use Rattle.std.specs.Io.KnownBytes.{Appends}
use Rattle.ast.specs.Meaning.{Run, seq}
use Rattle.ast.specs.Program.{ProgramTree}
use Rattle.ast.specs.Store.{StoreOf, same_name, value_at}
use Rattle.ast.specs.Symbols.{Symbol, cells_of, size}
use Rattle.ast.specs.View.{cells}
use Rattle.ast.specs.declared.answer.Answer.{Answer}
use Rattle.ast.specs.declared.fault.End.{End}
use Rattle.ast.specs.declared.fault.End.TheVariants.{Done, Stopped, Fault as Faulted}
use Rattle.record_writer.specs.Written.{Begins, FallsShort}
use Rattle.tree_run.specs.declared.stop.Stop.{Stop}
use Rattle.tree_run.specs.declared.stop.Stop.TheVariants.{Memory, Fault as Fails, Stopped as Stops}
use Rattle.interpreter.specs.declared.run_end.RunEnd.{RunEnd}
use Rattle.interpreter.specs.declared.run_end.RunFault.{RunFault}
use Rattle.interpreter.specs.declared.run_end.RunFault.TheVariants as faults

-- what a store has for a name at a place, where one of the symbols has that name and such an
-- element
abbrev pub element_value : List Symbol → StoreOf → List ℕ → ℕ → Option ℤ
element_value [] store name place = None
element_value (s ∷ symbols) store name place =
    if same_name s.name name
    then (if nat_lt place (size s.sort) then Some (store name place) else None)
    else element_value symbols store name place

-- The store of the answer holds, for each name at each place, what the program's meaning leaves
-- there.
abbrev pub HoldsValues : ProgramTree → List ℕ → Answer → Type 0
HoldsValues program input answer =
    (name : List ℕ) (place : ℕ) → value_at (cells answer.store) name place
    ≡ element_value program.symbols (seq program input).store name place

-- how a run ended whose statements answered so
abbrev pub ended : Result (Unit {0}) Stop → Result End AllocError
ended (Ok done) = Ok Done
ended (Err (Memory e)) = Err e
ended (Err (Fails f l)) = Ok (Faulted f l)
ended (Err (Stops l)) = Ok (Stopped l)

-- A writer's known bytes grew by the output of a run, and the ending is that of the run; or by a
-- beginning of its output, where there was no memory, and where the writer failed one of which
-- something is missing.
abbrev pub Came : List Symbol → Run → Option (List ℕ) → Option (List ℕ)
    → Result RunEnd RunFault → Type 0
Came symbols run old new (Ok ending) =
    Appends old new run.output × (ending.end ≡ run.end)
    × (cells ending.store ≡ cells_of symbols run.store)
Came symbols run old new (Err faults.Memory) =
    (got : List ℕ) × Appends old new got × Begins got run.output
Came symbols run old new (Err (faults.Writing e)) =
    (got : List ℕ) × Appends old new got × FallsShort got run.output

-- the same of a program's meaning on an input
abbrev pub Streams : ProgramTree → List ℕ → Option (List ℕ) → Option (List ℕ)
    → Result RunEnd RunFault → Type 0
Streams program input old new result = Came program.symbols (seq program input) old new result
