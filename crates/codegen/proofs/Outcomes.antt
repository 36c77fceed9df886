-- What a program comes to, all done one after another.
use Rattle.std.specs.Prelude.{ℕ, List}
use Rattle.ast.specs.Meaning.{Run}
use Rattle.ast.specs.Store.{StoreOf}
use Rattle.ast.specs.declared.fault.End.{End}
use Rattle.ast.specs.declared.fault.End.TheVariants.{Done, Stopped, Fault as Faulted}
use Rattle.machine.specs.View.{Cause, failure, stop_at}

-- the store and the output; of the store after a fault or a STOP nothing is said
pub data Outcome : Type 0 where
  done : StoreOf → List ℕ → Outcome
  failed : Cause → List ℕ → Outcome

abbrev pub then_do : Outcome → (StoreOf → List ℕ → Outcome) → Outcome
then_do (done σ o) next = next σ o
then_do (failed c o) next = failed c o

abbrev pub text_of : Outcome → List ℕ
text_of (done σ o) = o
text_of (failed c o) = o

-- the outcome of a run that has come to this end
abbrev pub told_by : End → Run → Outcome
told_by Done run = done run.store run.output
told_by (Stopped line) run = failed (stop_at line) run.output
told_by (Faulted e line) run = failed (failure e line) run.output

abbrev pub told : Run → Outcome
told run = told_by run.end run
