-- How an engine's work ended: by an outcome or a fault, and with which status.
use Rattle.std.specs.Prelude.{⊤}
use Rattle.ast.specs.declared.fault.End.{End}
use Rattle.ast.specs.declared.fault.End.TheVariants.{Done, Stopped, Fault as FaultedAt}
use Rattle.command_output.specs.declared.fault.EngineFault.{EngineFault}
use Rattle.command_output.specs.declared.fault.EngineFault.TheVariants.{Source, Input, Schedule}
use Rattle.command_output.specs.declared.fault.EngineFault.TheVariants.{Writing, Memory, OutOfRange}
use Rattle.command_output.specs.declared.fault.EngineFault.TheVariants.{NotStarted, Stuck}
use Rattle.command_output.specs.declared.fault.ReadFault.{ReadFault}
use Rattle.command_output.specs.declared.fault.ReadFault.TheVariants as reading
use Rattle.command_output.specs.declared.outcomes.Outcome.{Outcome}
use Rattle.command_output.specs.declared.outcomes.Outcome.TheVariants.{Completed, Refused}
use Rattle.command_output.specs.declared.outcomes.Outcome.TheVariants.{Faulted, NoSchedule}
use Rattle.command_output.specs.declared.status.Status.{Status}
use Rattle.command_output.specs.declared.status.Status.TheVariants as statuses

-- the exit status of an outcome
abbrev pub status_of : Outcome → Status
status_of Completed = statuses.Done
status_of (Refused rule line) = statuses.SourceRefused
status_of (Faulted fault line) = statuses.Faulted
status_of (NoSchedule flaw line) = statuses.ScheduleRefused

-- the outcome of a run that ended so
abbrev pub outcome_of : End → Outcome
outcome_of Done = Completed
outcome_of (Stopped line) = Completed
outcome_of (FaultedAt fault line) = Faulted fault line

-- the exit status of an engine's fault
abbrev pub fault_status : EngineFault → Status
fault_status (Source e) = statuses.FileFailed
fault_status (Input e) = statuses.FileFailed
fault_status (Schedule e) = statuses.FileFailed
fault_status (Writing e) = statuses.FileFailed
fault_status Memory = statuses.NoMemory
fault_status OutOfRange = statuses.WrongCommand
fault_status NotStarted = statuses.NoMemory
fault_status Stuck = statuses.NoMemory

-- what a failed read of the source comes to, of the input, and of the schedule
abbrev pub of_source : ReadFault → EngineFault
of_source (reading.Reader e) = Source e
of_source reading.Memory = Memory

abbrev pub of_input : ReadFault → EngineFault
of_input (reading.Reader e) = Input e
of_input reading.Memory = Memory

abbrev pub of_schedule : ReadFault → EngineFault
of_schedule (reading.Reader e) = Schedule e
of_schedule reading.Memory = Memory

abbrev pub IsWriting : EngineFault → Type 0
IsWriting (Writing e) = ⊤
IsWriting fault = ⊥
