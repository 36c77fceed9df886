-- The numbers by which the exit statuses are known.
use Rattle.std.specs.Prelude.{ℕ}
use Rattle.command_output.specs.declared.status.Status.{Status}
use Rattle.command_output.specs.declared.status.Status.TheVariants as statuses

abbrev pub number_of : Status → ℕ
number_of statuses.Done = 0
number_of statuses.SourceRefused = 1
number_of statuses.Faulted = 2
number_of statuses.WrongCommand = 3
number_of statuses.FileFailed = 4
number_of statuses.NoMemory = 5
number_of statuses.ScheduleRefused = 6
