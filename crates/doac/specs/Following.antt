-- What the program makes of its words.
use Rattle.std.specs.Prelude.{◌≡◌, ◌⊎◌, ⊤, ℕ, List, Option}
use Rattle.clap.specs.Words.{Text}
use Rattle.doac.specs.Commands.{Obeys}
use Rattle.command_line.specs.CommandLine.{Names, NamesNone, line_status}
use Rattle.command_line.specs.declared.command.Command.{Command}
use Rattle.command_line.specs.declared.matches.LineFault.{LineFault}
use Rattle.command_line.specs.declared.matches.LineFault.TheVariants.{Help}
use Rattle.named_files.specs.Deeds.{Deed}
use Rattle.command_output.specs.declared.status.Status.{Status}
use Rattle.command_output.specs.declared.status.Status.TheVariants as statuses

-- it is help, or the version, which is printed
abbrev pub IsPrinted : LineFault → Type 0
IsPrinted (Help text) = ⊤
IsPrinted _ = ⊥

-- the exit status of words that name no command; what is printed may fail to be written
abbrev pub EndsLine : LineFault → Status → Type 0
EndsLine fault status =
    (status ≡ line_status fault) ⊎ (IsPrinted fault × (status ≡ statuses.FileFailed))

-- the command that clap finds in the words is obeyed, or a fault is told that is true of them
abbrev pub Follows : List Text → (before after : Option (List Deed))
    → (old new : Option (List ℕ)) → Status → Type 0
Follows words before after old new status =
    ((command : Command) × Names words command × Obeys command before after old new status)
    ⊎ ((fault : LineFault) × NamesNone words fault × EndsLine fault status × (after ≡ before))
