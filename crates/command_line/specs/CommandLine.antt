-- The command lines of the program, as clap reads them.
use Rattle.std.specs.Prelude.{◌≡◌, ◌≢◌, ◌<◌, ◌≤◌, ◌^◌, ⊤, ◌⊎◌, ℕ, Bool, true, false}
use Rattle.std.specs.Prelude.{codes, List, [], ◌∷◌, Option, Some, None, option_map}
use Rattle.std.specs.Str.Parse.{IsNumeral, digits_value, without_leading_plus}
use Rattle.clap.specs.Words.{App, app_of, IsAmong, Row, Rule, Text, fault_of, first_of, kind_of}
use Rattle.clap.specs.Words.{new_app, new_rule, one_of, subcommand_of, with_rule, with_subcommand}
use Rattle.clap.specs.declared.builder.command.Command.{Command as ClapCommand}
use Rattle.clap.specs.declared.builder.command.Command.TheViews.{out-Command as fields_of}
use Rattle.clap.specs.declared.error.Error.{Error}
use Rattle.clap.specs.declared.error.kind.ErrorKind.TheVariants.{DisplayHelp, DisplayVersion}
use Rattle.clap.specs.declared.error.kind.ErrorKind.TheVariants.{OutOfMemory}
use Rattle.clap.specs.declared.builder.action.ArgAction.TheVariants.{Set, SetTrue}
use Rattle.explanations.specs.Explained.{is_explained, is_within}
use Rattle.command_line.specs.declared.command.Command.{Command}
use Rattle.command_line.specs.declared.command.Command.TheVariants.{Check, ListLoops, ShowCode}
use Rattle.command_line.specs.declared.command.Command.TheVariants.{Seq, Run, Model, Replay}
use Rattle.command_line.specs.declared.command.Command.TheVariants.{Upgrade, Draw, Timeline}
use Rattle.command_line.specs.declared.command.Command.TheVariants.{Explain, ExplainSerial}
use Rattle.command_line.specs.declared.matches.LineFault.{LineFault}
use Rattle.command_line.specs.declared.matches.LineFault.TheVariants.{Help, Mistake, NoCommand}
use Rattle.command_line.specs.declared.matches.LineFault.TheVariants.{NoSuchNumber, NoSize}
use Rattle.command_line.specs.declared.matches.LineFault.TheVariants.{NoPortion, Memory}
use Rattle.command_line.specs.declared.command.Drawing.{Drawing}
use Rattle.command_line.specs.declared.command.Modelled.{Modelled}
use Rattle.command_line.specs.declared.command.TextFiles.{TextFiles}
use Rattle.command_line.specs.declared.command.Threaded.{Threaded}
use Rattle.command_output.specs.declared.status.Status.{Status}
use Rattle.command_output.specs.declared.status.Status.TheVariants as statuses

-- an argument that can't be done without
abbrev pub needed : Text → Rule
needed id = record (new_rule id) { required = true; action = Some Set }

-- one that may be left out
abbrev pub optional : Text → Rule
optional id = record (new_rule id) { action = Some Set }

-- an option with a word behind it
abbrev pub named_option : Text → Rule
named_option id = record (new_rule id) { long = Some id; action = Some Set; value_names = 1 }

-- one with nothing behind it
abbrev pub flag : Text → Rule
flag id = record (new_rule id) { long = Some id; action = Some SetTrue }

-- one of a letter, with a number behind it
abbrev pub letter : Text → ℕ → Rule
letter id short = record (new_rule id) { short = Some short; action = Some Set; value_names = 1 }

-- F, the file of the source
abbrev pub source : Rule
source = needed (codes "F")

-- INPUT, the file of the input
abbrev pub input : Rule
input = optional (codes "INPUT")

-- the same, where it can't be done without
abbrev pub whole_input : Rule
whole_input = needed (codes "INPUT")

-- SCHEDULE, the file of the schedule
abbrev pub schedule : Rule
schedule = needed (codes "SCHEDULE")

-- OUT, the file that gets a schedule or a picture
abbrev pub out : Rule
out = needed (codes "OUT")

-- --store
abbrev pub store : Rule
store = flag (codes "store")

-- --why
abbrev pub why : Rule
why = flag (codes "why")

-- -p and -s, numbers of processors and of open iterations
abbrev pub processors : Rule
processors = letter (codes "p") 112

abbrev pub slots : Rule
slots = letter (codes "s") 115

-- --schedule, the file that gets a schedule
abbrev pub schedule_out : Rule
schedule_out = named_option (codes "schedule")

-- --tally
abbrev pub tally : Rule
tally = flag (codes "tally")

-- --states
abbrev pub states : Rule
states = flag (codes "states")

-- --most, the number of steps after which a run is left
abbrev pub most : Rule
most = named_option (codes "most")

-- --loop and --iterations, which loop is drawn and how much of it
abbrev pub loop_number : Rule
loop_number = named_option (codes "loop")

abbrev pub iterations : Rule
iterations = named_option (codes "iterations")

-- N, the number of a refusal or a fault
abbrev pub number : Rule
number = optional (codes "N")

-- REASON, behind the word serial
abbrev pub reason : Rule
reason = optional (codes "REASON")

-- check F
abbrev pub check : App
check = with_rule (new_app (codes "check")) source

-- list F, with --why
abbrev pub list : App
list = with_rule (with_rule (new_app (codes "list")) source) why

-- seq F INPUT, with --store
abbrev pub seq : App
seq = with_rule (with_rule (with_rule (new_app (codes "seq")) source) input) store

-- run F INPUT, with -p, -s, --schedule, --store and --tally
abbrev pub run : App
run =
    with_rule (with_rule (with_rule (with_rule (with_rule (with_rule
    (with_rule (new_app (codes "run")) source) input) processors) slots) schedule_out) store) tally

-- model F INPUT, with -p, -s, --most and --schedule
abbrev pub model : App
model =
    with_rule (with_rule (with_rule (with_rule (with_rule
    (with_rule (new_app (codes "model")) source) input) processors) slots) most) schedule_out

-- replay F INPUT SCHEDULE, with --states
abbrev pub replay : App
replay =
    with_rule (with_rule
    (with_rule (with_rule (new_app (codes "replay")) source) whole_input) schedule) states

-- upgrade F INPUT SCHEDULE OUT
abbrev pub upgrade : App
upgrade =
    with_rule
    (with_rule (with_rule (with_rule (new_app (codes "upgrade")) source) whole_input) schedule) out

-- code F
abbrev pub code : App
code = with_rule (new_app (codes "code")) source

-- draw F OUT, with --loop and --iterations
abbrev pub draw : App
draw =
    with_rule
    (with_rule (with_rule (with_rule (new_app (codes "draw")) source) out) loop_number) iterations

-- timeline F INPUT SCHEDULE OUT
abbrev pub timeline : App
timeline =
    with_rule
    (with_rule (with_rule (with_rule (new_app (codes "timeline")) source) whole_input) schedule) out

-- explain N REASON
abbrev pub explain : App
explain = with_rule (with_rule (new_app (codes "explain")) number) reason

-- a command that wants one of its subcommands, and has a version
abbrev pub wants_subcommand : App → App
wants_subcommand a =
    record a { top = record a.top { subcommand_required = true; has_version = true } }

-- a command with these subcommands, the last of them first
abbrev pub with_subcommands : List App → App → App
with_subcommands [] a = a
with_subcommands (x ∷ xs) a = with_subcommand (with_subcommands xs a) x.top

-- the program, with its subcommands
abbrev pub doac : App
doac =
    with_subcommands
    (explain ∷ code ∷ timeline ∷ draw ∷ upgrade ∷ replay ∷ model ∷ run ∷ seq ∷ list ∷ check ∷ [])
    (wants_subcommand (new_app (codes "doac")))

-- a command of clap's reads these words
abbrev pub Reads : App → ClapCommand → Type 0
Reads app c = app_of c ≡ app

-- the same, and it hands no argument on to its subcommands
pub record IsLine (app : App) (c : ClapCommand) : Type 0 where
  pub reads : Reads app c
  pub local : (fields_of c).has_globals ≡ false

-- what clap makes of a flag
abbrev pub IsFlag : Bool → Option Text → Type 0
IsFlag flag given =
    (given ≡ Some (codes "true") → flag ≡ true) × (given ≡ Some (codes "false") → flag ≡ false)
    × (given ≡ None → flag ≡ false)

-- a text writes an explained number, where a plus sign may stand first
abbrev pub IsNumber : ℕ → Text → Type 0
IsNumber n text =
    IsNumeral 10 (without_leading_plus text) × (digits_value 10 (without_leading_plus text) ≡ n)
    × (is_explained n ≡ true)

-- a text writes the number of a reason, where a plus sign may stand first
abbrev pub IsReason : ℕ → Text → Type 0
IsReason n text =
    IsNumeral 10 (without_leading_plus text) × (digits_value 10 (without_leading_plus text) ≡ n)
    × (is_within 1 6 n ≡ true)

-- a text writes a number that 64 bits hold, where a plus sign may stand first
abbrev pub IsSize : ℕ → Text → Type 0
IsSize n text =
    IsNumeral 10 (without_leading_plus text)
    × (digits_value 10 (without_leading_plus text) ≡ n) × (n < 2 ^ 64)

-- the number of an option, or another one where it isn't given
abbrev pub IsSizeOf : Option Text → (default n : ℕ) → Type 0
IsSizeOf None default n = n ≡ default
IsSizeOf (Some text) default n = IsSize n text

-- an option is given, and its text writes no such number
abbrev pub HasNoSize : Option Text → Type 0
HasNoSize None = ⊥
HasNoSize (Some text) = (n : ℕ) → IsSize n text → ⊥

-- a text writes a number of iterations to be drawn, which is 8 where none is given
abbrev pub IsCount : ℕ → Text → Type 0
IsCount n text = IsSize n text × (1 ≤ n) × (n ≤ 64)

abbrev pub IsCountOf : Option Text → ℕ → Type 0
IsCountOf None n = n ≡ 8
IsCountOf (Some text) n = IsCount n text

abbrev pub HasNoCount : Option Text → Type 0
HasNoCount None = ⊥
HasNoCount (Some text) = (n : ℕ) → IsCount n text → ⊥

-- the values of the arguments are those of a run in threads
pub record HoldsRun (values : List Row) (t : Threaded) : Type 0 where
  pub source : first_of (codes "F") values ≡ Some t.source.now
  pub input : first_of (codes "INPUT") values ≡ option_map (λ i. i.now) t.input
  pub processors : IsSizeOf (first_of (codes "p") values) 2 t.processors
  pub slots : IsSizeOf (first_of (codes "s") values) 4 t.slots
  pub schedule : first_of (codes "schedule") values ≡ option_map (λ o. o.now) t.schedule
  pub store : IsFlag t.store (one_of (codes "store") values)
  pub tally : IsFlag t.tally (one_of (codes "tally") values)

-- the values of the arguments are those of a run in model time
pub record HoldsModel (values : List Row) (m : Modelled) : Type 0 where
  pub source : first_of (codes "F") values ≡ Some m.source.now
  pub input : first_of (codes "INPUT") values ≡ option_map (λ i. i.now) m.input
  pub processors : IsSizeOf (first_of (codes "p") values) 2 m.processors
  pub slots : IsSizeOf (first_of (codes "s") values) 4 m.slots
  pub most : IsSizeOf (first_of (codes "most") values) 100000000 m.most
  pub schedule : first_of (codes "schedule") values ≡ option_map (λ o. o.now) m.schedule

-- one of these has no value
abbrev pub LacksOne : List Text → List Row → Type 0
LacksOne [] values = ⊥
LacksOne (x ∷ xs) values = (first_of x values ≡ None) ⊎ LacksOne xs values

-- the values of the arguments are the files of a replay
pub record HoldsTexts (values : List Row) (files : TextFiles) : Type 0 where
  pub source : first_of (codes "F") values ≡ Some files.source.now
  pub input : first_of (codes "INPUT") values ≡ Some files.input.now
  pub schedule : first_of (codes "SCHEDULE") values ≡ Some files.schedule.now

-- the same, or else one of them has none
abbrev pub NamesTexts : Option TextFiles → List Row → Type 0
NamesTexts None values = LacksOne (codes "F" ∷ codes "INPUT" ∷ codes "SCHEDULE" ∷ []) values
NamesTexts (Some files) values = HoldsTexts values files

-- the values of the arguments are those of a picture of a loop
pub record HoldsDrawing (values : List Row) (d : Drawing) : Type 0 where
  pub source : first_of (codes "F") values ≡ Some d.source.now
  pub out : first_of (codes "OUT") values ≡ Some d.out.now
  pub number : IsSizeOf (first_of (codes "loop") values) 1 d.number
  pub iterations : IsCountOf (first_of (codes "iterations") values) d.iterations

-- the subcommand's name and the values of its arguments are a command's
abbrev pub Holds : Text → List Row → Command → Type 0
Holds name values (Check source) =
    (name ≡ codes "check") × (first_of (codes "F") values ≡ Some source.now)
Holds name values (ListLoops source why) =
    (name ≡ codes "list") × (first_of (codes "F") values ≡ Some source.now)
    × IsFlag why (one_of (codes "why") values)
Holds name values (ShowCode source) =
    (name ≡ codes "code") × (first_of (codes "F") values ≡ Some source.now)
Holds name values (Seq source input store) =
    (name ≡ codes "seq") × (first_of (codes "F") values ≡ Some source.now)
    × (first_of (codes "INPUT") values ≡ option_map (λ i. i.now) input)
    × IsFlag store (one_of (codes "store") values)
Holds name values (Run t) = (name ≡ codes "run") × HoldsRun values t
Holds name values (Model m) = (name ≡ codes "model") × HoldsModel values m
Holds name values (Replay files states) =
    (name ≡ codes "replay") × HoldsTexts values files
    × IsFlag states (one_of (codes "states") values)
Holds name values (Upgrade files out) =
    (name ≡ codes "upgrade") × HoldsTexts values files
    × (first_of (codes "OUT") values ≡ Some out.now)
Holds name values (Draw drawing) = (name ≡ codes "draw") × HoldsDrawing values drawing
Holds name values (Timeline files out) =
    (name ≡ codes "timeline") × HoldsTexts values files
    × (first_of (codes "OUT") values ≡ Some out.now)
Holds name values (Explain None) = (name ≡ codes "explain") × (first_of (codes "N") values ≡ None)
Holds name values (Explain (Some number)) =
    (name ≡ codes "explain") × (text : Text) × (first_of (codes "N") values ≡ Some text)
    × IsNumber number text × (first_of (codes "REASON") values ≡ None)
Holds name values (ExplainSerial reason) =
    (name ≡ codes "explain") × (first_of (codes "N") values ≡ Some (codes "serial"))
    × ((text : Text) × (first_of (codes "REASON") values ≡ Some text) × IsReason reason text)

-- what clap found, a subcommand's name and the values of its arguments, is a command
abbrev pub HeldIn : Option (Text × List Row) → Command → Type 0
HeldIn None command = ⊥
HeldIn (Some found) command = Holds found.0 found.1 command

-- clap finds nothing wrong with the words, and the command in them
abbrev pub Names : List Text → Command → Type 0
Names words command = (fault_of doac words ≡ []) × HeldIn (subcommand_of doac words) command

-- the subcommand is none of the program's, or lacks a file that it can't do without
abbrev pub Lacks : Text → List Row → Type 0
Lacks name values =
    (((name ≡ codes "check") ⊎ ((name ≡ codes "list") ⊎ ((name ≡ codes "seq")
    ⊎ ((name ≡ codes "run") ⊎ ((name ≡ codes "code") ⊎ (name ≡ codes "model"))))))
    → first_of (codes "F") values ≡ None)
    × (name ≡ codes "replay" → LacksOne (codes "F" ∷ codes "INPUT" ∷ codes "SCHEDULE" ∷ []) values)
    × (name ≡ codes "upgrade"
    → LacksOne (codes "F" ∷ codes "INPUT" ∷ codes "SCHEDULE" ∷ codes "OUT" ∷ []) values)
    × (name ≡ codes "draw" → LacksOne (codes "F" ∷ codes "OUT" ∷ []) values)
    × (name ≡ codes "timeline"
    → LacksOne (codes "F" ∷ codes "INPUT" ∷ codes "SCHEDULE" ∷ codes "OUT" ∷ []) values)
    × (name ≡ codes "explain" → ⊥)

-- the words behind `explain` name nothing that is explained: one alone no explained number, two no
-- reason
abbrev pub NamesNothing : Text → Option Text → Type 0
NamesNothing word None = (n : ℕ) → IsNumber n word → ⊥
NamesNothing word (Some text) = word ≡ codes "serial" → (n : ℕ) → IsReason n text → ⊥

-- the subcommand asks to explain what isn't explained
abbrev pub AsksInVain : Text → List Row → Type 0
AsksInVain name values =
    (name ≡ codes "explain")
    × ((word : Text) × (first_of (codes "N") values ≡ Some word)
    × NamesNothing word (first_of (codes "REASON") values))

-- the subcommand is to run code, and one of its numbers is none
abbrev pub HasNoNumber : Text → List Row → Type 0
HasNoNumber name values =
    ((name ≡ codes "run")
    × (HasNoSize (first_of (codes "p") values) ⊎ HasNoSize (first_of (codes "s") values)))
    ⊎ ((name ≡ codes "model") × (HasNoSize (first_of (codes "p") values)
    ⊎ (HasNoSize (first_of (codes "s") values) ⊎ HasNoSize (first_of (codes "most") values))))

-- the subcommand is to draw a loop, and one of its numbers is none
abbrev pub HasNoPortion : Text → List Row → Type 0
HasNoPortion name values =
    (name ≡ codes "draw") × (HasNoSize (first_of (codes "loop") values)
    ⊎ HasNoCount (first_of (codes "iterations") values))

-- why what clap found is no command
abbrev pub HoldsNone : Text → List Row → LineFault → Type 0
HoldsNone name values (Help e) = ⊥
HoldsNone name values (Mistake e) = ⊥
HoldsNone name values NoCommand = Lacks name values
HoldsNone name values NoSuchNumber = AsksInVain name values
HoldsNone name values NoSize = HasNoNumber name values
HoldsNone name values NoPortion = HasNoPortion name values
HoldsNone name values Memory = ⊥

abbrev pub HeldInNone : Option (Text × List Row) → LineFault → Type 0
HeldInNone None fault = fault ≡ NoCommand
HeldInNone (Some found) fault = HoldsNone found.0 found.1 fault

-- an error of clap's that is none: what help or the version says
abbrev pub IsHelp : Error → Type 0
IsHelp e = (kind_of e ≡ DisplayHelp) ⊎ (kind_of e ≡ DisplayVersion)

-- what is made of an error of clap's
abbrev pub MadeOf : Error → LineFault → Type 0
MadeOf error (Help e) = (e ≡ error) × IsHelp error
MadeOf error (Mistake e) = (e ≡ error) × (IsHelp error → ⊥) × (kind_of error ≢ OutOfMemory)
MadeOf error NoCommand = ⊥
MadeOf error NoSuchNumber = ⊥
MadeOf error NoSize = ⊥
MadeOf error NoPortion = ⊥
MadeOf error Memory = kind_of error ≡ OutOfMemory

-- why words name no command; want of memory is always allowed
abbrev pub NamesNone : List Text → LineFault → Type 0
NamesNone words (Help e) = IsHelp e × IsAmong (kind_of e) (fault_of doac words)
NamesNone words (Mistake e) = (IsHelp e → ⊥) × IsAmong (kind_of e) (fault_of doac words)
NamesNone words NoCommand =
    (fault_of doac words ≡ []) × HeldInNone (subcommand_of doac words) NoCommand
NamesNone words NoSuchNumber =
    (fault_of doac words ≡ []) × HeldInNone (subcommand_of doac words) NoSuchNumber
NamesNone words NoSize = (fault_of doac words ≡ []) × HeldInNone (subcommand_of doac words) NoSize
NamesNone words NoPortion =
    (fault_of doac words ≡ []) × HeldInNone (subcommand_of doac words) NoPortion
NamesNone words Memory = ⊤

-- the exit status of words that name no command
abbrev pub line_status : LineFault → Status
line_status (Help e) = statuses.Done
line_status (Mistake e) = statuses.WrongCommand
line_status NoCommand = statuses.WrongCommand
line_status NoSuchNumber = statuses.WrongCommand
line_status NoSize = statuses.WrongCommand
line_status NoPortion = statuses.WrongCommand
line_status Memory = statuses.NoMemory
