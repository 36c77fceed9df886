-- What `code` writes of a program's code.
use Rattle.std.specs.Prelude.{ℕ, ℤ, pos, ◌+◌, ◌-◌, ◌+ℤ◌, ◌-ℤ◌, nat_le, Bool}
use Rattle.std.specs.Prelude.{true, false, if◌then◌else◌, codes, decimal, List}
use Rattle.std.specs.Prelude.{[], ◌∷◌, ◌++◌, Option, Some, None, slice_get}
use Rattle.std.specs.Fmt.{signed_decimal}
use Rattle.ast.specs.Name.{trimmed}
use Rattle.ast.specs.Spelling.{prefix_spelling, spelling}
use Rattle.machine.specs.Code.{Code, Loop, Part, operand, text_as}
use Rattle.machine.specs.Next.{is_own}
use Rattle.machine.specs.declared.code.Await.{Await}
use Rattle.machine.specs.declared.code.Variable.{Variable}
use Rattle.machine.specs.declared.instr.Act.{Act}
use Rattle.machine.specs.declared.instr.Act.TheVariants as acts
use Rattle.machine.specs.declared.instr.Axis.{Axis}
use Rattle.machine.specs.declared.instr.Instr.{Instr}
use Rattle.command_output.specs.Shown.{at_line}

-- ---- what instructions cite

-- a variable by its number: its name, or the number where there is no such variable
abbrev pub name_or : Option Variable → ℕ → List ℕ
name_or (Some v) number = trimmed v.name.letters
name_or None number = decimal number

abbrev pub variable_word : List Variable → ℕ → List ℕ
variable_word variables number = name_or (slice_get variables number) number

-- the private variables at a place of the code: those of the last loop whose iterations begin no
-- later, and others where there is none
abbrev pub privates_at : List ℕ → List Loop → ℕ → List ℕ
privates_at others [] place = others
privates_at others (l ∷ loops) place =
    privates_at (if nat_le l.body place then l.privates else others) loops place

-- a private scalar by its number among these
abbrev pub private_or : List Variable → Option ℕ → ℕ → List ℕ
private_or variables (Some x) number = variable_word variables x
private_or variables None number = decimal number

abbrev pub private_word : List Variable → List ℕ → ℕ → List ℕ
private_word variables privates number = private_or variables (slice_get privates number) number

-- what is awaited: an event and a distance
abbrev pub awaited_words : Await → List ℕ
awaited_words a = decimal a.event ++ 32 ∷ decimal a.distance

abbrev pub await_or : Option Await → ℕ → List ℕ
await_or (Some a) number = awaited_words a
await_or None number = decimal number

abbrev pub await_words : List Await → ℕ → List ℕ
await_words awaits number = await_or (slice_get awaits number) number

-- the parts of a record that is printed: values, and texts in apostrophes
abbrev pub part_word : Part → List ℕ
part_word operand = codes " VALUE"
part_word (text_as t) = 32 ∷ 39 ∷ t ++ 39 ∷ []

abbrev pub part_words : List Part → List ℕ
part_words [] = []
part_words (p ∷ ps) = part_word p ++ part_words ps

abbrev pub record_or : Option (List Part) → ℕ → List ℕ
record_or (Some parts) number = part_words parts
record_or None number = 32 ∷ decimal number

-- the bounds of a subscript, and how many elements lie between two neighbours by it
abbrev pub upper_bound : Axis → ℤ
upper_bound d = d.lower +ℤ pos d.width -ℤ pos 1

abbrev pub axis_words : Axis → List ℕ
axis_words d =
    signed_decimal d.lower ++ codes ".." ++ signed_decimal (upper_bound d)
    ++ codes " BY " ++ decimal d.stride

-- the place behind a skip of so many instructions
abbrev pub forward : ℕ → ℕ → List ℕ
forward place skips = codes " TO " ++ decimal (place + 1 + skips)

-- the place so many instructions before
abbrev pub back : ℕ → ℕ → List ℕ
back place n = codes " TO " ++ decimal (place - n)

-- ---- instructions

-- the name of an instruction
abbrev pub act_word : Act → List ℕ
act_word (acts.Constant n) = codes "Constant"
act_word (acts.Private k) = codes "Private"
act_word (acts.SetPrivate k) = codes "SetPrivate"
act_word acts.Index = codes "Index"
act_word (acts.Binary o) = codes "Binary"
act_word acts.Modulo = codes "Modulo"
act_word acts.Greatest = codes "Greatest"
act_word acts.Least = codes "Least"
act_word (acts.Unary p) = codes "Unary"
act_word acts.Absolute = codes "Absolute"
act_word (acts.Check k d) = codes "Check"
act_word (acts.Skip n) = codes "Skip"
act_word (acts.SkipUnless n) = codes "SkipUnless"
act_word (acts.Back n) = codes "Back"
act_word acts.SetUp = codes "SetUp"
act_word (acts.CountDown n) = codes "CountDown"
act_word acts.Step = codes "Step"
act_word (acts.Load x) = codes "Load"
act_word (acts.LoadElement x) = codes "LoadElement"
act_word (acts.Store x) = codes "Store"
act_word (acts.StoreElement x) = codes "StoreElement"
act_word (acts.Print r) = codes "Print"
act_word acts.TakeRecord = codes "TakeRecord"
act_word acts.TakeValue = codes "TakeValue"
act_word acts.DropRecord = codes "DropRecord"
act_word (acts.Await a) = codes "Await"
act_word (acts.Advance e) = codes "Advance"
act_word (acts.Open n) = codes "Open"
act_word acts.Join = codes "Join"
act_word (acts.Retire n) = codes "Retire"
act_word acts.Stop = codes "Stop"
act_word acts.Halt = codes "Halt"

-- what an instruction at a place works on
abbrev pub act_operands : Code → ℕ → Act → List ℕ
act_operands code place (acts.Constant n) = 32 ∷ signed_decimal n
act_operands code place (acts.Private k) =
    32 ∷ private_word code.variables (privates_at [] code.loops place) k
act_operands code place (acts.SetPrivate k) =
    32 ∷ private_word code.variables (privates_at [] code.loops place) k
act_operands code place (acts.Binary o) = 32 ∷ spelling o
act_operands code place (acts.Unary p) = 32 ∷ prefix_spelling p
act_operands code place (acts.Check k d) = 32 ∷ decimal k ++ 32 ∷ axis_words d
act_operands code place (acts.Skip n) = forward place n
act_operands code place (acts.SkipUnless n) = forward place n
act_operands code place (acts.CountDown n) = forward place n
act_operands code place (acts.Back n) = back place n
act_operands code place (acts.Load x) = 32 ∷ variable_word code.variables x
act_operands code place (acts.LoadElement x) = 32 ∷ variable_word code.variables x
act_operands code place (acts.Store x) = 32 ∷ variable_word code.variables x
act_operands code place (acts.StoreElement x) = 32 ∷ variable_word code.variables x
act_operands code place (acts.Print r) = record_or (slice_get code.records r) r
act_operands code place (acts.Await a) = 32 ∷ await_words code.awaits a
act_operands code place (acts.Advance e) = 32 ∷ decimal e
act_operands code place (acts.Open n) = 32 ∷ decimal n
act_operands code place (acts.Retire n) = 32 ∷ decimal n
act_operands code place act = []

-- whether it is local, or a step that touches what activities share
abbrev pub sort_word : Bool → List ℕ
sort_word true = codes " LOCAL "
sort_word false = codes " SHARED "

-- the line of the instruction at a place
abbrev pub instr_line : Code → ℕ → Instr → List ℕ
instr_line code place i =
    decimal place ++ sort_word (is_own i.act) ++ act_word i.act ++ act_operands code place i.act
    ++ at_line i.line

-- those of instructions from a place on
abbrev pub instr_lines : Code → ℕ → List Instr → List ℕ
instr_lines code place [] = []
instr_lines code place (i ∷ is) = instr_line code place i ++ instr_lines code (place + 1) is

-- ---- loops

abbrev pub names_words : List Variable → List ℕ → List ℕ
names_words variables [] = []
names_words variables (x ∷ xs) = (32 ∷ variable_word variables x) ++ names_words variables xs

-- private variables, if there are any
abbrev pub private_words : List Variable → List ℕ → List ℕ
private_words variables [] = []
private_words variables (x ∷ xs) = codes " PRIVATE" ++ names_words variables (x ∷ xs)

-- its number, and the place where the code of its iterations begins
abbrev pub begin_words : (n place : ℕ) → List ℕ
begin_words n place = codes "LOOP " ++ decimal n ++ codes " PLACE " ++ decimal place

-- its variable and its step
abbrev pub course_words : List Variable → ℕ → ℤ → List ℕ
course_words variables x step =
    codes " VARIABLE " ++ variable_word variables x ++ codes " STEP " ++ signed_decimal step

-- the line of loop n
abbrev pub loop_line : List Variable → ℕ → Loop → List ℕ
loop_line variables n l =
    begin_words n l.body ++ course_words variables l.variable l.step
    ++ private_words variables l.privates ++ 10 ∷ []

abbrev pub loop_lines : List Variable → ℕ → List Loop → List ℕ
loop_lines variables n [] = []
loop_lines variables n (l ∷ ls) = loop_line variables n l ++ loop_lines variables (n + 1) ls

-- The lines of code: those of its loops, and those of its instructions.
abbrev pub code_lines : Code → List ℕ
code_lines code = loop_lines code.variables 0 code.loops ++ instr_lines code 0 code.instructions
