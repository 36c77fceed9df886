-- The code of a whole program: main's, a Halt behind it, and then, of each loop that is opened, the
-- code of one iteration, a Retire behind it.
use Rattle.std.specs.Prelude.{max, ◌≡◌, ◌<◌, ◌≤◌, ◌^◌, ◌⊎◌, ◌+◌, ◌-◌, ◌==◌}
use Rattle.std.specs.Prelude.{⊤, ℕ, pos, true, if◌then◌else◌, List, [], ◌∷◌}
use Rattle.std.specs.Prelude.{◌++◌, length, map, Option, Some, None, unwrap_or}
use Rattle.ast.specs.Program.{ProgramTree}
use Rattle.ast.specs.Store.{same_name}
use Rattle.ast.specs.Symbols.{Symbol}
use Rattle.ast.specs.declared.refusal.Refusal.{Refusal}
use Rattle.ast.specs.declared.refusal.Refusal.TheVariants.{Memory, Refused}
use Rattle.ast.specs.declared.rule.Rule.TheVariants.{LongCode}
use Rattle.dependence.specs.Kept.{EligibleIn}
use Rattle.dependence.specs.Plan.{PlanTree}
use Rattle.loop_tree.specs.Loops.{Loop, loops_of}
use Rattle.machine.specs.Code as machine
use Rattle.machine.specs.Code.{Code, Part}
use Rattle.machine.specs.Laid.{are_distinct, are_laid, names_in}
use Rattle.machine.specs.declared.code.Await.{Await}
use Rattle.machine.specs.declared.instr.Act.TheVariants.{Halt, Retire}
use Rattle.machine.specs.declared.instr.Instr.{Instr}
use Rattle.placement.specs.Placement.{IsPlacedBody, loops_around}
use Rattle.expr_code.specs.Computes.{HasVariables}
use Rattle.expr_code.specs.Emitted.{instr, short}
use Rattle.expr_code.specs.Places.{Places}
use Rattle.codegen.specs.Emitted.{block_awaits, block_code, block_records}
use Rattle.codegen.specs.Plain.{plain_block}
use Rattle.codegen.specs.Room.{block_loops, block_room}

-- ---- which loops are opened

-- a loop that is opened, with its plan
pub record Planned : Type 0 where
  pub loop : Loop
  pub plan : PlanTree

-- Of these loops, among all of a program, those that may be open are opened, in order, each with
-- the plan that placement gives it.
abbrev pub AreOpenedOf : List Loop → List Loop → List Planned → Type 0
AreOpenedOf all [] xs = xs ≡ []
AreOpenedOf all (l ∷ ls) xs =
    (EligibleIn l (loops_around all l) × ((p : PlanTree) × IsPlacedBody l p
    × ((ys : List Planned) × (xs ≡ (record { loop = l; plan = p }) ∷ ys) × AreOpenedOf all ls ys)))
    ⊎ ((EligibleIn l (loops_around all l) → ⊥) × AreOpenedOf all ls xs)

-- these are the loops of a program that are opened
abbrev pub AreOpened : ProgramTree → List Planned → Type 0
AreOpened t xs = AreOpenedOf (loops_of t.block) (loops_of t.block) xs

-- the number, from n on, of the loop that a DO opens, told by its variable's reference
abbrev pub number_from : ℕ → List Planned → ℕ → Option ℕ
number_from n [] id = None
number_from n (x ∷ xs) id =
    if x.loop.head.variable.id == id then Some n else number_from (n + 1) xs id

-- the number of the loop that a DO opens, that of the first being 0; none where it opens none
abbrev pub opened_by : List Planned → ℕ → Option ℕ
opened_by xs id = number_from 0 xs id

-- no loop is opened
abbrev pub none_open : ℕ → Option ℕ
none_open n = None

-- ---- main

-- where main finds its variables: all of them in the store
abbrev pub main_places : List Symbol → Places
main_places symbols = record { symbols = symbols; privates = []; loop_name = None; line = 0 }

-- the instructions of main's statements; xs: the loops that are opened, with their plans
abbrev pub main_block : ProgramTree → List Planned → List Instr
main_block t xs = block_code (main_places t.symbols) (opened_by xs) 0 0 (plain_block t.block)

-- the code of main, behind whose statements the run halts
abbrev pub main_code : ProgramTree → List Planned → List Instr
main_code t xs = main_block t xs ++ instr 0 Halt ∷ []

-- the records of main's PRINTs
abbrev pub main_records : ProgramTree → List Planned → List (List Part)
main_records t xs = block_records (main_places t.symbols) (opened_by xs) (plain_block t.block)

-- ---- ranges of loops that are opened

-- where an iteration finds its variables: the private ones and the loop's in its frame
abbrev pub range_places : List Symbol → Planned → Places
range_places symbols x = record {
  symbols = symbols;
  privates = x.plan.privates;
  loop_name = Some x.loop.head.variable.name;
  line = x.loop.line;
}

-- the records of the PRINTs in a range
abbrev pub range_records : List Symbol → Planned → List (List Part)
range_records symbols x = block_records (range_places symbols x) none_open x.plan.body

-- the awaits in a range
abbrev pub range_awaits : List Symbol → Planned → List Await
range_awaits symbols x = block_awaits (range_places symbols x) none_open x.plan.body

-- an iteration of loop n; r, w: how many records and awaits stand before
abbrev pub range_code : List Symbol → (n r w : ℕ) → Planned → List Instr
range_code symbols n r w x =
    block_code (range_places symbols x) none_open r w x.plan.body
    ++ instr x.loop.line (Retire (short n)) ∷ []

-- the number of a name among the symbols, that of the first being n
abbrev pub place_of_name : ℕ → List Symbol → List ℕ → ℕ
place_of_name n [] name = n
place_of_name n (s ∷ ss) name = if same_name s.name name then n else place_of_name (n + 1) ss name

-- what code tells of a loop whose iterations begin at this place and have these private scalars
abbrev pub entry_of : List Symbol → ℕ → Loop → List (List ℕ) → machine.Loop
entry_of symbols place l names = record {
  body = place;
  variable = l.head.variable.cell;
  step = unwrap_or l.step (pos 0);
  privates = map (λ name. short (place_of_name 0 symbols name)) names;
}

-- what code tells of a loop that is opened
abbrev pub loop_entry : List Symbol → ℕ → Planned → machine.Loop
loop_entry symbols place x = entry_of symbols place x.loop x.plan.privates

module _ (symbols : List Symbol) where
  -- the code of an iteration of each of these loops, the first of which is loop n
  abbrev pub ranges_code : (n r w : ℕ) → List Planned → List Instr
  ranges_code n r w [] = []
  ranges_code n r w (x ∷ xs) =
      range_code symbols n r w x ++ ranges_code (n + 1) (r + length (range_records symbols x))
      (w + length (range_awaits symbols x)) xs

  -- the records that they print
  abbrev pub ranges_records : List Planned → List (List Part)
  ranges_records [] = []
  ranges_records (x ∷ xs) = range_records symbols x ++ ranges_records xs

  -- what they await
  abbrev pub ranges_awaits : List Planned → List Await
  ranges_awaits [] = []
  ranges_awaits (x ∷ xs) = range_awaits symbols x ++ ranges_awaits xs

  -- what code tells of them; place: where the code of the first begins
  abbrev pub ranges_loops : (place n r w : ℕ) → List Planned → List machine.Loop
  ranges_loops place n r w [] = []
  ranges_loops place n r w (x ∷ xs) =
      loop_entry symbols place x ∷ ranges_loops (place + length (range_code symbols n r w x))
      (n + 1) (r + length (range_records symbols x)) (w + length (range_awaits symbols x)) xs

-- ---- the whole

-- the instructions of a program's code: main, and then an iteration of each loop that is opened
abbrev pub all_code : ProgramTree → List Planned → List Instr
all_code t xs = main_code t xs ++ ranges_code t.symbols 0 (length (main_records t xs)) 0 xs

-- its records, in the same order
abbrev pub all_records : ProgramTree → List Planned → List (List Part)
all_records t xs = main_records t xs ++ ranges_records t.symbols xs

-- so many instructions code may have, and so many symbols its program
abbrev pub most_instructions : ℕ
most_instructions = 1048576

-- a program that has code has at most so many symbols
abbrev pub most_symbols : ℕ
most_symbols = 2 ^ 32

-- room is told by 32 bits, and the greatest of these numbers stands for more
abbrev pub most_room : ℕ
most_room = 2 ^ 32 - 1

-- for operands and for serial loops under way: what all statements want, wherever their code stands
abbrev pub room_of : ProgramTree → ℕ
room_of t = max (block_room (plain_block t.block)) (block_loops (plain_block t.block))

-- the code of a program would be too long: it has more instructions or wants more room, or the
-- program has more symbols
abbrev pub IsTooLong : ProgramTree → List Planned → Type 0
IsTooLong t xs =
    (most_instructions < length (all_code t xs))
    ⊎ ((most_room ≤ room_of t) ⊎ (most_symbols < length t.symbols))

-- a program has no code with these loops opened: it would be too long, and no line is at fault
abbrev pub RefusesWith : ProgramTree → List Planned → Refusal → Type 0
RefusesWith t xs Memory = ⊤
RefusesWith t xs (Refused rule line) = (rule ≡ LongCode) × (line ≡ 0) × IsTooLong t xs

-- with the loops opened that may be, its code would be too long
abbrev pub HasLongCode : ProgramTree → Type 0
HasLongCode t = (xs : List Planned) × AreOpened t xs × IsTooLong t xs

-- a program has no code
abbrev pub Refuses : ProgramTree → Refusal → Type 0
Refuses t Memory = ⊤
Refuses t (Refused rule line) = (rule ≡ LongCode) × (line ≡ 0) × HasLongCode t

-- the code of a program with these loops opened
pub record IsCodeOf (t : ProgramTree) (xs : List Planned) (code : Code) : Type 0 where
  pub instructions : code.instructions ≡ all_code t xs
  pub records : code.records ≡ all_records t xs
  pub awaits : code.awaits ≡ ranges_awaits t.symbols xs
  pub loops : code.loops
      ≡ ranges_loops t.symbols (length (main_code t xs)) 0 (length (main_records t xs)) 0 xs
  pub variables : HasVariables code t.symbols
  pub distinct : are_distinct (names_in code.variables) ≡ true
  pub laid : are_laid 0 code.variables ≡ true
  pub operands : code.operands ≡ block_room (plain_block t.block)
  pub counters : code.counters ≡ block_loops (plain_block t.block)
  pub few : length (all_code t xs) ≤ most_instructions
  pub few_symbols : length t.symbols ≤ most_symbols
  pub few_room : room_of t < most_room

-- the code of a program, with the loops opened that may be
abbrev pub IsCompiled : ProgramTree → Code → Type 0
IsCompiled t code = (xs : List Planned) × AreOpened t xs × IsCodeOf t xs code
