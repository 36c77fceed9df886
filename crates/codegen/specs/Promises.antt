-- What `compile` promises of the code that it gives with reports of the program's loops.
use Rattle.ast.specs.Program.{ProgramTree}
use Rattle.machine.specs.CodeView.{code_of}
use Rattle.codegen.specs.Awaited.{AreAwaitsKept}
use Rattle.codegen.specs.OnTheWay.{AreOnTheWay}
use Rattle.codegen.specs.Program.{AreOpened, IsCodeOf}
use Rattle.codegen.specs.Reports.{opened_of}
use Rattle.codegen.specs.States.{AreAsAlone}
use Rattle.codegen.specs.declared.programs.Compiled.{Compiled}

-- it is the program's, with the loops opened whose reports have a plan with a body: those that may
-- be open
abbrev pub IsOpened : ProgramTree → Compiled → Type 0
IsOpened t c =
    AreOpened t (opened_of t c.reports.items)
    × IsCodeOf t (opened_of t c.reports.items) (code_of c.code)

-- every state of every run stands where the run alone stands
abbrev pub StatesAreAlone : ProgramTree → Compiled → Type 0
StatesAreAlone t c = AreAsAlone t (code_of c.code) (opened_of t c.reports.items)

-- every run opens the loops that the program's meaning does, on its stores, and iterations begin
-- from those of its turns
abbrev pub StoresAreMeant : ProgramTree → Compiled → Type 0
StoresAreMeant t c = AreOnTheWay t (code_of c.code) (opened_of t c.reports.items)

-- its awaits are order awaits, and those of what is kept
abbrev pub AwaitsAreKept : ProgramTree → Compiled → Type 0
AwaitsAreKept t c = AreAwaitsKept (opened_of t c.reports.items)
