-- Answers that tell of a run.
use Rattle.std.specs.Prelude.{◌≡◌, ℕ, List}
use Rattle.ast.specs.Meaning.{Run, seq}
use Rattle.ast.specs.Program.{ProgramTree}
use Rattle.ast.specs.Symbols.{Symbol, cells_of}
use Rattle.ast.specs.View.{cells}
use Rattle.ast.specs.declared.answer.Answer.{Answer}

-- The answer tells of a run: its output, its end, and its store, by a program's symbols.
pub record Tells (symbols : List Symbol) (run : Run) (answer : Answer) : Type 0 where
  pub output : answer.output.items ≡ run.output
  pub end : answer.end ≡ run.end
  pub store : cells answer.store ≡ cells_of symbols run.store

-- The answer is that of the program's meaning on an input, the store at a fault or a STOP included.
abbrev pub IsAnswer : ProgramTree → List ℕ → Answer → Type 0
IsAnswer program input answer = Tells program.symbols (seq program input) answer
