-- What a program determines: which loops are opened and by which plans, and so its code.
use Rattle.std.specs.Prelude.{◌≡◌, List}
use Rattle.ast.specs.Program.{ProgramTree}
use Rattle.machine.specs.Code.{Code}
use Rattle.codegen.specs.Program.{AreOpened, HasLongCode, IsCompiled, Planned}

-- the loops of a program that are opened are one list, with one plan each
abbrev pub AreOneOpened : Type 0
AreOneOpened = (t : ProgramTree) (xs ys : List Planned) → AreOpened t xs → AreOpened t ys → xs ≡ ys

-- a program has one code at most
abbrev pub IsOneCode : Type 0
IsOneCode = (t : ProgramTree) (c d : Code) → IsCompiled t c → IsCompiled t d → c ≡ d

-- a program that has code is none whose code would be too long
abbrev pub IsNeverLong : Type 0
IsNeverLong = (t : ProgramTree) (c : Code) → IsCompiled t c → HasLongCode t → ⊥
