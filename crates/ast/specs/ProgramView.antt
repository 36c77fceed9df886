-- The program that a `Program` stands for.
use Rattle.std.specs.Prelude.{map}
use Rattle.ast.specs.Program.{ProgramTree}
use Rattle.ast.specs.View.{symbol, block_view}
use Rattle.ast.specs.declared.program.Program.{Program}

-- its symbols, its statements, and how many statements its text has
abbrev pub program : Program → ProgramTree
program p = record {
  symbols = map symbol p.symbols.items;
  block = block_view p.body.items;
  count = p.statements;
}
