-- The trees of a list of statements.
use Rattle.std.specs.Prelude.{List, map, Vec}
use Rattle.std.specs.Global.{Global}
use Rattle.ast.specs.Tree.{Statement}
use Rattle.ast.specs.View.{statement}
use Rattle.ast.specs.declared.statement.Stmt.{Stmt}

abbrev pub statements_of : Vec Stmt Global → List Statement
statements_of stmts = map statement stmts.items
