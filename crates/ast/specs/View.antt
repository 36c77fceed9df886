-- The tree that each value of the program's types stands for.
use Rattle.std.specs.Prelude.{ℕ, ℤ, List, map, Option, option_map}
use Rattle.ast.specs.Store.{dealt}
use Rattle.ast.specs.Symbols as symbols
use Rattle.ast.specs.Symbols.{Extent, Sort}
use Rattle.ast.specs.Tree as tree
use Rattle.ast.specs.Tree.{Ref, Term, terms, PrintItem, value_item}
use Rattle.ast.specs.Tree.{text_item, Statement, Block, block, arms}
use Rattle.ast.specs.declared.name.Name.{Name}
use Rattle.ast.specs.declared.expression.Expr.{Expr, fold-Expr}
use Rattle.ast.specs.declared.expression.Expr.TheOpen.{Expr-F, Access-F}
use Rattle.ast.specs.declared.expression.Access.{Access, fold-Access}
use Rattle.ast.specs.declared.expression.Reference.{Reference}
use Rattle.ast.specs.declared.plain.Action.{Action}
use Rattle.ast.specs.declared.plain.Action.TheVariants as actions
use Rattle.ast.specs.declared.plain.Inert.{Inert}
use Rattle.ast.specs.declared.plain.Inert.TheVariants as inerts
use Rattle.ast.specs.declared.plain.PlainStatement.{PlainStatement}
use Rattle.ast.specs.declared.program.Dimension.{Dimension}
use Rattle.ast.specs.declared.program.Symbol.{Symbol}
use Rattle.ast.specs.declared.program.SymbolKind.{SymbolKind}
use Rattle.ast.specs.declared.program.SymbolKind.TheVariants as sorts
use Rattle.ast.specs.declared.statement.Bounds.{Bounds}
use Rattle.ast.specs.declared.statement.Declarator.{Declarator}
use Rattle.ast.specs.declared.statement.Definition.{Definition}
use Rattle.ast.specs.declared.statement.DoHead.{DoHead}
use Rattle.ast.specs.declared.statement.Item.{Item}
use Rattle.ast.specs.declared.statement.Item.TheVariants.{Value, Text}
use Rattle.ast.specs.declared.statement.Kind.{Kind, fold-Kind}
use Rattle.ast.specs.declared.statement.Kind.TheOpen.{Kind-F}
use Rattle.ast.specs.declared.statement.Stmt.{Stmt}
use Rattle.ast.specs.declared.store.Store.{Store}
use Rattle.ast.specs.declared.table.Seat.{Seat}
use Rattle.ast.specs.declared.table.Table.{Table}
use Rattle.ast.specs.declared.tree.Node.{Node, fold-Node}
use Rattle.ast.specs.declared.tree.Node.TheOpen.{Node-F, Arm-F}
use Rattle.ast.specs.declared.tree.Arm.{Arm, fold-Arm}

-- the letters of a name
abbrev pub letters : Name → List ℕ
letters n = n.letters

-- a reference: its name, its number, and the place of the name
abbrev pub ref : Reference → Ref
ref r = record { name = r.name.letters; id = r.id.0; cell = r.cell }

-- ---- expressions

abbrev pub term_step : Expr-F Term tree.Access → Term
term_step (Expr-F.Constant n) = tree.constant n
term_step (Expr-F.Truth b) = tree.truth b
term_step (Expr-F.Parameter x n) = tree.parameter x.letters n
term_step (Expr-F.Element a) = tree.accessed a
term_step (Expr-F.Call f es) = tree.call f (terms es.items)
term_step (Expr-F.Parentheses e) = tree.parentheses e.value
term_step (Expr-F.Unary p e) = tree.unary p e.value
term_step (Expr-F.Binary o a b) = tree.binary o a.value b.value

abbrev pub access_step : Access-F Term tree.Access → tree.Access
access_step a = record { ref = ref a.reference; subscripts = terms a.subscripts.items }

-- an expression
abbrev pub term : Expr → Term
term = fold-Expr Term tree.Access term_step access_step

-- a variable or an element
abbrev pub access : Access → tree.Access
access = fold-Access Term tree.Access term_step access_step

-- an expression that may be absent
abbrev pub optional_term : Option Expr → Option Term
optional_term e = option_map term e

-- ---- statements of the text

-- an item of a PRINT
abbrev pub item : Item → PrintItem
item (Value e) = value_item (term e)
item (Text t) = text_item t.items

-- the bounds of a dimension
abbrev pub bounds : Bounds → tree.Bounds
bounds b = record { lower = optional_term b.lower; upper = term b.upper }

-- a declarator
abbrev pub declarator : Declarator → tree.Declarator
declarator d = record { name = d.name.letters; bounds = map bounds d.bounds.items }

-- the definition of a constant
abbrev pub definition : Definition → tree.Definition
definition d = record { name = d.name.letters; value = term d.value }

-- a DO statement
abbrev pub head : DoHead → tree.DoHead
head h = record {
  terminal = h.terminal;
  variable = ref h.variable;
  first = term h.first;
  last = term h.last;
  step = optional_term h.step;
}

abbrev pub kind_step : Kind-F tree.Kind → tree.Kind
kind_step (Kind-F.Program x) = tree.program x.letters
kind_step (Kind-F.Integer ds) = tree.integer (map declarator ds.items)
kind_step (Kind-F.Dimension ds) = tree.dimension (map declarator ds.items)
kind_step (Kind-F.Parameter ds) = tree.parameters (map definition ds.items)
kind_step (Kind-F.Assign a e) = tree.assign (access a) (term e)
kind_step (Kind-F.Do h) = tree.do_loop (head h)
kind_step Kind-F.Continue = tree.go_on
kind_step (Kind-F.If e) = tree.block_if (term e)
kind_step (Kind-F.ElseIf e) = tree.else_if (term e)
kind_step Kind-F.Else = tree.else_arm
kind_step Kind-F.EndIf = tree.end_if
kind_step (Kind-F.LogicalIf e k) = tree.logical_if (term e) k.value
kind_step (Kind-F.Print items) = tree.print (map item items.items)
kind_step (Kind-F.Read elements) = tree.read (map access elements.items)
kind_step Kind-F.Stop = tree.stop
kind_step Kind-F.End = tree.end

-- what a statement does
abbrev pub kind : Kind → tree.Kind
kind = fold-Kind tree.Kind kind_step

-- a statement of the text
abbrev pub statement : Stmt → Statement
statement s = record { line = s.line; label = s.label; kind = kind s.kind }

-- ---- programs

-- a statement that does nothing when it is run
abbrev pub inert : Inert → tree.Kind
inert (inerts.Program x) = tree.program x.letters
inert (inerts.Integer ds) = tree.integer (map declarator ds.items)
inert (inerts.Dimension ds) = tree.dimension (map declarator ds.items)
inert (inerts.Parameter ds) = tree.parameters (map definition ds.items)
inert inerts.Continue = tree.go_on
inert inerts.End = tree.end

-- what a statement does that holds no others
abbrev pub action : Action → tree.Kind
action (actions.Assign a e) = tree.assign (access a) (term e)
action (actions.Print items) = tree.print (map item items.items)
action (actions.Read elements) = tree.read (map access elements.items)
action actions.Stop = tree.stop
action (actions.Inert i) = inert i

-- a statement that holds no others
abbrev pub plain_statement : PlainStatement → Statement
plain_statement s = record { line = s.line; label = s.label; kind = action s.action }

abbrev pub node_step : Node-F tree.Node tree.Arm → tree.Node
node_step (Node-F.Plain s) = tree.plain (plain_statement s)
node_step (Node-F.Loop l h b) = tree.loop l (head h) (block b.items)
node_step (Node-F.Choice a) = tree.choose (arms a.items)

abbrev pub arm_step : Arm-F tree.Node tree.Arm → tree.Arm
arm_step a =
    record { line = a.line; condition = optional_term a.condition; body = block a.body.items }

-- a statement of a program, with those that it holds
abbrev pub node : Node → tree.Node
node = fold-Node tree.Node tree.Arm node_step arm_step

-- an arm of an IF
abbrev pub arm : Arm → tree.Arm
arm = fold-Arm tree.Node tree.Arm node_step arm_step

-- statements, one after another
abbrev pub block_view : List Node → Block
block_view ns = block (map node ns)

-- a dimension, with the values of its bounds
abbrev pub extent : Dimension → Extent
extent d = record { lower = d.lower; upper = d.upper }

-- what a name stands for
abbrev pub sort : SymbolKind → Sort
sort (sorts.Variable ds) = symbols.variable (map extent ds.items)
sort (sorts.Constant n) = symbols.fixed n

-- a name, and what it stands for
abbrev pub symbol : Symbol → symbols.Symbol
symbol s = record { name = s.name.letters; sort = sort s.kind }

-- ---- stores

-- each name of a table, and how many elements it has
abbrev pub shapes_in : List Seat → List (List ℕ × ℕ)
shapes_in seats = map (λ s. (s.name.letters, s.size)) seats

-- the same of a table
abbrev pub shapes : Table → List (List ℕ × ℕ)
shapes t = shapes_in t.seats.items

-- each name of a store with its values
abbrev pub cells : Store → List (List ℕ × List ℤ)
cells s = dealt (shapes s.table) s.numbers.items
