-- Each reference of a part of a program holds the place of its name among the symbols.
use Rattle.std.specs.Prelude.{◌≡◌, true, List, ⊤, Option, map}
use Rattle.std.specs.List.{AllByRecursion}
use Rattle.ast.specs.Program.{is_placed}
use Rattle.ast.specs.References.{optional, items_expressions, kind_expressions, head_expressions}
use Rattle.ast.specs.Symbols.{Symbol}
use Rattle.ast.specs.Tree.{Access, DoHead, Kind, PrintItem, Term, accessed, Terms, element}
use Rattle.ast.specs.Tree.{call, parentheses, unary, binary, no_terms, then_term, Node, plain}
use Rattle.ast.specs.Tree.{loop, choose, Block, no_nodes, then_node, Arms, no_arms, then_arm}

abbrev mutual
  pub PlacedTerm : List Symbol → Term → Type 0
  PlacedTerm ss (element r es) = (is_placed ss r ≡ true) × PlacedTerms ss es
  PlacedTerm ss (call f es) = PlacedTerms ss es
  PlacedTerm ss (parentheses e) = PlacedTerm ss e
  PlacedTerm ss (unary p e) = PlacedTerm ss e
  PlacedTerm ss (binary o a b) = PlacedTerm ss a × PlacedTerm ss b
  PlacedTerm ss _ = ⊤

  pub PlacedTerms : List Symbol → Terms → Type 0
  PlacedTerms ss no_terms = ⊤
  PlacedTerms ss (then_term e es) = PlacedTerm ss e × PlacedTerms ss es

-- so it is in each of these expressions
abbrev pub AllPlaced : List Symbol → List Term → Type 0
AllPlaced ss es = AllByRecursion (λ e. PlacedTerm ss e) es

abbrev mutual
  pub PlacedNode : List Symbol → Node → Type 0
  PlacedNode ss (plain s) = AllPlaced ss (kind_expressions s.kind)
  PlacedNode ss (loop l h b) = AllPlaced ss (head_expressions h) × PlacedBlock ss b
  PlacedNode ss (choose a) = PlacedArms ss a

  pub PlacedBlock : List Symbol → Block → Type 0
  PlacedBlock ss no_nodes = ⊤
  PlacedBlock ss (then_node n b) = PlacedNode ss n × PlacedBlock ss b

  pub PlacedArms : List Symbol → Arms → Type 0
  PlacedArms ss no_arms = ⊤
  PlacedArms ss (then_arm l c b more) =
      AllPlaced ss (optional c) × PlacedBlock ss b × PlacedArms ss more

abbrev pub PlacedItems : List Symbol → List PrintItem → Type 0
PlacedItems ss items = AllPlaced ss (items_expressions items)

abbrev pub PlacedAccess : List Symbol → Access → Type 0
PlacedAccess ss a = PlacedTerm ss (accessed a)

abbrev pub PlacedAccesses : List Symbol → List Access → Type 0
PlacedAccesses ss elements = AllPlaced ss (map accessed elements)

abbrev pub PlacedKind : List Symbol → Kind → Type 0
PlacedKind ss k = AllPlaced ss (kind_expressions k)

abbrev pub PlacedHead : List Symbol → DoHead → Type 0
PlacedHead ss h = AllPlaced ss (head_expressions h)

abbrev pub PlacedOptional : List Symbol → Option Term → Type 0
PlacedOptional ss c = AllPlaced ss (optional c)
