-- What holds of each program's tree beside the places and the numbers of its references: the
-- profile's rules on subscripts, on DO variables and on END, and the range of constants.
use Rattle.std.specs.Prelude.{ℕ, Bool, true, false, not, ◌&&◌, ◌||◌}
use Rattle.std.specs.Prelude.{◌==◌, List, [], ◌∷◌, length, map}
use Rattle.std.specs.List.{list_all, list_any}
use Rattle.ast.specs.Exact.{fits}
use Rattle.ast.specs.References.{block_expressions}
use Rattle.ast.specs.Stops.{is_end_kind}
use Rattle.ast.specs.Store.{same_name}
use Rattle.ast.specs.Symbols.{Symbol, dimensions_in}
use Rattle.ast.specs.Tree.{Term, Terms, constant, parameter, element, call, parentheses, unary}
use Rattle.ast.specs.Tree.{binary, no_terms, then_term, count_of, Kind, assign, read, Node, plain}
use Rattle.ast.specs.Tree.{loop, choose, Block, no_nodes, then_node, Arms, no_arms, then_arm}

-- ---- each reference has as many subscripts as its name has dimensions

abbrev mutual
  pub is_counted : List Symbol → Term → Bool
  is_counted symbols (element r es) =
      (count_of es == length (dimensions_in symbols r.name)) && are_counted symbols es
  is_counted symbols (call f es) = are_counted symbols es
  is_counted symbols (parentheses e) = is_counted symbols e
  is_counted symbols (unary p e) = is_counted symbols e
  is_counted symbols (binary o a b) = is_counted symbols a && is_counted symbols b
  is_counted symbols _ = true

  pub are_counted : List Symbol → Terms → Bool
  are_counted symbols no_terms = true
  are_counted symbols (then_term e es) = is_counted symbols e && are_counted symbols es

-- ---- each constant is a 64-bit integer

abbrev mutual
  pub is_fitting : Term → Bool
  is_fitting (constant n) = fits n
  is_fitting (parameter x n) = fits n
  is_fitting (element r es) = terms_fit es
  is_fitting (call f es) = terms_fit es
  is_fitting (parentheses e) = is_fitting e
  is_fitting (unary p e) = is_fitting e
  is_fitting (binary o a b) = is_fitting a && is_fitting b
  is_fitting _ = true

  pub terms_fit : Terms → Bool
  terms_fit no_terms = true
  terms_fit (then_term e es) = is_fitting e && terms_fit es

-- ---- a DO variable is given no value in its range

-- the names that a statement gives values
abbrev pub given_by : Kind → List (List ℕ)
given_by (assign a e) = a.ref.name ∷ []
given_by (read elements) = map (λ a. a.ref.name) elements
given_by _ = []

abbrev pub is_none_of : List (List ℕ) → List ℕ → Bool
is_none_of names name = not (list_any (same_name name) names)

abbrev mutual
  -- no statement and no inner DO gives one of these names a value, nor its own variable in its
  -- range
  pub node_keeps : List (List ℕ) → Node → Bool
  node_keeps names (plain s) = list_all (is_none_of names) (given_by s.kind)
  node_keeps names (loop l h b) =
      is_none_of names h.variable.name && block_keeps (h.variable.name ∷ names) b
  node_keeps names (choose a) = arms_keep names a

  pub block_keeps : List (List ℕ) → Block → Bool
  block_keeps names no_nodes = true
  block_keeps names (then_node n b) = node_keeps names n && block_keeps names b

  pub arms_keep : List (List ℕ) → Arms → Bool
  arms_keep names no_arms = true
  arms_keep names (then_arm l c b more) = block_keeps names b && arms_keep names more

-- ---- END stands in no range and in no arm

abbrev mutual
  pub node_has_end : Node → Bool
  node_has_end (plain s) = is_end_kind s.kind
  node_has_end (loop l h b) = block_has_end b
  node_has_end (choose a) = arms_have_end a

  pub block_has_end : Block → Bool
  block_has_end no_nodes = false
  block_has_end (then_node n b) = node_has_end n || block_has_end b

  pub arms_have_end : Arms → Bool
  arms_have_end no_arms = false
  arms_have_end (then_arm l c b more) = block_has_end b || arms_have_end more

abbrev pub holds_end : Node → Bool
holds_end (plain s) = false
holds_end (loop l h b) = block_has_end b
holds_end (choose a) = arms_have_end a

-- no node of a block holds END inside: it stands at the outer level alone
abbrev pub ends_outside : Block → Bool
ends_outside no_nodes = true
ends_outside (then_node n b) = not (holds_end n) && ends_outside b

-- ---- a program's block

-- Each reference has as many subscripts as its name has dimensions; no statement and no DO gives
-- the variable of a DO around it a value; END stands in no range and in no arm.
abbrev pub is_regular : List Symbol → Block → Bool
is_regular symbols b =
    list_all (λ e. is_counted symbols e) (block_expressions b)
    && (block_keeps [] b && ends_outside b)

-- each constant in a block is a 64-bit integer
abbrev pub are_fitting : Block → Bool
are_fitting b = list_all (λ e. is_fitting e) (block_expressions b)
