-- The grammar of expressions, by the levels of precedence: equivalence = disjunction
-- {(.EQV.|.NEQV.) disjunction}, disjunction = conjunction {.OR. conjunction}, conjunction = factor
-- {.AND. factor}, factor = [.NOT.] relation, relation = sum [(.LT.|.LE.|.EQ.|.NE.|.GT.|.GE.) sum],
-- sum = [+|-] product {(+|-) product}, product = primary {(*|/) primary}, primary = a constant,
-- .TRUE., .FALSE., a name, a name with a list of expressions in parentheses, or an expression in
-- parentheses. All operators go from the left.
use Rattle.std.specs.Prelude.{◌≡◌, ℕ, ℤ, pos, ◌<◌, ◌≤◌, true, List, [], ◌++◌, length, codes}
use Rattle.std.specs.List.{list_all}
use Rattle.ast.specs.Name.{padded}
use Rattle.ast.specs.Program.{greatest_depth}
use Rattle.ast.specs.Tree.{Ref, Term, constant, truth, parameter, element, call, parentheses}
use Rattle.ast.specs.Tree.{unary, binary, Terms, no_terms, then_term, Access, accessed, depth}
use Rattle.expressions.specs.Characters.{is_digit, is_alphanumeric, begins_letter}
use Rattle.expressions.specs.Characters.{value, constant_limit, longest_name}
use Rattle.ast.specs.Spelling.{prefix_spelling, spelling}
use Rattle.expressions.specs.Levels.{primary, top, level_of, left_level, right_level}
use Rattle.expressions.specs.Levels.{prefix_level, operand_level, truth_spelling}

-- a constant: digits, by value below the limit
abbrev pub IsConstant : ℤ → List ℕ → Type 0
IsConstant n t =
    (0 < length t) × (list_all is_digit t ≡ true) × (value t < constant_limit) × (n ≡ pos (value t))

-- a name: letters and digits, the first a letter, no more than the longest name has; x is its six
-- characters
abbrev pub IsName : List ℕ → List ℕ → Type 0
IsName x t =
    (begins_letter t ≡ true) × (list_all is_alphanumeric t ≡ true) × (length t ≤ longest_name)
    × (x ≡ padded t)

-- a reference to a name, in a statement that is of no program yet
abbrev pub reference_to : List ℕ → Ref
reference_to name = record { name = name; id = 0; cell = 0 }

abbrev pub IsReference : Ref → List ℕ → Type 0
IsReference r t = (x : List ℕ) × IsName x t × (r ≡ reference_to x)

-- The text spells the expression at a level. A call and an element of an array are spelled alike,
-- and so are a variable and a constant's name: in a statement that is of no program yet all of them
-- are elements.
abbrev mutual
  pub Spells : ℕ → Term → List ℕ → Type 0
  Spells level (constant n) t = IsConstant n t
  Spells level (truth b) t = t ≡ truth_spelling b
  Spells level (parameter x n) t = ⊥
  Spells level (element r es) t =
      (u : List ℕ) × (v : List ℕ) × (t ≡ u ++ v) × IsReference r u × AreSubscripts es v
  Spells level (call f es) t = ⊥
  Spells level (parentheses e) t = (u : List ℕ) × (t ≡ codes "(" ++ u ++ codes ")") × Spells top e u
  Spells level (unary p e) t =
      (prefix_level p ≤ level) × (u : List ℕ) × (t ≡ prefix_spelling p ++ u)
      × Spells (operand_level p) e u
  Spells level (binary o a b) t =
      (level_of o ≤ level) × (u : List ℕ) × (v : List ℕ) × (t ≡ u ++ (spelling o ++ v))
      × Spells (left_level o) a u × Spells (right_level o) b v

  -- nothing, or a list in parentheses
  pub AreSubscripts : Terms → List ℕ → Type 0
  AreSubscripts no_terms t = t ≡ []
  AreSubscripts (then_term e es) t =
      (u : List ℕ) × (v : List ℕ) × (t ≡ codes "(" ++ u ++ v) × Spells top e u × AreFurther es v

  -- further expressions of the list, each behind a comma, and the closing parenthesis
  pub AreFurther : Terms → List ℕ → Type 0
  AreFurther no_terms t = t ≡ codes ")"
  AreFurther (then_term e es) t =
      (u : List ℕ) × (v : List ℕ) × (t ≡ codes "," ++ u ++ v) × Spells top e u × AreFurther es v

-- a name, or a name with a list of expressions in parentheses
abbrev pub IsAccess : Access → List ℕ → Type 0
IsAccess a t = Spells primary (accessed a) t

-- the greatest depth of an expression, that of those of a program
abbrev pub depth_limit : ℕ
depth_limit = greatest_depth

-- the whole text is an expression
abbrev pub IsExpression : List ℕ → Term → Type 0
IsExpression t e = Spells top e t × (depth e ≤ depth_limit)
