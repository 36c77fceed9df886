-- The grammar of statements.
use Rattle.std.specs.Prelude.{◌≡◌, ℕ, ◌<◌, ◌≤◌, Bool, true, false, ◌&&◌, ◌||◌, ◌==◌, nat_le}
use Rattle.std.specs.Prelude.{◌⊎◌, List, [], ◌∷◌, ◌++◌, length, take, Option, Some, None, codes}
use Rattle.std.specs.List.{list_all}
use Rattle.fixed_form.specs.Limits.{text_width}
use Rattle.fixed_form.specs.Line.{is_end}
use Rattle.ast.specs.Tree.{Term, PrintItem, value_item, text_item, Bounds, Declarator}
use Rattle.ast.specs.Tree.{Definition, DoHead, Kind, program, integer, dimension}
use Rattle.ast.specs.Tree.{parameters, assign, do_loop, go_on, block_if, else_if, else_arm}
use Rattle.ast.specs.Tree.{end_if, logical_if, print, read, stop, end, Statement}
use Rattle.expressions.specs.Characters.{is_digit, value}
use Rattle.expressions.specs.Grammar.{IsName, IsReference, IsAccess, Spells, depth_limit}
use Rattle.expressions.specs.Levels.{top}
use Rattle.syntax.specs.declared.class.Keyword.{Keyword}
use Rattle.syntax.specs.declared.class.Keyword.TheVariants as keywords
use Rattle.syntax.specs.Classes as classes
use Rattle.syntax.specs.Classes.{class_of, worded, is_word, is_digits}
use Rattle.syntax.specs.Depths.{depth_of_kind}
use Rattle.syntax.specs.Pieces.{Piece, Cut, marks, constants}

-- ---- lists

-- further parts of a list, each behind a comma, and what ends the list
abbrev pub AreFurther : {X : Type 0} → (X → List ℕ → Type 0) → List ℕ → List X → List ℕ → Type 0
AreFurther Is ending [] t = t ≡ ending
AreFurther Is ending (x ∷ xs) t =
    (u : List ℕ) × (v : List ℕ) × (t ≡ codes "," ++ u ++ v) × Is x u × AreFurther Is ending xs v

-- a list: one part or more, parted by commas, and what ends the list
abbrev pub AreParts : {X : Type 0} → (X → List ℕ → Type 0) → List ℕ → List X → List ℕ → Type 0
AreParts Is ending [] t = ⊥
AreParts Is ending (x ∷ xs) t =
    (u : List ℕ) × (v : List ℕ) × (t ≡ u ++ v) × Is x u × AreFurther Is ending xs v

-- what ends a list in parentheses, and one that goes to the end of the text
abbrev pub closing : List ℕ
closing = codes ")"

abbrev pub nothing : List ℕ
nothing = []

-- nothing, or a list that goes to the end of the text
abbrev pub AreOptional : {X : Type 0} → (List X → List ℕ → Type 0) → List X → List ℕ → Type 0
AreOptional Are [] t = t ≡ []
AreOptional Are (x ∷ xs) t = Are (x ∷ xs) t

-- nothing, or a comma and a list that goes to the end of the text
abbrev pub AreBehindComma : {X : Type 0} → (List X → List ℕ → Type 0) → List X → List ℕ → Type 0
AreBehindComma Are [] t = t ≡ []
AreBehindComma Are (x ∷ xs) t = (u : List ℕ) × (t ≡ codes "," ++ u) × Are (x ∷ xs) u

-- ---- parts

-- bounds: `[expression:] expression`
abbrev pub HaveBounds : Option Term → Term → List ℕ → Type 0
HaveBounds None upper t = Spells top upper t
HaveBounds (Some lower) upper t =
    (u : List ℕ) × (v : List ℕ) × (t ≡ u ++ (codes ":" ++ v)) × Spells top lower u
    × Spells top upper v

abbrev pub IsBounds : Bounds → List ℕ → Type 0
IsBounds b t = HaveBounds b.lower b.upper t

-- nothing, or the bounds of each dimension in parentheses
abbrev pub IsBoundsList : List Bounds → List ℕ → Type 0
IsBoundsList [] t = t ≡ []
IsBoundsList (b ∷ bs) t = (u : List ℕ) × (t ≡ codes "(" ++ u) × AreParts IsBounds closing (b ∷ bs) u

-- a name, or a name with bounds
abbrev pub IsDeclarator : Declarator → List ℕ → Type 0
IsDeclarator d t =
    (u : List ℕ) × (v : List ℕ) × (t ≡ u ++ v) × IsName d.name u × IsBoundsList d.bounds v

-- a name with bounds
abbrev pub IsArray : Declarator → List ℕ → Type 0
IsArray d t = (0 < length d.bounds) × IsDeclarator d t

-- a name, `=` and an expression
abbrev pub IsDefinition : Definition → List ℕ → Type 0
IsDefinition d t =
    (u : List ℕ) × (v : List ℕ) × (t ≡ u ++ (codes "=" ++ v)) × IsName d.name u
    × Spells top d.value v

-- the greatest number of digits of a label and of a STOP
abbrev pub most_digits : ℕ
most_digits = 5

-- a label: one to five digits
abbrev pub IsLabel : ℕ → List ℕ → Type 0
IsLabel n t =
    (0 < length t) × (list_all is_digit t ≡ true) × (length t ≤ most_digits) × (n ≡ value t)

-- nothing, or a comma and an expression
abbrev pub IsStep : Option Term → List ℕ → Type 0
IsStep None t = t ≡ []
IsStep (Some e) t = (u : List ℕ) × (t ≡ codes "," ++ u) × Spells top e u

-- the parameters of a DO
abbrev pub AreParameters : DoHead → List ℕ → Type 0
AreParameters h t =
    (u : List ℕ) × (v : List ℕ) × (w : List ℕ) × (t ≡ u ++ (codes "," ++ (v ++ w)))
    × Spells top h.first u × Spells top h.last v × IsStep h.step w

abbrev pub IsComma : List ℕ → Type 0
IsComma t = (t ≡ []) ⊎ (t ≡ codes ",")

-- behind `DO`: a label, an optional comma, the variable, `=` and the parameters
abbrev pub IsDoHead : DoHead → List ℕ → Type 0
IsDoHead h t =
    (u : List ℕ) × (c : List ℕ) × (v : List ℕ) × (w : List ℕ)
    × (t ≡ u ++ (c ++ (v ++ (codes "=" ++ w)))) × IsLabel h.terminal u × IsComma c
    × IsReference h.variable v × AreParameters h w

-- ---- character constants, which are taken in turn, one for each apostrophe

-- an item and the constants that are left after it
abbrev pub IsItem : PrintItem → List ℕ → List (List ℕ) → List (List ℕ) → Type 0
IsItem (value_item e) t cs left = Spells top e t × (left ≡ cs)
IsItem (text_item s) t cs left = (t ≡ codes "'") × (cs ≡ s ∷ left) × (0 < length s)

abbrev pub AreFurtherItems : List (List ℕ) → List PrintItem → List ℕ → Type 0
AreFurtherItems cs [] t = t ≡ []
AreFurtherItems cs (i ∷ is) t =
    (u : List ℕ) × (v : List ℕ) × (left : List (List ℕ)) × (t ≡ codes "," ++ u ++ v)
    × IsItem i u cs left × AreFurtherItems left is v

-- items, parted by commas
abbrev pub AreItems : List (List ℕ) → List PrintItem → List ℕ → Type 0
AreItems cs [] t = ⊥
AreItems cs (i ∷ is) t =
    (u : List ℕ) × (v : List ℕ) × (left : List (List ℕ)) × (t ≡ u ++ v) × IsItem i u cs left
    × AreFurtherItems left is v

abbrev pub has_text : List (List ℕ) → Bool
has_text [] = false
has_text (s ∷ cs) = nat_le 1 (length s)

abbrev pub is_short_number : List ℕ → Bool
is_short_number t = is_digits t && nat_le (length t) most_digits

-- behind `STOP`: nothing, one to five digits, or a character constant
abbrev pub is_stop_text : List ℕ → List (List ℕ) → Bool
is_stop_text t cs = (length t == 0) || (is_short_number t || (is_word (codes "'") t && has_text cs))

-- ---- statements

-- a statement by its keyword, with what stands behind that
abbrev pub Begins : Keyword → List ℕ → List ℕ → Type 0
Begins keyword u t = class_of t ≡ worded keyword u

-- The marks and the character constants are a statement's that does this.
abbrev pub IsKind : Kind → List ℕ → List (List ℕ) → Type 0
IsKind (program x) t cs = (u : List ℕ) × Begins keywords.Program u t × IsName x u
IsKind (integer ds) t cs =
    (u : List ℕ) × Begins keywords.Integer u t × AreParts IsDeclarator nothing ds u
IsKind (dimension ds) t cs =
    (u : List ℕ) × Begins keywords.Dimension u t × AreParts IsArray nothing ds u
IsKind (parameters ds) t cs =
    (u : List ℕ) × Begins keywords.Parameter (codes "(" ++ u) t × AreParts IsDefinition closing ds u
IsKind (assign a e) t cs =
    (u : List ℕ) × (v : List ℕ) × (class_of t ≡ classes.assignment (u ++ (codes "=" ++ v)))
    × IsAccess a u × Spells top e v
IsKind (do_loop h) t cs = (u : List ℕ) × (class_of t ≡ classes.do_loop u) × IsDoHead h u
IsKind go_on t cs = Begins keywords.Continue [] t
IsKind (block_if e) t cs = (u : List ℕ) × (class_of t ≡ classes.block_if u) × Spells top e u
IsKind (else_if e) t cs =
    (u : List ℕ) × Begins keywords.ElseIf (codes "(" ++ u ++ codes ")THEN") t × Spells top e u
IsKind else_arm t cs = Begins keywords.Else [] t
IsKind end_if t cs = Begins keywords.EndIf [] t
IsKind (logical_if e k) t cs =
    (u : List ℕ) × (v : List ℕ) × (class_of t ≡ classes.logical_if u v)
    × Spells top e u × IsKind k v cs
IsKind (print is) t cs =
    (u : List ℕ) × ((Begins keywords.Print u t × AreBehindComma (AreItems cs) is u)
    ⊎ (Begins keywords.Write u t × AreOptional (AreItems cs) is u))
IsKind (read es) t cs =
    (u : List ℕ) × ((Begins keywords.Read u t × AreBehindComma (AreParts IsAccess nothing) es u)
    ⊎ (Begins keywords.ReadUnit u t × AreOptional (AreParts IsAccess nothing) es u))
IsKind stop t cs = (u : List ℕ) × Begins keywords.Stop u t × (is_stop_text u cs ≡ true)
IsKind end t cs = Begins keywords.End [] t

-- END stands on its initial line alone
abbrev pub is_initial : Kind → List ℕ → Bool
is_initial end text = is_end (take text_width text)
is_initial k text = true

-- the text, with this label and at this line, is the statement
pub record IsStatement (line : ℕ) (label : Option ℕ) (text : List ℕ) (s : Statement) : Type 0 where
  pub pieces : List Piece
  pub cut : Cut pieces text
  pub derived : IsKind s.kind (marks pieces) (constants pieces)
  pub initial : is_initial s.kind text ≡ true
  pub shallow : depth_of_kind s.kind ≤ depth_limit
  pub at : s.line ≡ line
  pub labelled : s.label ≡ label
