-- The class of a statement, by its marks: its text without blanks, folded to upper case, an
-- apostrophe standing for each character constant. The profile's rules, in their order. A class has
-- what stands behind its keyword.
use Rattle.std.specs.Prelude.{ℕ, ◌+◌, ◌-◌, Bool, false, ◌&&◌, ◌||◌, ◌==◌, if◌then◌else◌}
use Rattle.std.specs.Prelude.{List, [], ◌∷◌, ◌++◌, length, drop, Option, Some, None, codes}
use Rattle.std.specs.List.{prefix_len}
use Rattle.expressions.specs.Characters.{is_digit, is_alphanumeric, begins_with}
use Rattle.expressions.specs.Characters.{begins_digit, begins_letter, after}
use Rattle.syntax.specs.declared.class.Keyword.{Keyword}
use Rattle.syntax.specs.declared.class.Keyword.TheVariants.{Program, Integer, Dimension, Parameter}
use Rattle.syntax.specs.declared.class.Keyword.TheVariants.{Print, Write, Read, ReadUnit, Continue}
use Rattle.syntax.specs.declared.class.Keyword.TheVariants.{Else, ElseIf, EndIf, Stop, End, LeftOut}

pub data Class : Type 0 where
  -- the condition of a block IF
  block_if : List ℕ → Class
  -- the condition of a logical IF, and its statement
  logical_if : List ℕ → List ℕ → Class
  -- what stands behind `DO`
  do_loop : List ℕ → Class
  -- an assignment's text
  assignment : List ℕ → Class
  -- a keyword, and what stands behind it
  worded : Keyword → List ℕ → Class
  -- an IF whose parenthesis isn't closed
  unclosed : Class
  unknown : Class

-- ---- level zero: outside all parentheses, which are counted from the beginning; a closing one
-- without its opening one leaves the level at zero

abbrev pub level_after : ℕ → ℕ → ℕ
level_after level c = if c == 40 then level + 1 else (if c == 41 then level - 1 else level)

abbrev pub stands_from : ℕ → ℕ → List ℕ → Bool
stands_from level mark [] = false
stands_from level mark (c ∷ cs) =
    ((level == 0) && (c == mark)) || stands_from (level_after level c) mark cs

abbrev pub stands_at_level_zero : ℕ → List ℕ → Bool
stands_at_level_zero mark t = stands_from 0 mark t

-- ---- IF: behind `IF(`, what stands before the matching parenthesis, and what stands behind that

abbrev pub enclosed_from : ℕ → List ℕ → List ℕ → Option (List ℕ × List ℕ)
enclosed_from level u [] = None
enclosed_from level u (c ∷ cs) =
    if (level == 0) && (c == 41) then Some (u, cs)
    else enclosed_from (level_after level c) (u ++ c ∷ []) cs

abbrev pub enclosed : List ℕ → Option (List ℕ × List ℕ)
enclosed t = enclosed_from 0 [] t

abbrev pub is_word : List ℕ → List ℕ → Bool
is_word word t = elim (after word t) [ Some u ↦ length u == 0 | None ↦ false ]

abbrev pub is_digits : List ℕ → Bool
is_digits t = begins_digit t && (prefix_len is_digit t == length t)

-- the text behind digits and a comma
abbrev pub after_label : List ℕ → Option (List ℕ)
after_label t = if begins_digit t then after (codes ",") (drop (prefix_len is_digit t) t) else None

-- the three labels of an arithmetic IF
abbrev pub are_labels : List ℕ → Bool
are_labels t = elim (after_label t) [
  | Some u ↦ elim (after_label u) [ Some v ↦ is_digits v | None ↦ false ]
  | None ↦ false
]

-- an IF, by its condition and what follows the matching parenthesis
abbrev pub if_class : List ℕ → List ℕ → Class
if_class condition rest =
    if is_word (codes "THEN") rest then block_if condition
    else (if are_labels rest then worded LeftOut rest
    else logical_if condition rest)

-- ---- DO: behind `DO`, digits, an optional comma, a name directly followed by `=`, and a
-- level-zero comma behind that

abbrev pub without_comma : List ℕ → List ℕ
without_comma t = elim (after (codes ",") t) [ Some u ↦ u | None ↦ t ]

abbrev pub is_do_value : List ℕ → Bool
is_do_value t = begins_with 61 t && stands_at_level_zero 44 t

abbrev pub is_do_variable : List ℕ → Bool
is_do_variable t = begins_letter t && is_do_value (drop (prefix_len is_alphanumeric t) t)

abbrev pub is_do : List ℕ → Bool
is_do t = begins_digit t && is_do_variable (without_comma (drop (prefix_len is_digit t) t))

-- ---- keywords

-- The words that a statement may begin with, the first that fits deciding: PRINT without `*`, WRITE
-- without `(*,*)` and READ with neither are left out.
abbrev pub keywords : List (List ℕ × Keyword)
keywords =
    (codes "INTEGER*", LeftOut) ∷ (codes "REAL", LeftOut) ∷ (codes "DOUBLEPRECISION", LeftOut)
    ∷ (codes "COMPLEX", LeftOut) ∷ (codes "LOGICAL", LeftOut) ∷ (codes "CHARACTER", LeftOut)
    ∷ (codes "COMMON", LeftOut) ∷ (codes "EQUIVALENCE", LeftOut) ∷ (codes "DATA", LeftOut)
    ∷ (codes "SAVE", LeftOut) ∷ (codes "IMPLICIT", LeftOut) ∷ (codes "EXTERNAL", LeftOut)
    ∷ (codes "INTRINSIC", LeftOut) ∷ (codes "SUBROUTINE", LeftOut) ∷ (codes "FUNCTION", LeftOut)
    ∷ (codes "BLOCKDATA", LeftOut) ∷ (codes "ENTRY", LeftOut) ∷ (codes "CALL", LeftOut)
    ∷ (codes "RETURN", LeftOut) ∷ (codes "GOTO", LeftOut) ∷ (codes "ASSIGN", LeftOut)
    ∷ (codes "PAUSE", LeftOut) ∷ (codes "FORMAT", LeftOut) ∷ (codes "OPEN", LeftOut)
    ∷ (codes "CLOSE", LeftOut) ∷ (codes "INQUIRE", LeftOut) ∷ (codes "BACKSPACE", LeftOut)
    ∷ (codes "ENDFILE", LeftOut) ∷ (codes "REWIND", LeftOut) ∷ (codes "ENDDO", LeftOut)
    ∷ (codes "DOWHILE", LeftOut)
    ∷ (codes "PROGRAM", Program) ∷ (codes "INTEGER", Integer) ∷ (codes "DIMENSION", Dimension)
    ∷ (codes "PARAMETER", Parameter)
    ∷ (codes "PRINT*", Print) ∷ (codes "PRINT", LeftOut)
    ∷ (codes "WRITE(*,*)", Write) ∷ (codes "WRITE", LeftOut)
    ∷ (codes "READ*", Read) ∷ (codes "READ(*,*)", ReadUnit) ∷ (codes "READ", LeftOut)
    ∷ (codes "CONTINUE", Continue) ∷ (codes "ELSEIF", ElseIf) ∷ (codes "ELSE", Else)
    ∷ (codes "ENDIF", EndIf) ∷ (codes "STOP", Stop) ∷ (codes "END", End) ∷ []

abbrev pub first_keyword : List (List ℕ × Keyword) → List ℕ → Class
first_keyword [] t = unknown
first_keyword (k ∷ ks) t = elim (after k.0 t) [ Some u ↦ worded k.1 u | None ↦ first_keyword ks t ]

unfoldable pub class_by_keyword : List ℕ → Class
class_by_keyword t = first_keyword keywords t

-- a statement that is neither IF nor DO
abbrev pub simple_class : List ℕ → Class
simple_class t = if stands_at_level_zero 61 t then assignment t else class_by_keyword t

-- a statement that is no IF
abbrev pub other_class : List ℕ → Class
other_class t = elim (after (codes "DO") t) [
  | Some u ↦ if is_do u then do_loop u else simple_class t
  | None ↦ simple_class t
]

-- behind `IF(`: an element of IF is assigned where `=` follows the matching parenthesis
abbrev pub class_behind_if : List ℕ → List ℕ → Class
class_behind_if t u = elim (enclosed u) [
  | Some x ↦ if begins_with 61 x.1 then other_class t else if_class x.0 x.1
  | None ↦ unclosed
]

-- what kind of statement a text is looked at as, by its marks
abbrev pub class_of : List ℕ → Class
class_of t = elim (after (codes "IF(") t) [ Some u ↦ class_behind_if t u | None ↦ other_class t ]
