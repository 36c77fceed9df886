-- Why a text reads as no program.
use Rattle.std.specs.Prelude.{◌≡◌, ◌⊎◌, ℕ, List, ◌∷◌, ◌++◌, Err}
use Rattle.ast.specs.Tree.{Statement}
use Rattle.ast.specs.declared.rule.Rule.{Rule}
use Rattle.ast.specs.declared.rule.Rule.TheVariants.{UnendedText}
use Rattle.fixed_form.specs.Lines.{Entry, Lines, Broken}
use Rattle.syntax.specs.Pieces.{Piece, Cut, marks, constants}
use Rattle.syntax.specs.ReadingStatements.{statement_at}
use Rattle.expressions.specs.Answers.{IsOfStatement}
use Rattle.syntax.specs.Statements.{IsStatement}
use Rattle.profile_check.specs.Reads.{Spelled}
use Rattle.profile_check.specs.Rules.{BreaksFirst}

-- the first fault of an entry's text, read from the left; `UnendedText` where a character constant
-- is unfinished
pub record IsFault (e : Entry) (rule : Rule) : Type 0 where
  pub read : (ps : List Piece) → Cut ps e.text
      → statement_at e.line e.label e.text (marks ps) (constants ps)
      ≡ Err (record { rule = rule; line = e.line })
  pub unfinished : ((ps : List Piece) → Cut ps e.text → ⊥) → rule ≡ UnendedText

-- the text of an entry is no statement, and its first fault is of the rule
pub record IsNoStatement (e : Entry) (rule : Rule) (line : ℕ) : Type 0 where
  pub place : line ≡ e.line
  pub known : IsOfStatement rule
  pub fault : IsFault e rule
  pub none : (s : Statement) → IsStatement e.line e.label e.text s → ⊥

-- the first entry whose text is no statement
pub record UnspelledAt (es : List Entry) (rule : Rule) (line : ℕ) : Type 0 where
  pub front : List Entry
  pub entry : Entry
  pub back : List Entry
  pub cut : es ≡ front ++ entry ∷ back
  pub statements : List Statement
  pub spelled : Spelled front statements
  pub fault : IsNoStatement entry rule line

-- the lines break no rule, and one of the texts is no statement
pub record IsUnread (text : List ℕ) (rule : Rule) (line : ℕ) : Type 0 where
  pub entries : List Entry
  pub lines : Lines text entries
  pub at : UnspelledAt entries rule line

-- all is read, and a rule of the profile is broken
pub record IsOutOfProfile (text : List ℕ) (rule : Rule) (line : ℕ) : Type 0 where
  pub entries : List Entry
  pub lines : Lines text entries
  pub statements : List Statement
  pub spelled : Spelled entries statements
  pub first : BreaksFirst statements rule line

-- the refusal has its cause: in the lines, in a statement, or in the profile
abbrev pub Refuses : List ℕ → Rule → ℕ → Type 0
Refuses text rule line =
    Broken text rule line ⊎ (IsUnread text rule line ⊎ IsOutOfProfile text rule line)
