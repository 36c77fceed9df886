-- The spans of DO ranges and IF blocks: the places of their first and their last statement,
-- statements numbered from 0. A range goes from its DO to the first statement behind it that has
-- its label, a block from its IF to the END IF that matches it.
use Rattle.std.specs.Prelude.{ℕ, zero, suc, ◌+◌, ◌-◌, Bool, true, false}
use Rattle.std.specs.Prelude.{if◌then◌else◌, List, [], ◌∷◌, ◌++◌}
use Rattle.ast.specs.Tree.{Statement, Kind, do_loop, block_if, end_if}
use Rattle.structure.specs.Rules.{has_label}

-- how many statements stand before the first with the label
abbrev pub before_label : ℕ → List Statement → ℕ
before_label label [] = 0
before_label label (s ∷ ss) = if has_label label s then 0 else before_label label ss + 1

-- how many stand before the END IF that matches an IF, so many blocks being open inside it
abbrev pub nested : ℕ → Kind → ℕ
nested depth (block_if c) = depth + 1
nested depth end_if = depth - 1
nested depth _ = depth

abbrev pub is_end_if : Kind → Bool
is_end_if end_if = true
is_end_if _ = false

abbrev pub before_end_if : ℕ → List Statement → ℕ
before_end_if depth [] = 0
before_end_if zero (s ∷ ss) = if is_end_if s.kind then 0 else before_end_if (nested 0 s.kind) ss + 1
before_end_if (suc depth) (s ∷ ss) = before_end_if (nested (suc depth) s.kind) ss + 1

-- the span of what a statement at a place opens, if it opens something
abbrev pub span_at : ℕ → Kind → List Statement → List (ℕ × ℕ)
span_at place (do_loop h) behind = (place, place + 1 + before_label h.terminal behind) ∷ []
span_at place (block_if c) behind = (place, place + 1 + before_end_if 0 behind) ∷ []
span_at place _ behind = []

abbrev pub spans_from : ℕ → List Statement → List (ℕ × ℕ)
spans_from place [] = []
spans_from place (s ∷ ss) = span_at place s.kind ss ++ spans_from (place + 1) ss

-- the spans of all ranges and blocks, in the order of their first statements
abbrev pub spans_of : List Statement → List (ℕ × ℕ)
spans_of ss = spans_from 0 ss
