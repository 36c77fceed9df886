-- Where structures end, by what stands behind a place: an account of the code, which goes from the
-- last statement to the first.
use Rattle.std.specs.Prelude.{ℕ, List, ◌∷◌, drop, get_or, map, reverse}
use Rattle.std.specs.Prelude.{Option, Some, None, option_map, option_to_list}
use Rattle.std.specs.Option.{unwrap_or}
use Rattle.structure.specs.Parts.{Part, do_part, if_part, end_if_part}
use Rattle.structure.specs.declared.span.Blocks.{Blocks}
use Rattle.structure.specs.declared.span.Span.{Span}

-- the places of a span's first and last statement
abbrev pub span_of : Span → ℕ × ℕ
span_of s = (s.first, s.last)

abbrev pub spans_in : Blocks → List (ℕ × ℕ)
spans_in b = map span_of b.spans.items

-- the spans, kept from the last to the first
abbrev pub spans_kept : List Span → List (ℕ × ℕ)
spans_kept spans = map span_of (reverse spans)

-- the places of the END IFs that no IF matches, the first of them first, with one statement more
-- before them
abbrev pub with_end : ℕ → Part → List ℕ → List ℕ
with_end place end_if_part ends = place ∷ ends
with_end place if_part ends = drop 1 ends
with_end place _ ends = ends

-- the last place of what a statement opens; `total` where it stands nowhere
abbrev pub last_place : (ℕ → Option ℕ) → List ℕ → ℕ → Part → Option ℕ
last_place labels ends total (do_part terminal x) = Some (unwrap_or (labels terminal) total)
last_place labels ends total if_part = Some (get_or ends 0 total)
last_place labels ends total _ = None

abbrev pub span_to : ℕ → Option ℕ → List (ℕ × ℕ)
span_to first last = option_to_list (option_map (λ l. (first, l)) last)
