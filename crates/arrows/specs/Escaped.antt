-- Text in an SVG file.
use Rattle.std.specs.Prelude.{◌==◌, ◌&&◌, not, ℕ, nat_le, Bool}
use Rattle.std.specs.Prelude.{if◌then◌else◌, codes, List, [], ◌∷◌, ◌++◌}

-- a character of ASCII that can be shown
abbrev pub is_printable : ℕ → Bool
is_printable c = nat_le 32 c && nat_le c 126

-- what stands for a byte: an entity where it marks up, a question mark where it can't be shown
abbrev pub escape : ℕ → List ℕ
escape c =
    if c == 38 then codes "&amp;" else
    if c == 60 then codes "&lt;" else
    if c == 62 then codes "&gt;" else
    if c == 34 then codes "&quot;" else
    if c == 39 then codes "&#39;" else
    if is_printable c then c ∷ [] else
    63 ∷ []

-- a text as it stands in SVG, byte by byte
abbrev pub escaped : List ℕ → List ℕ
escaped [] = []
escaped (c ∷ cs) = escape c ++ escaped cs

-- a printable character of ASCII that neither begins nor ends markup or an attribute's value
abbrev pub is_harmless : ℕ → Bool
is_harmless c = is_printable c && not (c == 60) && not (c == 62) && not (c == 34) && not (c == 39)
