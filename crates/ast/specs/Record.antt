-- The record of a PRINT, by list-directed output of the standard in the profile's fixed form: one
-- blank, the items, LF. An integer is in shortest decimal and has one blank before it unless it is
-- the first item; a character constant goes out as it is.
use Rattle.std.specs.Prelude.{◌≡◌, ◌≤◌, ℕ, ℤ, Bool, true, false, List, [], ◌∷◌, ◌++◌, length, take}
use Rattle.std.specs.Fmt.{signed_decimal}

-- what an item printed: the value of an expression, or a text
pub data Printed : Type 0 where
  number : ℤ → Printed
  text : List ℕ → Printed

abbrev pub first_printed : Printed → List ℕ
first_printed (number n) = signed_decimal n
first_printed (text t) = t

abbrev pub next_printed : Printed → List ℕ
next_printed (number n) = 32 ∷ signed_decimal n
next_printed (text t) = t

abbrev pub rest_printed : List Printed → List ℕ
rest_printed [] = []
rest_printed (p ∷ ps) = next_printed p ++ rest_printed ps

abbrev pub items_printed : List Printed → List ℕ
items_printed [] = []
items_printed (p ∷ ps) = first_printed p ++ rest_printed ps

-- the bytes of one PRINT: a blank, the items and LF
abbrev pub record_of : List Printed → List ℕ
record_of ps = 32 ∷ (items_printed ps ++ 10 ∷ [])

-- what an item prints, the first item or a later one
abbrev pub shown : Bool → Printed → List ℕ
shown true p = first_printed p
shown false p = next_printed p

-- what items print, from the first item on or from a later one
abbrev pub all_shown : Bool → List Printed → List ℕ
all_shown true ps = items_printed ps
all_shown false ps = rest_printed ps

-- the new bytes of an output begin with the old ones
abbrev pub Keeps : List ℕ → List ℕ → Type 0
Keeps old new = (length old ≤ length new) × (take (length old) new ≡ old)
