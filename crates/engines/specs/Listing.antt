-- What `list` writes of loops.
use Rattle.std.specs.Prelude.{◌≡◌, ◌==◌, ◌&&◌, not, ℕ, ◌+◌, Bool, true, false, if◌then◌else◌}
use Rattle.std.specs.Prelude.{codes, decimal, List, [], ◌∷◌, ◌++◌, length, map}
use Rattle.std.specs.List.Sorted.{IsPermutation, IsSorted}
use Rattle.ast.specs.Name.{trimmed}
use Rattle.ast.specs.View.{letters}
use Rattle.codegen.specs.declared.reports.LoopReport.{LoopReport}
use Rattle.dependence.specs.PlanView.{plan_block}
use Rattle.dependence.specs.Serial.{number_of}
use Rattle.dependence.specs.declared.plan.LoopPlan.{LoopPlan}
use Rattle.dependence.specs.declared.plan.LoopPlan.TheVariants.{Serial, Body}
use Rattle.dependence.specs.declared.serial.SerialReason.{SerialReason}
use Rattle.command_output.specs.Shown.{at_line, byte_order}
use Rattle.engines.specs.Advanced.{is_behind, spots}
use Rattle.engines.specs.declared.spots.Spot.{Spot}
use Rattle.engines.specs.declared.spots.Spot.TheVariants.{Behind, Arm, Made}

-- the beginning of the line of loop n
abbrev pub loop_words : ℕ → ℕ → List ℕ
loop_words n line = codes "LOOP " ++ decimal n ++ codes " LINE " ++ decimal line

-- a loop that stays serial, and why
abbrev pub serial_line : ℕ → ℕ → SerialReason → List ℕ
serial_line n line reason =
    loop_words n line ++ codes " SERIAL " ++ decimal (number_of reason) ++ 10 ∷ []

-- a loop that may be open, and how many events it has
abbrev pub open_line : ℕ → ℕ → ℕ → List ℕ
open_line n line events =
    loop_words n line ++ codes " DOACROSS EVENTS " ++ decimal events ++ 10 ∷ []

-- its private names; where there is none, no line
abbrev pub name_words : List (List ℕ) → List ℕ
name_words [] = []
name_words (name ∷ names) = (32 ∷ trimmed name) ++ name_words names

abbrev pub private_line : List (List ℕ) → List ℕ
private_line [] = []
private_line (name ∷ names) = codes " PRIVATE" ++ name_words (name ∷ names) ++ 10 ∷ []

-- the lines of the events' sources; the first event has the number e
abbrev pub event_line : ℕ → ℕ → List ℕ
event_line e line = codes " EVENT " ++ decimal e ++ codes " SOURCE" ++ at_line line

abbrev pub event_lines : ℕ → List ℕ → List ℕ
event_lines e [] = []
event_lines e (line ∷ lines) = event_line e line ++ event_lines (e + 1) lines

-- what is awaited: an event, a distance and the sink's line
abbrev pub await_line : ℕ × ℕ × ℕ → List ℕ
await_line k =
    codes " AWAIT " ++ decimal k.0 ++ 32 ∷ [] ++ decimal k.1 ++ codes " BEFORE" ++ at_line k.2

abbrev pub await_lines : List (ℕ × ℕ × ℕ) → List ℕ
await_lines [] = []
await_lines (k ∷ ks) = await_line k ++ await_lines ks

-- where an event is advanced
abbrev pub spot_words : Spot → List ℕ
spot_words (Behind line) = codes " AFTER" ++ at_line line
spot_words (Arm line) = codes " IN ARM" ++ at_line line
spot_words (Made line) = codes " IN MADE ELSE OF" ++ at_line line

abbrev pub advance_line : ℕ → Spot → List ℕ
advance_line e spot = codes " ADVANCE " ++ decimal e ++ spot_words spot

-- the advance is one of event e, behind a statement or elsewhere
abbrev pub is_of : ℕ → Bool → ℕ × Spot → Bool
is_of e true x = (x.0 == e) && is_behind x.1
is_of e false x = (x.0 == e) && not (is_behind x.1)

abbrev pub advance_lines : ℕ → Bool → List (ℕ × Spot) → List ℕ
advance_lines e behind [] = []
advance_lines e behind (x ∷ xs) =
    (if is_of e behind x then advance_line e x.1 else []) ++ advance_lines e behind xs

-- by event, as many as there are sources: the advances behind statements, then the others
abbrev pub advances_by_event : ℕ → List ℕ → List (ℕ × Spot) → List ℕ
advances_by_event e [] xs = []
advances_by_event e (line ∷ lines) xs =
    (advance_lines e true xs ++ advance_lines e false xs) ++ advances_by_event (e + 1) lines xs

-- the lines of a loop that may be open
abbrev pub open_lines : ℕ → ℕ → List (List ℕ) → List ℕ → List (ℕ × ℕ × ℕ) → List (ℕ × Spot) → List ℕ
open_lines n line names sources kept advanced =
    open_line n line (length sources) ++ private_line names ++ event_lines 1 sources
    ++ await_lines kept ++ advances_by_event 1 sources advanced

-- names in byte order
pub record InByteOrder (names sorted : List (List ℕ)) : Type 0 where
  pub same : IsPermutation names sorted
  pub order : IsSorted byte_order sorted

-- the lines of loop n, by its report and its plan
abbrev pub LinesOf : ℕ → LoopReport → LoopPlan → List ℕ → Type 0
LinesOf n r (Serial reason) text = text ≡ serial_line n r.line reason
LinesOf n r (Body body privates relations) text =
    (names : List (List ℕ)) × InByteOrder (map letters privates.names.items) names
    × (text ≡ open_lines n r.line names r.sources.items r.kept.items
    (spots (Behind r.line) (plan_block body.items)))

-- the lines of loop n, by its report
abbrev pub Lines : ℕ → LoopReport → List ℕ → Type 0
Lines n r text = LinesOf n r r.plan text

-- the same, and behind them some that say why
abbrev pub LinesWhy : ℕ → LoopReport → List ℕ → Type 0
LinesWhy n r text = (lines : List ℕ) × (why : List ℕ) × Lines n r lines × (text ≡ lines ++ why)

-- such lines of loops, one after another, the first of which is loop n
abbrev pub ListingOf : (ℕ → LoopReport → List ℕ → Type 0) → ℕ → List LoopReport → List ℕ → Type 0
ListingOf lines n [] text = text ≡ []
ListingOf lines n (r ∷ rs) text =
    (first : List ℕ) × (rest : List ℕ) × lines n r first × ListingOf lines (n + 1) rs rest
    × (text ≡ first ++ rest)

-- the lines of loops, one after another, the first of which is loop n
abbrev pub Listing : ℕ → List LoopReport → List ℕ → Type 0
Listing = ListingOf Lines
