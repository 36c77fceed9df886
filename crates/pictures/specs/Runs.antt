-- What is gathered of a run's processors, and said below its picture.
use Rattle.std.specs.Prelude.{◌≡◌, ◌+◌, ◌-◌, ◌^◌, ℕ, min, nat_lt, if◌then◌else◌, codes}
use Rattle.std.specs.Prelude.{decimal, List, [], ◌∷◌, ◌++◌, get_or, length, set}
use Rattle.arrows.specs.Markup.{words}
use Rattle.arrows.specs.declared.mark.Class.{Class}
use Rattle.arrows.specs.declared.svg.Point.{Point}
use Rattle.pictures.specs.declared.gathering.Came.{Came}
use Rattle.pictures.specs.declared.gathering.Came.TheVariants.{Nothing, Advanced}
use Rattle.pictures.specs.declared.gathering.Came.TheVariants.{Parked, Retired, Ended}
use Rattle.pictures.specs.declared.gathering.Gathered.{Gathered}
use Rattle.pictures.specs.declared.gathering.Lane.{Lane}
use Rattle.pictures.specs.declared.gathering.Turn.{Turn}

-- ---- what is gathered of each processor

abbrev pub nothing : Lane
nothing = record { steps = 0; parked = 0 }

-- one where what a processor held had to wait
abbrev pub parks : Came → ℕ
parks Nothing = 0
parks Advanced = 0
parks Parked = 1
parks Retired = 0
parks Ended = 0

-- a sum, as far as 64 bits hold it
abbrev pub counted_on : ℕ → ℕ → ℕ
counted_on sum more = min (sum + more) (2 ^ 64 - 1)

-- with the steps of one entry more, and whether it parked
abbrev pub counted : Turn → Lane → Lane
counted t lane =
    record { steps = counted_on lane.steps t.steps; parked = counted_on lane.parked (parks t.came) }

-- the lane of an entry's processor has it, and the others stay
abbrev pub with_turn : Turn → List Lane → List Lane
with_turn t lanes =
    if nat_lt t.processor (length lanes)
    then set lanes t.processor (counted t (get_or lanes t.processor nothing))
    else lanes

-- ---- what is said of it

-- a processor by its number, and its steps
abbrev pub made : ℕ → ℕ → List ℕ
made q steps = codes "processor " ++ decimal q ++ codes ": steps " ++ decimal steps

-- what a processor did: its steps, and how often what it held was parked
abbrev pub figure : ℕ → Lane → List ℕ
figure q lane = made q lane.steps ++ codes ", parked " ++ decimal lane.parked

-- the words that say so
pub record IsFigure (q : ℕ) (lane : Lane) (text : List ℕ) : Type 0 where
  pub class : Class
  pub at : Point
  pub is : text ≡ words class at (figure q lane)

-- The text has a line for each processor, by its number.
abbrev pub AreNumbered : ℕ → List Lane → List ℕ → Type 0
AreNumbered q [] text = text ≡ []
AreNumbered q (lane ∷ lanes) text =
    (first : List ℕ) × (rest : List ℕ) × IsFigure q lane first × AreNumbered (q + 1) lanes rest
    × (text ≡ first ++ rest)

abbrev pub AreFigures : List Lane → List ℕ → Type 0
AreFigures lanes text = AreNumbered 0 lanes text

-- The text of a run's picture has a line for each processor with what it did, in their order.
pub record TellsRun (g : Gathered) (text : List ℕ) : Type 0 where
  pub front : List ℕ
  pub figures : List ℕ
  pub back : List ℕ
  pub are : AreFigures g.lanes.items figures
  pub is : text ≡ front ++ figures ++ back
