-- The lines of figures.
use Rattle.std.specs.Prelude.{ℕ, ◌+◌, ◌*◌, ◌/◌, ◌%◌, ◌==◌, if◌then◌else◌}
use Rattle.std.specs.Prelude.{List, [], ◌∷◌, ◌++◌, codes, decimal}
use Rattle.model_time.specs.declared.figures.Figures.{Figures}
use Rattle.modelled.specs.declared.heads.Head.{Head}

-- so many times a part of a whole, to the nearest whole number, a half upwards; 0 of nothing
abbrev pub rounded : ℕ → ℕ → ℕ → ℕ
rounded scale part whole = if whole == 0 then 0 else (2 * scale * part + whole) / (2 * whole)

-- a number of tenths
abbrev pub tenths : ℕ → List ℕ
tenths n = decimal (n / 10) ++ 46 ∷ decimal (n % 10)

-- how many steps were made in which time, and the one by the other
abbrev pub paced : Figures → List ℕ
paced f =
    codes " STEPS " ++ decimal f.steps ++ codes " TIME " ++ decimal f.time ++ codes " SPEEDUP "
    ++ tenths (rounded 10 f.steps f.time)

-- in how many of a hundred turns no step was made
abbrev pub waiting_words : Figures → List ℕ
waiting_words f =
    codes " WAITING " ++ decimal (rounded 100 f.waits (f.steps + f.again + f.waits)) ++ codes "%\n"

abbrev pub program_line : Figures → List ℕ
program_line f = codes "PROGRAM" ++ paced f ++ waiting_words f

-- a loop, by its number and its line
abbrev pub head_words : ℕ → ℕ → List ℕ
head_words number line = codes "LOOP " ++ decimal number ++ codes " LINE " ++ decimal line

-- how many of its iterations retired
abbrev pub retired_words : ℕ → List ℕ
retired_words n = codes " ITERATIONS " ++ decimal n

-- how many iterations were open at once
abbrev pub overlap_words : ℕ → List ℕ
overlap_words n = codes " OPEN " ++ decimal n

abbrev pub loop_line : ℕ → ℕ → Figures → List ℕ
loop_line number line f =
    head_words number line ++ retired_words f.retired ++ paced f ++ overlap_words f.overlap
    ++ waiting_words f

-- the line of a loop, where it was open for a time
abbrev pub loop_shown : Head → Figures → List ℕ
loop_shown h f = if f.time == 0 then [] else loop_line h.number h.line f

-- those of loops, in their order
abbrev pub loop_lines : List Head → List Figures → List ℕ
loop_lines [] fs = []
loop_lines (h ∷ hs) [] = []
loop_lines (h ∷ hs) (f ∷ fs) = loop_shown h f ++ loop_lines hs fs
