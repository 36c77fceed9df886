-- The lines of loops with those that say why, which are written while they are made: some of them
-- wait, and are written together.
use Rattle.std.specs.Prelude.{◌≡◌, ◌⊎◌, ℕ, List, [], ◌++◌, Option, Result, Ok, Err}
use Rattle.std.specs.Io.KnownBytes.{Appends}
use Rattle.codegen.specs.declared.reports.LoopReport.{LoopReport}
use Rattle.record_writer.specs.Written.{Begins, FallsShort}
use Rattle.command_output.specs.declared.fault.EngineFault.{EngineFault}
use Rattle.command_output.specs.declared.fault.EngineFault.TheVariants.{Writing, Memory}
use Rattle.command_output.specs.declared.outcomes.Outcome.{Outcome}
use Rattle.command_output.specs.declared.outcomes.Outcome.TheVariants.{Completed}
use Rattle.engines.specs.Listing.{LinesWhy, ListingOf}

-- A text was told: of what waited before it and the text a beginning was written, and the rest
-- waits. A writer's bytes went from `old` to `new`, and what waits from `before` to `after`.
pub record Grows (old : Option (List ℕ)) (before : List ℕ) (new : Option (List ℕ))
    (after text : List ℕ) : Type 0 where
  pub got : List ℕ
  pub grown : Appends old new got
  pub is : before ++ text ≡ got ++ after

-- Of what waited before a text, and the text, some bytes were written: `So` holds of these and all
-- of it.
pub record Broke (So : List ℕ → List ℕ → Type 0) (old : Option (List ℕ)) (before : List ℕ)
    (new : Option (List ℕ)) (text : List ℕ) : Type 0 where
  pub got : List ℕ
  pub grown : Appends old new got
  pub so : So got (before ++ text)

-- a fault came on the way: a beginning was written, of which something is missing where writing
-- failed
abbrev pub BreaksOff :
    (old : Option (List ℕ)) (before : List ℕ) (new : Option (List ℕ)) (text : List ℕ)
    → EngineFault → Type 0
BreaksOff old before new text (Writing e) = Broke FallsShort old before new text
BreaksOff old before new text Memory = Broke Begins old before new text
BreaksOff old before new text _ = ⊥

-- some text was told, or a fault came on the way
abbrev pub GrowsSome :
    (old : Option (List ℕ)) (before : List ℕ) (new : Option (List ℕ)) (after : List ℕ) → Type 0
GrowsSome old before new after = (text : List ℕ) × Grows old before new after text

abbrev pub BreaksSome : (old : Option (List ℕ)) (before : List ℕ) (new : Option (List ℕ))
    → EngineFault → Type 0
BreaksSome old before new fault = (text : List ℕ) × BreaksOff old before new text fault

-- the lines of loop n were told, or a fault came on the way, before any of them or later
abbrev pub TellsLoop : ℕ → LoopReport
    → (old : Option (List ℕ)) (before : List ℕ) (new : Option (List ℕ)) (after : List ℕ) → Type 0
TellsLoop n r old before new after =
    (text : List ℕ) × LinesWhy n r text × Grows old before new after text

abbrev pub BreaksLoop : ℕ → LoopReport
    → (old : Option (List ℕ)) (before : List ℕ) (new : Option (List ℕ)) → EngineFault → Type 0
BreaksLoop n r old before new fault =
    (text : List ℕ) × ((text ≡ []) ⊎ LinesWhy n r text) × BreaksOff old before new text fault

-- this text is the lines of some of these loops, from the first on
pub record IsFront (reports : List LoopReport) (text : List ℕ) : Type 0 where
  pub front : List LoopReport
  pub rest : List LoopReport
  pub are : reports ≡ front ++ rest
  pub listing : ListingOf LinesWhy 1 front text

-- the lines of all loops were told, or a fault came on the way
abbrev pub TellsEach : List LoopReport
    → (old : Option (List ℕ)) (before : List ℕ) (new : Option (List ℕ)) (after : List ℕ) → Type 0
TellsEach reports old before new after =
    (text : List ℕ) × ListingOf LinesWhy 1 reports text × Grows old before new after text

abbrev pub BreaksEach : List LoopReport
    → (old : Option (List ℕ)) (before : List ℕ) (new : Option (List ℕ)) → EngineFault → Type 0
BreaksEach reports old before new fault =
    (text : List ℕ) × IsFront reports text × BreaksOff old before new text fault

-- a writer's bytes grew by so much of the lines of some of these loops, from the first on
pub record GrewBy (So : List ℕ → List ℕ → Type 0) (reports : List LoopReport)
    (old new : Option (List ℕ)) : Type 0 where
  pub text : List ℕ
  pub front : IsFront reports text
  pub got : List ℕ
  pub so : So got text
  pub grown : Appends old new got

-- What listing a program's loops comes to: all lines are written, or a beginning of those of some
-- loops, of which something is missing where writing failed.
abbrev pub StreamsLoops : List LoopReport → (old new : Option (List ℕ))
    → Result Outcome EngineFault → Type 0
StreamsLoops reports old new (Ok outcome) =
    (outcome ≡ Completed)
    × ((text : List ℕ) × ListingOf LinesWhy 1 reports text × Appends old new text)
StreamsLoops reports old new (Err (Writing e)) = GrewBy FallsShort reports old new
StreamsLoops reports old new (Err Memory) = GrewBy Begins reports old new
StreamsLoops reports old new (Err _) = ⊥
