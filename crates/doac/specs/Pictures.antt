-- What `draw` does.
use Rattle.std.specs.Prelude.{◌≡◌, ◌⊎◌, ℕ, List, [], ◌∷◌, Option}
use Rattle.command_line.specs.declared.command.Drawing.{Drawing}
use Rattle.engines.specs.Drawing.{Draws}
use Rattle.engines.specs.declared.drawing.Portion.{Portion}
use Rattle.engines.specs.declared.drawn.Drawn.{Drawn}
use Rattle.engines.specs.declared.drawn.Drawn.TheVariants.{Picture, Shown, NoLoop, TooDense}
use Rattle.named_files.specs.Deeds.{Deed}
use Rattle.command_output.specs.declared.status.Status.{Status}
use Rattle.command_output.specs.declared.status.Status.TheVariants as statuses
use Rattle.doac.specs.Deeds.{GivesFile, ReadsFile, UnlessRead}
use Rattle.doac.specs.Statuses.{Ends, IsPage}

-- what drawing comes to is written: a picture to OUT alone, why there is none to standard output
-- alone; where there is no such loop, or its picture would have too many arrows, nothing is
abbrev pub Delivers : (out : List ℕ) → Drawn → (before after : Option (List Deed))
    → (old new : Option (List ℕ)) → Status → Type 0
Delivers out (Picture text) before after old new status =
    GivesFile out text.items before after status × (new ≡ old)
Delivers out (Shown page) before after old new status =
    (after ≡ before) × Ends (IsPage page) old new status
Delivers out (NoLoop count) before after old new status =
    (after ≡ before) × (new ≡ old) × (status ≡ statuses.WrongCommand)
Delivers out (TooDense count) before after old new status =
    (after ≡ before) × (new ≡ old) × (status ≡ statuses.WrongCommand)

-- what is allowed is written; for want of memory nothing is
abbrev pub EndsDrawing : (Drawn → Type 0) → (out : List ℕ) → (before after : Option (List Deed))
    → (old new : Option (List ℕ)) → Status → Type 0
EndsDrawing allows out before after old new status =
    ((after ≡ before) × (new ≡ old) × (status ≡ statuses.NoMemory))
    ⊎ ((came : Drawn) × allows came × Delivers out came before after old new status)

-- how much of which loop is to be drawn
abbrev pub portion : Drawing → Portion
portion d = record { number = d.number; columns = d.iterations }

-- a source is read and a loop of it drawn, where OUT isn't the source's file, as is found out first
abbrev pub DrawsFile : Drawing → (before after : Option (List Deed))
    → (old new : Option (List ℕ)) → Status → Type 0
DrawsFile d before after old new status =
    UnlessRead d.out.now (d.source.now ∷ []) before after old new status (λ told.
    ReadsFile d.source.now told after old new status (λ done text.
    EndsDrawing (Draws text (portion d)) d.out.now done after old new status))
