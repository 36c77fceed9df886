-- What drawing comes to, written.
use Rattle.std.proofs.Common.{refl, ℕ, List, Option, Vec, inr}
use Rattle.std.specs.Global.{Global}
use Rattle.command_output.specs.declared.page.Page.{Page}
use Rattle.command_output.specs.declared.status.Status.{Status}
use Rattle.engines.specs.declared.drawn.Drawn.{Drawn}
use Rattle.engines.specs.declared.drawn.Drawn.TheVariants.{Picture, Shown}
use Rattle.named_files.specs.Deeds.{Deed}
use Rattle.doac.specs.Deeds.{GivesFile}
use Rattle.doac.specs.Pictures.{EndsDrawing}
use Rattle.doac.specs.Statuses.{Ends, IsPage}

-- a picture went to a file
pub of_picture : (allows : Drawn → Type 0) (out : List ℕ) (text : Vec ℕ Global) (before after : Option (List Deed)) (old : Option (List ℕ)) (status : Status)
    → allows (Picture text) → GivesFile out text.items before after status → EndsDrawing allows out before after old old status
of_picture allows out text before after old status allowed gives = inr (Picture text, allowed, (gives, refl))

-- a page went to standard output
pub of_page : (allows : Drawn → Type 0) (out : List ℕ) (page : Page) (before : Option (List Deed)) (old new : Option (List ℕ)) (status : Status)
    → allows (Shown page) → Ends (IsPage page) old new status → EndsDrawing allows out before before old new status
of_page allows out page before old new status allowed ends = inr (Shown page, allowed, (refl, ends))
