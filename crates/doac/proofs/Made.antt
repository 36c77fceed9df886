-- What making a text comes to, written.
use Rattle.std.proofs.Common.{refl, ℕ, List, Option, Vec, inr}
use Rattle.std.specs.Global.{Global}
use Rattle.command_output.specs.declared.page.Page.{Page}
use Rattle.command_output.specs.declared.status.Status.{Status}
use Rattle.engines.specs.declared.made.Made.TheVariants.{Text, Shown}
use Rattle.named_files.specs.Deeds.{Deed}
use Rattle.doac.specs.Deeds.{GivesFile}
use Rattle.doac.specs.Making.{Allows, EndsMaking}
use Rattle.doac.specs.Statuses.{Ends, IsPage}
use Rattle.doac.specs.declared.making.Making.{Making}

-- the text went to a file
pub of_text : (making : Making) (out source input schedule : List ℕ) (text : Vec ℕ Global) (before after : Option (List Deed)) (old : Option (List ℕ)) (status : Status)
    → Allows making source input schedule (Text text) → GivesFile out text.items before after status → EndsMaking making out source input schedule before after old old status
of_text making out source input schedule text before after old status allowed gives = inr (Text text, allowed, (gives, refl))

-- a page went to standard output
pub of_page : (making : Making) (out source input schedule : List ℕ) (page : Page) (before : Option (List Deed)) (old new : Option (List ℕ)) (status : Status)
    → Allows making source input schedule (Shown page) → Ends (IsPage page) old new status → EndsMaking making out source input schedule before before old new status
of_page making out source input schedule page before old new status allowed ends = inr (Shown page, allowed, (refl, ends))
