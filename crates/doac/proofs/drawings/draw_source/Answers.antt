use Rattle.std.proofs.Common.{◌≡◌, rules, subst}
use Rattle.engines.specs.Drawing.{Draws}
use Rattle.doac.specs.Deeds.{GivesFile}
use Rattle.doac.proofs.Delivered.{of_page, of_picture}
use Rattle.doac.proofs.drawings.draw_source.Goals as goal

pub returns-in-Ok-Picture : goal.returns-in-Ok-Picture
returns-in-Ok-Picture g c =
    let allows = Draws c.args.text.now c.args.portion in
    let text : c.deref.result.now ≡ c.in-Ok-Picture.picture.items = search rules in
    of_picture allows _ c.in-Ok-Picture.picture (g.F.NamedFiles.done c.args.files.now) (g.F.NamedFiles.done c.give_file.new.files) (g.W.Write.contents c.args.out.now) c.give_file.result
    (subst allows c.in-Ok-Picture.field-0-is c.in-Ok-Picture.ensures)
    (subst (λ b. GivesFile c.args.onto.now b (g.F.NamedFiles.done c.args.files.now) (g.F.NamedFiles.done c.give_file.new.files) c.give_file.result) text c.give_file.ensures)

pub returns-in-Ok-Shown : goal.returns-in-Ok-Shown
returns-in-Ok-Shown g c =
    let allows = Draws c.args.text.now c.args.portion in
    of_page allows _ c.in-Ok-Shown.page _ _ _ _ (subst allows c.in-Ok-Shown.field-0-is c.in-Ok-Shown.ensures) c.draw_shown.ensures
