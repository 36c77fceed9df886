use Rattle.std.proofs.Common.{◌≡◌, rules, subst}
use Rattle.engines.specs.declared.made.Made.TheVariants.{Text, Shown}
use Rattle.doac.specs.Deeds.{GivesFile}
use Rattle.doac.specs.Making.{Allows}
use Rattle.doac.proofs.Made.{of_page, of_text}
use Rattle.doac.proofs.making.make_read.Goals as goal

pub returns-in-Ok-Text : goal.returns-in-Ok-Text
returns-in-Ok-Text g c =
    let t = c.args.texts.now in
    let allowed : Allows c.args.making t.source.items t.input.items t.schedule.items (Text c.in-Ok-Text.text) =
    subst (λ v. Allows c.args.making t.source.items t.input.items t.schedule.items v) c.in-Ok-Text.field-0-is c.in-Ok-Text.ensures in
    let text : c.deref.result.now ≡ c.in-Ok-Text.text.items = search rules in
    of_text c.args.making _ t.source.items t.input.items t.schedule.items c.in-Ok-Text.text (g.F.NamedFiles.done c.args.files.now) (g.F.NamedFiles.done c.give_file.new.files) (g.W.Write.contents c.args.out.now) c.give_file.result allowed
    (subst (λ b. GivesFile c.args.onto.now b (g.F.NamedFiles.done c.args.files.now) (g.F.NamedFiles.done c.give_file.new.files) c.give_file.result) text c.give_file.ensures)

pub returns-in-Ok-Shown : goal.returns-in-Ok-Shown
returns-in-Ok-Shown g c =
    let t = c.args.texts.now in
    let allowed : Allows c.args.making t.source.items t.input.items t.schedule.items (Shown c.in-Ok-Shown.page) =
    subst (λ v. Allows c.args.making t.source.items t.input.items t.schedule.items v) c.in-Ok-Shown.field-0-is c.in-Ok-Shown.ensures in
    of_page c.args.making _ t.source.items t.input.items t.schedule.items c.in-Ok-Shown.page _ _ _ _ allowed c.show_page.ensures
