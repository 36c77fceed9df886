use Rattle.std.proofs.Common.{rules}
use Rattle.engines.specs.Drawing.{Draws}
use Rattle.doac.proofs.Reading.{read_on}
use Rattle.doac.specs.Pictures.{EndsDrawing}
use Rattle.doac.proofs.drawings.draw_unless.Goals as goal

pub returns : goal.returns
returns g c =
    let rest = read_on _ _ _ _ _ _ _
    (λ done text. EndsDrawing (Draws text c.args.portion) c.args.onto.now done (g.F.NamedFiles.done c.draw_given.new.files) (g.W.Write.contents c.args.out.now) (g.W.Write.contents c.draw_given.new.out) c.draw_given.result)
    _ c.read-text.ensures c.draw_given.ensures in
    search rules
