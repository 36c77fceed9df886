use Rattle.doac.proofs.Reading.{compared}
use Rattle.doac.proofs.drawings.draw_file.Goals as goal

pub returns : goal.returns
returns g c = compared _ _ _ _ _ _ _ _ _ _ c.clash-clash.ensures c.draw_unless.ensures
