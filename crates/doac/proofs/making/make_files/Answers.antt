use Rattle.doac.proofs.Reading.{compared}
use Rattle.doac.proofs.making.make_files.Goals as goal

pub returns : goal.returns
returns g c = compared _ _ _ _ _ _ _ _ _ _ c.clash-clash.ensures c.make_unless.ensures
