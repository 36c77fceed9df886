use Rattle.doac.proofs.Reading.{read_last}
use Rattle.doac.proofs.sources.list_file.Goals as goal

pub returns : goal.returns
returns g c = read_last _ _ _ _ _ _ _ _ c.read-text.ensures (c.list_given.ensures _)
