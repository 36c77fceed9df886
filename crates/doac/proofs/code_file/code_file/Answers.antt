use Rattle.doac.proofs.Reading.{read_last}
use Rattle.doac.proofs.code_file.code_file.Goals as goal

pub returns : goal.returns
returns g c = read_last _ _ _ _ _ _ _ _ c.read-text.ensures (c.code_given.ensures _)
