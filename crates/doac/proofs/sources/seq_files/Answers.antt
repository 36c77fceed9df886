use Rattle.doac.proofs.Reading.{read_two_last}
use Rattle.doac.proofs.sources.seq_files.Goals as goal

pub returns : goal.returns
returns g c = read_two_last _ _ _ _ _ _ _ _ _ c.read_given-given.ensures (c.seq_given.ensures _)
