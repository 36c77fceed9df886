use Rattle.doac.proofs.Reading.{read_two}
use Rattle.doac.proofs.threads.run_read.Goals as goal

pub returns : goal.returns
returns g c = read_two _ _ _ _ _ _ _ _ _ _ c.read_given-given.ensures c.run_given.ensures
