use Rattle.doac.proofs.Reading.{read_three_last}
use Rattle.doac.proofs.replays.replay_files.Goals as goal

pub returns : goal.returns
returns g c = read_three_last _ _ _ _ _ _ _ _ _ _ c.read_texts-texts.ensures (c.replay_given.ensures _)
