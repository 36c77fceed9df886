use Rattle.arrows.proofs.Escapes.{all_harmless}
use Rattle.arrows.proofs.laws.escaped_is_harmless.Goals as goal

pub returns : goal.returns
returns c = all_harmless
