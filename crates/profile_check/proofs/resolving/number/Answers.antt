use Rattle.std.proofs.Common.{refl}
use Rattle.profile_check.proofs.Positions.{position-of}
use Rattle.profile_check.proofs.resolving.number.Goals as goal

pub returns : goal.returns
returns c = rw (c.unwrap_or-reference.ensures, c.get_index_of.ensures.index, position-of c.args.reference.now.name c.args.declarations.now.names.keys) refl
