use Rattle.std.proofs.Common.{◌≡◌, drop}
use Rattle.expressions.specs.Reading.{first_prefix}
use Rattle.expressions.proofs.level.first_prefix.Given as goal

abbrev pub invariant-loop-prefix : goal.invariant-loop-prefix
invariant-loop-prefix l = first_prefix (drop l.prefix-index l.prefixes) l.text ≡ first_prefix l.prefixes l.text
