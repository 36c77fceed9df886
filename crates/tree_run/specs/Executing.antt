-- Accounts of blocks and arms.
use Rattle.std.specs.Prelude.{Bool, true, Option, Some, None, Result, Ok}
use Rattle.ast.specs.Exact.{is_true}
use Rattle.ast.specs.Meaning.{LookUp, value}
use Rattle.ast.specs.Results.{◌>>=◌}
use Rattle.ast.specs.Tree.{Term}
use Rattle.ast.specs.declared.fault.Fault.{Fault}

-- whether a condition is true; an ELSE has none
abbrev pub holds_at : LookUp → Option Term → Result Bool Fault
holds_at look None = Ok true
holds_at look (Some c) = value look c >>= λ v. Ok (is_true v)
