-- What lists of values stand for.
use Rattle.std.specs.Prelude.{ℤ, List, Option, Some, None}
use Rattle.std.specs.Prelude.{Vec}
use Rattle.std.specs.Global.{Global}

abbrev pub listed : Option (Vec ℤ Global) → Option (List ℤ)
listed None = None
listed (Some v) = Some v.items
