-- What the code's kinds of values stand for.
use Rattle.profile_check.specs.Kinds as spec
use Rattle.profile_check.specs.declared.kinds.ValueKind.{ValueKind}
use Rattle.profile_check.specs.declared.kinds.ValueKind.TheVariants.{Integral, Logical}

abbrev pub kind_of_value : ValueKind → spec.ValueKind
kind_of_value Integral = spec.integral
kind_of_value Logical = spec.logical
