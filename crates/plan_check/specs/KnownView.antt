-- What the code's account stands for.
use Rattle.plan_check.specs.Flow as spec
use Rattle.plan_check.specs.declared.known.Known.{Known}

-- what is known, as lists
abbrev pub known : Known → spec.Known
known k = record {
  defined = k.defined.items;
  near = k.near.items;
  free = k.free.items;
  advanced = k.advanced.items;
}
