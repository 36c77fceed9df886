use Rattle.dependence.proofs.Strides.{may_divide, misses, no_stride, strides}
use Rattle.dependence.proofs.compare.by_stride.Goals as goal

pub nonzero_rem-number : goal.nonzero_rem-number
nonzero_rem-number c = may_divide c.args.number c.args.stride c.ranges.number c.ranges.stride c.requires c.if-stride-eq0.false

pub nonzero_div-number : goal.nonzero_div-number
nonzero_div-number c = may_divide c.args.number c.args.stride c.ranges.number c.ranges.stride c.requires c.if-stride-eq0.false

pub returns-then-stride-eq0 : goal.returns-then-stride-eq0
returns-then-stride-eq0 c = no_stride c.args.number c.args.stride c.ranges.number c.ranges.stride c.if-stride-eq0.true

pub returns-then-number-stride-eq0 : goal.returns-then-number-stride-eq0
returns-then-number-stride-eq0 c =
    strides c.args.number c.args.stride c.ranges.number c.ranges.stride c.only_positive.result c.requires c.if-stride-eq0.false c.if-number-stride-eq0.true c.only_positive.ensures

pub returns-else-number-stride-eq0 : goal.returns-else-number-stride-eq0
returns-else-number-stride-eq0 c = misses c.args.number c.args.stride c.ranges.number c.ranges.stride c.if-stride-eq0.false c.if-number-stride-eq0.false
