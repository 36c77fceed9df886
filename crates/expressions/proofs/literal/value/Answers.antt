use Rattle.std.proofs.Common.{◌+◌, ◌-◌, ◌*◌, ◌^◌, ◌≤◌, get_or, refl, arith}
use Rattle.expressions.proofs.Values.{too_large}
use Rattle.expressions.proofs.literal.value.Goals as goal

pub returns-then-longer-ge-CONSTANT_LIMIT : goal.returns-then-longer-ge-CONSTANT_LIMIT
returns-then-longer-ge-CONSTANT_LIMIT c =
    let large : 2 ^ 63 ≤ 10 * c.loop-digit.total + (get_or c.args.digits.now c.loop-digit.digit-index 0 - 48) = omega arith in
    rw (too_large c.loop-digit.total c.loop-digit.digit-index c.args.digits.now c.loop-digit-test.true c.loop-digit.invariant.1 large) refl
