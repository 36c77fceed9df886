use Rattle.std.proofs.Common.{◌+◌, ◌-◌, ◌*◌, ◌^◌, ◌≤◌, get_or, refl, arith}
use Rattle.schedules.proofs.Numbers.{too_large}
use Rattle.schedules.proofs.number.value.Goals as goal

pub returns-in-None-checked_add : goal.returns-in-None-checked_add
returns-in-None-checked_add c =
    let large : 2 ^ 128 ≤ 10 * c.loop-digit.total + (get_or c.args.digits.now c.loop-digit.digit-index 0 - 48) = omega arith in
    rw (too_large c.loop-digit.total c.loop-digit.digit-index c.args.digits.now c.loop-digit-test.true c.loop-digit.invariant.1 large) refl

pub returns-in-None : goal.returns-in-None
returns-in-None c =
    let large : 2 ^ 128 ≤ 10 * c.loop-digit.total + (get_or c.args.digits.now c.loop-digit.digit-index 0 - 48) = omega arith in
    rw (too_large c.loop-digit.total c.loop-digit.digit-index c.args.digits.now c.loop-digit-test.true c.loop-digit.invariant.1 large) refl
