use Rattle.std.proofs.Common.{◌+◌, ◌*◌, ◌<◌, ◌^◌, arith, ◌≤◌, ◌-◌, get_or}
use Rattle.pms_version.proofs.Digits.{digit_at_range, tens_fit}
use Rattle.pms_version.proofs.number.value_of.Goals as goal

pub overflow_mul-value : goal.overflow_mul-value
overflow_mul-value c =
    let fits : 10 * c.loop-digit.value + 0 < 2 ^ 128 = tens_fit c.loop-digit.digit-index c.loop-digit.value 0 (omega arith) c.loop-digit.invariant.small (omega arith) in
    omega arith

pub overflow_add-value : goal.overflow_add-value
overflow_add-value c =
    let digit = get_or c.args.digits.now c.loop-digit.digit-index 0 in
    let range : (48 ≤ digit) × (digit ≤ 57) = digit_at_range c.args.digits.now c.loop-digit.digit-index c.requires.digits c.loop-digit-test.true in
    let fits : 10 * c.loop-digit.value + (digit - 48) < 2 ^ 128 =
    tens_fit c.loop-digit.digit-index c.loop-digit.value (digit - 48) (omega arith) c.loop-digit.invariant.small (omega arith) in
    omega arith
