use Rattle.std.proofs.Common.{arith}
use Rattle.http_head.proofs.Numbers.{OneMore, one-more}
use Rattle.http_head.proofs.fields.number_of.Goals as goal

pub overflow_mul-number : goal.overflow_mul-number
overflow_mul-number c =
    let s : OneMore c.args.digits.now c.loop-digit.digit-index = one-more c.args.digits.now c.loop-digit.digit-index c.loop-digit-test.true c.requires in
    omega (arith, s.is, s.bound, c.loop-digit.invariant)

pub overflow_add-number : goal.overflow_add-number
overflow_add-number c =
    let s : OneMore c.args.digits.now c.loop-digit.digit-index = one-more c.args.digits.now c.loop-digit.digit-index c.loop-digit-test.true c.requires in
    omega (arith, s.is, s.bound, c.loop-digit.invariant, c.from.ensures)

pub loop-digit-preserved : goal.loop-digit-preserved
loop-digit-preserved c =
    let s : OneMore c.args.digits.now c.loop-digit.digit-index = one-more c.args.digits.now c.loop-digit.digit-index c.loop-digit-test.true c.requires in
    omega (arith, s.is, c.loop-digit.invariant, c.from.ensures)

pub overflow_sub-digit : goal.overflow_sub-digit
overflow_sub-digit c =
    let s : OneMore c.args.digits.now c.loop-digit.digit-index = one-more c.args.digits.now c.loop-digit.digit-index c.loop-digit-test.true c.requires in
    omega (arith, s.low)
