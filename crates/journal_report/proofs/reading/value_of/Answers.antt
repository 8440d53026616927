use Rattle.std.proofs.Common.{ap, ◌∙◌, arith}
use Rattle.std.specs.Str.Parse.{digits_value}
use Rattle.mail_names.proofs.Offered.{digit_in_range, one_more, so_far, whole, not_some}
use Rattle.journal_report.proofs.reading.value_of.Goals as goal

pub returns-in_err-checked_mul : goal.returns-in_err-checked_mul
returns-in_err-checked_mul c =
    let within = so_far c.args.digits.now c.loop-digit.digit-index c.requires c.loop-digit-test.true in
    let same = c.loop-digit.invariant.value in
    not_some c.from_residual.result _ _ c.from_residual.ensures (λ fits. c.in_err-checked_mul.ensures (omega arith))

pub overflow_sub-digit : goal.overflow_sub-digit
overflow_sub-digit c = (digit_in_range c.args.digits.now c.loop-digit.digit-index c.requires c.loop-digit-test.true).0

pub returns-in_err-value : goal.returns-in_err-value
returns-in_err-value c =
    let within = so_far c.args.digits.now c.loop-digit.digit-index c.requires c.loop-digit-test.true in
    let same = c.loop-digit.invariant.value in
    let times = c.in_ok-checked_mul.ensures.1 in
    let digit = c.from.ensures in
    not_some c.from_residual-in_err-value.result _ _ c.from_residual-in_err-value.ensures (λ fits. c.in_err-value.ensures (omega arith))

pub loop-digit-preserved : goal.loop-digit-preserved
loop-digit-preserved c =
    let more = one_more c.args.digits.now c.loop-digit.digit-index c.requires c.loop-digit-test.true in
    let same = c.loop-digit.invariant.value in
    let times = c.in_ok-checked_mul.ensures.1 in
    let digit = c.from.ensures in
    let sum = c.in_ok-value.ensures.1 in
    record { fits = omega (arith, c.in_ok-value.ensures.0); value = omega arith }

pub returns : goal.returns
returns c =
    let same = c.loop-digit.invariant.value ∙ ap (digits_value 10) (whole c.args.digits.now c.loop-digit.digit-index c.loop-digit-test.false) in
    let fits = c.loop-digit.invariant.fits in
    (omega arith, same)
