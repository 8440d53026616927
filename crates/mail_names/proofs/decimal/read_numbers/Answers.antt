use Rattle.mail_names.proofs.Digits.{if_none}
use Rattle.mail_names.proofs.Numbers.{no_second, no_third}
use Rattle.mail_names.proofs.decimal.read_numbers.Goals as goal

pub returns-in_err-release-clause-none : goal.returns-in_err-release-clause-none
returns-in_err-release-clause-none c =
    if_none c.from_residual-in_err-release.result _
    (no_second c.args.text.now c.in_ok-submission.rest.now c.in_ok-submission.submission c.in_ok-submission.ensures.some c.in_err-release.ensures.none)

pub returns-in_err-place-clause-none : goal.returns-in_err-place-clause-none
returns-in_err-place-clause-none c =
    if_none c.from_residual-in_err-place.result _
    (no_third c.args.text.now c.in_ok-submission.rest.now c.in_ok-release.rest.now c.in_ok-submission.submission c.in_ok-release.release c.in_ok-submission.ensures.some c.in_ok-release.ensures.some c.in_err-place.ensures.none)
