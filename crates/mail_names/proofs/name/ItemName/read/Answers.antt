use Rattle.mail_names.proofs.Digits.{if_none}
use Rattle.mail_names.proofs.Numbers.{no_mark}
use Rattle.mail_names.proofs.name.ItemName.read.Goals as goal

pub returns-in_err-mark-clause-none : goal.returns-in_err-mark-clause-none
returns-in_err-mark-clause-none c =
    if_none c.from_residual-in_err-mark.result _
    (no_mark c.args.text.now c.in_ok-submission.field-0.rest.now c.in_ok-submission.field-0.submission c.in_ok-submission.field-0.release c.in_ok-submission.field-0.place c.in_ok-submission.ensures.some c.in_err-mark.ensures.none)
