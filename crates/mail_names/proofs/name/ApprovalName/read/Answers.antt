use Rattle.mail_names.proofs.Digits.{if_none}
use Rattle.mail_names.proofs.Numbers.{no_approval_numbers, some_behind, something_behind}
use Rattle.mail_names.proofs.name.ApprovalName.read.Goals as goal

pub returns-in_err-submission-clause-none : goal.returns-in_err-submission-clause-none
returns-in_err-submission-clause-none c = if_none c.from_residual.result _ (no_approval_numbers c.args.text.now c.in_err-submission.ensures.none)

pub returns-then-not-is_empty-clause-none : goal.returns-then-not-is_empty-clause-none
returns-then-not-is_empty-clause-none c =
    something_behind c.args.text.now c.in_ok-submission.field-0.rest.now c.in_ok-submission.field-0.submission c.in_ok-submission.field-0.release c.in_ok-submission.field-0.place c.in_ok-submission.ensures.some (let none = c.if-not-is_empty.ensures in some_behind c.in_ok-submission.field-0.rest.now none)
