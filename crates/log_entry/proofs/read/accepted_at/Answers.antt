use Rattle.log_entry.specs.EntryText.{le64, form_submission, form_accepted}
use Rattle.mail_submission.specs.Fits.{IsU64, IsSubmission}
use Rattle.log_entry.specs.Entries.{IsAccepted}
use Rattle.log_entry.proofs.Standing.{first, behind}
use Rattle.log_entry.proofs.Forms.{one_le64}
use Rattle.log_entry.proofs.Parts.{passed_on}
use Rattle.log_entry.proofs.read.accepted_at.Goals as goal

pub returns-in_err-moment : goal.returns-in_err-moment
returns-in_err-moment c =
    passed_on IsU64 le64 IsAccepted form_accepted c.args.bytes.now c.args.at c.args.at c.in_err-moment.field-0.0 c.from_residual.result c.from_residual.ensures.1
    (λ x end is s. (x.0, is.0, first (le64 x.0) (form_submission x.1) c.args.bytes.now c.args.at end s))
    c.in_err-moment.ensures

pub returns-in_err-submission : goal.returns-in_err-submission
returns-in_err-submission c =
    let bytes = c.args.bytes.now in
    let at_submission = c.in_ok-moment.at_submission in
    passed_on IsSubmission form_submission IsAccepted form_accepted bytes c.args.at at_submission c.in_err-submission.field-0.0 c.from_residual-in_err-submission.result c.from_residual-in_err-submission.ensures.1
    (λ x end is s.
    let t = behind IsU64 le64 one_le64 c.in_ok-moment.moment x.0 (form_submission x.1) bytes c.args.at at_submission end c.in_ok-moment.ensures is.0 s in
    (x.1, is.1, record { end = end; stands = t }))
    c.in_err-submission.ensures
