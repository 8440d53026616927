use Rattle.mail_names.specs.Names.{IsApprovalName}
use Rattle.log_entry.specs.EntryText.{le32, le64, form_approval}
use Rattle.mail_submission.specs.Fits.{IsU32, IsU64}
use Rattle.log_entry.proofs.Standing.{first, behind}
use Rattle.log_entry.proofs.Forms.{one_le32, one_le64}
use Rattle.log_entry.proofs.Parts.{passed_on}
use Rattle.log_entry.proofs.fields.approval_name_at.Goals as goal

pub returns-in_err-submission : goal.returns-in_err-submission
returns-in_err-submission c =
    passed_on IsU64 le64 IsApprovalName form_approval c.args.bytes.now c.args.at c.args.at c.in_err-submission.field-0.0 c.from_residual.result c.from_residual.ensures.1
    (λ x end is s. (x.submission, is.submission, first _ _ c.args.bytes.now c.args.at end s))
    c.in_err-submission.ensures

pub returns-in_err-release : goal.returns-in_err-release
returns-in_err-release c =
    let bytes = c.args.bytes.now in
    let at_release = c.in_ok-submission.at_release in
    passed_on IsU32 le32 IsApprovalName form_approval bytes c.args.at at_release c.in_err-release.field-0.0 c.from_residual-in_err-release.result c.from_residual-in_err-release.ensures.1
    (λ x end is s.
    let t = behind IsU64 le64 one_le64 c.in_ok-submission.submission x.submission _ bytes c.args.at at_release end c.in_ok-submission.ensures is.submission s in
    (x.release, is.release, first _ _ bytes at_release end t))
    c.in_err-release.ensures

pub returns-in_err-gate : goal.returns-in_err-gate
returns-in_err-gate c =
    let bytes = c.args.bytes.now in
    let at_release = c.in_ok-submission.at_release in
    let at_gate = c.in_ok-release.at_gate in
    passed_on IsU32 le32 IsApprovalName form_approval bytes c.args.at at_gate c.in_err-gate.field-0.0 c.from_residual-in_err-gate.result c.from_residual-in_err-gate.ensures.1
    (λ x end is s.
    let t = behind IsU64 le64 one_le64 c.in_ok-submission.submission x.submission _ bytes c.args.at at_release end c.in_ok-submission.ensures is.submission s in
    let u = behind IsU32 le32 one_le32 c.in_ok-release.release x.release _ bytes at_release at_gate end c.in_ok-release.ensures is.release t in
    (x.gate, is.gate, record { end = end; stands = u }))
    c.in_err-gate.ensures
