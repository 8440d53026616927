use Rattle.mail_names.specs.Key.{IsKey}
use Rattle.mail_names.specs.Names.{IsApprovalName}
use Rattle.log_entry.specs.EntryText.{le64, form_bytes, form_approval, form_verdict, form_decided}
use Rattle.mail_submission.specs.Fits.{IsU64}
use Rattle.log_entry.specs.Entries.{IsDecided}
use Rattle.log_entry.proofs.Standing.{first, behind}
use Rattle.log_entry.proofs.Forms.{IsVerdict, one_approval, one_key, one_verdict}
use Rattle.log_entry.proofs.Parts.{passed_on}
use Rattle.log_entry.proofs.read.decided_at.Goals as goal

pub returns-in_err-approval : goal.returns-in_err-approval
returns-in_err-approval c =
    passed_on IsApprovalName form_approval IsDecided form_decided c.args.bytes.now c.args.at c.args.at c.in_err-approval.field-0.0 c.from_residual.result c.from_residual.ensures.1
    (λ x end is s. (x.0, is.0, first (form_approval x.0) _ c.args.bytes.now c.args.at end s))
    c.in_err-approval.ensures

pub returns-in_err-by : goal.returns-in_err-by
returns-in_err-by c =
    let bytes = c.args.bytes.now in
    let at_key = c.in_ok-approval.at_key in
    passed_on IsKey form_bytes IsDecided form_decided bytes c.args.at at_key c.in_err-by.field-0.0 c.from_residual-in_err-by.result c.from_residual-in_err-by.ensures.1
    (λ x end is s.
    let t = behind IsApprovalName form_approval one_approval c.in_ok-approval.approval x.0 _ bytes c.args.at at_key end c.in_ok-approval.ensures is.0 s in
    (x.1, is.1, first (form_bytes x.1) _ bytes at_key end t))
    c.in_err-by.ensures

pub returns-in_err-verdict : goal.returns-in_err-verdict
returns-in_err-verdict c =
    let bytes = c.args.bytes.now in
    let at_key = c.in_ok-approval.at_key in
    let at_verdict = c.in_ok-by.at_verdict in
    passed_on IsVerdict form_verdict IsDecided form_decided bytes c.args.at at_verdict c.in_err-verdict.field-0.0 c.from_residual-in_err-verdict.result c.from_residual-in_err-verdict.ensures.1
    (λ x end is s.
    let t = behind IsApprovalName form_approval one_approval c.in_ok-approval.approval x.0 _ bytes c.args.at at_key end c.in_ok-approval.ensures is.0 s in
    let u = behind IsKey form_bytes one_key c.in_ok-by.by x.1 _ bytes at_key at_verdict end c.in_ok-by.ensures is.1 t in
    (x.2, tt, first (form_verdict x.2) _ bytes at_verdict end u))
    c.in_err-verdict.ensures

pub returns-in_err-moment : goal.returns-in_err-moment
returns-in_err-moment c =
    let bytes = c.args.bytes.now in
    let at_key = c.in_ok-approval.at_key in
    let at_verdict = c.in_ok-by.at_verdict in
    let at_moment = c.in_ok-verdict.at_moment in
    passed_on IsU64 le64 IsDecided form_decided bytes c.args.at at_moment c.in_err-moment.field-0.0 c.from_residual-in_err-moment.result c.from_residual-in_err-moment.ensures.1
    (λ x end is s.
    let t = behind IsApprovalName form_approval one_approval c.in_ok-approval.approval x.0 _ bytes c.args.at at_key end c.in_ok-approval.ensures is.0 s in
    let u = behind IsKey form_bytes one_key c.in_ok-by.by x.1 _ bytes at_key at_verdict end c.in_ok-by.ensures is.1 t in
    let v = behind IsVerdict form_verdict one_verdict c.in_ok-verdict.verdict x.2 _ bytes at_verdict at_moment end c.in_ok-verdict.ensures tt u in
    (x.3, is.2, record { end = end; stands = v }))
    c.in_err-moment.ensures
