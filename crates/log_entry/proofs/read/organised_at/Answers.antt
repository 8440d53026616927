use Rattle.log_entry.specs.EntryText.{form_bytes, form_organised}
use Rattle.mail_submission.specs.Fits.{IsBytes}
use Rattle.log_entry.specs.Entries.{IsOrganised}
use Rattle.log_entry.proofs.Standing.{first, behind}
use Rattle.log_entry.proofs.Forms.{one_bytes}
use Rattle.log_entry.proofs.Parts.{passed_on}
use Rattle.log_entry.proofs.read.organised_at.Goals as goal

pub returns-in_err-directory : goal.returns-in_err-directory
returns-in_err-directory c =
    passed_on IsBytes form_bytes IsOrganised form_organised c.args.bytes.now c.args.at c.args.at c.in_err-directory.field-0.0 c.from_residual.result c.from_residual.ensures.1
    (λ x end is s. (x.0, is.0, first (form_bytes x.0) (form_bytes x.1) c.args.bytes.now c.args.at end s))
    c.in_err-directory.ensures

pub returns-in_err-rules : goal.returns-in_err-rules
returns-in_err-rules c =
    let bytes = c.args.bytes.now in
    let at_rules = c.in_ok-directory.at_rules in
    passed_on IsBytes form_bytes IsOrganised form_organised bytes c.args.at at_rules c.in_err-rules.field-0.0 c.from_residual-in_err-rules.result c.from_residual-in_err-rules.ensures.1
    (λ x end is s.
    let t = behind IsBytes form_bytes one_bytes c.in_ok-directory.directory x.0 (form_bytes x.1) bytes c.args.at at_rules end c.in_ok-directory.ensures is.0 s in
    (x.1, is.1, record { end = end; stands = t }))
    c.in_err-rules.ensures
