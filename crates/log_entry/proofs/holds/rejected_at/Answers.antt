use Rattle.mail_names.specs.Key.{IsKey}
use Rattle.log_entry.specs.EntryText.{le32, form_bytes, form_all, form_rejected}
use Rattle.mail_submission.specs.Fits.{IsU32, IsListOf}
use Rattle.mail_plan.specs.Fits.{IsRejected}
use Rattle.log_entry.proofs.Standing.{first, behind}
use Rattle.log_entry.proofs.Forms.{one_key, one_le32}
use Rattle.log_entry.proofs.Parts.{passed_on}
use Rattle.log_entry.proofs.holds.rejected_at.Goals as goal

pub list_at-requires : goal.list_at-requires
list_at-requires c = one_key

pub returns-in_err-rule : goal.returns-in_err-rule
returns-in_err-rule c =
    passed_on IsU32 le32 IsRejected form_rejected c.args.bytes.now c.args.at c.args.at c.in_err-rule.field-0.0 c.from_residual.result c.from_residual.ensures.1
    (λ x end is s. (x.0, is.0, first (le32 x.0) _ c.args.bytes.now c.args.at end s))
    c.in_err-rule.ensures

pub returns-in_err-keys : goal.returns-in_err-keys
returns-in_err-keys c =
    let bytes = c.args.bytes.now in
    let at_keys = c.in_ok-rule.at_keys in
    passed_on (IsListOf IsKey) (form_all form_bytes) IsRejected form_rejected bytes c.args.at at_keys c.in_err-keys.field-0.0 c.from_residual-in_err-keys.result c.from_residual-in_err-keys.ensures.1
    (λ x end is s.
    let t = behind IsU32 le32 one_le32 c.in_ok-rule.rule x.0 _ bytes c.args.at at_keys end c.in_ok-rule.ensures is.0 s in
    (x.1, is.1, record { end = end; stands = t }))
    c.in_err-keys.ensures
