use Rattle.mail_names.specs.Key.{IsKey}
use Rattle.log_entry.specs.EntryText.{form_bytes, form_how, form_step}
use Rattle.mail_plan.specs.Fits.{IsStep}
use Rattle.log_entry.proofs.Standing.{first, behind}
use Rattle.log_entry.proofs.Forms.{IsHow, one_key}
use Rattle.log_entry.proofs.Parts.{passed_on}
use Rattle.log_entry.proofs.fields.step_at.Goals as goal

pub returns-in_err-key : goal.returns-in_err-key
returns-in_err-key c =
    passed_on IsKey form_bytes IsStep form_step c.args.bytes.now c.args.at c.args.at c.in_err-key.field-0.0 c.from_residual.result c.from_residual.ensures.1
    (λ x end is s. (x.key, is, first _ _ c.args.bytes.now c.args.at end s))
    c.in_err-key.ensures

pub returns-in_err-how : goal.returns-in_err-how
returns-in_err-how c =
    let bytes = c.args.bytes.now in
    let at_how = c.in_ok-key.at_how in
    passed_on IsHow form_how IsStep form_step bytes c.args.at at_how c.in_err-how.field-0.0 c.from_residual-in_err-how.result c.from_residual-in_err-how.ensures.1
    (λ x end is s.
    let t = behind IsKey form_bytes one_key c.in_ok-key.key x.key _ bytes c.args.at at_how end c.in_ok-key.ensures is s in
    (x.how, tt, record { end = end; stands = t }))
    c.in_err-how.ensures
