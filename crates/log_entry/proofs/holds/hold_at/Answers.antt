use Rattle.mail_names.specs.Key.{IsKey}
use Rattle.log_entry.specs.EntryText.{form_bytes, form_all, form_gate, form_tell, form_hold}
use Rattle.mail_submission.specs.Fits.{IsBytes, IsListOf}
use Rattle.mail_plan.specs.Fits.{IsGate, IsHold}
use Rattle.log_entry.proofs.Standing.{first, behind}
use Rattle.log_entry.proofs.Forms.{IsTell, one_key, one_keys, one_bytes, one_gate}
use Rattle.log_entry.proofs.Parts.{passed_on}
use Rattle.log_entry.proofs.holds.hold_at.Goals as goal

pub list_at-requires : goal.list_at-requires
list_at-requires c = one_key

pub returns-in_err-gate : goal.returns-in_err-gate
returns-in_err-gate c =
    passed_on IsGate form_gate IsHold form_hold c.args.bytes.now c.args.at c.args.at c.in_err-gate.field-0.0 c.from_residual.result c.from_residual.ensures.1
    (λ x end is s. (x.gate, is.gate, first (form_gate x.gate) _ c.args.bytes.now c.args.at end s))
    c.in_err-gate.ensures

pub returns-in_err-label : goal.returns-in_err-label
returns-in_err-label c =
    let bytes = c.args.bytes.now in
    let at_label = c.in_ok-gate.at_label in
    passed_on IsBytes form_bytes IsHold form_hold bytes c.args.at at_label c.in_err-label.field-0.0 c.from_residual-in_err-label.result c.from_residual-in_err-label.ensures.1
    (λ x end is s.
    let t = behind IsGate form_gate one_gate c.in_ok-gate.gate x.gate _ bytes c.args.at at_label end c.in_ok-gate.ensures is.gate s in
    (x.label, is.label, first (form_bytes x.label) _ bytes at_label end t))
    c.in_err-label.ensures

pub returns-in_err-moderators : goal.returns-in_err-moderators
returns-in_err-moderators c =
    let bytes = c.args.bytes.now in
    let at_label = c.in_ok-gate.at_label in
    let at_moderators = c.in_ok-label.at_moderators in
    passed_on (IsListOf IsKey) (form_all form_bytes) IsHold form_hold bytes c.args.at at_moderators c.in_err-moderators.field-0.0 c.from_residual-in_err-moderators.result c.from_residual-in_err-moderators.ensures.1
    (λ x end is s.
    let t = behind IsGate form_gate one_gate c.in_ok-gate.gate x.gate _ bytes c.args.at at_label end c.in_ok-gate.ensures is.gate s in
    let u = behind IsBytes form_bytes one_bytes c.in_ok-label.label x.label _ bytes at_label at_moderators end c.in_ok-label.ensures is.label t in
    (x.moderators, is.moderators, first (form_all form_bytes x.moderators) _ bytes at_moderators end u))
    c.in_err-moderators.ensures

pub returns-in_err-tell : goal.returns-in_err-tell
returns-in_err-tell c =
    let bytes = c.args.bytes.now in
    let at_label = c.in_ok-gate.at_label in
    let at_moderators = c.in_ok-label.at_moderators in
    let at_tell = c.in_ok-moderators.at_tell in
    passed_on IsTell form_tell IsHold form_hold bytes c.args.at at_tell c.in_err-tell.field-0.0 c.from_residual-in_err-tell.result c.from_residual-in_err-tell.ensures.1
    (λ x end is s.
    let t = behind IsGate form_gate one_gate c.in_ok-gate.gate x.gate _ bytes c.args.at at_label end c.in_ok-gate.ensures is.gate s in
    let u = behind IsBytes form_bytes one_bytes c.in_ok-label.label x.label _ bytes at_label at_moderators end c.in_ok-label.ensures is.label t in
    let v = behind (IsListOf IsKey) (form_all form_bytes) one_keys c.in_ok-moderators.moderators x.moderators _ bytes at_moderators at_tell end c.in_ok-moderators.ensures is.moderators u in
    (x.tell, tt, record { end = end; stands = v }))
    c.in_err-tell.ensures
