use Rattle.std.proofs.Common.{◌++◌}
use Rattle.log_entry.specs.EntryText.{le32, le64, form_release, form_categorised}
use Rattle.mail_submission.specs.Fits.{IsU32, IsU64}
use Rattle.mail_plan.specs.Fits.{IsRelease}
use Rattle.log_entry.specs.Entries.{IsCategorised}
use Rattle.log_entry.proofs.Standing.{first, behind}
use Rattle.log_entry.proofs.Forms.{one_le32, one_le64}
use Rattle.log_entry.proofs.Parts.{passed_on}
use Rattle.log_entry.proofs.read.categorised_at.Goals as goal

pub returns-in_err-number : goal.returns-in_err-number
returns-in_err-number c =
    passed_on IsU64 le64 IsCategorised form_categorised c.args.bytes.now c.args.at c.args.at c.in_err-number.field-0.0 c.from_residual.result c.from_residual.ensures.1
    (λ x end is s. (x.0, is.0, first (le64 x.0) (le32 x.1 ++ form_release x.2) c.args.bytes.now c.args.at end s))
    c.in_err-number.ensures

pub returns-in_err-release : goal.returns-in_err-release
returns-in_err-release c =
    let bytes = c.args.bytes.now in
    let at_release = c.in_ok-number.at_release in
    passed_on IsU32 le32 IsCategorised form_categorised bytes c.args.at at_release c.in_err-release.field-0.0 c.from_residual-in_err-release.result c.from_residual-in_err-release.ensures.1
    (λ x end is s.
    let t = behind IsU64 le64 one_le64 c.in_ok-number.number x.0 (le32 x.1 ++ form_release x.2) bytes c.args.at at_release end c.in_ok-number.ensures is.0 s in
    (x.1, is.1, first (le32 x.1) (form_release x.2) bytes at_release end t))
    c.in_err-release.ensures

pub returns-in_err-plan : goal.returns-in_err-plan
returns-in_err-plan c =
    let bytes = c.args.bytes.now in
    let at_release = c.in_ok-number.at_release in
    let at_plan = c.in_ok-release.at_plan in
    passed_on IsRelease form_release IsCategorised form_categorised bytes c.args.at at_plan c.in_err-plan.field-0.0 c.from_residual-in_err-plan.result c.from_residual-in_err-plan.ensures.1
    (λ x end is s.
    let t = behind IsU64 le64 one_le64 c.in_ok-number.number x.0 (le32 x.1 ++ form_release x.2) bytes c.args.at at_release end c.in_ok-number.ensures is.0 s in
    let u = behind IsU32 le32 one_le32 c.in_ok-release.release x.1 (form_release x.2) bytes at_release at_plan end c.in_ok-release.ensures is.1 t in
    (x.2, is.2, record { end = end; stands = u }))
    c.in_err-plan.ensures
