use Rattle.log_entry.specs.EntryText.{le32, le64, form_mark, form_name}
use Rattle.mail_submission.specs.Fits.{IsU32, IsU64}
use Rattle.mail_plan.specs.Fits.{IsName}
use Rattle.log_entry.proofs.Standing.{first, behind}
use Rattle.log_entry.proofs.Forms.{IsMark, one_le32, one_le64}
use Rattle.log_entry.proofs.Parts.{passed_on}
use Rattle.log_entry.proofs.fields.name_at.Goals as goal

pub returns-in_err-submission : goal.returns-in_err-submission
returns-in_err-submission c =
    passed_on IsU64 le64 IsName form_name c.args.bytes.now c.args.at c.args.at c.in_err-submission.field-0.0 c.from_residual.result c.from_residual.ensures.1
    (λ x end is s. (x.submission, is.submission, first _ _ c.args.bytes.now c.args.at end s))
    c.in_err-submission.ensures

pub returns-in_err-release : goal.returns-in_err-release
returns-in_err-release c =
    let bytes = c.args.bytes.now in
    let at_release = c.in_ok-submission.at_release in
    passed_on IsU32 le32 IsName form_name bytes c.args.at at_release c.in_err-release.field-0.0 c.from_residual-in_err-release.result c.from_residual-in_err-release.ensures.1
    (λ x end is s.
    let t = behind IsU64 le64 one_le64 c.in_ok-submission.submission x.submission _ bytes c.args.at at_release end c.in_ok-submission.ensures is.submission s in
    (x.release, is.release, first _ _ bytes at_release end t))
    c.in_err-release.ensures

pub returns-in_err-place : goal.returns-in_err-place
returns-in_err-place c =
    let bytes = c.args.bytes.now in
    let at_release = c.in_ok-submission.at_release in
    let at_place = c.in_ok-release.at_place in
    passed_on IsU32 le32 IsName form_name bytes c.args.at at_place c.in_err-place.field-0.0 c.from_residual-in_err-place.result c.from_residual-in_err-place.ensures.1
    (λ x end is s.
    let t = behind IsU64 le64 one_le64 c.in_ok-submission.submission x.submission _ bytes c.args.at at_release end c.in_ok-submission.ensures is.submission s in
    let u = behind IsU32 le32 one_le32 c.in_ok-release.release x.release _ bytes at_release at_place end c.in_ok-release.ensures is.release t in
    (x.place, is.place, first _ _ bytes at_place end u))
    c.in_err-place.ensures

pub returns-in_err-mark : goal.returns-in_err-mark
returns-in_err-mark c =
    let bytes = c.args.bytes.now in
    let at_release = c.in_ok-submission.at_release in
    let at_place = c.in_ok-release.at_place in
    let at_mark = c.in_ok-place.at_mark in
    passed_on IsMark form_mark IsName form_name bytes c.args.at at_mark c.in_err-mark.field-0.0 c.from_residual-in_err-mark.result c.from_residual-in_err-mark.ensures.1
    (λ x end is s.
    let t = behind IsU64 le64 one_le64 c.in_ok-submission.submission x.submission _ bytes c.args.at at_release end c.in_ok-submission.ensures is.submission s in
    let u = behind IsU32 le32 one_le32 c.in_ok-release.release x.release _ bytes at_release at_place end c.in_ok-release.ensures is.release t in
    let v = behind IsU32 le32 one_le32 c.in_ok-place.place x.place _ bytes at_place at_mark end c.in_ok-place.ensures is.place u in
    (x.mark, tt, record { end = end; stands = v }))
    c.in_err-mark.ensures
