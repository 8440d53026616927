use Rattle.std.proofs.Common.{◌≡◌, length}
use Rattle.std.specs.List.{flat_map, AllByRecursion}
use Rattle.log_entry.specs.EntryText.{le32, form_all}
use Rattle.mail_submission.specs.Fits.{IsU32, IsListOf}
use Rattle.log_entry.proofs.Standing.{first, same, behind}
use Rattle.log_entry.proofs.Forms.{one_le32}
use Rattle.log_entry.proofs.Parts.{passed_on}
use Rattle.log_entry.proofs.fields.list_at.Goals as goal

pub returns-in_err-count : goal.returns-in_err-count
returns-in_err-count g c =
    passed_on IsU32 le32 (IsListOf g.F.Field.is) (form_all g.F.Field.form) c.args.bytes.now c.args.at c.args.at c.in_err-count.field-0.0 c.from_residual.result c.from_residual.ensures.1
    (λ x end is s. (length x, is.0, first _ _ c.args.bytes.now c.args.at end s))
    c.in_err-count.ensures

pub returns-in_err-values : goal.returns-in_err-values
returns-in_err-values g c =
    let Is = g.F.Field.is in
    let form = g.F.Field.form in
    let bytes = c.args.bytes.now in
    let start = c.in_ok-count.start in
    passed_on (λ values. (length values ≡ c.in_ok-count.count) × AllByRecursion Is values) (flat_map form) (IsListOf Is) (form_all form) bytes c.args.at start c.in_err-values.field-0.0 c.from_residual-in_err-values.result c.from_residual-in_err-values.ensures.1
    (λ x end is s.
    let long = same IsU32 le32 one_le32 c.in_ok-count.count (length x) (flat_map form x) bytes c.args.at start end c.in_ok-count.ensures is.0 s in
    let t = behind IsU32 le32 one_le32 c.in_ok-count.count (length x) (flat_map form x) bytes c.args.at start end c.in_ok-count.ensures is.0 s in
    (x, (long, is.1), record { end = end; stands = t }))
    c.in_err-values.ensures
