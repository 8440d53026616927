use Rattle.std.proofs.Common.{ℕ, [], ◌∷◌, List, arith}
use Rattle.journal_report.specs.declared.why.Why.TheVariants as whys
use Rattle.log_entry.specs.EntryText.{le32, form_bytes, form_all, form_step, form_why}
use Rattle.mail_plan.specs.Fits.{IsWhy}
use Rattle.log_entry.proofs.Standing.{first}
use Rattle.log_entry.proofs.Forms.{one_key, one_step}
use Rattle.log_entry.proofs.Parts.{HasPart, passed_on, IsByte, form_byte}
use Rattle.log_entry.proofs.fields.why_at.Goals as goal

tagged : (bytes : List ℕ) (at : ℕ) → HasPart IsByte form_byte IsWhy form_why bytes at at
tagged bytes at whys.Direct end is s = (0, omega arith, record { end = end; stands = s })
tagged bytes at (whys.Via groups) end is s = (1, omega arith, first (1 ∷ []) (form_all form_bytes groups) bytes at end s)
tagged bytes at (whys.Copied rule) end is s = (2, omega arith, first (2 ∷ []) (le32 rule) bytes at end s)
tagged bytes at (whys.Redirected rule) end is s = (3, omega arith, first (3 ∷ []) (le32 rule) bytes at end s)
tagged bytes at (whys.Through steps) end is s = (4, omega arith, first (4 ∷ []) (form_all form_step steps) bytes at end s)

pub list_at-requires : goal.list_at-requires
list_at-requires c = one_key

pub list_at-requires-in-4 : goal.list_at-requires-in-4
list_at-requires-in-4 c = one_step

pub returns-in_err-tag : goal.returns-in_err-tag
returns-in_err-tag c =
    passed_on IsByte form_byte IsWhy form_why c.args.bytes.now c.args.at c.args.at c.in_err-tag.field-0.0 c.from_residual.result c.from_residual.ensures.1
    (tagged c.args.bytes.now c.args.at) c.in_err-tag.ensures
