use Rattle.std.proofs.Common.{ℕ, [], ◌∷◌, List, arith}
use Rattle.log_entry.specs.EntryText.{form_bytes, form_origin}
use Rattle.mail_submission.specs.Fits.{IsOrigin}
use Rattle.mail_submission.specs.declared.submission.Origin.TheVariants as origins
use Rattle.log_entry.proofs.Standing.{first}
use Rattle.log_entry.proofs.Parts.{HasPart, passed_on, IsByte, form_byte}
use Rattle.log_entry.proofs.fields.origin_at.Goals as goal

tagged : (bytes : List ℕ) (at : ℕ) → HasPart IsByte form_byte IsOrigin form_origin bytes at at
tagged bytes at origins.Smtp end is s = (0, omega arith, record { end = end; stands = s })
tagged bytes at (origins.Pickup mark) end is s = (1, omega arith, first (1 ∷ []) (form_bytes mark) bytes at end s)

pub returns-in_err-tag : goal.returns-in_err-tag
returns-in_err-tag c =
    passed_on IsByte form_byte IsOrigin form_origin c.args.bytes.now c.args.at c.args.at c.in_err-tag.field-0.0 c.from_residual.result c.from_residual.ensures.1
    (tagged c.args.bytes.now c.args.at) c.in_err-tag.ensures
