use Rattle.std.proofs.Common.{ℕ, [], ◌∷◌, List, Some, None, arith}
use Rattle.log_entry.specs.EntryText.{form_bytes, form_key_option}
use Rattle.mail_submission.specs.Fits.{IsKeyOption}
use Rattle.log_entry.proofs.Standing.{first}
use Rattle.log_entry.proofs.Parts.{HasPart, passed_on, IsByte, form_byte}
use Rattle.log_entry.proofs.fields.key_option_at.Goals as goal

tagged : (bytes : List ℕ) (at : ℕ) → HasPart IsByte form_byte IsKeyOption form_key_option bytes at at
tagged bytes at None end is s = (0, omega arith, record { end = end; stands = s })
tagged bytes at (Some key) end is s = (1, omega arith, first (1 ∷ []) (form_bytes key) bytes at end s)

pub returns-in_err-tag : goal.returns-in_err-tag
returns-in_err-tag c =
    passed_on IsByte form_byte IsKeyOption form_key_option c.args.bytes.now c.args.at c.args.at c.in_err-tag.field-0.0 c.from_residual.result c.from_residual.ensures.1
    (tagged c.args.bytes.now c.args.at) c.in_err-tag.ensures
