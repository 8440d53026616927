use Rattle.std.proofs.Common.{ℕ, [], ◌∷◌, List, arith}
use Rattle.mail_names.specs.declared.gate.Gate.TheVariants as gates
use Rattle.log_entry.specs.EntryText.{le32, form_bytes, form_gate}
use Rattle.mail_plan.specs.Fits.{IsGate}
use Rattle.log_entry.proofs.Standing.{first}
use Rattle.log_entry.proofs.Parts.{HasPart, passed_on, IsByte, form_byte}
use Rattle.log_entry.proofs.fields.gate_at.Goals as goal

tagged : (bytes : List ℕ) (at : ℕ) → HasPart IsByte form_byte IsGate form_gate bytes at at
tagged bytes at (gates.Object key) end is s = (0, omega arith, first (0 ∷ []) (form_bytes key) bytes at end s)
tagged bytes at (gates.Rule place) end is s = (1, omega arith, first (1 ∷ []) (le32 place) bytes at end s)

pub returns-in_err-tag : goal.returns-in_err-tag
returns-in_err-tag c =
    passed_on IsByte form_byte IsGate form_gate c.args.bytes.now c.args.at c.args.at c.in_err-tag.field-0.0 c.from_residual.result c.from_residual.ensures.1
    (tagged c.args.bytes.now c.args.at) c.in_err-tag.ensures
