use Rattle.std.proofs.Common.{◌≡◌, ℕ, [], ◌∷◌, List, arith}
use Rattle.log_entry.specs.EntryText.{form_bytes, form_all, form_rejected, form_end}
use Rattle.mail_plan.specs.Fits.{IsRejected, IsEnd}
use Rattle.log_entry.specs.Reading.{Stands}
use Rattle.mail_plan.specs.declared.release.End.TheVariants as ends
use Rattle.log_entry.proofs.ByKind.{one_byte}
use Rattle.log_entry.proofs.Standing.{There, first, same, behind}
use Rattle.log_entry.proofs.Forms.{one_key}
use Rattle.log_entry.proofs.Parts.{HasPart, passed_on, IsByte, form_byte}
use Rattle.log_entry.proofs.holds.end_at.Goals as goal

tagged : (bytes : List ℕ) (at : ℕ) → HasPart IsByte form_byte IsEnd form_end bytes at at
tagged bytes at (ends.Rejected rule keys) end is s = (0, omega arith, first (0 ∷ []) (form_rejected (rule, keys)) bytes at end s)
tagged bytes at (ends.Unknown keys) end is s = (1, omega arith, first (1 ∷ []) (form_all form_bytes keys) bytes at end s)
tagged bytes at ends.TooMany end is s = (2, omega arith, record { end = end; stands = s })

-- behind the byte 0 stand a rule and the keys that it rejected
module _ (tag : ℕ) (bytes : List ℕ) (at start : ℕ) (got : IsByte tag × Stands (form_byte tag) bytes at start) (zero : tag ≡ 0) where
  is_tag : (k : ℕ) (fields : List ℕ) (end : ℕ) → IsByte k → Stands (k ∷ fields) bytes at end → k ≡ tag
  is_tag k fields end small s = same IsByte form_byte one_byte tag k fields bytes at start end got small s

  fields_there : (k : ℕ) (fields : List ℕ) (end : ℕ) → IsByte k → Stands (k ∷ fields) bytes at end → There fields bytes start
  fields_there k fields end small s = record { end = end; stands = behind IsByte form_byte one_byte tag k fields bytes at start end got small s }

  has_rejected : HasPart IsRejected form_rejected IsEnd form_end bytes at start
  has_rejected (ends.Rejected rule keys) end is s = ((rule, keys), is, fields_there 0 _ end (omega arith) s)
  has_rejected (ends.Unknown keys) end is s = absurd (omega (arith, zero, is_tag 1 _ end (omega arith) s))
  has_rejected ends.TooMany end is s = absurd (omega (arith, zero, is_tag 2 _ end (omega arith) s))

pub list_at-requires : goal.list_at-requires
list_at-requires c = one_key

pub returns-in_err-tag : goal.returns-in_err-tag
returns-in_err-tag c =
    passed_on IsByte form_byte IsEnd form_end c.args.bytes.now c.args.at c.args.at c.in_err-tag.field-0.0 c.from_residual.result c.from_residual.ensures.1
    (tagged c.args.bytes.now c.args.at) c.in_err-tag.ensures

pub returns-in_err-rule-in-0 : goal.returns-in_err-rule-in-0
returns-in_err-rule-in-0 c =
    passed_on IsRejected form_rejected IsEnd form_end c.args.bytes.now c.args.at c.in_ok-tag.start c.in_err-rule-in-0.field-0.0 c.from_residual-in_err-rule-in-0.result c.from_residual-in_err-rule-in-0.ensures.1
    (has_rejected c.in_ok-tag.tag c.args.bytes.now c.args.at c.in_ok-tag.start c.in_ok-tag.ensures c.in-0.is) c.in_err-rule-in-0.ensures
