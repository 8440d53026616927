use Rattle.std.proofs.Common.{ap, Err}
use Rattle.log_entry.specs.declared.places.Miss.{Miss}
use Rattle.log_entry.proofs.Parts.{no_key}
use Rattle.log_entry.proofs.fields.key_at.Goals as goal

pub returns-in_err-key : goal.returns-in_err-key
returns-in_err-key c =
    no_key c.args.bytes.now c.in_ok-text.text.now c.args.at c.in_ok-text.end c.in_err-key.field-0.0 c.from_residual-in_err-key.result c.from_residual-in_err-key.ensures.1
    c.in_ok-text.ensures.some (λ is. c.in_err-key.ensures.none (ap (λ (f : Miss). Err f) is))
