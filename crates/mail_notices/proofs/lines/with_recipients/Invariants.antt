use Rattle.std.proofs.Common.{◌≡◌, ◌∷◌, take, map}
use Rattle.mail_notices.specs.Text.{recipient_line}
use Rattle.mail_notices.proofs.lines.with_recipients.Given as goal

abbrev pub invariant-loop-key : goal.invariant-loop-key
invariant-loop-key l = l.lines ≡ l.fn.first ∷ map recipient_line (take l.key-index l.keys)
