use Rattle.std.proofs.Common.{◌≡◌, drop}
use Rattle.mail_message.specs.Message.{skip_blanks}
use Rattle.pickup_box.proofs.trims.skip_blanks.Given as goal

abbrev pub invariant-loop-i : goal.invariant-loop-i
invariant-loop-i l = skip_blanks (drop l.i l.bytes) ≡ skip_blanks l.bytes
