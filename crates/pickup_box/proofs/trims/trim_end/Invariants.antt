use Rattle.std.proofs.Common.{◌≡◌, length}
use Rattle.mail_message.specs.Message.{trim_end}
use Rattle.pickup_box.proofs.trims.trim_end.Given as goal

abbrev pub invariant-loop-rest : goal.invariant-loop-rest
invariant-loop-rest l = trim_end l.rest ≡ trim_end l.bytes

abbrev pub decreases-loop-rest : goal.decreases-loop-rest
decreases-loop-rest l = length l.rest
