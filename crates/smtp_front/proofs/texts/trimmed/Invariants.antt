use Rattle.std.proofs.Common.{◌≡◌, ◌≤◌, length, take}
use Rattle.smtp_front.specs.Commands.{trim}
use Rattle.smtp_front.proofs.texts.trimmed.Given as goal

abbrev pub invariant-loop-end : goal.invariant-loop-end
invariant-loop-end l = record { within : l.end ≤ length l.line; same : trim (take l.end l.line) ≡ trim l.line }

abbrev pub decreases-loop-end : goal.decreases-loop-end
decreases-loop-end l = l.end
