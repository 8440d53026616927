use Rattle.std.proofs.Common.{◌≡◌, length}
use Rattle.smtp_front.specs.Commands.{unspaced}
use Rattle.smtp_front.proofs.texts.unspaced.Given as goal

abbrev pub invariant-loop-rest : goal.invariant-loop-rest
invariant-loop-rest l = unspaced l.rest ≡ unspaced l.text

abbrev pub decreases-loop-rest : goal.decreases-loop-rest
decreases-loop-rest l = length l.rest
