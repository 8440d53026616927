use Rattle.std.proofs.Common.{◌≡◌, length}
use Rattle.smtp_front.specs.Parameters.{words_of, first_refusal}
use Rattle.smtp_front.proofs.Parting.{Starts}
use Rattle.smtp_front.proofs.parameters.first_refusal.Given as goal

abbrev pub invariant-loop-rest : goal.invariant-loop-rest
invariant-loop-rest l = record { same : first_refusal (words_of l.rest) ≡ first_refusal (words_of l.text); starts : Starts l.rest }

abbrev pub decreases-loop-rest : goal.decreases-loop-rest
decreases-loop-rest l = length l.rest
