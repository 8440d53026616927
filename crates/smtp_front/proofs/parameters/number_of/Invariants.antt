use Rattle.std.proofs.Common.{◌≡◌, ◌-◌, ◌^◌, min, take}
use Rattle.smtp_front.specs.Parameters.{number_of}
use Rattle.smtp_front.proofs.parameters.number_of.Given as goal

abbrev pub invariant-loop-b : goal.invariant-loop-b
invariant-loop-b l = l.number ≡ min (number_of (take l.b-index l.digits)) (2 ^ 64 - 1)
