use Rattle.std.proofs.Common.{◌≡◌, length}
use Rattle.http_head.specs.Targets.{in_method}
use Rattle.http_head.proofs.target.in_method.Given as goal

abbrev pub invariant-loop-rest : goal.invariant-loop-rest
invariant-loop-rest l = in_method l.rest ≡ in_method l.text

abbrev pub decreases-loop-rest : goal.decreases-loop-rest
decreases-loop-rest l = length l.rest
