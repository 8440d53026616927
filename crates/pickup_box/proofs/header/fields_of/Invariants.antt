use Rattle.std.proofs.Common.{length}
use Rattle.pickup_box.proofs.Cutting.{Left}
use Rattle.pickup_box.proofs.header.fields_of.Given as goal

abbrev pub invariant-loop-rest : goal.invariant-loop-rest
invariant-loop-rest l = Left l.message l.fields.items l.rest

abbrev pub decreases-loop-rest : goal.decreases-loop-rest
decreases-loop-rest l = length l.rest
