use Rattle.std.proofs.Common.{◌≡◌, ◌++◌, drop}
use Rattle.categorizer.specs.Plan.{closed_gates}
use Rattle.categorizer.proofs.planning.closed_gates.Given as goal

abbrev pub invariant-loop-object : goal.invariant-loop-object
invariant-loop-object l = l.gates ++ closed_gates (drop l.object-index l.closed) ≡ closed_gates l.closed
