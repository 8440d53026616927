use Rattle.worker_pool.specs.Planned.{AreParts}
use Rattle.worker_pool.proofs.planning.joined.Given as goal

abbrev pub invariant-loop-part : goal.invariant-loop-part
invariant-loop-part g l = AreParts l.yielded l.whole.items
