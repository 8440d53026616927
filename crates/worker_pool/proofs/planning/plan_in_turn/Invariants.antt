use Rattle.std.proofs.Common.{◌≡◌, map}
use Rattle.worker_pool.specs.Planned.{planned}
use Rattle.worker_pool.proofs.planning.plan_in_turn.Given as goal

abbrev pub invariant-loop-task : goal.invariant-loop-task
invariant-loop-task g l = l.outcomes.items ≡ map (planned g.T.Planner.means) l.yielded
