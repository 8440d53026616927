use Rattle.std.proofs.Common.{◌≤◌, ◌-◌}
use Rattle.worker_pool.specs.Planned.{planned}
use Rattle.worker_pool.proofs.Turning.{HasComeTo}
use Rattle.worker_pool.proofs.working.worker.Given as goal

abbrev pub invariant-loop-turn : goal.invariant-loop-turn
invariant-loop-turn g l = record {
  come : HasComeTo g.B.TaskBench.gives g.G.WorkGate.gives (planned {T = g.row.T.Denot} g.T.Planner.means) l.residue l.workers l.turns (l.turns - l._turn) l.initial.bench l.bench l.initial.gate l.gate;
  disks : g.B.TaskBench.disk_faults l.initial.bench ≤ g.B.TaskBench.disk_faults l.bench;
  shelves : g.B.TaskBench.shelf_faults l.initial.bench ≤ g.B.TaskBench.shelf_faults l.bench;
}
