use Rattle.std.proofs.Common.{subst}
use Rattle.worker_pool.specs.Planned.{planned}
use Rattle.worker_pool.specs.Working.{HasDone, end_by}
use Rattle.worker_pool.proofs.Turning.{committed}
use Rattle.worker_pool.proofs.working.do_task.Goals as goal

pub returns-in-Ok-commit-clause-done : goal.returns-in-Ok-commit-clause-done
returns-in-Ok-commit-clause-done g c =
    let bench = g.B.TaskBench.gives in
    let f = planned {T = g.row.T.Denot} g.T.Planner.means in
    subst (λ answer. HasDone bench f c.args.task c.args.bench.now c.commit.new.self (end_by answer)) c.in-Ok-commit.is
    (committed bench f c.args.task c.in-Ok.outcome c.commit.result c.args.bench.now c.commit.new.self c.in-Ok.ensures c.commit.ensures.gives)

pub returns-in-Err-clause-done : goal.returns-in-Err-clause-done
returns-in-Err-clause-done g c =
    let bench = g.B.TaskBench.gives in
    let f = planned {T = g.row.T.Denot} g.T.Planner.means in
    subst (λ answer. HasDone bench f c.args.task c.args.bench.now c.commit.new.self (end_by answer)) c.in-Err.is
    (committed bench f c.args.task c.in-Ok.outcome c.commit.result c.args.bench.now c.commit.new.self c.in-Ok.ensures c.commit.ensures.gives)
