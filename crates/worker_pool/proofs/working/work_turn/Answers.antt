use Rattle.std.proofs.Common.{◌∙◌, ap, subst, Ok, rules}
use Rattle.hub_calls.specs.declared.bench.BenchStep.TheVariants as steps
use Rattle.worker_pool.specs.Planned.{planned}
use Rattle.worker_pool.specs.Working.{name_of}
use Rattle.worker_pool.specs.declared.gate.GateStep.TheVariants as gates
use Rattle.worker_pool.proofs.Turning.{took_task, took_nothing, took_stop, took_fault}
use Rattle.worker_pool.proofs.working.work_turn.Goals as goal

pub returns-in-Ok-Task-clause-turned : goal.returns-in-Ok-Task-clause-turned
returns-in-Ok-Task-clause-turned g c =
    let bench = g.B.TaskBench.gives in
    let gate = g.G.WorkGate.gives in
    let a = c.args in
    let took = subst (λ taken. bench a.bench.now (steps.Take a.residue a.workers taken) c.take.new.self) (c.in-Ok-Task.is ∙ ap Ok c.in-Ok-Task.field-0-is) c.take.ensures.gives in
    let passed : gate a.gate.now (gates.Pass (name_of c.in-Ok-Task.task.input)) c.pass.new.self = search rules in
    took_task bench gate (planned {T = g.row.T.Denot} g.T.Planner.means) a.residue a.workers c.in-Ok-Task.task c.do_task.result a.bench.now c.take.new.self c.do_task.new.bench a.gate.now c.pass.new.self took c.do_task.ensures.done passed

pub returns-in-Ok-Nothing-clause-turned : goal.returns-in-Ok-Nothing-clause-turned
returns-in-Ok-Nothing-clause-turned g c =
    let bench = g.B.TaskBench.gives in
    let a = c.args in
    let took = subst (λ taken. bench a.bench.now (steps.Take a.residue a.workers taken) c.take.new.self) (c.in-Ok-Nothing.is ∙ ap Ok c.in-Ok-Nothing.field-0-is) c.take.ensures.gives in
    took_nothing bench g.G.WorkGate.gives (planned {T = g.row.T.Denot} g.T.Planner.means) a.residue a.workers a.bench.now c.take.new.self a.gate.now c.idle.new.self took c.idle.ensures

pub returns-in-Ok-Stopped-clause-turned : goal.returns-in-Ok-Stopped-clause-turned
returns-in-Ok-Stopped-clause-turned g c =
    let bench = g.B.TaskBench.gives in
    let a = c.args in
    let took = subst (λ taken. bench a.bench.now (steps.Take a.residue a.workers taken) c.take.new.self) (c.in-Ok-Stopped.is ∙ ap Ok c.in-Ok-Stopped.field-0-is) c.take.ensures.gives in
    took_stop bench g.G.WorkGate.gives (planned {T = g.row.T.Denot} g.T.Planner.means) a.residue a.workers a.bench.now c.take.new.self a.gate.now took

pub returns-in-Err-clause-turned : goal.returns-in-Err-clause-turned
returns-in-Err-clause-turned g c =
    let bench = g.B.TaskBench.gives in
    let a = c.args in
    let took = subst (λ taken. bench a.bench.now (steps.Take a.residue a.workers taken) c.take.new.self) c.in-Err.is c.take.ensures.gives in
    took_fault bench g.G.WorkGate.gives (planned {T = g.row.T.Denot} g.T.Planner.means) a.residue a.workers c.in-Err.fault a.bench.now c.take.new.self a.gate.now took
