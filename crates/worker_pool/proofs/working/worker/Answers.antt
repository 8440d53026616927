use Rattle.std.proofs.Common.{◌≡◌, ◌-◌, ◌+◌, suc, subst, arith}
use Rattle.worker_pool.specs.Planned.{planned}
use Rattle.worker_pool.specs.Working.{HasTurned, as_answer}
use Rattle.worker_pool.proofs.Causing.{causes_in_all}
use Rattle.worker_pool.proofs.Turning.{HasComeTo, one_turn_more, last_turn, all_spent}
use Rattle.worker_pool.proofs.working.worker.Goals as goal

pub loop-turn-preserved : goal.loop-turn-preserved
loop-turn-preserved g c =
    let bench = g.B.TaskBench.gives in
    let gate = g.G.WorkGate.gives in
    let f = planned {T = g.row.T.Denot} g.T.Planner.means in
    let a = c.args in
    let l = c.loop-turn in
    let w = c.work_turn in
    let left = a.turns - (l._turn + 1) in
    let is : a.turns - l._turn ≡ suc left = omega arith in
    let come = subst (λ n. HasComeTo bench gate f a.residue a.workers a.turns n a.bench.now l.bench a.gate.now l.gate) is l.invariant.come in
    let turn = subst (λ end. HasTurned bench gate f a.residue a.workers l.bench w.new.bench l.gate w.new.gate end) c.in_default.is w.ensures.turned in
    let disks = w.ensures.causes.disks_later in
    let shelves = w.ensures.causes.shelves_later in record {
      come = one_turn_more bench gate f a.residue a.workers a.turns left a.bench.now l.bench w.new.bench a.gate.now l.gate w.new.gate come turn;
      disks = omega arith;
      shelves = omega arith;
    }

pub returns-in-Some-clause-worked : goal.returns-in-Some-clause-worked
returns-in-Some-clause-worked g c =
    let bench = g.B.TaskBench.gives in
    let gate = g.G.WorkGate.gives in
    let f = planned {T = g.row.T.Denot} g.T.Planner.means in
    let a = c.args in
    let l = c.loop-turn in
    let w = c.work_turn in
    let left = a.turns - (l._turn + 1) in
    let is : a.turns - l._turn ≡ suc left = omega arith in
    let come = subst (λ n. HasComeTo bench gate f a.residue a.workers a.turns n a.bench.now l.bench a.gate.now l.gate) is l.invariant.come in
    let turn = subst (λ end. HasTurned bench gate f a.residue a.workers l.bench w.new.bench l.gate w.new.gate end) c.in-Some.is w.ensures.turned in
    last_turn bench gate f a.residue a.workers a.turns left c.in-Some.end a.bench.now l.bench w.new.bench a.gate.now l.gate w.new.gate come turn

pub returns-in-Some-clause-causes : goal.returns-in-Some-clause-causes
returns-in-Some-clause-causes g c =
    let disks = g.B.TaskBench.disk_faults in
    let shelves = g.B.TaskBench.shelf_faults in
    let l = c.loop-turn in
    let w = c.work_turn in
    causes_in_all (as_answer c.in-Some.end) (disks c.args.bench.now) (disks l.bench) (disks w.new.bench) (shelves c.args.bench.now) (shelves l.bench) (shelves w.new.bench)
    l.invariant.disks l.invariant.shelves c.in-Some.ensures.causes

pub returns-clause-worked : goal.returns-clause-worked
returns-clause-worked g c =
    let bench = g.B.TaskBench.gives in
    let gate = g.G.WorkGate.gives in
    let f = planned {T = g.row.T.Denot} g.T.Planner.means in
    let a = c.args in
    let l = c.loop-turn in
    let none : a.turns - l._turn ≡ 0 = omega arith in
    all_spent bench gate f a.residue a.workers a.turns a.bench.now l.bench a.gate.now l.gate
    (subst (λ n. HasComeTo bench gate f a.residue a.workers a.turns n a.bench.now l.bench a.gate.now l.gate) none l.invariant.come)
