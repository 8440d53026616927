-- What a worker does at its bench.
use Rattle.std.specs.Prelude.{◌≡◌, ℕ, zero, suc, ◌⊎◌, List, [], ◌∷◌, ◌++◌, Option, Some, None, Result, Ok, Err}
use Rattle.std.specs.List.{flat_map}
use Rattle.mail_plan.specs.Means.{Made}
use Rattle.mail_plan.specs.Planning.{Input}
use Rattle.mail_plan.specs.declared.outcome.Task.{Task}
use Rattle.hub_calls.specs.Benches.{Leads}
use Rattle.hub_calls.specs.declared.bench.BenchStep.{BenchStep}
use Rattle.hub_calls.specs.declared.bench.BenchStep.TheVariants as steps
use Rattle.hub_calls.specs.declared.bench.Taking.{Taking}
use Rattle.hub_calls.specs.declared.bench.Taking.TheVariants as takings
use Rattle.hub_calls.specs.declared.commit_end.CommitEnd.{CommitEnd}
use Rattle.hub_calls.specs.declared.fault.HubFault.{HubFault}
use Rattle.hub_calls.specs.declared.fault.HubFault.TheVariants as faults
use Rattle.hub_calls.specs.declared.views.TaskName.{TaskName}
use Rattle.worker_pool.specs.declared.gate.GateStep.{GateStep}
use Rattle.worker_pool.specs.declared.gate.GateStep.TheVariants as gates
use Rattle.worker_pool.specs.declared.working.WorkerEnd.{WorkerEnd}
use Rattle.worker_pool.specs.declared.working.WorkerEnd.TheVariants as ends

-- an end as an answer: a fault is a refusal
abbrev pub as_answer : WorkerEnd → Result (Unit {0}) HubFault
as_answer ends.Stopped = Ok tt
as_answer ends.Spent = Ok tt
as_answer (ends.Fault fault) = Err fault

abbrev pub end_answer : Option WorkerEnd → Result (Unit {0}) HubFault
end_answer None = Ok tt
end_answer (Some end) = as_answer end

abbrev pub name_of : Input → TaskName
name_of input = record { submission = input.number; release = input.release }

-- what the gate is told behind a call: which release was taken, or that there was none
abbrev pub told_by : {T Org : Type 0} → BenchStep T Org → List GateStep
told_by (steps.Take residue workers (Ok (takings.Task task))) = gates.Pass (name_of task.input) ∷ []
told_by (steps.Take residue workers (Ok takings.Nothing)) = gates.Idle ∷ []
told_by step = []

abbrev pub gate_steps : {T Org : Type 0} → List (BenchStep T Org) → List GateStep
gate_steps made = flat_map told_by made

-- the end that a commit brings, if any
abbrev pub end_by : Result CommitEnd HubFault → Option WorkerEnd
end_by (Ok end) = None
end_by (Err fault) = Some (ends.Fault fault)

-- What follows in a turn on a task: its plan is committed, or memory was wanted for the plan.
abbrev pub IsDone : {T Org : Type 0} → Made Org → List (BenchStep T Org) → Option WorkerEnd → Type 0
IsDone plan made end =
    ((made ≡ []) × (end ≡ Some (ends.Fault faults.NoMemory)))
    ⊎ ((answer : Result CommitEnd HubFault) × (made ≡ steps.Commit plan answer ∷ []) × (end ≡ end_by answer))

-- What follows in a turn on what was taken.
abbrev pub Follows : {T Org : Type 0} → (Task T Org → Made Org) → Result (Taking T Org) HubFault → List (BenchStep T Org) → Option WorkerEnd → Type 0
Follows planned (Ok (takings.Task task)) made end = IsDone (planned task) made end
Follows planned (Ok takings.Nothing) made end = (made ≡ []) × (end ≡ None)
Follows planned (Ok takings.Stopped) made end = (made ≡ []) × (end ≡ Some ends.Stopped)
Follows planned (Err fault) made end = (made ≡ []) × (end ≡ Some (ends.Fault fault))

-- The calls of one turn, which begin with one take, and the end that the turn brings, if any.
abbrev pub IsTurn : {T Org : Type 0} → (Task T Org → Made Org) → ℕ → ℕ → List (BenchStep T Org) → Option WorkerEnd → Type 0
IsTurn {T} {Org} planned residue workers made end =
    (taken : Result (Taking T Org) HubFault) × (behind : List (BenchStep T Org))
    × (made ≡ steps.Take residue workers taken ∷ behind) × Follows planned taken behind end

-- The calls of so many turns, of which one may bring the end, and the end. Where none does, all are spent.
abbrev pub IsWork : {T Org : Type 0} → (Task T Org → Made Org) → ℕ → ℕ → ℕ → List (BenchStep T Org) → WorkerEnd → Type 0
IsWork planned residue workers zero made end = (made ≡ []) × (end ≡ ends.Spent)
IsWork {T} {Org} planned residue workers (suc turns) made end =
    IsTurn planned residue workers made (Some end)
    ⊎ ((turn : List (BenchStep T Org)) × (behind : List (BenchStep T Org)) × (made ≡ turn ++ behind)
    × IsTurn planned residue workers turn None × IsWork planned residue workers turns behind end)

module _ {T Org B G : Type 0} (bench : B → BenchStep T Org → B → Type 0) (gate : G → GateStep → G → Type 0) (planned : Task T Org → Made Org) (residue workers : ℕ) where
  -- One turn leads from one bench to the other, and from one gate to the other.
  pub record HasTurned (b b' : B) (g g' : G) (end : Option WorkerEnd) : Type 0 where
    pub made : List (BenchStep T Org)
    pub at_bench : Leads bench b made b'
    pub at_gate : Leads gate g (gate_steps made) g'
    pub is_turn : IsTurn planned residue workers made end

  -- These turns do.
  pub record HasWorked (turns : ℕ) (b b' : B) (g g' : G) (end : WorkerEnd) : Type 0 where
    pub made : List (BenchStep T Org)
    pub at_bench : Leads bench b made b'
    pub at_gate : Leads gate g (gate_steps made) g'
    pub is_work : IsWork planned residue workers turns made end

-- What follows on a task leads from one bench to the other.
pub record HasDone {T Org B : Type 0} (bench : B → BenchStep T Org → B → Type 0) (planned : Task T Org → Made Org) (task : Task T Org) (b b' : B) (end : Option WorkerEnd) : Type 0 where
  pub made : List (BenchStep T Org)
  pub at_bench : Leads bench b made b'
  pub is_done : IsDone (planned task) made end
