-- What the end of a worker's turns says of its calls.
use Rattle.std.specs.Prelude.{◌≡◌, ℕ, ◌⊎◌, Bool, true, false, List, [], ◌∷◌, ◌++◌, map, count_by, flat_map, Ok, Err}
use Rattle.std.specs.List.{list_any}
use Rattle.mail_plan.specs.Means.{Made}
use Rattle.mail_plan.specs.declared.outcome.Task.{Task}
use Rattle.hub_calls.specs.declared.bench.BenchStep.{BenchStep}
use Rattle.hub_calls.specs.declared.bench.BenchStep.TheVariants as steps
use Rattle.hub_calls.specs.declared.bench.Taking.TheVariants as takings
use Rattle.hub_calls.specs.declared.fault.HubFault.{HubFault}
use Rattle.hub_calls.specs.declared.fault.HubFault.TheVariants as faults
use Rattle.worker_pool.specs.declared.working.WorkerEnd.{WorkerEnd}
use Rattle.worker_pool.specs.declared.working.WorkerEnd.TheVariants as ends

abbrev pub is_take : {T Org : Type 0} → BenchStep T Org → Bool
is_take (steps.Take residue workers taken) = true
is_take (steps.Commit plan answer) = false

-- a take that was answered Stopped
abbrev pub is_stop : {T Org : Type 0} → BenchStep T Org → Bool
is_stop (steps.Take residue workers (Ok takings.Stopped)) = true
is_stop step = false

abbrev pub task_in : {T Org : Type 0} → BenchStep T Org → List (Task T Org)
task_in (steps.Take residue workers (Ok (takings.Task task))) = task ∷ []
task_in step = []

abbrev pub plan_in : {T Org : Type 0} → BenchStep T Org → List (Made Org)
plan_in (steps.Take residue workers taken) = []
plan_in (steps.Commit plan answer) = plan ∷ []

abbrev pub refusal_in : {T Org : Type 0} → BenchStep T Org → List HubFault
refusal_in (steps.Take residue workers (Ok taken)) = []
refusal_in (steps.Take residue workers (Err fault)) = fault ∷ []
refusal_in (steps.Commit plan (Ok end)) = []
refusal_in (steps.Commit plan (Err fault)) = fault ∷ []

-- how many takes there are
abbrev pub takes_in : {T Org : Type 0} → List (BenchStep T Org) → ℕ
takes_in made = count_by is_take made

-- whether a take was answered Stopped
abbrev pub stops_in : {T Org : Type 0} → List (BenchStep T Org) → Bool
stops_in made = list_any is_stop made

-- the tasks that were taken, in order
abbrev pub tasks_in : {T Org : Type 0} → List (BenchStep T Org) → List (Task T Org)
tasks_in made = flat_map task_in made

-- the plans that were committed, in order
abbrev pub plans_in : {T Org : Type 0} → List (BenchStep T Org) → List (Made Org)
plans_in made = flat_map plan_in made

-- the faults with which calls were refused, in order
abbrev pub refusals_in : {T Org : Type 0} → List (BenchStep T Org) → List HubFault
refusals_in made = flat_map refusal_in made

-- Each task that was taken was planned and committed, in order.
abbrev pub AllDone : {T Org : Type 0} → (Task T Org → Made Org) → List (BenchStep T Org) → Type 0
AllDone planned made = plans_in made ≡ map planned (tasks_in made)

-- Each but the last was.
abbrev pub AllButLast : {T Org : Type 0} → (Task T Org → Made Org) → List (BenchStep T Org) → Type 0
AllButLast {T} {Org} planned made = (last : Task T Org) × (plans_in made ++ planned last ∷ [] ≡ map planned (tasks_in made))

-- A call was refused with this fault, and each task that was taken is done; or memory was wanted for the plan of the last.
abbrev pub IsFaulted : {T Org : Type 0} → (Task T Org → Made Org) → List (BenchStep T Org) → HubFault → Type 0
IsFaulted planned made fault =
    ((refusals_in made ≡ fault ∷ []) × AllDone planned made)
    ⊎ ((fault ≡ faults.NoMemory) × (refusals_in made ≡ []) × AllButLast planned made)

-- What an end says of the calls, where so many turns were given.
abbrev pub Says : {T Org : Type 0} → (Task T Org → Made Org) → ℕ → List (BenchStep T Org) → WorkerEnd → Type 0
Says planned turns made ends.Stopped = (stops_in made ≡ true) × (refusals_in made ≡ []) × AllDone planned made
Says planned turns made ends.Spent = (takes_in made ≡ turns) × (stops_in made ≡ false) × (refusals_in made ≡ []) × AllDone planned made
Says planned turns made (ends.Fault fault) = (stops_in made ≡ false) × IsFaulted planned made fault
