-- The calls of a bench: which refusals they give, and how one follows another.
use Rattle.std.specs.Prelude.{◌≡◌, Bool, true, false, List, [], ◌∷◌}
use Rattle.hub_calls.specs.declared.bench.BenchCall.{BenchCall}
use Rattle.hub_calls.specs.declared.bench.BenchCall.TheVariants as calls
use Rattle.hub_calls.specs.declared.fault.HubFault.{HubFault}
use Rattle.hub_calls.specs.declared.fault.HubFault.TheVariants as faults

-- Whether a call gives this refusal. Only an entry that is added needs room in the log.
abbrev pub bench_can_refuse : BenchCall → HubFault → Bool
bench_can_refuse call faults.DiskFault = true
bench_can_refuse call faults.NoMemory = true
bench_can_refuse call (faults.NotALog at) = true
bench_can_refuse call (faults.DeskFull taken) = true
bench_can_refuse calls.Commit (faults.LogFull length) = true
bench_can_refuse call fault = false

-- These calls, one after another, lead from one bench to the other.
abbrev pub Leads : {B Step : Type 0} → (B → Step → B → Type 0) → B → List Step → B → Type 0
Leads gives bench [] later = bench ≡ later
Leads {B} gives bench (step ∷ steps) later = (between : B) × gives bench step between × Leads gives between steps later
