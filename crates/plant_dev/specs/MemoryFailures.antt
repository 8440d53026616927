-- The calls on a plant in memory fail as planned.
use Rattle.std.specs.Prelude.{◌≡◌, ℕ, ◌+◌, ◌-◌, ◌^◌, min, if◌then◌else◌, IsTrue, drop, Result, Ok, Err, IsErr, IsErrOf}
use Rattle.port_io.specs.declared.ports.Failed.{Failed as CallFailed}
use Rattle.port_io.specs.Causes.{faults_after}
use Rattle.port_io.specs.Planned.{next_fails}
use Rattle.plant_dev.specs.declared.failures.Failing.{Failing}
use Rattle.plant_dev.specs.declared.failures.Failing.TheVariants as failing
use Rattle.plant_dev.specs.declared.memory.MemoryPlant.{MemoryPlant}
use Rattle.plant_dev.specs.declared.plant.ShelfFault.{ShelfFault}
use Rattle.plant_dev.specs.declared.plant.ShelfFault.TheVariants.{Failed, NoMemory}
use Rattle.plant_dev.specs.declared.plant.Stored.{Stored}
use Rattle.plant_dev.specs.Disk.{State, Reads, Shelves}
use Rattle.plant_dev.specs.Shelf.{Puts}
use Rattle.plant_dev.specs.MemoryState.{state_of, starved_of, calls_ahead, folder_plans}

-- A call on the file fails where that is planned, and else for want of memory alone. Each failure is counted.
pub record FileFailsAsPlanned {T : Type 0} (old after : MemoryPlant) (result : Result T CallFailed) : Type 0 where
  pub planned : IsTrue (next_fails (calls_ahead old)) → IsErr result
  pub starved : starved_of after ≡ (if next_fails (calls_ahead old) then starved_of old else faults_after result (starved_of old))
  pub disk_faults : (state_of after).disk_faults ≡ faults_after result (state_of old).disk_faults
  pub shelf_faults : (state_of after).shelf_faults ≡ (state_of old).shelf_faults
  pub calls : calls_ahead after ≡ drop 1 (calls_ahead old)
  pub folders : folder_plans after ≡ folder_plans old

-- the count of shelf faults behind this answer
abbrev pub shelf_faults_after : {T : Type 0} → Result T ShelfFault → ℕ → ℕ
shelf_faults_after (Ok _) before = before
shelf_faults_after (Err Failed) before = min (before + 1) (2 ^ 64 - 1)
shelf_faults_after (Err NoMemory) before = before

-- A call on the shelf fails where that is planned, and each failure is counted.
pub record ShelfFailsAsPlanned {T : Type 0} (old after : MemoryPlant) (result : Result T ShelfFault) : Type 0 where
  pub planned : IsTrue (next_fails (calls_ahead old)) → IsErrOf result Failed
  pub shelf_faults : (state_of after).shelf_faults ≡ shelf_faults_after result (state_of old).shelf_faults
  pub disk_faults : (state_of after).disk_faults ≡ (state_of old).disk_faults
  pub starved : starved_of after ≡ starved_of old
  pub calls : calls_ahead after ≡ drop 1 (calls_ahead old)
  pub folders : folder_plans after ≡ folder_plans old

-- what a put does whose folder's puts fail so, where the call itself isn't planned to fail
abbrev pub PutsAsPlanned : Failing → Stored → Result (Unit {0}) ShelfFault → State → State → Type 0
PutsAsPlanned failing.Never item result old after = IsErrOf result Failed → ⊥
PutsAsPlanned failing.Absent item result old after = IsErrOf result Failed × Reads old after
PutsAsPlanned failing.Stored item result old after = IsErr result × (IsErrOf result Failed → Shelves (Puts item) old after)
