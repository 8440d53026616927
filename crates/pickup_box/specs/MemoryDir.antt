-- What contracts see of a pickup folder in memory, and how its calls fail.
use Rattle.std.specs.Prelude.{◌≡◌, ◌↔◌, ℕ, ◌+◌, ◌-◌, ◌^◌, min, true, IsTrue, List, drop, Result, Ok, Err, IsErrOf}
use Rattle.port_io.specs.Planned.{next_fails}
use Rattle.pickup_box.specs.declared.folder.DirFault.{DirFault}
use Rattle.pickup_box.specs.declared.folder.DirFault.TheVariants.{Failed, NoMemory}
use Rattle.pickup_box.specs.declared.memory.MemoryDir.{MemoryDir}
use Rattle.pickup_box.specs.Folder.{Folder}

abbrev pub state_of : MemoryDir → Folder
state_of d = record { told = true; files = d.files.items; faults = d.faults }

-- a byte for each call to come: it fails where the byte is 1, and behind the last none does
abbrev pub calls_ahead : MemoryDir → List ℕ
calls_ahead d = d.calls

-- the count of faults behind this answer
abbrev pub faults_after : {T : Type 0} → Result T DirFault → ℕ → ℕ
faults_after (Ok _) before = before
faults_after (Err Failed) before = min (before + 1) (2 ^ 64 - 1)
faults_after (Err NoMemory) before = before

-- A call fails where that is planned and nowhere else, and each failure is counted.
pub record FailsAsPlanned {T : Type 0} (old after : MemoryDir) (result : Result T DirFault) : Type 0 where
  pub planned : IsErrOf result Failed ↔ IsTrue (next_fails (calls_ahead old))
  pub faults : (state_of after).faults ≡ faults_after result (state_of old).faults
  pub calls : calls_ahead after ≡ drop 1 (calls_ahead old)
