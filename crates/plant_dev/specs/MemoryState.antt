-- What contracts see of a plant in memory.
use Rattle.std.specs.Prelude.{ℕ, List, reverse}
use Rattle.plant_dev.specs.declared.memory.MemoryPlant.{MemoryPlant}
use Rattle.plant_dev.specs.declared.failures.FolderPlan.{FolderPlan}
use Rattle.plant_dev.specs.Disk.{State}
use Rattle.plant_dev.specs.Memory.{Rest, memory_state}
use Rattle.plant_dev.specs.History.{first_of, image_of, past_of}

abbrev pub rest_of : MemoryPlant → Rest
rest_of p = record { disk_faults = p.disk_faults; shelf_faults = p.shelf_faults }

abbrev pub state_of : MemoryPlant → State
state_of p = memory_state (first_of p.history) (image_of p.history) (past_of p.history) (rest_of p)

-- how many of its disk faults were want of memory
abbrev pub starved_of : MemoryPlant → ℕ
starved_of p = p.starved

-- a byte for each call to come: it fails where the byte is 1, and behind the last none does
abbrev pub calls_ahead : MemoryPlant → List ℕ
calls_ahead p = p.failures.calls

-- how folders fail, the newest plan first
abbrev pub folder_plans : MemoryPlant → List FolderPlan
folder_plans p = reverse p.failures.folders.items
