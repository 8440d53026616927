-- What a plant in memory reads as and what a crash may leave of it, from what it began with and its steps since.
use Rattle.std.specs.Prelude.{◌≡◌, ◌⊎◌, ℕ, ◌+◌, ◌-◌, ◌≤◌, ◌^◌, nat_lt, Bool, true, IsTrue, List, [], ◌∷◌, ◌++◌, length, take, drop, replicate, Option, Some, None, Vec}
use Rattle.std.specs.declared.alloc.Global.{Global}
use Rattle.plant_dev.specs.declared.plant.Stored.{Stored}
use Rattle.plant_dev.specs.declared.step.Step.{Step}
use Rattle.plant_dev.specs.declared.step.Step.TheVariants as steps
use Rattle.plant_dev.specs.Shelf.{Has}
use Rattle.plant_dev.specs.Disk.{State, Image, OnFile, Torn, Only}

-- the file with these bytes at this place, and zeros between an old end and them
abbrev pub put_at : ℕ → List ℕ → List ℕ → List ℕ
put_at at bytes file = take at file ++ replicate (at - length file) 0 ++ bytes ++ drop (at + length bytes) file

-- the file after these steps, the newest first
abbrev pub file_after : List ℕ → List Step → List ℕ
file_after first [] = first
file_after first (steps.Write at bytes ∷ past) = put_at at bytes (file_after first past)
file_after first (steps.Sync ∷ past) = file_after first past
file_after first (steps.Put item ∷ past) = file_after first past

-- and the shelf
abbrev pub shelf_after : List Stored → List Step → List Stored
shelf_after first [] = first
shelf_after first (steps.Write at bytes ∷ past) = shelf_after first past
shelf_after first (steps.Sync ∷ past) = shelf_after first past
shelf_after first (steps.Put item ∷ past) = shelf_after first past ++ item ∷ []

-- What a crash after these steps may leave, the newest first: a write may be cut short, a sync leaves the file
-- as it is read, and a put stands.
abbrev pub IsImage : Image → List Step → Image → Type 0
IsImage first [] c = c ≡ first
IsImage first (steps.Write at bytes ∷ past) c = (d : Image) × IsImage first past d × OnFile (Torn at (length bytes)) d c
IsImage first (steps.Sync ∷ past) c = IsImage first past c × (c.file ≡ file_after first.file past)
IsImage first (steps.Put item ∷ past) c = (d : Image) × IsImage first past d × (c ≡ record { file = d.file; shelf = d.shelf ++ item ∷ [] })

-- what a crash since t may have left: some of the newest steps were still to come
abbrev pub HasLeft : Image → List Step → ℕ → Image → Type 0
HasLeft first past t c = (k : ℕ) × (t + k ≤ length past) × IsImage first (drop k past) c

-- what no image depends on
pub record Rest : Type 0 where
  pub disk_faults : ℕ
  pub shelf_faults : ℕ

-- a plant in memory: what it began with, what it reads as, and its steps since, the newest first
abbrev pub memory_state : Image → Image → List Step → Rest → State
memory_state first image past rest = record {
  honest = true;
  image = image;
  moment = length past;
  left_since = HasLeft first past;
  told_shelf = Some image.shelf;
  disk_faults = rest.disk_faults;
  shelf_faults = rest.shelf_faults;
}

-- a plant as after a restart: a crash leaves what is read, and nothing has failed
pub record IsFresh (s : State) : Type 0 where
  pub honest : IsTrue s.honest
  pub told : s.told_shelf ≡ Some s.image.shelf
  pub only : Only s
  pub disk_faults : s.disk_faults ≡ 0
  pub shelf_faults : s.shelf_faults ≡ 0

-- A write ends below 2^64.
abbrev pub fits : Step → Bool
fits (steps.Write at bytes) = nat_lt (at + length bytes) (2 ^ 64)
fits steps.Sync = true
fits (steps.Put item) = true

-- the first file, which is the one that is read until a copy of it is kept
abbrev pub first_file_of : Option (Vec ℕ Global) → Vec ℕ Global → List ℕ
first_file_of None file = file.items
first_file_of (Some first) file = first.items

-- The item was there, or a step puts it.
abbrev pub IsAdded : Stored → Image → Image → List Step → List Step → Type 0
IsAdded item image image' past past' =
    (Has item.folder item.name image.shelf × (image' ≡ image) × (past' ≡ past))
    ⊎ ((Has item.folder item.name image.shelf → ⊥) × (image' ≡ record { file = image.file; shelf = image.shelf ++ item ∷ [] }) × (past' ≡ steps.Put item ∷ past))
