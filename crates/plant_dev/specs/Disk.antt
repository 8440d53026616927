-- The disk model: what a plant reads as, what a crash may leave of it, and what each call does to both.
use Rattle.std.specs.Prelude.{◌≡◌, ◌⊎◌, ◌↔◌, ℕ, ◌+◌, ◌-◌, ◌≤◌, ◌<◌, min, max, Bool, List, length, take, drop, Option}
use Rattle.mail_names.specs.declared.name.ItemName.{ItemName}
use Rattle.plant_dev.specs.declared.plant.Stored.{Stored}
use Rattle.plant_dev.specs.Shelf.{Has}

-- the log file's bytes, and the items on the shelf, the first put first
pub record Image : Type 0 where
  pub file : List ℕ
  pub shelf : List Stored

-- what contracts see of a plant
pub record State : Type 1 where
  -- whether it keeps the disk model
  pub honest : Bool
  -- what it reads as
  pub image : Image
  -- a number that doesn't fall
  pub moment : ℕ
  -- what a crash at some moment from that one on might have left, during a call or between two
  pub left_since : ℕ → Image → Type 0
  -- the shelf, where the plant tells it
  pub told_shelf : Option (List Stored)
  pub disk_faults : ℕ
  pub shelf_faults : ℕ

-- what a crash now may leave
abbrev pub images : State → Image → Type 0
images s c = s.left_since s.moment c

-- an image that comes from one of these by this step
abbrev pub From : State → (Image → Image → Type 0) → Image → Type 0
From old step c = (d : Image) × images old d × step d c

-- Each new image comes from an old one by this step.
abbrev pub Follows : (Image → Image → Type 0) → State → State → Type 0
Follows step old after = (c : Image) → images after c → From old step c

-- an honest plant stays so, and no count falls
pub record Stays (old after : State) : Type 0 where
  pub honest : after.honest ≡ old.honest
  pub disk_faults : old.disk_faults ≤ after.disk_faults
  pub shelf_faults : old.shelf_faults ≤ after.shelf_faults

-- a crash since t might have left what it might have left before, or what it may leave now
pub record Elapses (old after : State) : Type 0 where
  pub later : old.moment ≤ after.moment
  pub nothing_else : (t : ℕ) (c : Image) → t ≤ old.moment → after.left_since t c → old.left_since t c ⊎ images after c
  pub keeps : (t : ℕ) (c : Image) → t ≤ old.moment → old.left_since t c → after.left_since t c

-- what is read stays, and a crash may leave nothing new
pub record Reads (old after : State) : Type 0 where
  pub image : after.image ≡ old.image
  pub crash : (c : Image) → images after c → images old c
  pub later : old.moment ≤ after.moment
  pub nothing_new : (t : ℕ) (c : Image) → t ≤ old.moment → after.left_since t c → old.left_since t c
  pub keeps : (t : ℕ) (c : Image) → t ≤ old.moment → old.left_since t c → after.left_since t c

-- bytes from a place on, at least one where the file goes on there
pub record Gives (file : List ℕ) (at : ℕ) (into : List ℕ) (count : ℕ) : Type 0 where
  pub bytes : take count into ≡ take count (drop at file)
  pub within : count ≤ length file - at
  pub some : at < length file → 0 < count

-- after a write of n bytes that is cut short: any bytes in its range and past the old end, the same elsewhere
pub record Torn (at n : ℕ) (old after : List ℕ) : Type 0 where
  pub front : take (min at (length old)) after ≡ take (min at (length old)) old
  pub back : drop (at + n) after ≡ drop (at + n) old
  pub no_shorter : length old ≤ length after
  pub no_longer : length after ≤ max (length old) (at + n)

-- the bytes stand there
abbrev pub Holds : ℕ → List ℕ → List ℕ → Type 0
Holds at bytes file = take (length bytes) (drop at file) ≡ bytes

-- a step that changes the file alone
pub record OnFile (step : List ℕ → List ℕ → Type 0) (old after : Image) : Type 0 where
  pub file : step old.file after.file
  pub shelf : after.shelf ≡ old.shelf

-- a write, whole or cut short
pub record Writes (at : ℕ) (bytes : List ℕ) (old after : State) : Type 0 where
  pub image : OnFile (Torn at (length bytes)) old.image after.image
  pub crash : Follows (OnFile (Torn at (length bytes))) old after
  pub time : Elapses old after

-- after a sync: each image has the file as it is read
abbrev pub Durable : State → Type 0
Durable after = (c : Image) → images after c → c.file ≡ after.image.file

-- a step that changes the shelf alone
pub record OnShelf (step : List Stored → List Stored → Type 0) (old after : Image) : Type 0 where
  pub file : after.file ≡ old.file
  pub shelf : step old.shelf after.shelf

-- a call that changes the shelf alone
pub record Shelves (step : List Stored → List Stored → Type 0) (old after : State) : Type 0 where
  pub image : OnShelf step old.image after.image
  pub crash : Follows (OnShelf step) old after
  pub time : Elapses old after

-- Each image has the item where the shelf that is read has it, and else none has.
abbrev pub Settles : List ℕ → ItemName → State → Type 0
Settles folder name after = (c : Image) → images after c → (Has folder name c.shelf ↔ Has folder name after.image.shelf)

-- nothing that contracts see has changed
pub record Same (old after : State) : Type 0 where
  pub reads : Reads old after
  pub honest : after.honest ≡ old.honest
  pub told : after.told_shelf ≡ old.told_shelf
  pub disk_faults : after.disk_faults ≡ old.disk_faults
  pub shelf_faults : after.shelf_faults ≡ old.shelf_faults

-- A crash leaves what is read, as after a restart.
abbrev pub Only : State → Type 0
Only s = (c : Image) → images s c → c ≡ s.image

-- A crash at any moment since old leaves an image that has P.
pub record LeavesOnly (old after : State) (P : Image → Type 0) : Type 0 where
  pub later : old.moment ≤ after.moment
  pub each : (c : Image) → after.left_since old.moment c → P c
  pub now : (c : Image) → images after c → P c
  -- for a run that began earlier
  pub before : (t : ℕ) (c : Image) → t ≤ old.moment → after.left_since t c → old.left_since t c ⊎ P c
