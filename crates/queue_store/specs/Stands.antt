-- What an image of log file and shelf stands for.
use Rattle.std.specs.Prelude.{◌≡◌, ◌⊎◌, List, [], ◌∷◌, ◌++◌}
use Rattle.mail_names.specs.declared.name.ItemName.{ItemName}
use Rattle.log_entry.specs.declared.entry.Entry.{Entry}
use Rattle.plant_dev.specs.declared.plant.Stored.{Stored}
use Rattle.plant_dev.specs.Disk.{State, Image, images}
use Rattle.plant_dev.specs.Shelf.{Has, HasNoNameTwice, item_of}
use Rattle.queue_disk.specs.Log.{FileOf}
use Rattle.hub_core.specs.Setup.{Setup}
use Rattle.hub_core.specs.declared.queue.QueuedItem.{QueuedItem}
use Rattle.hub_core.specs.Items.{items, Among, IsDelivered, IsHistory}

-- an item as it stands on the shelf
abbrev pub stored_of : QueuedItem → Stored
stored_of item = item_of item.folder item.name item.text

-- what stands on the shelf, as an item
abbrev pub item_from : Stored → QueuedItem
item_from stored = record { name = stored.name; folder = stored.folder; text = stored.bytes }

-- Each item on the shelf is one that the history prescribes, in its folder and with its bytes.
abbrev pub IsWithin : Setup → List Entry → List Stored → Type 0
IsWithin setup h [] = Unit {0}
IsWithin setup h (stored ∷ shelf) = Among (item_from stored) (items setup h) × IsWithin setup h shelf

-- The history prescribes an item of this name, and it is on the shelf in its folder.
pub record IsShelved (setup : Setup) (h : List Entry) (name : ItemName) (shelf : List Stored) : Type 0 where
  pub item : QueuedItem
  pub among : Among item (items setup h)
  pub named : item.name ≡ name
  pub there : Has item.folder item.name shelf

-- A shelf as a history leaves it: nothing is on it but what the history prescribes, no folder has a name twice, and what the
-- history says is delivered is there.
pub record IsShelfOf (setup : Setup) (h : List Entry) (shelf : List Stored) : Type 0 where
  pub history : IsHistory setup h
  pub within : IsWithin setup h shelf
  pub once : HasNoNameTwice shelf
  pub delivered : (name : ItemName) → IsDelivered name h → IsShelved setup h name shelf

-- The file is the log of a history under this setup, and the shelf is as the history leaves it.
pub record Stands (setup : Setup) (c : Image) (h : List Entry) : Type 0 where
  pub file : FileOf c.file h
  pub shelf : IsShelfOf setup h c.shelf

-- The image stands for the history, or for it with these entries behind it.
abbrev pub MayStand : Setup → List Entry → List Entry → Image → Type 0
MayStand setup h t c = Stands setup c h ⊎ Stands setup c (h ++ t)

-- Each image stands for the history, or for it with the entries behind it that a fault left open.
abbrev pub Settled : Setup → State → List Entry → List Entry → Type 0
Settled setup s h t = (c : Image) → images s c → MayStand setup h t c

-- the history, or it with the entries that were left open
abbrev pub IsOneOf : List Entry → List Entry → List Entry → Type 0
IsOneOf h t found = (found ≡ h) ⊎ (found ≡ h ++ t)
