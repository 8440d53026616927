-- When a hub stands over a plant for a history.
use Rattle.std.specs.Prelude.{◌≡◌, ◌⊎◌, ℕ, true, false, Bool, IsTrue, List, [], ◌++◌}
use Rattle.log_entry.specs.declared.entry.Entry.{Entry}
use Rattle.log_entry.specs.declared.entry.Entry.TheVariants as entries
use Rattle.mail_names.specs.declared.name.ItemName.{ItemName}
use Rattle.plant_dev.specs.declared.plant.Stored.{Stored}
use Rattle.plant_dev.specs.Shelf.{Has}
use Rattle.plant_dev.specs.Disk.{State, Image, images, LeavesOnly}
use Rattle.queue_disk.specs.View.{LogView}
use Rattle.queue_disk.specs.Log.{IsOpen}
use Rattle.hub_core.specs.Setup.{Setup}
use Rattle.hub_core.specs.Standing.{Standing, standing}
use Rattle.hub_core.specs.Items.{IsStep}
use Rattle.queue_store.specs.declared.fault.HubFault.{HubFault}
use Rattle.queue_store.specs.declared.fault.HubFault.TheVariants as faults
use Rattle.queue_store.specs.Stands.{Stands, MayStand, Settled, IsShelfOf, IsShelved, IsOneOf}
use Rattle.queue_store.specs.Room.{Fits, IsFull}

-- what a hub keeps: the state of its history, its place in the log, whether a disk fault broke it off, and which opening of it this is
pub record Kept : Type 0 where
  pub state : Standing
  pub log : LogView
  pub broken : Bool
  pub opening : ℕ

-- The log is open: the entries h are settled, and the entries t are pending behind them. Each image stands for the settled
-- entries, and its shelf would be that of all. The hub keeps the state that all of them leave.
pub record IsReady (setup : Setup) (s : State) (hub : Kept) (h t : List Entry) : Type 0 where
  pub honest : IsTrue s.honest
  pub whole : hub.broken ≡ false
  pub state : hub.state ≡ standing setup (h ++ t)
  pub most : hub.log.most ≡ setup.limits.log
  pub log : IsOpen s hub.log h t
  pub now : (c : Image) → images s c → IsShelfOf setup h c.shelf
  pub then : (c : Image) → images s c → IsShelfOf setup (h ++ t) c.shelf
  pub image : images s s.image

-- A disk fault broke the log off, and is to be opened again: each image stands for the entries h, or for them with the entries t.
pub record IsBroken (setup : Setup) (s : State) (hub : Kept) (h t : List Entry) : Type 0 where
  pub honest : IsTrue s.honest
  pub broken : hub.broken ≡ true
  pub limits : hub.state.limits ≡ setup.limits
  pub settled : Settled setup s h t

-- The hub stands for a history over the plant: the entries h are settled, and the entries t are pending, or were left open by a
-- fault.
abbrev pub HubStands : Setup → State → Kept → List Entry → List Entry → Type 0
HubStands setup s hub h t = IsReady setup s hub h t ⊎ IsBroken setup s hub h t

-- A call added these entries, each within the log's limit. They are pending, and a crash at any moment of the call leaves what
-- was settled.
pub record Adds (setup : Setup) (s s' : State) (hub : Kept) (h t es : List Entry) : Type 0 where
  pub ready : IsReady setup s' hub h (t ++ es)
  pub fits : Fits setup.limits.log (h ++ t) es
  pub moments : LeavesOnly s s' (λ c. Stands setup c h)

-- A disk fault broke off a call that adds entries: nothing is pending any more.
pub record Breaks (setup : Setup) (s s' : State) (hub : Kept) (h : List Entry) : Type 0 where
  pub broken : IsBroken setup s' hub h []
  pub moments : LeavesOnly s s' (λ c. Stands setup c h)

-- what a call that stopped with a fault other than that of the disk says of the entries that are left
abbrev pub Leaves : ℕ → List Entry → List Entry → HubFault → Type 0
Leaves most h left faults.DiskFault = ⊥
Leaves most h left faults.NoMemory = Unit {0}
Leaves most h left (faults.QueueFull live bytes) = ⊥
Leaves most h left (faults.LogFull octets) = IsFull most h left octets
Leaves most h left (faults.NotALog at) = ⊥
Leaves most h left (faults.Org fault) = ⊥
Leaves most h left (faults.EpochsFull live) = ⊥
Leaves most h left faults.NoSuchApproval = ⊥

-- A call stopped with this fault, for this reason, before it added an entry.
pub record Declined (setup : Setup) (s s' : State) (hub : Kept) (h t : List Entry) (Why : HubFault → Type 0) (fault : HubFault) : Type 0 where
  pub ready : IsReady setup s' hub h t
  pub why : Why fault
  pub moments : LeavesOnly s s' (λ c. Stands setup c h)

-- A call that was to add entries stopped with this fault when some of them were added.
pub record Stops (setup : Setup) (s s' : State) (hub : Kept) (h t es : List Entry) (fault : HubFault) : Type 0 where
  pub added : List Entry
  pub left : List Entry
  pub whole : es ≡ added ++ left
  pub adds : Adds setup s s' hub h t added
  pub why : Leaves setup.limits.log ((h ++ t) ++ added) left fault

-- how a call ends that adds no entry: a disk fault broke it off, or it declined for this reason
abbrev pub FailsBy : Setup → State → State → Kept → List Entry → List Entry → (HubFault → Type 0) → HubFault → Type 0
FailsBy setup s s' hub h t Why fault = ((fault ≡ faults.DiskFault) × Breaks setup s s' hub h) ⊎ Declined setup s s' hub h t Why fault

-- by whether the log has room for the entries
abbrev pub Fails : Setup → State → State → Kept → List Entry → List Entry → List Entry → HubFault → Type 0
Fails setup s s' hub h t es fault = FailsBy setup s s' hub h t (Leaves setup.limits.log (h ++ t) es) fault

-- how a call ends that adds some of its entries
abbrev pub FailsLater : Setup → State → State → Kept → List Entry → List Entry → List Entry → HubFault → Type 0
FailsLater setup s s' hub h t es fault = ((fault ≡ faults.DiskFault) × Breaks setup s s' hub h) ⊎ Stops setup s s' hub h t es fault

-- What the hub stands for once its log is open, where it stood for h and t: for the same, unless the log was broken off, and then for
-- one of the two histories with nothing pending.
abbrev pub IsOpened : Bool → List Entry → List Entry → List Entry → List Entry → Type 0
IsOpened false h t kept pending = (kept ≡ h) × (pending ≡ t)
IsOpened true h t kept pending = IsOneOf h t kept × (pending ≡ [])

-- an image of a moment in which the log is opened where it was broken off, and left alone where it wasn't
abbrev pub Before : Setup → Bool → List Entry → List Entry → Image → Type 0
Before setup false h t c = Stands setup c h
Before setup true h t c = MayStand setup h t c

-- The log is open.
pub record Mended (setup : Setup) (broken : Bool) (s : State) (hub : Kept) (h t : List Entry) : Type 0 where
  pub kept : List Entry
  pub pending : List Entry
  pub opened : IsOpened broken h t kept pending
  pub ready : IsReady setup s hub kept pending

-- the log wasn't opened, or is open
abbrev pub StandsYet : Setup → Bool → State → Kept → List Entry → List Entry → Type 0
StandsYet setup broken s hub h t = HubStands setup s hub h t ⊎ Mended setup broken s hub h t

-- The log is open, it was in this state before the call added its entries, and they are pending. A crash at any moment of the call
-- leaves what was settled, or what a fault had left open with it.
pub record Grows (setup : Setup) (broken : Bool) (s s' : State) (hub : Kept) (h t : List Entry) (mid : Standing) (es : List Entry) : Type 0 where
  pub kept : List Entry
  pub pending : List Entry
  pub opened : IsOpened broken h t kept pending
  pub state : mid ≡ standing setup (kept ++ pending)
  pub ready : IsReady setup s' hub kept (pending ++ es)
  pub fits : Fits setup.limits.log (kept ++ pending) es
  pub moments : LeavesOnly s s' (Before setup broken h t)

-- what is settled at a moment of a call that adds these entries and settles some: what was, or all that the hub stood for and the
-- first of them
abbrev pub Reaches : List Entry → List Entry → List Entry → List Entry → Type 0
Reaches h t es k = (k ≡ h) ⊎ ((done : List Entry) × (left : List Entry) × (es ≡ done ++ left) × (k ≡ (h ++ t) ++ done))

-- an image of a moment of such a call
pub record MidCall (setup : Setup) (h t es : List Entry) (c : Image) : Type 0 where
  pub reached : List Entry
  pub within : Reaches h t es reached
  pub stands : Stands setup c reached

-- A call added these entries, and all is settled.
pub record Turns (setup : Setup) (s s' : State) (hub : Kept) (h t es : List Entry) : Type 0 where
  pub ready : IsReady setup s' hub ((h ++ t) ++ es) []
  pub fits : Fits setup.limits.log (h ++ t) es
  pub moments : LeavesOnly s s' (MidCall setup h t es)

-- an image of a moment of a call that was broken off where it had left no more than these
pub record MidBreak (setup : Setup) (h t es all : List Entry) (c : Image) : Type 0 where
  pub reached : List Entry
  pub behind : List Entry
  pub within : Reaches h t es reached
  pub front : all ≡ reached ++ behind
  pub stands : Stands setup c reached

-- A disk fault broke off a call that was to add entries and settle them. Of these, and of those that were pending before them, some
-- are settled, some are left open, and the others are lost.
pub record BreaksOff (setup : Setup) (s s' : State) (hub : Kept) (h t es : List Entry) : Type 0 where
  pub settled : List Entry
  pub left : List Entry
  pub lost : List Entry
  pub broken : IsBroken setup s' hub settled left
  pub whole : (h ++ t) ++ es ≡ (settled ++ left) ++ lost
  pub within : Reaches h t es settled
  pub moments : LeavesOnly s s' (MidBreak setup h t es (settled ++ left))

-- A call that was to add entries and settle them stopped before the first of those that are left, by whether the log has room for
-- it, and all before it is settled.
pub record StopsShort (setup : Setup) (s s' : State) (hub : Kept) (h t es : List Entry) (fault : HubFault) : Type 0 where
  pub added : List Entry
  pub left : List Entry
  pub whole : es ≡ added ++ left
  pub turns : Turns setup s s' hub h t added
  pub why : Leaves setup.limits.log ((h ++ t) ++ added) left fault

abbrev pub TurnStops : Setup → State → State → Kept → List Entry → List Entry → List Entry → HubFault → Type 0
TurnStops setup s s' hub h t es fault = ((fault ≡ faults.DiskFault) × BreaksOff setup s s' hub h t es) ⊎ StopsShort setup s s' hub h t es fault

-- how a call ends that adds its entries and settles them, or adds none for this reason
abbrev pub FailsSettling : Setup → State → State → Kept → List Entry → List Entry → List Entry → (HubFault → Type 0) → HubFault → Type 0
FailsSettling setup s s' hub h t es Why fault = ((fault ≡ faults.DiskFault) × BreaksOff setup s s' hub h t es) ⊎ Declined setup s s' hub h t Why fault

-- What was pending where a call stopped with one fault is settled, and that fault is answered. Or the disk failed, and its fault is.
abbrev pub SettlesRest : Setup → State → Kept → List Entry → List Entry → HubFault → HubFault → Type 0
SettlesRest setup s' hub h t fault answer = ((answer ≡ fault) × IsReady setup s' hub (h ++ t) []) ⊎ ((answer ≡ faults.DiskFault) × IsBroken setup s' hub h t)

-- A delivery is told only of an item that is on the shelf.
abbrev pub IsTrueOf : Setup → List Entry → Entry → List Stored → Type 0
IsTrueOf setup h (entries.Delivered name) shelf = IsShelved setup h name shelf
IsTrueOf setup h (entries.Organised directory rules) shelf = Unit {0}
IsTrueOf setup h (entries.Accepted moment submission) shelf = Unit {0}
IsTrueOf setup h (entries.Categorised number release plan) shelf = Unit {0}
IsTrueOf setup h (entries.Decided name by verdict moment) shelf = Unit {0}
IsTrueOf setup h (entries.Moment moment) shelf = Unit {0}
IsTrueOf setup h (entries.Delayed name) shelf = Unit {0}
IsTrueOf setup h (entries.Ended name) shelf = Unit {0}
IsTrueOf setup h (entries.Forgot number) shelf = Unit {0}

-- each image has an item of this folder and name
abbrev pub EachHas : List ℕ → ItemName → State → Type 0
EachHas folder name s = (c : Image) → images s c → Has folder name c.shelf

-- The entry can stand behind the history, over the shelf of each image.
pub record Follows (setup : Setup) (s : State) (h : List Entry) (entry : Entry) : Type 0 where
  pub step : IsStep setup h entry
  pub told : (c : Image) → images s c → IsTrueOf setup h entry c.shelf
