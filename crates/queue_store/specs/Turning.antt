-- What a call leaves, also where a fault had broken the log off and it is opened first.
use Rattle.std.specs.Prelude.{◌≡◌, ◌⊎◌, ℕ, Bool, true, List, [], ◌++◌, Result, Ok, Err}
use Rattle.port_io.specs.Causes.{RoseBy}
use Rattle.log_entry.specs.declared.entry.Entry.{Entry}
use Rattle.plant_dev.specs.Disk.{State, Image, LeavesOnly}
use Rattle.hub_core.specs.Setup.{Setup}
use Rattle.hub_core.specs.Standing.{Standing, standing}
use Rattle.queue_store.specs.declared.fault.HubFault.{HubFault}
use Rattle.queue_store.specs.declared.fault.HubFault.TheVariants as faults
use Rattle.queue_store.specs.Room.{Fits}
use Rattle.queue_store.specs.Stands.{Stands, MayStand}
use Rattle.queue_store.specs.Ready.{Kept, IsReady, IsBroken, IsOpened, Before, Grows, Leaves, Reaches, MidCall, MidBreak}
use Rattle.queue_store.specs.Calls.{count_tried, entries_turn, misses, EachTried}

-- an image of a moment of a call that first opens the log where it was broken off, and then adds these entries
abbrev pub MidRun : Setup → Bool → List Entry → List Entry → List Entry → List Entry → List Entry → Image → Type 0
MidRun setup broken h t kept pending es c = Before setup broken h t c ⊎ MidCall setup kept pending es c

-- All was added and settled.
pub record Done (setup : Setup) (broken : Bool) (s s' : State) (hub : Kept) (h t : List Entry) (mid : Standing) (es : List Entry) : Type 0 where
  pub kept : List Entry
  pub pending : List Entry
  pub opened : IsOpened broken h t kept pending
  pub state : mid ≡ standing setup (kept ++ pending)
  pub ready : IsReady setup s' hub ((kept ++ pending) ++ es) []
  pub fits : Fits setup.limits.log (kept ++ pending) es
  pub moments : LeavesOnly s s' (MidRun setup broken h t kept pending es)

-- The log could not be opened: all is as it was.
pub record NotOpened (setup : Setup) (broken : Bool) (s s' : State) (hub : Kept) (h t : List Entry) (fault : HubFault) : Type 0 where
  pub was : broken ≡ true
  pub why : (fault ≡ faults.DiskFault) ⊎ (fault ≡ faults.NoMemory)
  pub still : IsBroken setup s' hub h t
  pub moments : LeavesOnly s s' (MayStand setup h t)

-- A disk fault broke the call off: of its entries some are settled, some are left open, and the others are lost.
pub record Broke (setup : Setup) (broken : Bool) (s s' : State) (hub : Kept) (h t : List Entry) (mid : Standing) (es : List Entry) : Type 0 where
  pub kept : List Entry
  pub pending : List Entry
  pub opened : IsOpened broken h t kept pending
  pub state : mid ≡ standing setup (kept ++ pending)
  pub settled : List Entry
  pub left : List Entry
  pub lost : List Entry
  pub still : IsBroken setup s' hub settled left
  pub whole : (kept ++ pending) ++ es ≡ (settled ++ left) ++ lost
  pub within : Reaches kept pending es settled
  pub moments : LeavesOnly s s' (λ c. Before setup broken h t c ⊎ MidBreak setup kept pending es (settled ++ left) c)

-- The call stopped before the first of the entries that are left, by whether the log has room for it. All before it is settled.
pub record Short (setup : Setup) (broken : Bool) (s s' : State) (hub : Kept) (h t : List Entry) (mid : Standing) (es : List Entry) (fault : HubFault) : Type 0 where
  pub kept : List Entry
  pub pending : List Entry
  pub opened : IsOpened broken h t kept pending
  pub state : mid ≡ standing setup (kept ++ pending)
  pub added : List Entry
  pub left : List Entry
  pub whole : es ≡ added ++ left
  pub ready : IsReady setup s' hub ((kept ++ pending) ++ added) []
  pub fits : Fits setup.limits.log (kept ++ pending) added
  pub why : Leaves setup.limits.log ((kept ++ pending) ++ added) left fault
  pub moments : LeavesOnly s s' (MidRun setup broken h t kept pending added)

-- The call was refused for this reason, and added nothing.
pub record Refused (setup : Setup) (broken : Bool) (s s' : State) (hub : Kept) (h t : List Entry) (mid : Standing) (Why : List Entry → HubFault → Type 0) (fault : HubFault) : Type 0 where
  pub kept : List Entry
  pub pending : List Entry
  pub opened : IsOpened broken h t kept pending
  pub state : mid ≡ standing setup (kept ++ pending)
  pub ready : IsReady setup s' hub kept pending
  pub why : Why (kept ++ pending) fault
  pub moments : LeavesOnly s s' (λ c. Before setup broken h t c ⊎ Stands setup c kept)

-- how a call fails that adds its entries or none
abbrev pub FailsWhole : Setup → Bool → State → State → Kept → List Entry → List Entry → Standing → List Entry → (List Entry → HubFault → Type 0) → HubFault → Type 0
FailsWhole setup broken s s' hub h t mid es Why fault =
    NotOpened setup broken s s' hub h t fault
    ⊎ (((fault ≡ faults.DiskFault) × Broke setup broken s s' hub h t mid es) ⊎ Refused setup broken s s' hub h t mid Why fault)

-- how a call fails that may have added some of its entries, once the log was open
abbrev pub FailsOpened : Setup → Bool → State → State → Kept → List Entry → List Entry → Standing → List Entry → HubFault → Type 0
FailsOpened setup broken s s' hub h t mid es fault = ((fault ≡ faults.DiskFault) × Broke setup broken s s' hub h t mid es) ⊎ Short setup broken s s' hub h t mid es fault

abbrev pub FailsPartly : Setup → Bool → State → State → Kept → List Entry → List Entry → Standing → List Entry → HubFault → Type 0
FailsPartly setup broken s s' hub h t mid es fault = NotOpened setup broken s s' hub h t fault ⊎ FailsOpened setup broken s s' hub h t mid es fault

-- a call that leaves what it adds pending
abbrev pub Leads : {T : Type 0} → Setup → Bool → State → State → Kept → List Entry → List Entry → Standing → List Entry → (List Entry → HubFault → Type 0) → Result T HubFault → Type 0
Leads setup broken s s' hub h t mid es Why (Ok answer) = Grows setup broken s s' hub h t mid es
Leads setup broken s s' hub h t mid es Why (Err fault) = FailsWhole setup broken s s' hub h t mid es Why fault

-- one that settles it
abbrev pub LeadsSettled : {T : Type 0} → Setup → Bool → State → State → Kept → List Entry → List Entry → Standing → List Entry → (List Entry → HubFault → Type 0) → Result T HubFault → Type 0
LeadsSettled setup broken s s' hub h t mid es Why (Ok answer) = Done setup broken s s' hub h t mid es
LeadsSettled setup broken s s' hub h t mid es Why (Err fault) = FailsWhole setup broken s s' hub h t mid es Why fault

-- one that leaves its entries pending, unless it stops among them
abbrev pub LeadsOn : {T : Type 0} → Setup → Bool → State → State → Kept → List Entry → List Entry → Standing → List Entry → Result T HubFault → Type 0
LeadsOn setup broken s s' hub h t mid es (Ok answer) = Grows setup broken s s' hub h t mid es
LeadsOn setup broken s s' hub h t mid es (Err fault) = FailsPartly setup broken s s' hub h t mid es fault

-- A turn, where the puts went so. It tries each item that waits behind its moment, unless it stops before.
abbrev pub LeadsTurn : {T : Type 0} → Setup → Bool → State → State → Kept → List Entry → List Entry → Standing → ℕ → Result T HubFault → Type 0
LeadsTurn setup broken s s' hub h t mid clock (Ok answer) =
    (puts : List Bool) × EachTried (count_tried setup mid clock) puts s.shelf_faults s'.shelf_faults × Done setup broken s s' hub h t mid (entries_turn setup mid clock puts)
LeadsTurn setup broken s s' hub h t mid clock (Err fault) =
    (puts : List Bool) × RoseBy (misses puts) s.shelf_faults s'.shelf_faults × FailsPartly setup broken s s' hub h t mid (entries_turn setup mid clock puts) fault
