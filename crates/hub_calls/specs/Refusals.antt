-- Which refusals the calls of an office give, and what stands behind one.
use Rattle.std.specs.Prelude.{ℕ, ◌≤◌, Bool, true, false, Result, IsErrOf}
use Rattle.port_io.specs.Causes.{Rose}
use Rattle.hub_calls.specs.declared.office.OfficeCall.{OfficeCall}
use Rattle.hub_calls.specs.declared.office.OfficeCall.TheVariants as calls
use Rattle.hub_calls.specs.declared.fault.HubFault.{HubFault}
use Rattle.hub_calls.specs.declared.fault.HubFault.TheVariants as faults

-- Whether a call gives this refusal. No call of an office has a queue that is full.
abbrev pub can_refuse : OfficeCall → HubFault → Bool
can_refuse call faults.DiskFault = true
can_refuse call faults.NoMemory = true
can_refuse call (faults.NotALog at) = true
can_refuse call (faults.DeskFull taken) = true
can_refuse calls.Organise (faults.Org fault) = true
can_refuse calls.Organise (faults.LogFull length) = true
can_refuse calls.Organise (faults.EpochsFull live) = true
can_refuse calls.Decide faults.NoSuchApproval = true
can_refuse calls.Decide (faults.LogFull length) = true
can_refuse calls.Turn (faults.LogFull length) = true
can_refuse calls.List faults.ShelfFault = true
can_refuse calls.Fetch faults.NoSuchItem = true
can_refuse calls.Fetch faults.ShelfFault = true
can_refuse call fault = false

-- A call refuses for the disk or the shelf only where that count rose in it, and no count falls.
pub record HasCauses {A : Type 0} (disks disks_now shelves shelves_now : ℕ) (answer : Result A HubFault) : Type 0 where
  pub disk : IsErrOf answer faults.DiskFault → Rose disks disks_now
  pub shelf : IsErrOf answer faults.ShelfFault → Rose shelves shelves_now
  pub disks_later : disks ≤ disks_now
  pub shelves_later : shelves ≤ shelves_now
