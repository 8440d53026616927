-- What the commands do.
use Rattle.std.specs.Prelude.{◌≡◌, ◌⊎◌, ◌+◌, ℕ, Bool, false, List, [], ◌∷◌, ◌++◌, Option, codes, bytes_eq}
use Rattle.std.specs.Io.KnownBytes.{Appends, Consumes}
use Rattle.port_io.specs.Causes.{Rose, RoseBy}
use Rattle.port_io.specs.Told.{Gave}
use Rattle.log_entry.specs.declared.entry.Entry.{Entry}
use Rattle.plant_dev.specs.Disk.{State, LeavesOnly}
use Rattle.hub_core.specs.Standing.{Standing, standing}
use Rattle.queue_store.specs.declared.fault.HubFault.{HubFault}
use Rattle.queue_store.specs.declared.fault.HubFault.TheVariants as faults
use Rattle.queue_store.specs.Room.{Fits, IsFull}
use Rattle.queue_store.specs.Opening.{IsLogOf, OpenFault}
use Rattle.queue_store.specs.Stands.{Stands}
use Rattle.queue_store.specs.Calls.{after_entries, count_tried, entries_categorise, entries_turn, misses, EachTried}
use Rattle.smtp_front.specs.declared.session_end.SessionEnd.{SessionEnd}
use Rattle.smtp_front.specs.declared.session_end.SessionEnd.TheVariants as ends
use Rattle.smtp_front.specs.Sessions.{Spoke}
use Rattle.org_check.specs.declared.checking.CheckEnd.{CheckEnd}
use Rattle.org_check.specs.declared.checking.CheckEnd.TheVariants as checks
use Rattle.org_check.specs.Check.{Checks}
use Rattle.mail_transport.specs.declared.status.Status.{Status}
use Rattle.mail_transport.specs.declared.status.Status.TheVariants as statuses
use Rattle.mail_transport.specs.Points.{Point, Trace, sure, IsFound, IsLeftAt, IsLeftWithin, IsLeftBetween, IsSettledAt}
use Rattle.mail_transport.specs.Answers.{RunGives}
use Rattle.mail_transport.specs.HubSetup.{hub_setup}

-- All is categorised, and then comes a turn at this clock, in which the puts went so.
abbrev pub entries_finish : Standing → ℕ → List Bool → List Entry
entries_finish s clock puts =
    entries_categorise hub_setup s ++ entries_turn hub_setup (after_entries hub_setup s (entries_categorise hub_setup s)) clock puts

-- how many items that turn tries
abbrev pub count_finish : Standing → ℕ → ℕ
count_finish s clock = count_tried hub_setup (after_entries hub_setup s (entries_categorise hub_setup s)) clock

-- All was categorised and a turn was made: their entries are settled behind the history that was found, each had room in the log, and
-- each item that waited was tried, the count of the shelf's faults having risen for each whose put failed.
pub record Turned (p p' : Point) (then now : ℕ → Option ℕ) (faults faults' : ℕ) : Type 0 where
  pub found : List Entry
  pub is_found : IsFound p found
  pub turn : ℕ
  pub puts : List Bool
  pub clock : Gave then now (turn ∷ [])
  pub fits : Fits hub_setup.limits.log found (entries_finish (standing hub_setup found) turn puts)
  pub tried : EachTried (count_finish (standing hub_setup found) turn) puts faults faults'
  pub end : p' ≡ sure (found ++ entries_finish (standing hub_setup found) turn puts)

-- Categorising or the turn was cut short: some of their entries are settled behind the history that was found, and the others are left
-- for a reason.
pub record CutShort (p p' : Point) (then now : ℕ → Option ℕ) (faults faults' : ℕ) (Why : List Entry → List Entry → Type 0) : Type 0 where
  pub found : List Entry
  pub is_found : IsFound p found
  pub turn : ℕ
  pub puts : List Bool
  pub added : List Entry
  pub left : List Entry
  pub clock : Gave then now [] ⊎ Gave then now (turn ∷ [])
  pub whole : entries_finish (standing hub_setup found) turn puts ≡ added ++ left
  pub fits : Fits hub_setup.limits.log found added
  pub why : Why (found ++ added) left
  pub missed : RoseBy (misses puts) faults faults'
  pub end : p' ≡ sure (found ++ added)

-- A disk fault broke it off: of its entries some are settled, some are in doubt, and the others are lost.
pub record BrokeOff (p p' : Point) (then now : ℕ → Option ℕ) (faults faults' : ℕ) : Type 0 where
  pub found : List Entry
  pub is_found : IsFound p found
  pub turn : ℕ
  pub puts : List Bool
  pub added : List Entry
  pub lost : List Entry
  pub clock : Gave then now [] ⊎ Gave then now (turn ∷ [])
  pub settled : p'.settled ≡ found ++ added
  pub whole : found ++ entries_finish (standing hub_setup found) turn puts ≡ (p'.settled ++ p'.doubtful) ++ lost
  pub missed : RoseBy (misses puts) faults faults'

-- The log, which a disk fault had broken off, could not be opened again.
pub record NotBegun (p p' : Point) (then now : ℕ → Option ℕ) : Type 0 where
  pub clock : Gave then now []
  pub end : p' ≡ p

-- memory ran out
abbrev pub Starved : List Entry → List Entry → Type 0
Starved h left = Unit {0}

-- the next entry has no room in the log
abbrev pub Overfull : List Entry → List Entry → Type 0
Overfull h left = (octets : ℕ) × IsFull hub_setup.limits.log h left octets

-- what followed a session that was read to its end or to QUIT, by the status
abbrev pub Finishes : Point → Point → (ℕ → Option ℕ) → (ℕ → Option ℕ) → ℕ → ℕ → Status → Type 0
Finishes p p' then now faults faults' statuses.Done = Turned p p' then now faults faults'
Finishes p p' then now faults faults' statuses.NoMemory = NotBegun p p' then now ⊎ CutShort p p' then now faults faults' Starved
Finishes p p' then now faults faults' statuses.LogFull = CutShort p p' then now faults faults' Overfull
Finishes p p' then now faults faults' statuses.DiskFault = NotBegun p p' then now ⊎ BrokeOff p p' then now faults faults'
Finishes p p' then now faults faults' status = ⊥

-- The status of a call that the hub refused. Only a submission meets a full queue, and no command has an organisation or decides
-- yet.
abbrev pub fault_status : HubFault → Status
fault_status faults.DiskFault = statuses.DiskFault
fault_status faults.NoMemory = statuses.NoMemory
fault_status (faults.QueueFull live bytes) = statuses.NoMemory
fault_status (faults.Org fault) = statuses.NoMemory
fault_status (faults.EpochsFull live) = statuses.NoMemory
fault_status faults.NoSuchApproval = statuses.NoMemory
fault_status (faults.LogFull octets) = statuses.LogFull
fault_status (faults.NotALog at) = statuses.NotALog

-- the status of a session that ended otherwise
abbrev pub status_of : SessionEnd → Status
status_of ends.Quit = statuses.Done
status_of ends.EndOfInput = statuses.Done
status_of ends.Cut = statuses.Cut
status_of ends.SourceFault = statuses.SourceFault
status_of ends.SinkFault = statuses.SinkFault
status_of ends.NoMemory = statuses.NoMemory
status_of ends.LogFull = statuses.LogFull
status_of (ends.NotALog at) = statuses.NotALog
status_of ends.DeskFull = statuses.NoMemory
status_of ends.TooLong = statuses.TooLong

-- Nothing follows.
pub record Stops (p p' : Point) (then now : ℕ → Option ℕ) (end : SessionEnd) (status : Status) : Type 0 where
  pub status_is : status ≡ status_of end
  pub clock : Gave then now []
  pub same : p' ≡ p

-- what follows a session that ended so
abbrev pub Ends : SessionEnd → Point → Point → (ℕ → Option ℕ) → (ℕ → Option ℕ) → ℕ → ℕ → Status → Type 0
Ends ends.Quit p p' then now faults faults' status = Finishes p p' then now faults faults' status
Ends ends.EndOfInput p p' then now faults faults' status = Finishes p p' then now faults faults' status
Ends end p p' then now faults faults' status = Stops p p' then now end status

-- the exit status of the process
abbrev pub code_of : Status → ℕ
code_of statuses.Done = 0
code_of statuses.Usage = 1
code_of statuses.NoMemory = 2
code_of statuses.DiskFault = 3
code_of statuses.SourceFault = 4
code_of statuses.SinkFault = 5
code_of statuses.NotALog = 6
code_of statuses.Cut = 7
code_of statuses.BadOrganisation = 9
code_of statuses.LogFull = 10
code_of statuses.TooLong = 11

-- whether a status tells a disk fault
abbrev pub fault_told : Status → ℕ
fault_told statuses.DiskFault = 1
fault_told status = 0

-- What a part of a run leaves, by its status: the plant is settled for its last point, in which nothing is in doubt but what a disk
-- fault left, now or before.
pub record Leaves (p p' : Point) (s s' : State) (status : Status) : Type 0 where
  pub settled : IsSettledAt p' s'
  pub calm : (p'.doubtful ≡ []) ⊎ ((p' ≡ p) ⊎ (status ≡ statuses.DiskFault))
  pub moments : LeavesOnly s s' (λ c. IsLeftAt p c ⊎ IsLeftBetween p p' c)

-- A run of the command from what the plant stood for: the log was opened, a session was spoken, whose submissions the history answers,
-- and then came what follows it.
pub record Ran (start : Point) (s s' : State) (old now : ℕ → Option ℕ) (taken taken' before left : Option (List ℕ)) (status : Status) : Type 0 where
  pub found : List Entry
  pub is_found : IsFound start found
  pub reads : Stands hub_setup s.image found
  pub end : SessionEnd
  pub trace : Trace
  pub then : ℕ → Option ℕ
  pub spoke : Spoke RunGives (record { now = sure found; before = start ∷ []; faults = 0 }) trace old then taken taken' before left end
  pub last : Point
  pub rest : Ends end trace.now last then now s.shelf_faults s'.shelf_faults status
  -- The plant is settled for the last point, where nothing is in doubt unless a disk fault was counted.
  pub settled : IsSettledAt last s'
  pub calm : (last.doubtful ≡ []) ⊎ Rose s.disk_faults s'.disk_faults
  -- Whatever a crash leaves at any moment of the call stands for a point that the run has passed, or for one on the way to the last.
  pub moments : LeavesOnly s s' (λ c. IsLeftWithin trace c ⊎ IsLeftBetween trace.now last c)
  -- Each fault that was told was counted.
  pub told : RoseBy (trace.faults + fault_told status) s.disk_faults s'.disk_faults

-- The log could not be opened: the disk failed, or memory ran out. The plant stands for what it stood for, and nothing was read or said.
pub record NotOpened (start : Point) (s s' : State) (old now : ℕ → Option ℕ) (taken taken' before left : Option (List ℕ)) (status : Status) : Type 0 where
  pub why : ((status ≡ statuses.DiskFault) × Rose s.disk_faults s'.disk_faults) ⊎ (status ≡ statuses.NoMemory)
  pub settled : IsSettledAt start s'
  pub moments : LeavesOnly s s' (IsLeftAt start)
  pub clock : Gave old now []
  pub sink : Appends taken taken' []
  pub source : Consumes before left []

-- The file is the log of a history, or of none.
abbrev pub IsLog : List ℕ → Type 0
IsLog file = (s : Standing) × IsLogOf hub_setup file s

abbrev pub IsNoLog : List ℕ → Type 0
IsNoLog file = (at : ℕ) × OpenFault hub_setup file (faults.NotALog at)

-- No session was begun: the file is none, which the status tells, or a fault came. Nothing was read or said.
pub record NotBegunOn (file : List ℕ) (old now : ℕ → Option ℕ) (taken taken' before left : Option (List ℕ)) (status : Status) : Type 0 where
  pub why : ((status ≡ statuses.NotALog) × IsNoLog file) ⊎ ((status ≡ statuses.DiskFault) ⊎ (status ≡ statuses.NoMemory))
  pub clock : Gave old now []
  pub sink : Appends taken taken' []
  pub source : Consumes before left []

-- the words are the command
abbrev pub is_session : List (List ℕ) → Bool
is_session [] = false
is_session (word ∷ []) = bytes_eq word (codes "session")
is_session (word ∷ other ∷ words) = false

abbrev pub is_check : List (List ℕ) → Bool
is_check [] = false
is_check (word ∷ []) = bytes_eq word (codes "check")
is_check (word ∷ other ∷ words) = false

-- the status of a check that ended so
abbrev pub status_of_check : CheckEnd → Status
status_of_check checks.Passed = statuses.Done
status_of_check checks.Refused = statuses.BadOrganisation
status_of_check checks.NoMemory = statuses.NoMemory
status_of_check checks.SourceFault = statuses.SourceFault
status_of_check checks.SinkFault = statuses.SinkFault
status_of_check checks.TooLong = statuses.TooLong

-- A whole run of the command `check`: of the text that it took of the source, it said what its definition says.
pub record Checked (before left taken now : Option (List ℕ)) (status : Status) : Type 0 where
  pub end : CheckEnd
  pub text : List ℕ
  pub took : Consumes before left text
  pub checks : Checks text left taken now end
  pub status_is : status ≡ status_of_check end

-- the usage line
abbrev pub usage_text : List ℕ
usage_text = codes "usage: transport_cli session|turn [--workers N]|admin|check|make N [--workers W]" ++ 10 ∷ []
