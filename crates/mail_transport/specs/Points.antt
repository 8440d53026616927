-- What a hub stands for between two calls, and what a crash may leave.
use Rattle.std.specs.Prelude.{◌≡◌, ◌⊎◌, ◌≤◌, ℕ, false, List, [], ◌∷◌, ◌++◌}
use Rattle.port_io.specs.Causes.{Rose, RoseBy}
use Rattle.log_entry.specs.declared.entry.Entry.{Entry}
use Rattle.plant_dev.specs.Disk.{State, Image, LeavesOnly}
use Rattle.queue_store.specs.Ready.{Kept, HubStands}
use Rattle.queue_store.specs.Stands.{Stands, MayStand, Settled, IsOneOf}
use Rattle.mail_transport.specs.HubSetup.{hub_setup}

-- The history that is settled, and the entries behind it that a disk fault left in doubt: the log has all of them or none.
pub record Point : Type 0 where
  pub settled : List Entry
  pub doubtful : List Entry

-- nothing is in doubt behind this history
abbrev pub sure : List Entry → Point
sure h = record { settled = h; doubtful = [] }

-- the history that is found there once the log is opened again
abbrev pub IsFound : Point → List Entry → Type 0
IsFound p found = IsOneOf p.settled p.doubtful found

-- A crash left this image there: it stands for the settled history, or for it with the doubtful entries.
abbrev pub IsLeftAt : Point → Image → Type 0
IsLeftAt p c = MayStand hub_setup p.settled p.doubtful c

abbrev pub IsLeftAtOne : List Point → Image → Type 0
IsLeftAtOne [] c = ⊥
IsLeftAtOne (p ∷ ps) c = IsLeftAt p c ⊎ IsLeftAtOne ps c

-- Whatever a crash now leaves, it stands for the point.
abbrev pub IsSettledAt : Point → State → Type 0
IsSettledAt p s = Settled hub_setup s p.settled p.doubtful

-- The points that a run has passed, the last of them and those before it, and how many of its calls met a disk fault.
pub record Trace : Type 0 where
  pub now : Point
  pub before : List Point
  pub faults : ℕ

-- A crash left this image within the run.
abbrev pub IsLeftWithin : Trace → Image → Type 0
IsLeftWithin t c = IsLeftAtOne (t.now ∷ t.before) c

-- A crash left this image on the way from one point to another: it stands for a history that goes on from the first of them and is a
-- front of the second.
pub record IsLeftBetween (p p' : Point) (c : Image) : Type 0 where
  pub reached : List Entry
  pub added : List Entry
  pub behind : List Entry
  pub begins : reached ≡ p.settled ++ added
  pub front : p'.settled ++ p'.doubtful ≡ reached ++ behind
  pub stands : Stands hub_setup c reached

-- The hub stands for a point. Nothing is pending in it where its log is open.
pub record StandsAt (s : State) (hub : Kept) (p : Point) : Type 0 where
  pub stands : HubStands hub_setup s hub p.settled p.doubtful
  pub whole : hub.broken ≡ false → p.doubtful ≡ []

-- It stands for the last point of a run that began when the plant was in state s0. Each fault that was told was counted.
pub record RunsAt (s0 s : State) (hub : Kept) (t : Trace) : Type 0 where
  pub at : StandsAt s hub t.now
  pub calm : (t.now.doubtful ≡ []) ⊎ Rose s0.disk_faults s.disk_faults
  pub later : s0.disk_faults ≤ s.disk_faults
  pub told : RoseBy t.faults s0.disk_faults s.disk_faults
  pub moments : LeavesOnly s0 s (IsLeftWithin t)

-- It went on from one trace to another, whose points those of the first are among.
pub record RunsOn (s0 s : State) (hub : Kept) (t t' : Trace) : Type 0 where
  pub runs : RunsAt s0 s hub t'
  pub longer : (c : Image) → IsLeftWithin t c → IsLeftWithin t' c
