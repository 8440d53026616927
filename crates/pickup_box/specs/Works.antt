-- The work on the files of a pickup folder, one after another. In each definition the intake goes from a to b, the
-- clock's moments from old to new, and the folder from d to e.
use Rattle.std.specs.Prelude.{◌≡◌, ℕ, ◌+◌, Bool, true, false, IsTrue, if◌then◌else◌, List, [], ◌∷◌, ◌++◌, length, bytes_eq, IsSome, Option, Some, None, unwrap_or, Result, Ok, Err}
use Rattle.std.specs.List.{flat_map}
use Rattle.port_io.specs.Told.{Gave}
use Rattle.mail_submission.specs.Submission.{Submitted}
use Rattle.mail_submission.specs.declared.intake.Accepted.{Accepted}
use Rattle.mail_submission.specs.declared.intake.IntakeFault.{IntakeFault}
use Rattle.mail_submission.specs.declared.intake.IntakeFault.TheVariants as faults
use Rattle.mail_submission.specs.declared.intake.NumberFault.{NumberFault}
use Rattle.mail_submission.specs.declared.intake.NumberFault.TheVariants as number_faults
use Rattle.mail_submission.specs.declared.intake.IntakeStep.{IntakeStep}
use Rattle.mail_submission.specs.declared.intake.IntakeStep.TheVariants as steps
use Rattle.pickup_box.specs.FileNames.{begun_stem, new_stem, is_begun, begun_name, bad_name}
use Rattle.pickup_box.specs.Folder.{File, Folder, bytes_in, Tells}
use Rattle.pickup_box.specs.PickupOf.{pickup_of}
use Rattle.pickup_box.specs.declared.taking.PickupFault.{PickupFault}
use Rattle.pickup_box.specs.declared.taking.PickupFault.TheVariants as causes
use Rattle.pickup_box.specs.declared.taking.Halt.{Halt}
use Rattle.pickup_box.specs.declared.taking.PickupEnd.{PickupEnd}
use Rattle.pickup_box.specs.declared.taking.Halt.TheVariants as halts
use Rattle.pickup_box.specs.declared.taking.Fate.{Fate}
use Rattle.pickup_box.specs.declared.taking.Fate.TheVariants as fates

-- what the files have, by their names, without the file of this name
abbrev pub gone : List ℕ → (List ℕ → Option (List ℕ)) → List ℕ → Option (List ℕ)
gone name files n = if bytes_eq n name then None else files n

-- the same where the file of the first name has got the second, in the place of one that had it
abbrev pub moved : List ℕ → List ℕ → (List ℕ → Option (List ℕ)) → List ℕ → Option (List ℕ)
moved name to files n = if bytes_eq n to then files name else (if bytes_eq n name then None else files n)

-- The files change so.
abbrev pub Becomes : ((List ℕ → Option (List ℕ)) → List ℕ → Option (List ℕ)) → List File → List File → Type 0
Becomes change old new = (n : List ℕ) → bytes_in new n ≡ change (bytes_in old) n

-- the stem of a file that is worked on
abbrev pub stem_of : List ℕ → List ℕ
stem_of name = unwrap_or (begun_stem name) (unwrap_or (new_stem name) [])

-- The mark of a file that was begun is its name. That of a new one is the name under which it is begun.
abbrev pub mark_of : List ℕ → ℕ → List ℕ
mark_of name number = if is_begun name then name else begun_name (stem_of name) number

-- A file whose work is done: its name and its bytes, the number that a new one got, and, where it wasn't bad, the
-- clock's moment and what the intake answered. Where it was begun, or bad, the others don't count.
pub record Work : Type 0 where
  pub name : List ℕ
  pub bytes : List ℕ
  pub number : ℕ
  pub moment : ℕ
  pub accepted : Accepted

-- what the file stands for
abbrev pub submission : Work → Option Submitted
submission w = pickup_of (mark_of w.name w.number) w.bytes

-- The number of a new file is asked.
abbrev pub numbers : List ℕ → Result ℕ NumberFault → List IntakeStep
numbers name answer = if is_begun name then [] else steps.NextNumber answer ∷ []

-- A file that isn't bad is submitted.
abbrev pub submits : Option Submitted → ℕ → Result Accepted IntakeFault → List IntakeStep
submits None moment answer = []
submits (Some s) moment answer = steps.Submit s moment answer ∷ []

-- The clock gives the moment for it.
abbrev pub ticks : Option Submitted → ℕ → List ℕ
ticks None moment = []
ticks (Some s) moment = moment ∷ []

-- the intake's steps and the clock's moments for a file
abbrev pub asked : Work → List IntakeStep
asked w = numbers w.name (Ok w.number) ++ submits (submission w) w.moment (Ok w.accepted)

abbrev pub ticked : Work → List ℕ
ticked w = ticks (submission w) w.moment

-- what became of a file, by what it stands for and what the intake answered
abbrev pub fate_of : Option Submitted → Accepted → Fate
fate_of None accepted = fates.Bad
fate_of (Some s) accepted = if accepted.repeat then fates.Repeat else fates.New

abbrev pub fate : Work → Fate
fate w = fate_of (submission w) w.accepted

abbrev pub is_new_one : Fate → Bool
is_new_one fates.Bad = false
is_new_one fates.New = true
is_new_one fates.Repeat = false

abbrev pub is_bad_one : Fate → Bool
is_bad_one fates.Bad = true
is_bad_one fates.New = false
is_bad_one fates.Repeat = false

-- the counts once one more file is done
abbrev pub counted : PickupEnd → Fate → PickupEnd
counted end fates.Bad = record end { bad = end.bad + 1 }
counted end fates.New = record end { accepted = end.accepted + 1 }
counted end fates.Repeat = end

-- A bad file gets its stem's bad name, and one that was submitted goes.
abbrev pub put : Option Submitted → List ℕ → List ℕ → (List ℕ → Option (List ℕ)) → List ℕ → Option (List ℕ)
put None mark stem files = moved mark (bad_name stem) files
put (Some s) mark stem files = gone mark files

-- the files once one is done, and once these are
abbrev pub behind : Work → (List ℕ → Option (List ℕ)) → List ℕ → Option (List ℕ)
behind w files = put (submission w) (mark_of w.name w.number) (stem_of w.name) (moved w.name (mark_of w.name w.number) files)

abbrev pub behind_all : List Work → (List ℕ → Option (List ℕ)) → List ℕ → Option (List ℕ)
behind_all [] files = files
behind_all (w ∷ ws) files = behind_all ws (behind w files)

-- The bytes are those of these files.
abbrev pub HaveBytes : List File → List Work → Type 0
HaveBytes files [] = Unit {0}
HaveBytes files (w ∷ ws) = (bytes_in files w.name ≡ Some w.bytes) × HaveBytes files ws

-- The steps lead from one intake to the other.
abbrev pub Steps : {I : Type 0} → (I → IntakeStep → I → Type 0) → I → List IntakeStep → I → Type 0
Steps gives a [] b = a ≡ b
Steps {I} gives a (s ∷ ss) b = (m : I) × gives a s m × Steps gives m ss b

-- These files were done, one after another.
pub record Did {I : Type 0} (gives : I → IntakeStep → I → Type 0) (a b : I) (old new : ℕ → Option ℕ) (d e : Folder) (works : List Work) : Type 0 where
  pub steps : Steps gives a (flat_map asked works) b
  pub clock : Gave old new (flat_map ticked works)
  pub bytes : IsTrue d.told → HaveBytes d.files works
  pub folder : Tells (Becomes (behind_all works)) d e

-- how the work ends by a refusal of the intake
abbrev pub halt_of : IntakeFault → Halt
halt_of faults.DiskFault = halts.Fault (causes.Intake faults.DiskFault)
halt_of faults.NoMemory = halts.Fault causes.NoMemory
halt_of (faults.QueueFull live bytes) = halts.Full
halt_of (faults.LogFull length) = halts.Fault (causes.Intake (faults.LogFull length))
halt_of (faults.NotALog at) = halts.Fault (causes.Intake (faults.NotALog at))
halt_of (faults.DeskFull calls) = halts.Fault (causes.Intake (faults.DeskFull calls))

-- and by one of the next number
abbrev pub number_halt : NumberFault → Halt
number_halt number_faults.DiskFault = halts.Fault (causes.Intake faults.DiskFault)
number_halt number_faults.NoMemory = halts.Fault causes.NoMemory
number_halt (number_faults.NotALog at) = halts.Fault (causes.Intake (faults.NotALog at))
number_halt (number_faults.DeskFull calls) = halts.Fault (causes.Intake (faults.DeskFull calls))

-- what the work comes to that ends so, with these counts
abbrev pub ended : PickupEnd → Halt → Result PickupEnd PickupFault
ended end halts.Full = Ok (record end { full = true })
ended end (halts.Fault fault) = Err fault

-- The folder failed, or memory ran out.
abbrev pub IsOwn : Halt → Type 0
IsOwn halts.Full = ⊥
IsOwn (halts.Fault causes.Folder) = Unit {0}
IsOwn (halts.Fault causes.NoMemory) = Unit {0}
IsOwn (halts.Fault (causes.Intake e)) = ⊥

-- The work ended by the intake's refusal, or behind another answer by the folder or for want of memory.
abbrev pub Halts : Result Accepted IntakeFault → Halt → Type 0
Halts (Ok accepted) halt = IsOwn halt
Halts (Err fault) halt = halt ≡ halt_of fault

abbrev pub NumberHalts : Result ℕ NumberFault → Halt → Type 0
NumberHalts (Ok number) halt = IsOwn halt
NumberHalts (Err fault) halt = halt ≡ number_halt fault

-- How far the work on the file came at which it ended.
pub data Stop : Type 0 where
  -- a new one's number was asked, and it has its name
  Numbered : (answer : Result ℕ NumberFault) → Stop
  -- it has its mark's name
  Begun : (number : ℕ) → Stop
  -- and it was submitted
  Submits : (number : ℕ) (bytes : List ℕ) (moment : ℕ) (answer : Result Accepted IntakeFault) → Stop

-- the intake's steps and the clock's moments for the file at which the work ended
abbrev pub stop_steps : List ℕ → Stop → List IntakeStep
stop_steps name (Numbered answer) = steps.NextNumber answer ∷ []
stop_steps name (Begun number) = numbers name (Ok number)
stop_steps name (Submits number bytes moment answer) = numbers name (Ok number) ++ submits (pickup_of (mark_of name number) bytes) moment answer

abbrev pub stop_ticks : List ℕ → Stop → List ℕ
stop_ticks name (Numbered answer) = []
stop_ticks name (Begun number) = []
stop_ticks name (Submits number bytes moment answer) = ticks (pickup_of (mark_of name number) bytes) moment

-- The file stays, under its name or its mark's.
abbrev pub stop_files : List ℕ → Stop → (List ℕ → Option (List ℕ)) → List ℕ → Option (List ℕ)
stop_files name (Numbered answer) files = files
stop_files name (Begun number) files = moved name (mark_of name number) files
stop_files name (Submits number bytes moment answer) files = moved name (mark_of name number) files

-- why the work ended there
abbrev pub Stopped : List ℕ → Stop → Halt → Type 0
Stopped name (Numbered answer) halt = (is_begun name ≡ false) × NumberHalts answer halt
Stopped name (Begun number) halt = IsOwn halt
Stopped name (Submits number bytes moment answer) halt = IsSome (pickup_of (mark_of name number) bytes) × Halts answer halt

-- The bytes that were submitted are those of the file.
abbrev pub StopBytes : Folder → List ℕ → Stop → Type 0
StopBytes d name (Numbered answer) = Unit {0}
StopBytes d name (Begun number) = Unit {0}
StopBytes d name (Submits number bytes moment answer) = IsTrue d.told → bytes_in d.files name ≡ Some bytes

-- The work ended at this file.
pub record Stops {I : Type 0} (gives : I → IntakeStep → I → Type 0) (name : List ℕ) (a b : I) (old new : ℕ → Option ℕ) (d e : Folder) (halt : Halt) : Type 0 where
  pub stop : Stop
  pub steps : Steps gives a (stop_steps name stop) b
  pub clock : Gave old new (stop_ticks name stop)
  pub bytes : StopBytes d name stop
  pub folder : Tells (Becomes (stop_files name stop)) d e
  pub why : Stopped name stop halt
