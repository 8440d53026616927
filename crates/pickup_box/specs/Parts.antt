-- What the parts of the work on one file do. In each definition the intake goes from a to b, the clock's moments from
-- old to new, and the folder from d to e.
use Rattle.std.specs.Prelude.{◌≡◌, ℕ, IsTrue, List, [], ◌∷◌, IsSome, Option, Some, Result, Ok, Err, ◌⊎◌}
use Rattle.port_io.specs.Told.{Gave}
use Rattle.mail_submission.specs.Submission.{Submitted}
use Rattle.mail_submission.specs.declared.intake.Accepted.{Accepted}
use Rattle.mail_submission.specs.declared.intake.IntakeFault.{IntakeFault}
use Rattle.mail_submission.specs.declared.intake.NumberFault.{NumberFault}
use Rattle.mail_submission.specs.declared.intake.IntakeStep.{IntakeStep}
use Rattle.mail_submission.specs.declared.intake.IntakeStep.TheVariants as steps
use Rattle.pickup_box.specs.FileNames.{begun_name}
use Rattle.pickup_box.specs.Folder.{Folder, bytes_in, Tells, Stays}
use Rattle.pickup_box.specs.PickupOf.{pickup_of}
use Rattle.pickup_box.specs.Works.{Work, Did, Stops, Steps, Becomes, moved, put, submits, ticks, fate, fate_of, IsOwn, Halts, NumberHalts}
use Rattle.pickup_box.specs.declared.taking.PickupFault.{PickupFault}
use Rattle.pickup_box.specs.declared.taking.Halt.{Halt}
use Rattle.pickup_box.specs.declared.taking.Halt.TheVariants as halts
use Rattle.pickup_box.specs.declared.taking.Fate.{Fate}

-- A part ended for want of memory or by the folder, whose files are as before.
abbrev pub Leaves : Folder → Folder → PickupFault → Type 0
Leaves d e fault = Tells Stays d e × IsOwn (halts.Fault fault)

-- The folder's files changed so, or they are as before.
abbrev pub Does : ((List ℕ → Option (List ℕ)) → List ℕ → Option (List ℕ)) → Folder → Folder → Result (Unit {0}) PickupFault → Type 0
Does change d e (Ok _) = Tells (Becomes change) d e
Does change d e (Err fault) = Leaves d e fault

-- A file got this mark's name.
abbrev pub Marks : Folder → Folder → List ℕ → List ℕ → Result (List ℕ) PickupFault → Type 0
Marks d e name mark (Ok made) = (made ≡ mark) × Tells (Becomes (moved name mark)) d e
Marks d e name mark (Err fault) = Leaves d e fault

-- A new file got its number, and its mark's name, or has its own.
abbrev pub Begins : {I : Type 0} → (I → IntakeStep → I → Type 0) → I → I → Folder → Folder → List ℕ → List ℕ → Result (List ℕ) Halt → Type 0
Begins gives a b d e name stem (Ok mark) =
    (number : ℕ) × gives a (steps.NextNumber (Ok number)) b × (mark ≡ begun_name stem number) × Tells (Becomes (moved name mark)) d e
Begins gives a b d e name stem (Err halt) =
    (answer : Result ℕ NumberFault) × gives a (steps.NextNumber answer) b × NumberHalts answer halt × Tells Stays d e

-- What the file of this mark stands for.
abbrev pub Stands : Folder → Folder → List ℕ → Result (Option Submitted) PickupFault → Type 0
Stands d e mark (Ok made) = (bytes : List ℕ) × (IsTrue d.told → bytes_in d.files mark ≡ Some bytes) × (made ≡ pickup_of mark bytes) × Tells Stays d e
Stands d e mark (Err fault) = Leaves d e fault

-- A submission was made, and its file went.
pub record Gives {I : Type 0} (gives : I → IntakeStep → I → Type 0) (a b : I) (old new : ℕ → Option ℕ) (d e : Folder) (mark : List ℕ) (s : Submitted) (fate : Fate) : Type 0 where
  pub moment : ℕ
  pub accepted : Accepted
  pub step : gives a (steps.Submit s moment (Ok accepted)) b
  pub clock : Gave old new (moment ∷ [])
  pub folder : Tells (Becomes (put (Some s) mark [])) d e
  pub is_fate : fate ≡ fate_of (Some s) accepted

-- A submission was made, and its file is as before.
pub record GivesUp {I : Type 0} (gives : I → IntakeStep → I → Type 0) (a b : I) (old new : ℕ → Option ℕ) (d e : Folder) (s : Submitted) (halt : Halt) : Type 0 where
  pub moment : ℕ
  pub answer : Result Accepted IntakeFault
  pub step : gives a (steps.Submit s moment answer) b
  pub clock : Gave old new (moment ∷ [])
  pub folder : Tells Stays d e
  pub halts : Halts answer halt

-- A submission was made, and its file went or is as before.
abbrev pub Given : {I : Type 0} → (I → IntakeStep → I → Type 0) → I → I → (ℕ → Option ℕ) → (ℕ → Option ℕ) → Folder → Folder → List ℕ → Submitted → Result Fate Halt → Type 0
Given gives a b old new d e mark s (Ok fate) = Gives gives a b old new d e mark s fate
Given gives a b old new d e mark s (Err halt) = GivesUp gives a b old new d e s halt

-- A file that has its mark's name was done.
pub record Hands {I : Type 0} (gives : I → IntakeStep → I → Type 0) (a b : I) (old new : ℕ → Option ℕ) (d e : Folder) (mark stem : List ℕ) (fate : Fate) : Type 0 where
  pub bytes : List ℕ
  pub moment : ℕ
  pub accepted : Accepted
  pub steps : Steps gives a (submits (pickup_of mark bytes) moment (Ok accepted)) b
  pub clock : Gave old new (ticks (pickup_of mark bytes) moment)
  pub are_bytes : IsTrue d.told → bytes_in d.files mark ≡ Some bytes
  pub folder : Tells (Becomes (put (pickup_of mark bytes) mark stem)) d e
  pub is_fate : fate ≡ fate_of (pickup_of mark bytes) accepted

-- It wasn't submitted, and is as before.
pub record Keeps {I : Type 0} (a b : I) (old new : ℕ → Option ℕ) (d e : Folder) (halt : Halt) : Type 0 where
  pub intake : a ≡ b
  pub clock : Gave old new []
  pub folder : Tells Stays d e
  pub own : IsOwn halt

-- It was submitted, and is as before.
pub record KeepsGiven {I : Type 0} (gives : I → IntakeStep → I → Type 0) (a b : I) (old new : ℕ → Option ℕ) (d e : Folder) (mark : List ℕ) (halt : Halt) : Type 0 where
  pub bytes : List ℕ
  pub moment : ℕ
  pub answer : Result Accepted IntakeFault
  pub steps : Steps gives a (submits (pickup_of mark bytes) moment answer) b
  pub clock : Gave old new (ticks (pickup_of mark bytes) moment)
  pub are_bytes : IsTrue d.told → bytes_in d.files mark ≡ Some bytes
  pub folder : Tells Stays d e
  pub some : IsSome (pickup_of mark bytes)
  pub halts : Halts answer halt

-- A file that has its mark's name was done, or the work ended at it.
abbrev pub Handed : {I : Type 0} → (I → IntakeStep → I → Type 0) → I → I → (ℕ → Option ℕ) → (ℕ → Option ℕ) → Folder → Folder → List ℕ → List ℕ → Result Fate Halt → Type 0
Handed gives a b old new d e mark stem (Ok fate) = Hands gives a b old new d e mark stem fate
Handed gives a b old new d e mark stem (Err halt) = Keeps a b old new d e halt ⊎ KeepsGiven gives a b old new d e mark halt

-- A file was done, or the work ended at it.
abbrev pub Took : {I : Type 0} → (I → IntakeStep → I → Type 0) → I → I → (ℕ → Option ℕ) → (ℕ → Option ℕ) → Folder → Folder → List ℕ → Result Fate Halt → Type 0
Took gives a b old new d e name (Ok what) = (w : Work) × (w.name ≡ name) × (what ≡ fate w) × Did gives a b old new d e (w ∷ [])
Took gives a b old new d e name (Err halt) = Stops gives name a b old new d e halt
