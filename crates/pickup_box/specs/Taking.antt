-- What the work on a whole pickup folder does. In each definition the intake goes from a to b, the clock's moments from
-- old to new, and the folder from d to e.
use Rattle.std.specs.Prelude.{◌≡◌, ℕ, Bool, true, false, IsTrue, List, [], ◌∷◌, ◌++◌, map, Option, Result, Ok, Err, IsPermutation, ◌⊎◌}
use Rattle.std.specs.List.{count_by}
use Rattle.port_io.specs.Told.{Gave}
use Rattle.mail_submission.specs.declared.intake.IntakeStep.{IntakeStep}
use Rattle.pickup_box.specs.FileNames.{order_of}
use Rattle.pickup_box.specs.Folder.{Folder, names_of, IsAscending, Tells, Stays}
use Rattle.pickup_box.specs.Works.{Work, Did, Stops, fate, is_new_one, is_bad_one, IsOwn}
use Rattle.pickup_box.specs.declared.taking.PickupEnd.{PickupEnd}
use Rattle.pickup_box.specs.declared.taking.PickupFault.{PickupFault}
use Rattle.pickup_box.specs.declared.taking.Halt.{Halt}
use Rattle.pickup_box.specs.declared.taking.Halt.TheVariants as halts

-- These are the names of the files that are worked on, in the order of work.
pub record InOrder (d : Folder) (order : List (List ℕ)) : Type 0 where
  pub names : List (List ℕ)
  pub all : IsTrue d.told → IsPermutation (names_of d.files) names
  pub ascending : IsAscending names
  pub is : order ≡ order_of names

-- New submissions and bad files are counted.
pub record Tallies (works : List Work) (end : PickupEnd) : Type 0 where
  pub accepted : end.accepted ≡ count_by (λ (w : Work). is_new_one (fate w)) works
  pub bad : end.bad ≡ count_by (λ (w : Work). is_bad_one (fate w)) works

-- All files of this order were done.
pub record Finishes {I : Type 0} (gives : I → IntakeStep → I → Type 0) (a b : I) (old new : ℕ → Option ℕ) (d e : Folder) (order : List (List ℕ)) (end : PickupEnd) : Type 0 where
  pub works : List Work
  pub is_order : order ≡ map (λ (w : Work). w.name) works
  pub did : Did gives a b old new d e works
  pub tally : Tallies works end

-- Some files of this order were done, and the work ended at the next.
pub record Ends {I : Type 0} (gives : I → IntakeStep → I → Type 0) (a b : I) (old new : ℕ → Option ℕ) (d e : Folder) (order : List (List ℕ)) (halt : Halt) : Type 0 where
  pub works : List Work
  pub name : List ℕ
  pub rest : List (List ℕ)
  pub is_order : order ≡ map (λ (w : Work). w.name) works ++ name ∷ rest
  pub between : I
  pub then : ℕ → Option ℕ
  pub mid : Folder
  pub did : Did gives a between old then d mid works
  pub stops : Stops gives name between b then new mid e halt

-- the work to a good end, by whether the queue was full
abbrev pub EndsWell : {I : Type 0} → (I → IntakeStep → I → Type 0) → I → I → (ℕ → Option ℕ) → (ℕ → Option ℕ) → Folder → Folder → List (List ℕ) → PickupEnd → Bool → Type 0
EndsWell gives a b old new d e order end false = Finishes gives a b old new d e order end
EndsWell gives a b old new d e order end true = (s : Ends gives a b old new d e order halts.Full) × Tallies s.works end

-- the work on the files of this order, by its result
abbrev pub Goes : {I : Type 0} → (I → IntakeStep → I → Type 0) → I → I → (ℕ → Option ℕ) → (ℕ → Option ℕ) → Folder → Folder → List (List ℕ) → Result PickupEnd PickupFault → Type 0
Goes gives a b old new d e order (Ok end) = EndsWell gives a b old new d e order end end.full
Goes gives a b old new d e order (Err fault) = Ends gives a b old new d e order (halts.Fault fault)

-- The files weren't listed, and nothing was done.
pub record Unlisted {I : Type 0} (a b : I) (old new : ℕ → Option ℕ) (d e : Folder) (result : Result PickupEnd PickupFault) : Type 0 where
  pub intake : a ≡ b
  pub clock : Gave old new []
  pub folder : Tells Stays d e
  pub fault : PickupFault
  pub own : IsOwn (halts.Fault fault)
  pub is : result ≡ Err fault

-- the work on a pickup folder, by its result
abbrev pub Taken : {I : Type 0} → (I → IntakeStep → I → Type 0) → I → I → (ℕ → Option ℕ) → (ℕ → Option ℕ) → Folder → Folder → Result PickupEnd PickupFault → Type 0
Taken gives a b old new d e result =
    Unlisted a b old new d e result ⊎ ((order : List (List ℕ)) × InOrder d order × Goes gives a b old new d e order result)
