use Rattle.std.proofs.Common.{◌≡◌, ◌⊎◌, [], ◌∷◌, List, ℕ, length, inl, subst, sym, refl, Result, Ok, Err, OnOk}
use Rattle.port_io.specs.declared.ports.Failed.{Failed}
use Rattle.plant_dev.specs.Disk.{State, Image, Reads, OnFile, From, Torn, Holds, LeavesOnly, Durable}
use Rattle.plant_dev.proofs.Offered.{started, reads_on, joins, weakens, stays_honest}
use Rattle.queue_disk.specs.Log.{Shut, EachShut, Staged, Opened}
use Rattle.queue_disk.proofs.Gate.{second_crash, second_done}
use Rattle.queue_disk.proofs.gated.open_gate.Goals as goal

-- what each image is, from the start of the call on
abbrev Either : List ℕ → List ℕ → State → Image → Type 0
Either front bytes s = From s (OnFile (λ _ file. Shut front file ⊎ Opened front bytes file))

-- while what was written comes to the disk
begun : (front bytes : List ℕ) (s0 s1 : State) → EachShut front s0 → Reads s0 s1 → LeavesOnly s0 s1 (Either front bytes s0)
begun front bytes s0 s1 closed reads =
    reads_on s0 s0 s1 (Either front bytes s0) (started s0 (Either front bytes s0) (λ d now. (d, now, record { file = inl (closed d now); shelf = refl }))) reads

from_second : (front bytes : List ℕ) (at : ℕ) (s0 s1 : State) → Reads s0 s1 → Durable s1 → Staged front bytes s0.image.file → at ≡ length front → (c : Image) → From s1 (OnFile (Torn at 1)) c → Either front bytes s0 c
from_second front bytes at s0 s1 reads durable there here c (d, was, step) =
    let torn = subst (λ (f : List ℕ). Torn at 1 f c.file) (durable d was) step.file in
    let now = subst (λ (i : Image). Staged front bytes i.file) (sym reads.image) there in
    (d, reads.crash d was, record { file = second_crash front bytes s1.image.file c.file at now here torn; shelf = step.shelf })

pub returns-in_err-sync-clause-any_moment : goal.returns-in_err-sync-clause-any_moment
returns-in_err-sync-clause-any_moment g c front bytes honest closed there here =
    begun front bytes (g.P.Plant.state c.args.plant.now) (g.P.Plant.state c.sync.new.self) closed (c.sync.ensures.reads honest)

pub returns-clause-any_moment : goal.returns-clause-any_moment
returns-clause-any_moment g c front bytes honest closed there here =
    let s0 = g.P.Plant.state c.args.plant.now in
    let s1 = g.P.Plant.state c.sync.new.self in
    let s2 = g.P.Plant.state c.write_synced.new.plant in
    let reads = c.sync.ensures.reads honest in
    let honest1 = stays_honest s0 s1 c.sync.ensures.stays honest in
    let second = weakens s1 s2 _ (Either front bytes s0) (from_second front bytes c.args.gate s0 s1 reads (c.in_ok-sync.ensures.durable honest) there here) (c.write_synced.ensures.any_moment honest1) in
    joins s0 s1 s2 (Either front bytes s0) (begun front bytes s0 s1 closed reads) second

opened : (result : Result (Unit {0}) Failed) (front bytes : List ℕ) (at : ℕ) (s1 s2 : State) → Staged front bytes s1.image.file → at ≡ length front → Torn at 1 s1.image.file s2.image.file → OnOk result (Durable s2) → OnOk result (Holds at (1 ∷ []) s2.image.file) → OnOk result (Durable s2 × Opened front bytes s2.image.file)
opened (Ok _) front bytes at s1 s2 there here torn durable holds = (durable, second_done front bytes s1.image.file s2.image.file at there here torn holds)
opened (Err _) front bytes at s1 s2 there here torn durable holds = tt

pub returns-clause-done : goal.returns-clause-done
returns-clause-done g c front bytes honest closed there here =
    let s0 = g.P.Plant.state c.args.plant.now in
    let s1 = g.P.Plant.state c.sync.new.self in
    let s2 = g.P.Plant.state c.write_synced.new.plant in
    let reads = c.sync.ensures.reads honest in
    let honest1 = stays_honest s0 s1 c.sync.ensures.stays honest in
    let now = subst (λ (i : Image). Staged front bytes i.file) (sym reads.image) there in
    opened c.write_synced.result front bytes c.args.gate s1 s2 now here (c.write_synced.ensures.image honest1).file (c.write_synced.ensures.durable honest1) (c.write_synced.ensures.written honest1)
