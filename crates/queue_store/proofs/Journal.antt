-- The history of a ready hub is journaled.
use Rattle.std.proofs.Common.{List, ◌++◌, Result, Ok, Err}
use Rattle.std.specs.Prelude.{OnOk}
use Rattle.std.specs.List.{AllByRecursion}
use Rattle.log_entry.specs.Entries.{IsEntry}
use Rattle.log_entry.specs.declared.entry.Entry.{Entry}
use Rattle.plant_dev.specs.Disk.{State}
use Rattle.queue_disk.proofs.Offered.{all-append}
use Rattle.hub_core.specs.Setup.{Setup}
use Rattle.hub_core.specs.Items.{IsHistory}
use Rattle.hub_core.specs.Journal.{IsJournaled}
use Rattle.queue_store.specs.Ready.{Kept, Adds}

-- where lawful histories are, that which some entries were added to is
pub journaled : (setup : Setup) (s s' : State) (hub : Kept) (h t es : List Entry) →
    ((history : List Entry) → IsHistory setup history → AllByRecursion IsEntry history → IsJournaled setup history) →
    Adds setup s s' hub h t es → IsJournaled setup (h ++ (t ++ es))
journaled setup s s' hub h t es law adds =
    law (h ++ (t ++ es)) (adds.ready.then s'.image adds.ready.image).history (all-append IsEntry h (t ++ es) adds.ready.log.entries adds.ready.log.more)

-- what follows from what holds where there is a value
pub on_ok : {A E P Q : Type 0} (result : Result A E) → (P → Q) → OnOk result P → OnOk result Q
on_ok (Ok value) f holds = f holds
on_ok (Err fault) f holds = holds
