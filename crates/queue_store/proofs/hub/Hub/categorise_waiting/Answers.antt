use Rattle.std.proofs.Common.{inr}
use Rattle.hub_core.specs.Setup.{setup_of}
use Rattle.queue_store.specs.declared.fault.HubFault.TheVariants as faults
use Rattle.queue_store.specs.Calls.{entries_categorise}
use Rattle.queue_store.proofs.Settling.{still}
use Rattle.queue_store.proofs.Adding.{later-first}
use Rattle.queue_store.proofs.hub.Hub.categorise_waiting.Goals as goal

pub returns-in-Err-clause-stops : goal.returns-in-Err-clause-stops
returns-in-Err-clause-stops g c limits h t ready =
    let setup = setup_of g.T.Planner.means limits in
    later-first setup _ _ _ h t (entries_categorise setup c.args.self.now.state) faults.NoMemory (inr (record { ready = ready; why = tt; moments = still setup _ _ h t ready }))
