use Rattle.std.proofs.Common.{◌≡◌, Bool, List, drop}
use Rattle.log_entry.specs.declared.entry.Entry.{Entry}
use Rattle.port_io.specs.Causes.{RoseBy}
use Rattle.plant_dev.specs.Disk.{Stays}
use Rattle.hub_core.specs.Setup.{Setup}
use Rattle.queue_store.specs.Ready.{IsReady, Adds}
use Rattle.std.specs.List.{AllByRecursion}
use Rattle.queue_store.specs.Calls.{misses, IsDelivery}
use Rattle.queue_store.proofs.Turning.{Tried}
use Rattle.queue_store.proofs.hub.Hub.try_all.Given as goal

abbrev pub invariant-loop-name : goal.invariant-loop-name
invariant-loop-name g l = record {
  goes : (setup : Setup) (h t : List Entry) → AllByRecursion IsDelivery t → IsReady setup (g.P.Plant.state l.fn.plant) l.fn.self h t →
      (puts : List Bool) × (done : List Entry) × Adds setup (g.P.Plant.state l.fn.plant) (g.P.Plant.state l.plant) l.self h t done × AllByRecursion IsDelivery done
      × Tried setup l.fn.self.state l.names puts done l.self.state (drop l.name-index l.names)
      × RoseBy (misses puts) (g.P.Plant.state l.fn.plant).shelf_faults (g.P.Plant.state l.plant).shelf_faults;
  opening : l.self.opening ≡ l.fn.self.opening;
  stays : Stays (g.P.Plant.state l.fn.plant) (g.P.Plant.state l.plant);
}
