use Rattle.std.proofs.Common.{◌≡◌, List, ◌++◌, drop}
use Rattle.log_entry.specs.declared.entry.Entry.{Entry}
use Rattle.plant_dev.specs.Disk.{Stays}
use Rattle.hub_core.specs.declared.limits.Limits.{Limits}
use Rattle.hub_core.specs.Setup.{setup_of}
use Rattle.queue_store.specs.Ready.{IsReady, Adds}
use Rattle.queue_store.specs.Calls.{entries_all}
use Rattle.queue_store.proofs.hub.Hub.categorise_each.Given as goal

abbrev pub invariant-loop-name : goal.invariant-loop-name
invariant-loop-name g l = record {
  goes : (limits : Limits) (h t : List Entry) → IsReady (setup_of g.T.Planner.means limits) (g.P.Plant.state l.fn.plant) l.fn.self h t →
      (done : List Entry) × Adds (setup_of g.T.Planner.means limits) (g.P.Plant.state l.fn.plant) (g.P.Plant.state l.plant) l.self h t done
      × (done ++ entries_all (setup_of g.T.Planner.means limits) l.self.state (drop l.name-index l.names)
      ≡ entries_all (setup_of g.T.Planner.means limits) l.fn.self.state l.names);
  opening : l.self.opening ≡ l.fn.self.opening;
  stays : Stays (g.P.Plant.state l.fn.plant) (g.P.Plant.state l.plant);
}
