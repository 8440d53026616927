use Rattle.std.proofs.Common.{◌≡◌, List, ◌-◌, ◌^◌, [], IsTrue}
use Rattle.log_entry.specs.declared.entry.Entry.{Entry}
use Rattle.plant_dev.specs.Disk.{Stays, Reads}
use Rattle.queue_disk.specs.Reading.{IsHeld, IsRead, Begins}
use Rattle.hub_core.specs.Setup.{setup_of}
use Rattle.queue_store.proofs.Opening.{Replayed, Walked}
use Rattle.queue_store.proofs.hub.opening.replay.Given as goal

abbrev pub invariant-loop-state : goal.invariant-loop-state
invariant-loop-state g l =
    let s0 = g.P.Plant.state l.fn.plant in
    let s = g.P.Plant.state l.plant in
    record {
      stays : Stays s0 s;
      most : l.log.most ≡ l.fn.log.most;
      pending : l.log.pending ≡ l.fn.log.pending;
      reads : IsTrue s0.honest → Reads s0 s;
      read : (h : List Entry) → IsTrue s0.honest → IsRead s0.image.file h [] l.fn.log → Replayed (setup_of g.T.Planner.means l.fn.limits) s0.image.file h l.log l.state;
      walked : IsTrue s0.honest → IsHeld s0.image.file l.fn.log → Begins s0.image.file [] l.fn.log.place → Walked (setup_of g.T.Planner.means l.fn.limits) s0.image.file l.log l.state;
    }

abbrev pub decreases-loop-state : goal.decreases-loop-state
decreases-loop-state g l = 2 ^ 64 - l.log.place
