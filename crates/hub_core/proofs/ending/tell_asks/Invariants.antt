use Rattle.std.proofs.Common.{◌≡◌, ◌++◌, drop}
use Rattle.hub_core.specs.declared.limits.Limits.{Limits}
use Rattle.hub_core.specs.Setup.{setup_of}
use Rattle.hub_core.specs.Ending.{asks_told}
use Rattle.hub_core.proofs.ending.tell_asks.Given as goal

abbrev pub invariant-loop-gate : goal.invariant-loop-gate
invariant-loop-gate g l = (limits : Limits) →
    l.told.items ++ asks_told (setup_of g.T.Planner.means limits) l.live l.moment l.submission l.release l.gate (drop l.gate l.asks)
    ≡ l.fn.told.items ++ asks_told (setup_of g.T.Planner.means limits) l.live l.moment l.submission l.release 0 l.asks
