use Rattle.std.proofs.Common.{◌≡◌, ◌++◌, drop}
use Rattle.hub_core.specs.declared.limits.Limits.{Limits}
use Rattle.hub_core.specs.Setup.{setup_of}
use Rattle.hub_core.specs.Ending.{stages_told}
use Rattle.hub_core.proofs.ending.tell_stages.Given as goal

abbrev pub invariant-loop-release : goal.invariant-loop-release
invariant-loop-release g l = (limits : Limits) →
    l.told.items ++ stages_told (setup_of g.T.Planner.means limits) l.live l.moment l.submission l.release (drop l.release l.live.stages)
    ≡ l.fn.told.items ++ stages_told (setup_of g.T.Planner.means limits) l.live l.moment l.submission 0 l.live.stages
